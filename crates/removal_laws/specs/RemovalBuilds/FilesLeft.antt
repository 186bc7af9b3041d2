-- The files of what is left of a set where only marked items are kept (the project's own: a class keeps its path).
use Rattle.std.specs.Prelude.{◌<◌, ℕ, Bool, List, map, Ok, Err}
use Rattle.std.specs.List.{enumerate_from, filter}
use Rattle.jv_base.specs.declared.outcome.Or.TheVariants.{Fault}
use Rattle.class_model.specs.declared.class.Class.{Class}
use Rattle.class_pool.specs.Count.{item_count}
use Rattle.class_pool.specs.Faults.{Ascends, Builds, classes_of}
use Rattle.class_pool.specs.Items.{class_item}
use Rattle.class_pool.specs.declared.fault.NamedClass.{NamedClass}
use Rattle.class_pool.specs.declared.fault.PoolFault.{PoolFault}
use Rattle.member_shrink.specs.Shrunk.{is_marked, with_marked_members}

-- a file with the marked members of its class, whose item is this
abbrev pub file_left : List Bool → ℕ → NamedClass → NamedClass
file_left marks item file = record { path = file.path; class = with_marked_members marks item file.class }

-- the files of marked classes, in their order
abbrev pub files_left : List NamedClass → List Bool → List NamedClass
files_left files marks =
    map (λ e. file_left marks (class_item (classes_of files) e.0) e.1)
    (filter (λ e. is_marked marks (class_item (classes_of files) e.0)) (enumerate_from 0 files))

-- the files are all that `build` asks for, and it tells no fault of them: these classes are their set (JVMS 4.1, 5.3.5;
-- which files are taken as a set is the project's own)
pub record AreBuilt (files : List NamedClass) (classes : List Class) : Type 0 where
  pub ascend : Ascends files
  pub few : item_count (classes_of files) < 4294967295
  pub built : Builds (Ok classes) files
  pub no_fault : (fault : PoolFault) → Builds (Err (Fault fault)) files → ⊥
