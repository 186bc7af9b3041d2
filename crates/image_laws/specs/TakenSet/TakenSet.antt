-- A set of classes that is taken: it was built of well-formed classes, and breaks no rule for links (JVMS 4.1 to 4.10,
-- 5.3.5, 5.4.3 to 5.4.5; which sets are taken is the project's own).
use Rattle.std.specs.Prelude.{◌≡◌, ◌<◌, ℕ, List, Some, Ok, slice_get}
use Rattle.class_model.specs.WellFormed.{IsWellFormed}
use Rattle.class_model.specs.declared.class.Class.{Class}
use Rattle.class_pool.specs.Count.{item_count}
use Rattle.class_pool.specs.Faults.{Ascends, Builds}
use Rattle.class_pool.specs.Ranks.{HasRanks}
use Rattle.class_pool.specs.declared.fault.NamedClass.{NamedClass}
use Rattle.link_check.specs.Profile.{links_checked}

-- What `build` and `check_links` say of the set, with what `build` asks of its files, and the format of each class.
pub record IsTaken (classes : List Class) : Type 0 where
  -- the set is built of files whose paths ascend
  pub files : List NamedClass
  pub ascend : Ascends files
  pub built : Builds (Ok classes) files
  -- it has fewer than 2^32 - 1 classes and members
  pub few : item_count classes < 4294967295
  -- ranks fall from each class to its direct supertypes: `has_ranks` of `ClassSet` says so of each set that was built
  pub ranks : HasRanks classes
  -- each class follows the format (JVMS 4.1 to 4.9)
  pub formed : (n : ℕ) (c : Class) → slice_get classes n ≡ Some c → IsWellFormed c
  -- no rule for links is broken
  pub linked : links_checked classes ≡ Ok tt
