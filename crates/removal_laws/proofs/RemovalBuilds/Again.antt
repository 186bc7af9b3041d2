-- What is left is built again.
use Rattle.std.proofs.Common.{◌≡◌, ◌<◌, ⊎_elim, Bool, List, Ok, Err, sym, ap, subst, ◌∙◌}
use Rattle.std.proofs.Common.{arith}
use Rattle.std.proofs.lemmas.Option.{slice_get_within}
use Rattle.jv_base.specs.declared.outcome.Or.TheVariants.{Fault}
use Rattle.mark_core.specs.Marks.{Closed}
use Rattle.class_model.specs.declared.class.Class.{Class}
use Rattle.class_pool.specs.Count.{item_count}
use Rattle.class_pool.specs.Faults.{Builds, classes_of}
use Rattle.class_pool.specs.Supertypes.{NoCycle}
use Rattle.class_pool.specs.declared.fault.NamedClass.{NamedClass}
use Rattle.class_pool.specs.declared.fault.PoolFault.{PoolFault}
use Rattle.class_pool.proofs.CycleLaws.{first_are, none_cyclic}
use Rattle.member_shrink.specs.Shrunk.{is_marked, shrunk}
use Rattle.require_sys.specs.Requires.{requires}
use Rattle.require_sys.specs.declared.kept.KeptByRules.{KeptByRules}
use Rattle.image_laws.specs.TakenSet.TakenSet.{IsTaken}
use Rattle.image_laws.proofs.TakenSet.Proper.{names_right}
use Rattle.removal_laws.specs.RemovalBuilds.FilesLeft.{files_left}
use Rattle.removal_laws.specs.RemovalBuilds.Laws.{RemovalBuildsAgain}
use Rattle.removal_laws.proofs.RemovalBuilds.RanksLeft.{ranks_left}
use Rattle.removal_laws.proofs.RemovalBuilds.Rounds.{ascend_left, classes_left, items_left, names_left, supers_left}

-- what is a set has no fault
one_answer : (files : List NamedClass) (classes : List Class) (fault : PoolFault) → Builds (Ok classes) files
    → Builds (Err (Fault fault)) files → ⊥
one_answer files classes fault right wrong =
    ⊎_elim
    (λ first. let e : Ok tt ≡ Err fault = sym right.0 ∙ first in cc)
    (λ cycle.
    let found = cycle.1 in
    right.1 found.0 (slice_get_within (classes_of files) found.0 found.1 found.2) found.4)
    wrong

module _ (classes : List Class) (rules : KeptByRules) (marks : List Bool)
    (closed : Closed (requires classes rules) (is_marked marks)) (taken : IsTaken classes) where
  -- the classes of the files are what is left
  same : shrunk classes marks ≡ classes_of (files_left taken.files marks)
  same = ap (λ (cs : List Class). shrunk cs marks) taken.built.2 ∙ sym (classes_left taken.files marks)

  pub is_built : Builds (Ok (shrunk classes marks)) (files_left taken.files marks)
  is_built = (
    first_are (files_left taken.files marks) (shrunk classes marks)
        (names_left taken.files marks (names_right classes taken)) (supers_left classes rules marks closed taken) same,
    subst NoCycle same (none_cyclic (shrunk classes marks) (ranks_left classes rules marks closed taken)),
    same,
  )

  pub few_left : item_count (shrunk classes marks) < 4294967295
  few_left = let less = items_left classes marks in let few = taken.few in omega (arith, less, few)

pub built_again : RemovalBuildsAgain
built_again classes rules marks taken closed = record {
  ascend = ascend_left taken.files marks taken.ascend;
  few = subst (λ (cs : List Class). item_count cs < 4294967295) (same classes rules marks closed taken)
      (few_left classes rules marks closed taken);
  built = is_built classes rules marks closed taken;
  no_fault = λ fault wrong. one_answer (files_left taken.files marks) (shrunk classes marks) fault
      (is_built classes rules marks closed taken) wrong;
}
