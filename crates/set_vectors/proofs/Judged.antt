-- What is said of a set is said of the files that are that set.
use Rattle.std.proofs.Common.{List, Result, Ok, Err, IfOk, refl, subst}
use Rattle.class_model.specs.declared.class.Class.{Class}
use Rattle.class_pool.specs.Faults.{Builds}
use Rattle.class_pool.specs.declared.fault.NamedClass.{NamedClass}
use Rattle.set_vectors.specs.Judgement.{IsJudged, IsJudgedSet}
use Rattle.set_vectors.specs.declared.judging.Judgement.{Judgement}
use Rattle.set_vectors.specs.declared.judging.Judgement.TheVariants.{Taken, NotListed, NoSet, Breaks, Untyped}

judged_by : (files : List NamedClass) (classes : List Class) (j : Judgement) → Builds (Ok classes) files
    → IsJudgedSet classes j → IsJudged files j
judged_by files classes Taken built is =
    ((built.0, built.1, refl), subst (λ (cs : List Class). IsJudgedSet cs Taken) built.2 is)
judged_by files classes NotListed built is = tt
judged_by files classes (NoSet fault) built is = absurd is
judged_by files classes (Breaks place fault) built is =
    ((built.0, built.1, refl), subst (λ (cs : List Class). IsJudgedSet cs (Breaks place fault)) built.2 is)
judged_by files classes (Untyped place fault) built is =
    ((built.0, built.1, refl), subst (λ (cs : List Class). IsJudgedSet cs (Untyped place fault)) built.2 is)

pub judged : {E : Type 0} (files : List NamedClass) (classes : List Class) (r : Result Judgement E)
    → Builds (Ok classes) files
    → IfOk r (IsJudgedSet classes) → IfOk r (IsJudged files)
judged files classes (Ok j) built is = judged_by files classes j built is
judged files classes (Err e) built is = tt
