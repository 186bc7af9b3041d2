-- What is said of a set of class files (the project's own: lines that other checkers can be checked by).
use Rattle.std.specs.Prelude.{◌≡◌, List, Ok, Err}
use Rattle.jv_base.specs.declared.outcome.Or.TheVariants.{Fault}
use Rattle.class_model.specs.declared.class.Class.{Class}
use Rattle.class_pool.specs.declared.fault.NamedClass.{NamedClass}
use Rattle.class_pool.specs.Faults.{Builds, classes_of}
use Rattle.link_check.specs.Profile.{links_checked}
use Rattle.type_verifier.specs.Verified.{AreTyped, IsSetFault}
use Rattle.set_vectors.specs.declared.judging.Judgement.{Judgement}
use Rattle.set_vectors.specs.declared.judging.Judgement.TheVariants.{Taken, NotListed, NoSet, Breaks, Untyped}

-- a set that is taken, or that breaks a rule
abbrev pub IsJudgedSet : List Class → Judgement → Type 0
IsJudgedSet classes Taken = (links_checked classes ≡ Ok tt) × AreTyped classes
IsJudgedSet classes NotListed = ⊥
IsJudgedSet classes (NoSet fault) = ⊥
IsJudgedSet classes (Breaks place fault) = links_checked classes ≡ Err fault
IsJudgedSet classes (Untyped place fault) = (links_checked classes ≡ Ok tt) × IsSetFault classes fault

-- the classes are a set that is taken, or they are none, or a set that breaks a rule
abbrev pub IsJudged : List NamedClass → Judgement → Type 0
IsJudged files NotListed = Unit {0}
IsJudged files (NoSet fault) = Builds (Err (Fault fault)) files
IsJudged files judgement = Builds (Ok (classes_of files)) files × IsJudgedSet (classes_of files) judgement
