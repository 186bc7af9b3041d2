-- Which act of a step is told, as it is found: one after another, each with those before it (the
-- project's own).
use Rattle.std.specs.Prelude.{ℕ, suc, List, [], ◌∷◌, ◌++◌, Option, Some, None, Bool, Result, Ok, Err}
use Rattle.std.specs.Prelude.{if◌then◌else◌}
use Rattle.class_model.specs.declared.code.Code.{Code}
use Rattle.code_edit.specs.declared.act.Act.{Act}
use Rattle.code_edit.specs.declared.act.Pass.{Pass}
use Rattle.code_edit.specs.Legal.{AreLegal, IsFirstFault}
use Rattle.edit_legal.specs.declared.acts.Bad.{Bad}
use Rattle.jv_base.specs.declared.outcome.Or.{Or}
use Rattle.jv_base.specs.declared.outcome.Or.TheVariants.{Fault, OutOfMemory}

-- The first act that the test refuses, by its number; the test is given the acts before it, and the
-- first one here has the number k.
abbrev pub fault_after : (List Act → Act → Bool) → ℕ → List Act → List Act → Option ℕ
fault_after test k before [] = None
fault_after test k before (a ∷ acts) =
    if test before a then fault_after test (suc k) (before ++ a ∷ []) acts else Some k

-- nothing is told where all acts are legal, else the first that isn't
abbrev pub IsFault : Pass → List Act → Code → Option ℕ → Type 0
IsFault pass acts code None = AreLegal pass acts code
IsFault pass acts code (Some k) = IsFirstFault pass acts code k

-- all acts are legal, or the first is told that isn't
abbrev pub Judges : Result (Unit {0}) (Or Bad) → Pass → List Act → Code → Type 0
Judges (Ok u) pass acts code = AreLegal pass acts code
Judges (Err (Fault bad)) pass acts code = IsFirstFault pass acts code bad.index
Judges (Err OutOfMemory) pass acts code = Unit {0}
