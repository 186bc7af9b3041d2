-- The first of two options that holds a value.
use Rattle.std.proofs.Common.{◌≡◌, Bool, true, false, cond, Option, Some, None, refl}
use Rattle.class_model.specs.InstructionMeaning.{or_else}

pub or_none : {A : Type 0} (o : Option A) → or_else o None ≡ o
or_none (Some x) = refl
or_none None = refl

-- one that holds a value by a test, before the others
pub or_cond : {A : Type 0} (o : Option A) (b : Bool) (x : A) (others : Option A)
    → or_else o (cond b (Some x) others) ≡ or_else (or_else o (cond b (Some x) None)) others
or_cond (Some y) b x others = refl
or_cond None true x others = refl
or_cond None false x others = refl
