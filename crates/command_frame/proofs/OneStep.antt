-- Steps of which one thing is due: at most one, and some one.
use Rattle.std.proofs.Common.{◌≡◌, Result, Ok, Err, refl, sym, ap, subst, ◌∙◌}
use Rattle.jv_base.proofs.Results.{same_ok, same_fault}
use Rattle.command_frame.specs.Steps.{Then, follows, stops}
use Rattle.command_frame.specs.declared.refusal.Refusal.{Refusal}

-- one value at most is so
abbrev pub IsOne : {X : Type 0} → (X → Type 0) → Type 0
IsOne {X} R = (one other : X) → R one → R other → one ≡ other

-- some value is so
abbrev pub IsSome : {X : Type 0} → (X → Type 0) → Type 0
IsSome {X} R = (x : X) × R x

pub no_err : {V X : Type 0} (x : V) (y : X) → (let R : Result V X = Ok x in R) ≡ Err y → ⊥
no_err x y h = absurd cc

pub one_value : {X : Type 0} (z : X) → IsOne (λ (x : X). x ≡ z)
one_value z one other h k = h ∙ sym k

pub some_value : {X : Type 0} (z : X) → IsSome (λ (x : X). x ≡ z)
some_value z = (z, refl)

module _ {A B : Type 0} (First : Result A Refusal → Type 0) (Next : A → Result B Refusal → Type 0) where
  pub then_one : IsOne First → ((x : A) → IsOne (Next x)) → IsOne (Then First Next)
  then_one first next one other (stops r h e) (stops s k f) =
      e ∙ (ap Err (same_fault r s (first (Err r) (Err s) h k)) ∙ sym f)
  then_one first next one other (stops r h e) (follows x k f) = absurd (no_err x r (first (Ok x) (Err r) k h))
  then_one first next one other (follows x h e) (stops s k f) = absurd (no_err x s (first (Ok x) (Err s) h k))
  then_one first next one other (follows x h e) (follows y k f) =
      let same : x ≡ y = same_ok x y (first (Ok x) (Ok y) h k) in
      next y one other (subst (λ (x : A). Next x one) same e) f

  some_by : ((x : A) → First (Ok x) → IsSome (Next x)) → (r : Result A Refusal) → First r → IsSome (Then First Next)
  some_by next (Ok x) h = let rest = next x h in (rest.0, follows x h rest.1)
  some_by next (Err refusal) h = (Err refusal, stops refusal h refl)

  pub then_some : IsSome First → ((x : A) → First (Ok x) → IsSome (Next x)) → IsSome (Then First Next)
  then_some first next = some_by next first.0 first.1

  -- where something comes of both steps, the first one gave something
  pub both_gave : (y : B) → Then First Next (Ok y) → (x : A) × First (Ok x) × Next x (Ok y)
  both_gave y (stops refusal h e) = absurd (no_err y refusal e)
  both_gave y (follows x h k) = (x, h, k)
