-- What is a target.
use Rattle.std.proofs.Common.{ℕ, List, [], ◌∷◌, Some, Bool, true, false, ◌≡◌, refl}
use Rattle.std.specs.Prelude.{nat_eq, slice_get, ◌||◌}
use Rattle.std.specs.List.{All, AllByRecursion, list_any}
use Rattle.std.proofs.lemmas.Bool.{eq-eqb}
use Rattle.std.proofs.lemmas.List.Elements.{All-cons, All-nil}
use Rattle.class_model.specs.declared.code.Code.{Code}
use Rattle.class_model.specs.declared.code.Handler.{Handler}
use Rattle.class_model.specs.declared.code.Ins.{Ins}
use Rattle.code_edit.specs.Flow.{is_target, targets}
use Rattle.jv_base.proofs.Lists.{all_from, any_at}

or_left : (a b : Bool) → a ≡ true → (a || b) ≡ true
or_left true b e = refl
or_left false b e = absurd cc

or_right : (a b : Bool) → b ≡ true → (a || b) ≡ true
or_right true b e = refl
or_right false b e = e

pub all_of : {A : Type 0} (P : A → Type 0) (xs : List A) → AllByRecursion P xs → All P xs
all_of P [] h = All-nil P
all_of P (x ∷ xs) h = All-cons P x xs h.0 (all_of P xs h.1)

module _ (code : Code) where
  -- where branches and switches lead
  pub jumps_marked : (at : ℕ) (i : Ins) → slice_get code.ins at ≡ Some i
      → All (λ t. is_target code t ≡ true) (targets i.op)
  jumps_marked at i e = all_of (λ t. is_target code t ≡ true) (targets i.op)
      (all_from (λ t. is_target code t ≡ true) (targets i.op)
      (λ k t x. or_left _ _
      (any_at (λ (i : Ins). list_any (nat_eq t) (targets i.op)) code.ins at i e
      (any_at (nat_eq t) (targets i.op) k t x (eq-eqb t t refl)))))

  -- where handlers begin
  pub entries_marked : All (λ (h : Handler). is_target code h.entry ≡ true) code.handlers
  entries_marked = all_of (λ (h : Handler). is_target code h.entry ≡ true) code.handlers
      (all_from (λ (h : Handler). is_target code h.entry ≡ true) code.handlers
      (λ k h x. or_right _ _ (any_at (λ (g : Handler). nat_eq h.entry g.entry) code.handlers k h x
      (eq-eqb h.entry h.entry refl))))
