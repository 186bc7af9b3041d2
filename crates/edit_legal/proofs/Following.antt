-- The test of a chain of gotos tells whether it leads there.
use Rattle.std.proofs.Common.{ℕ, zero, suc, ◌<◌, List, [], ◌∷◌, Option, Some, None, Bool, true}
use Rattle.std.proofs.Common.{false, ◌≡◌, ◌⊎◌, inl, inr, refl, ap, ◌∙◌, arith}
use Rattle.std.specs.Prelude.{length, slice_get, ◌||◌, ◌==◌}
use Rattle.class_model.specs.declared.code.Code.{Code}
use Rattle.class_model.specs.declared.code.Ins.{Ins}
use Rattle.class_model.specs.declared.op.Op.{Op}
use Rattle.class_model.specs.declared.op.Op.TheVariants as op
use Rattle.code_edit.specs.Jumps.{FollowsGotos}
use Rattle.edit_legal.specs.Movable.{follows, goto_of, goto_to, leads_on}
use Rattle.edit_tables.proofs.Telling.{Tells, numbers_same, same_number, tells}
use Rattle.edit_tables.proofs.Chains.{First, Goes, first_bound, leads_first}

is_goto_to : (o : Op) (k : ℕ) → goto_to o ≡ Some k → o ≡ op.Goto k
is_goto_to (op.Goto t) k e = let same : t ≡ k = cc in ap op.Goto same
is_goto_to o k e = absurd cc

module _ (code : Code) (to : ℕ) where
  there_goes : (from k : ℕ) → goto_of (slice_get code.ins from) ≡ Some k → Goes code to from k
  there_goes from k e = by (slice_get code.ins from) refl e
    where
      by : (o : Option Ins) → slice_get code.ins from ≡ o → goto_of o ≡ Some k
          → Goes code to from k
      by None q h = absurd cc
      by (Some i) q h = (i, q, is_goto_to i.op k h)

  goes_there : (from k : ℕ) → Goes code to from k → goto_of (slice_get code.ins from) ≡ Some k
  goes_there from k g = ap goto_of g.1 ∙ ap goto_to g.2

  abbrev step : List Ins → Option ℕ → Bool
  step xs = leads_on to (λ next. follows xs code next to)

  forth : (xs : List Ins) (from : ℕ) → follows xs code from to ≡ true → FollowsGotos code from to
  forth [] from e = absurd cc
  forth (x ∷ xs) from e =
      by (goto_of (slice_get code.ins from)) refl e (λ next h. forth xs next h)
    where
      split : (a b : Bool) → (a || b) ≡ true → (a ≡ true) ⊎ (b ≡ true)
      split true b e = inl refl
      split false b e = inr e

      after : (next : ℕ) → goto_of (slice_get code.ins from) ≡ Some next
          → ((next == to) ≡ true) ⊎ (follows xs code next to ≡ true)
          → ((next : ℕ) → follows xs code next to ≡ true → FollowsGotos code next to)
          → FollowsGotos code from to
      after next q (inl h) rest =
          let g = there_goes from next q in
          (0, (g.0, next, g.1, g.2, numbers_same next to h))
      after next q (inr h) rest =
          let g = there_goes from next q in
          let r = rest next h in
          (suc r.0, (g.0, next, g.1, g.2, r.1))

      by : (o : Option ℕ) → goto_of (slice_get code.ins from) ≡ o → step xs o ≡ true
          → ((next : ℕ) → follows xs code next to ≡ true → FollowsGotos code next to)
          → FollowsGotos code from to
      by None q h rest = absurd cc
      by (Some next) q h rest = after next q (split _ _ h) rest

  back : (xs : List Ins) (m from : ℕ) → First code to m from → m < length xs
      → follows xs code from to ≡ true
  back [] m from x lt = absurd (omega (arith, lt))
  back (y ∷ xs) zero from x lt =
      ap (step xs) (goes_there from to x) ∙ ap (λ b. b || follows xs code to to) (same_number to)
  back (y ∷ xs) (suc m) from x lt =
      ap (step xs) (goes_there from x.0 x.1)
      ∙ ap (λ b. b || follows xs code x.0 to) x.2
      ∙ back xs m x.0 x.3 (omega (arith, lt))

  pub follows_tells : (from : ℕ) → Tells (follows code.ins code from to) (FollowsGotos code from to)
  follows_tells from =
      tells (follows code.ins code from to) (FollowsGotos code from to) (forth code.ins from)
      (λ f. let x = leads_first code to f.0 from f.1 in
      back code.ins x.0 from x.1 (first_bound code to x.0 from x.1))
