-- Legal acts of reach leave out what isn't reached.
use Rattle.std.proofs.Common.{ℕ, suc, ◌+◌, ◌<◌, List, [], ◌∷◌, ◌++◌, Bool, true, false, ◌≡◌, ◌≤◌}
use Rattle.std.proofs.Common.{◌⊎◌, inl, inr, refl, sym, ap, ◌∙◌, arith}
use Rattle.std.specs.Prelude.{length, nat_le, nat_lt, not, slice_get, ◌&&◌, if◌then◌else◌}
use Rattle.std.specs.List.{list_any}
use Rattle.std.proofs.lemmas.Bool.Decides.{leb_tells}
use Rattle.class_model.specs.declared.code.Code.{Code}
use Rattle.class_model.specs.declared.code.Handler.{Handler}
use Rattle.class_model.specs.declared.op.Op.{Op}
use Rattle.code_edit.specs.declared.act.Act.{Act}
use Rattle.code_edit.specs.declared.act.Act.TheVariants as act
use Rattle.jv_base.proofs.Lists.{all_at, all_from, any_where, got_right}
use Rattle.edit_premises.specs.Compacts.{Compacts, IsClosed}
use Rattle.code_edit.specs.Flow.{covers, goes_elsewhere, successors_of, targets}
use Rattle.code_edit.specs.Reach.{AreLegalDrops, IsLegalDrop, IsNeeded, drops, entered, first}
use Rattle.code_edit.specs.Reach.{is_left, led_to, left_code}

module _ (acts : List Act) (code : Code) (legal : AreLegalDrops acts code) where
  -- what an act drops isn't needed
  one_drop : (a : Act) → IsLegalDrop acts code a → (at : ℕ) → drops at a ≡ true
      → IsNeeded acts code at → ⊥
  one_drop (act.Drop from to) h at e n = by (leb_tells from at) (leb_tells at to)
    where
      by : ((nat_le from at ≡ true) × (from ≤ at)) ⊎ ((nat_le from at ≡ false) × (at < from))
          → ((nat_le at to ≡ true) × (at ≤ to)) ⊎ ((nat_le at to ≡ false) × (to < at)) → ⊥
      by (inl p) (inl q) = h.2 at p.1 q.1 n
      by (inl p) (inr q) = let x : false ≡ true =
          sym (ap (λ v. nat_le from at && v) q.0 ∙ ap (λ v. v && false) p.0) ∙ e in absurd cc
      by (inr p) q = let x : false ≡ true = sym (ap (λ v. v && nat_le at to) p.0) ∙ e in absurd cc
  one_drop a h at e n = absurd h

  -- what is needed is left
  left_where : (at : ℕ) → IsNeeded acts code at → is_left acts at ≡ true
  left_where at n = by (list_any (drops at) acts) refl
    where
      by : (b : Bool) → list_any (drops at) acts ≡ b → not b ≡ true
      by true e =
          let x = any_where (drops at) acts e in
          absurd (one_drop x.1 (all_at (IsLegalDrop acts code) acts x.0 x.1 legal x.2) at x.3 n)
      by false e = refl

  next_one : (n at : ℕ) (o : Op) → goes_elsewhere o ≡ false → at + 1 < n
      → successors_of n at o ≡ (at + 1) ∷ targets o
  next_one n at o e lt =
      ap (λ b. (if b then [] else if nat_lt (at + 1) n then (at + 1) ∷ [] else []) ++ targets o) e
      ∙ ap (λ b. (if b then (at + 1) ∷ [] else []) ++ targets o) (by (leb_tells (suc (at + 1)) n))
    where
      by : ((nat_le (suc (at + 1)) n ≡ true) × (suc (at + 1) ≤ n))
          ⊎ ((nat_le (suc (at + 1)) n ≡ false) × (n < suc (at + 1)))
          → nat_lt (at + 1) n ≡ true
      by (inl q) = q.0
      by (inr q) = absurd (omega (arith, q.1, lt))

  abbrev before : ℕ → ℕ → Op → List ℕ
  before n at o = if goes_elsewhere o then [] else if nat_lt (at + 1) n then (at + 1) ∷ [] else []

  pub closed : IsClosed code (is_left acts)
  closed = record {
    first = left_where 0 (first refl);
    next = λ at i l e g lt. left_where (at + 1)
        (led_to at 0 i l e (ap (λ xs. slice_get xs 0) (next_one (length code.ins) at i.op g lt)));
    jump = λ at i l e. all_from (λ t. is_left acts t ≡ true) (targets i.op)
        (λ k t x. left_where t
        (led_to at (length (before (length code.ins) at i.op) + k) i l e
        (got_right (before (length code.ins) at i.op) (targets i.op) k ∙ x)));
    entry = all_from (λ (h : Handler). (at : ℕ) → at < length code.ins → is_left acts at ≡ true
        → covers h at ≡ true → is_left acts h.entry ≡ true)
        code.handlers (λ k h x at lt l c. left_where h.entry (entered k at h x lt l c refl));
  }

  pub drops_leave_out : Compacts code (left_code acts code)
  drops_leave_out = record {
    lives = is_left acts;
    reached = is_left acts;
    closed = closed;
    nops = λ at i l d e. absurd (let x : true ≡ false = sym l ∙ d in cc);
    is = refl;
  }
