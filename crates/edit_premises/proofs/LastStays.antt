-- The last instruction of a sound code stays after any cuts, and after right jumps.
use Rattle.std.proofs.Common.{ℕ, zero, suc, ◌+◌, ◌-◌, ◌<◌, ◌≤◌, Option, Some, None, Bool, true, false}
use Rattle.std.proofs.Common.{◌≡◌, ◌⊎◌, inl, inr, refl, sym, ◌∙◌, List, arith}
use Rattle.std.specs.Prelude.{length, nat_le, not, slice_get, ◌&&◌, ◌||◌}
use Rattle.std.specs.Option.{option_map_or}
use Rattle.std.proofs.lemmas.Bool.Decides.{leb_tells}
use Rattle.class_model.specs.declared.code.Code.{Code}
use Rattle.class_model.specs.declared.code.Ins.{Ins}
use Rattle.class_model.specs.declared.op.Op.{Op}
use Rattle.class_model.specs.declared.op.Op.TheVariants as op
use Rattle.code_edit.specs.declared.act.Act.{Act}
use Rattle.code_edit.specs.declared.act.Pass.TheVariants as pass
use Rattle.code_edit.specs.Flow.{goes_elsewhere, is_target, of_ins}
use Rattle.code_edit.specs.Legal.{KeepsLast}
use Rattle.code_edit.specs.Slots.{goes, is_cut, is_inc, is_push, is_store, takes_push}
use Rattle.code_edit.specs.SoundCode.{IsSound}
use Rattle.edit_premises.proofs.Places.{get_below}

both : (a b : Bool) → (a && b) ≡ true → (a ≡ true) × (b ≡ true)
both true b e = (refl, e)
both false b e = absurd cc

-- ---- instructions

-- the next index of one that goes is one of the code
ins_at : (test : Op → Bool) (code : Code) (at : ℕ) → of_ins test code at ≡ true
    → (i : Ins) × (slice_get code.ins at ≡ Some i) × (test i.op ≡ true)
ins_at test code at e = by (slice_get code.ins at) refl e
  where
    by : (o : Option Ins) → slice_get code.ins at ≡ o
        → option_map_or (λ (i : Ins). test i.op) o false ≡ true
        → (i : Ins) × (slice_get code.ins at ≡ Some i) × (test i.op ≡ true)
    by None q h = absurd cc
    by (Some i) q h = (i, q, h)

store_goes_on : (o : Op) → is_store o ≡ true → goes_elsewhere o ≡ false
store_goes_on (op.Store k slot) e = refl
store_goes_on o e = absurd cc

inc_goes_on : (o : Op) → is_inc o ≡ true → goes_elsewhere o ≡ false
inc_goes_on (op.Inc slot z) e = refl
inc_goes_on o e = absurd cc

module _ (acts : List Act) (code : Code) (sound : IsSound code) where
  not_last : (at : ℕ) (i : Ins) → slice_get code.ins at ≡ Some i → goes_elsewhere i.op ≡ false
      → at + 1 < length code.ins
  not_last at i e g = by (below) (λ end. sound.last at i e end)
    where
      below : at < length code.ins
      below = get_below code.ins at i e

      by : at < length code.ins → (at + 1 ≡ length code.ins → goes_elsewhere i.op ≡ true)
          → at + 1 < length code.ins
      by lt end = choose (order (at + 1) (length code.ins) (omega (arith, lt)))
        where
          order : (a b : ℕ) → a ≤ b → (a < b) ⊎ (a ≡ b)
          order a b le = cases (leb_tells (suc a) b)
            where
              cases : ((nat_le (suc a) b ≡ true) × (suc a ≤ b))
                  ⊎ ((nat_le (suc a) b ≡ false) × (b < suc a)) → (a < b) ⊎ (a ≡ b)
              cases (inl q) = inl (omega (arith, q.1))
              cases (inr q) = inr (omega (arith, q.1, le))

          choose : (at + 1 < length code.ins) ⊎ (at + 1 ≡ length code.ins)
              → at + 1 < length code.ins
          choose (inl q) = q
          choose (inr q) = absurd (let no : true ≡ false = sym (end q) ∙ g in cc)

  -- what goes isn't the last
  going : (at : ℕ) → goes acts code at ≡ true → at + 1 < length code.ins
  going at e = by (split _ _ e)
    where
      split : (a b : Bool) → (a || b) ≡ true → (a ≡ true) ⊎ (b ≡ true)
      split true b e = inl refl
      split false b e = inr e

      store_at : (k : ℕ) → takes_push acts code k ≡ true
          → (i : Ins) × (slice_get code.ins k ≡ Some i) × (is_store i.op ≡ true)
      store_at k t =
          let x =
          both (is_cut acts k)
          (of_ins is_store code k && (of_ins is_push code (k - 1) && not (is_target code k))) t in
          let y =
          both (of_ins is_store code k) (of_ins is_push code (k - 1) && not (is_target code k))
          x.1 in
          ins_at is_store code k y.0

      inner : (takes_push acts code at ≡ true)
          ⊎ ((is_cut acts at && of_ins is_inc code at) ≡ true) → at + 1 < length code.ins
      inner (inl q) =
          let i = store_at at q in not_last at i.0 i.1 (store_goes_on i.0.op i.2)
      inner (inr q) =
          let i = ins_at is_inc code at (both (is_cut acts at) (of_ins is_inc code at) q).1 in
          not_last at i.0 i.1 (inc_goes_on i.0.op i.2)

      by : (takes_push acts code (at + 1) ≡ true)
          ⊎ ((takes_push acts code at || (is_cut acts at && of_ins is_inc code at)) ≡ true)
          → at + 1 < length code.ins
      by (inl q) = let i = store_at (at + 1) q in get_below code.ins (at + 1) i.0 i.1
      by (inr q) = inner (split _ _ q)

  un_false : (b : Bool) → not b ≡ false → b ≡ true
  un_false true e = refl
  un_false false e = absurd cc

  -- the last instruction stays, whatever the acts are
  pub slots_keep_last : (a : Act) → KeepsLast pass.Slots acts code a
  slots_keep_last a at d l aimed past =
      let lt = going at (un_false _ l) in
      let m = before_end (length code.ins) (omega (arith, lt)) in
      let last = past m.0 (omega (arith, lt, m.1)) (omega (arith, m.1)) in
      let more = going m.0 (un_false _ last) in
      omega (arith, more, m.1)
    where
      before_end : (n : ℕ) → 0 < n → (m : ℕ) × (m + 1 ≡ n)
      before_end zero lt = absurd (omega (arith, lt))
      before_end (suc m) lt = (m, omega arith)
