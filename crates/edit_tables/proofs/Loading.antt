-- What is marked is what a code loads.
use Rattle.std.proofs.Common.{ℕ, zero, suc, ◌<◌, ◌≤◌, List, [], ◌∷◌, Some, true}
use Rattle.std.proofs.Common.{◌≡◌, inl, inr, refl, sym, ap, ◌∙◌, subst, arith}
use Rattle.std.specs.Prelude.{length, max, nat_eq, slice_get}
use Rattle.jv_base.proofs.Lists.{any_at, any_where}
use Rattle.class_model.specs.declared.code.Code.{Code}
use Rattle.class_model.specs.declared.code.Ins.{Ins}
use Rattle.class_model.specs.declared.op.Op.{Op}
use Rattle.class_model.specs.declared.op.Op.TheVariants as op
use Rattle.code_edit.specs.Slots.{is_loaded, loads}
use Rattle.edit_tables.specs.Loads.{loaded, loaded_by, loads_of, slot_count, slot_end}
use Rattle.edit_tables.specs.Marks.{has, none}
use Rattle.edit_tables.proofs.Marking.{has_none, none_long}
use Rattle.edit_tables.proofs.Naming.{Named, spread_tells}
use Rattle.edit_tables.proofs.Telling.{Tells, numbers_same, same_number}

-- what an instruction names is before the end
pub slot_within : (ins : List Ins) (at : ℕ) (i : Ins) → slice_get ins at ≡ Some i
    → slot_end i.op ≤ slot_count ins
slot_within [] at i e = absurd cc
slot_within (x ∷ ins) zero i e =
    let same : x ≡ i = cc in
    subst (λ (y : Ins). slot_end y.op ≤ max (slot_end x.op) (slot_count ins)) same (omega arith)
slot_within (x ∷ ins) (suc at) i e =
    let h = slot_within ins at i e in omega (arith, h)

module _ (code : Code) where
  abbrev slots : ℕ
  slots = slot_count code.ins

  load_there : (o : Op) (k slot : ℕ) → slice_get (loaded o) k ≡ Some slot → loads slot o ≡ true
  load_there (op.Load kind s) zero slot e =
      let same : s ≡ slot = cc in ap (nat_eq slot) same ∙ same_number slot
  load_there (op.Load kind s) (suc k) slot e = absurd cc
  load_there o k slot e = absurd cc

  there_load : (o : Op) (slot : ℕ) → loads slot o ≡ true → slice_get (loaded o) 0 ≡ Some slot
  there_load (op.Load kind s) slot e = ap Some (sym (numbers_same slot s e))
  there_load o slot e = absurd cc

  pub in_none : (slot : ℕ) → slot < slots → slot < length (none slots)
  in_none slot lt = subst (λ m. slot < m) (sym (none_long slots)) lt

  pub loads_tell : (slot : ℕ) → slot < slots
      → Tells (has (loads_of code) slot) (is_loaded code slot ≡ true)
  loads_tell slot lt =
      by (spread_tells loaded_by [] slot code.ins (none slots) (in_none slot lt)
      (has_none slots slot))
    where
      by : Tells (has (loads_of code) slot) (Named loaded_by [] slot 0 code.ins)
          → Tells (has (loads_of code) slot) (is_loaded code slot ≡ true)
      by (inl q) = let x = q.1 in
          inl (
            q.0,
            any_at (λ (i : Ins). loads slot i.op) code.ins x.0 x.2 x.3
                (load_there x.2.op x.1 slot x.5),
          )
      by (inr q) = inr (
        q.0,
        λ e.
            let x = any_where (λ (i : Ins). loads slot i.op) code.ins e in
            q.1 (x.0, 0, x.1, x.2, refl, there_load x.1.op slot x.3),
      )
