-- What slots finds is what no load names.
use Rattle.std.proofs.Common.{ℕ, suc, ◌≤◌, List, [], ◌∷◌, Some, Bool, true, ◌≡◌}
use Rattle.std.proofs.Common.{inl, inr, refl, sym, ap, ◌∙◌, arith}
use Rattle.std.specs.Prelude.{not, slice_get, if◌then◌else◌}
use Rattle.class_model.specs.declared.code.Code.{Code}
use Rattle.class_model.specs.declared.code.Ins.{Ins}
use Rattle.class_model.specs.declared.op.Op.{Op}
use Rattle.class_model.specs.declared.op.Op.TheVariants as op
use Rattle.code_edit.specs.declared.act.Act.{Act}
use Rattle.code_edit.specs.declared.act.Act.TheVariants as act
use Rattle.code_edit.specs.Passes.{cuts_from, is_unused, slots_edits}
use Rattle.edit_tables.specs.Loads.{loads_of, slot_count, slot_end}
use Rattle.edit_tables.proofs.Loading.{loads_tell, slot_within}
use Rattle.edit_tables.proofs.Telling.{Tells, is_false}
use Rattle.edit_passes.specs.Unused.{is_unloaded, unloaded_from}

-- a test that tells of another answers as that does
same_answer : (b c : Bool) → Tells b (c ≡ true) → b ≡ c
same_answer b c (inl q) = q.0 ∙ sym q.1
same_answer b c (inr q) = q.0 ∙ sym (is_false c q.1)

module _ (code : Code) where
  op_same : (o : Op) → slot_end o ≤ slot_count code.ins
      → is_unloaded (loads_of code) o ≡ is_unused code o
  op_same (op.Store kind slot) le =
      ap not (same_answer _ _ (loads_tell code slot (omega (arith, le))))
  op_same (op.Inc slot z) le =
      ap not (same_answer _ _ (loads_tell code slot (omega (arith, le))))
  op_same o le = refl

  ins_same : (at : ℕ) (ins : List Ins)
      → ((j : ℕ) (i : Ins) → slice_get ins j ≡ Some i → slot_end i.op ≤ slot_count code.ins)
      → unloaded_from (loads_of code) at ins ≡ cuts_from code at ins
  ins_same at [] each = refl
  ins_same at (i ∷ ins) each =
      let rest = ins_same (suc at) ins (λ j x e. each (suc j) x e) in
      let here = op_same i.op (each 0 i refl) in
      λ k. if here k then act.Cut at ∷ rest k else rest k

  pub cuts_are : (acts : List Act) → acts ≡ unloaded_from (loads_of code) 0 code.ins
      → acts ≡ slots_edits code
  cuts_are acts e = e ∙ ins_same 0 code.ins (λ j i x. slot_within code.ins j i x)
