-- Answers of `mutf8_of_units`: what its calls ask for, and what it promises.
use Rattle.std.proofs.Common.{◌≡◌, ℕ, List, ◌++◌, get_or, Ok, ap, arith, refl, subst, sym, ◌∙◌}
use Rattle.std.proofs.lemmas.List.{take_all}
use Rattle.jv_base.specs.Mutf8.{mutf8, unit_bytes}
use Rattle.jv_base.specs.Decoding.{read_mutf8}
use Rattle.jv_base.proofs.Coding.{mutf8_more, read_mutf8-only}
use Rattle.jv_base.proofs.mutf8.mutf8_of_units.Goals as goal

pub loop-unit-init : goal.loop-unit-init
unfolding mutf8
loop-unit-init c = record { fit = λ i. let f = c.type_inv.unit-items i in omega arith; so_far = c.in_ok-bytes.ensures }

pub loop-unit-preserved : goal.loop-unit-preserved
loop-unit-preserved c = record {
  fit = c.loop-unit.invariant.fit;
  so_far =
      c.in_ok-push_unit.ensures
      ∙ ap (λ (b : List ℕ). b ++ unit_bytes
      (get_or c.as_slice-unit-items.result.now c.loop-unit.unit-index 0)) c.loop-unit.invariant.so_far
      ∙ sym (mutf8_more c.as_slice-unit-items.result.now c.loop-unit.unit-index c.loop-unit-test.true);
}

pub returns-clause-written : goal.returns-clause-written
returns-clause-written c = c.loop-unit.invariant.so_far
    ∙ ap mutf8 (take_all _ _ c.loop-unit-test.false ∙ c.as_slice-unit-items.ensures)

pub returns-clause-read_back : goal.returns-clause-read_back
returns-clause-read_back c =
    let items = c.as_slice-unit-items.result.now in
    let P : List ℕ → Type 0 = λ (units : List ℕ). read_mutf8 (mutf8 units) ≡ Ok units in
    let back : P items = read_mutf8-only (mutf8 items) items (c.loop-unit.invariant.fit, refl) in
    ap read_mutf8 (c.loop-unit.invariant.so_far ∙ ap mutf8 (take_all _ _ c.loop-unit-test.false
    ∙ c.as_slice-unit-items.ensures)) ∙ subst P c.as_slice-unit-items.ensures back
