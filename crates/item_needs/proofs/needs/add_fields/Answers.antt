-- Answers of `add_fields`: what its calls ask for, and what it promises.
use Rattle.std.proofs.Common.{◌≡◌, List, ℕ, ◌+◌, ap, arith, sym, ◌∙◌}
use Rattle.class_pool.specs.Items.{class_item}
use Rattle.class_model.specs.declared.class.Class.{Class}
use Rattle.class_model.specs.declared.class.Field.{Field}
use Rattle.require_sys.specs.Requires.{field_wants, needs_of}
use Rattle.item_numbers.specs.bodies.Wanting.{Wanted, wanting_nothing}
use Rattle.item_needs.proofs.CountedLists.{member_added}
use Rattle.item_needs.proofs.needs.add_fields.Goals as goal

pub field_needs-requires-clause-before : goal.field_needs-requires-clause-before
field_needs-requires-clause-before c =
    c.loop-index.invariant.empty
    ∙ sym (ap (λ (w : Wanted). wanting_nothing w.classes) c.loop-index.invariant.empty)

pub loop-index-preserved : goal.loop-index-preserved
loop-index-preserved c =
    let set = c.args.numbered.now.set.now in
    let start : ℕ = class_item set c.args.number + 1 in
    let e : start + c.loop-index.index ≡ start + (0 + c.loop-index.index) = omega arith in
    let same : c.loop-index.wants.classes ≡ set = ap (λ (w : Wanted). w.classes) c.loop-index.invariant.empty in
    record {
      added = member_added (λ (p : ℕ × Field). needs_of set (class_item set c.args.number + 1 + p.0)
          (field_wants set c.args.number p.1))
          0 c.args.class.now.fields c.loop-index.index c.index.result.now c.args.needs.now c.loop-index.needs
          c.add.new.self c.in_ok-field_needs.field-0 c.index.ensures
          (c.in_ok-field_needs.ensures.needs
          ∙ ap (λ (cs : List Class). needs_of cs c.member_item-own.result
          (field_wants cs c.args.number c.index.result.now)) same
          ∙ ap (λ (k : ℕ). needs_of set k (field_wants set c.args.number c.index.result.now))
          (c.member_item-own.ensures ∙ e)) c.loop-index.invariant.added c.in_ok-add.ensures;
      empty = c.in_ok-field_needs.ensures.after ∙ ap wanting_nothing same;
    }
