-- Answers of `add_methods`: what its calls ask for, and what it promises.
use Rattle.std.proofs.Common.{◌≡◌, List, ℕ, ◌+◌, ap, length, sym, ◌∙◌}
use Rattle.class_pool.specs.Items.{class_item}
use Rattle.class_model.specs.declared.class.Class.{Class}
use Rattle.class_model.specs.declared.class.Method.{Method}
use Rattle.require_sys.specs.Requires.{method_wants, needs_of}
use Rattle.item_numbers.specs.bodies.Wanting.{Wanted, wanting_nothing}
use Rattle.item_needs.proofs.CountedLists.{member_added}
use Rattle.item_needs.proofs.needs.add_methods.Goals as goal

pub method_needs-requires-clause-before : goal.method_needs-requires-clause-before
method_needs-requires-clause-before c =
    c.loop-index.invariant.empty
    ∙ sym (ap (λ (w : Wanted). wanting_nothing w.classes) c.loop-index.invariant.empty)

pub loop-index-preserved : goal.loop-index-preserved
loop-index-preserved c =
    let set = c.args.numbered.now.set.now in
    let same : c.loop-index.wants.classes ≡ set = ap (λ (w : Wanted). w.classes) c.loop-index.invariant.empty in
    record {
      added = member_added (λ (p : ℕ × Method). needs_of set (class_item set c.args.number + 1 + p.0)
          (method_wants set c.args.number c.args.kept.now p.1))
          (length c.args.class.now.fields) c.args.class.now.methods c.loop-index.index c.index-method.result.now
          c.args.needs.now
          c.loop-index.needs c.add.new.self c.in_ok-method_needs.field-0 c.index-method.ensures
          (c.in_ok-method_needs.ensures.needs
          ∙ ap (λ (cs : List Class). needs_of cs c.method_item-own.result
          (method_wants cs c.args.number c.args.kept.now c.index-method.result.now)) same
          ∙ ap (λ (k : ℕ). needs_of set k (method_wants set c.args.number c.args.kept.now c.index-method.result.now))
          c.method_item-own.ensures) c.loop-index.invariant.added c.in_ok-add.ensures;
      empty = c.in_ok-method_needs.ensures.after ∙ ap wanting_nothing same;
    }
