-- Answers of `unlined_fault`: what its calls ask for, and what it promises.
use Rattle.std.proofs.Common.{Some, false, true, not, sym, ap, ◌∙◌}
use Rattle.std.specs.List.{list_any}
use Rattle.jv_base.specs.Names.{is_text}
use Rattle.mapping_file.specs.declared.mapping.MapClass.{MapClass}
use Rattle.pair_clauses.specs.Places.{class_place}
use Rattle.pair_clauses.specs.Shape.{unlined_fault}
use Rattle.pair_clauses.proofs.SeenLaw.{unlined}
use Rattle.pair_clauses.proofs.Zipped.{one_here, one_on, placed, unplaced}
use Rattle.pair_clauses.proofs.shape.unlined_fault.Goals as goal

pub returns-then-not-has : goal.returns-then-not-has
returns-then-not-has c = λ lines has.
    let class = c.class-class.result.now in
    let none = unlined lines class.name c.has.result false (c.has.ensures _ has) c.if-not-has.true in
    ap Some c.in_ok-class_place.ensures
    ∙ sym (one_here (unlined_fault lines) c.args.output.now c.loop-number.number class c.class-class.ensures.is
    (class_place class.name)
    (placed (not (list_any (λ (l : MapClass). is_text l.new class.name) lines)) (class_place class.name) none))
    ∙ c.loop-number.invariant lines has

pub loop-number-preserved : goal.loop-number-preserved
loop-number-preserved c = λ lines has.
    let class = c.class-class.result.now in
    let some = unlined lines class.name c.has.result true (c.has.ensures _ has) c.if-not-has.false in
    one_on (unlined_fault lines) c.args.output.now c.loop-number.number class c.class-class.ensures.is
    (unplaced (not (list_any (λ (l : MapClass). is_text l.new class.name) lines)) (class_place class.name) some)
    ∙ c.loop-number.invariant lines has
