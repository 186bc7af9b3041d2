-- Answers of `is_line_at_fault`: what its calls ask for, and what it promises.
use Rattle.std.proofs.Common.{Bool, map, not, ap, sym, ◌∙◌}
use Rattle.std.specs.Prelude.{◌||◌}
use Rattle.std.specs.List.{list_any}
use Rattle.jv_base.specs.Names.{is_text}
use Rattle.mapping_file.specs.declared.mapping.MapClass.{MapClass}
use Rattle.pair_clauses.specs.Shape.{has_class}
use Rattle.pair_clauses.proofs.SeenLaw.{class_wrong}
use Rattle.pair_clauses.proofs.shape.is_line_at_fault.Goals as goal

pub returns-then-is_old_wrong-clause-fault : goal.returns-then-is_old_wrong-clause-fault
returns-then-is_old_wrong-clause-fault c = λ before has.
    let l = c.args.line.now in
    let new_wrong = not (has_class c.args.output.now l.new) || list_any (λ (b : MapClass). is_text b.new l.new)
    before in
    let is = class_wrong (has_class c.args.input.now l.old) c.in_ok-is_new_old.is_new_old
    c.is_class_wrong-is_old_wrong.result
    (λ (b : MapClass). b.old) l.old before c.is_class_wrong-is_old_wrong.ensures
    (c.in_ok-is_new_old.ensures.is_new (map (λ (b : MapClass). b.old) before) has.old_classes) in
    c.if-is_old_wrong.true ∙ ap (λ (b : Bool). b || new_wrong) (sym c.if-is_old_wrong.true ∙ is)

pub returns-else-is_old_wrong-clause-fault : goal.returns-else-is_old_wrong-clause-fault
returns-else-is_old_wrong-clause-fault c = λ before has.
    let l = c.args.line.now in
    let old_wrong = not (has_class c.args.input.now l.old) || list_any (λ (b : MapClass). is_text b.old l.old) before in
    let old = class_wrong (has_class c.args.input.now l.old) c.in_ok-is_new_old.is_new_old
    c.is_class_wrong-is_old_wrong.result
    (λ (b : MapClass). b.old) l.old before c.is_class_wrong-is_old_wrong.ensures
    (c.in_ok-is_new_old.ensures.is_new (map (λ (b : MapClass). b.old) before) has.old_classes) in
    let new = class_wrong (has_class c.args.output.now l.new) c.in_ok-is_new_new.is_new_new
    c.is_class_wrong-is_new_wrong.result
    (λ (b : MapClass). b.new) l.new before c.is_class_wrong-is_new_wrong.ensures
    (c.in_ok-is_new_new.ensures.is_new (map (λ (b : MapClass). b.new) before) has.new_classes) in
    ap (λ (b : Bool). b || c.is_class_wrong-is_new_wrong.result) (sym c.if-is_old_wrong.false ∙ old)
    ∙ ap (λ (b : Bool). old_wrong || b) new
