-- Answers of `member_place`: what its calls ask for, and what it promises.
use Rattle.std.proofs.Common.{Some, sym, ap, ◌∙◌}
use Rattle.pair_clauses.proofs.Bodies.{ok_on}
use Rattle.pair_clauses.proofs.Standing.{field_there, method_there}
use Rattle.pair_clauses.proofs.lined.member_place.Goals as goal

pub returns-then-index-fields : goal.returns-then-index-fields
returns-then-index-fields c = ok_on c.field_place.result
    (λ place e. field_there c.args.class.now c.args.index c.index-field.result.now c.index-field.ensures
    ∙ ap Some (sym e))
    c.field_place.ensures

pub returns-else-index-fields : goal.returns-else-index-fields
returns-else-index-fields c = ok_on c.method_place.result
    (λ place e. method_there c.args.class.now c.args.index c.len-fields.result c.index-method.result.now
    c.len-fields.ensures c.if-index-fields.false c.index-method.ensures ∙ ap Some (sym e))
    c.method_place.ensures
