-- Answers of `has_line_outside`: what its calls ask for, and what it promises.
use Rattle.std.proofs.Common.{ap, ◌∙◌}
use Rattle.std.specs.List.{list_any}
use Rattle.class_model.specs.declared.code.Ins.{Ins}
use Rattle.pair_clauses.specs.bodies.Ranges.{is_line_outside}
use Rattle.pair_clauses.proofs.Ranged.{outside_lines}
use Rattle.pair_clauses.proofs.ranges.has_line_outside.Goals as goal

pub returns : goal.returns
returns c = c.any_outside.ensures
    ∙ ap (list_any (λ (i : Ins). is_line_outside c.args.range i.line)) c.as_slice.ensures
    ∙ outside_lines c.args.range c.args.code.now.ins
