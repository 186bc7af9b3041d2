-- Answers of `is_method_at_fault`: what its calls ask for, and what it promises.
use Rattle.std.proofs.Common.{◌++◌, map, sym, ◌∙◌}
use Rattle.pair_clauses.specs.Shape.{method_named, method_pairs}
use Rattle.pair_clauses.proofs.Lining.{method_seen}
use Rattle.pair_clauses.proofs.shape.is_method_at_fault.Goals as goal

pub returns-clause-seen : goal.returns-clause-seen
returns-clause-seen c = λ before lines told has right.
    let pairs = before ++ method_pairs lines in
    method_seen c.put.new.self c.is_stray.new.own c.args.line.now _ c.in_ok-old.old c.in_ok-new.new
    c.in_ok-ty.ensures.written c.in_ok-old.ensures c.in_ok-new.ensures before lines
    (c.in_ok-put.ensures pairs told (sym (c.clashes.ensures pairs told) ∙ c.if-clashes.false))
    (c.in_ok-is_stray.ensures.seen (map method_named lines) has)
