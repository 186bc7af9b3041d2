-- Answers of `go_on`: what its calls ask for, and what it promises.
use Rattle.std.proofs.Common.{sym, subst, length, ◌<◌, ◌∙◌, ◌+◌}
use Rattle.const_facts.specs.Worklist.{Due}
use Rattle.const_facts.proofs.Taking.{next_there}
use Rattle.const_facts.proofs.work.go_on.Goals as goal

pub lower-requires-clause-due : goal.lower-requires-clause-due
lower-requires-clause-due c =
    next_there (Due c.args.code.now c.args.slot c.args.out) (length c.args.code.now.ins) c.args.at
    c.args.op.now (sym c.goes_elsewhere.ensures ∙ c.if-not-goes_elsewhere.true)
    (subst (λ n. c.args.at + 1 < n) c.len.ensures c.if-at-len.true) c.requires.due
