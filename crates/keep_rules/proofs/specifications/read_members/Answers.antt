-- Answers of `read_members`: what its calls ask for, and what it promises.
use Rattle.std.proofs.Common.{sym, ◌∙◌}
use Rattle.std.proofs.lemmas.Result.{err_from_is_err_and}
use Rattle.keep_rules.specs.Specifications.{members}
use Rattle.keep_rules.proofs.Loops.{members_err, members_more, members_done, member_less}
use Rattle.keep_rules.proofs.specifications.read_members.Goals as goal

pub returns-in_err-read_member : goal.returns-in_err-read_member
returns-in_err-read_member c =
    let p = err_from_is_err_and c.from_residual.result c.from_residual.ensures.1 in
    let no = sym c.pass.ensures.test ∙ c.loop-alloc-test.true in
    rw (p.1, p.2)
    (members_err c.args.names.now c.in_err-read_member.field-0.0 c.read_member.new.words c.read_member.new.words
    c.loop-alloc.members c.loop-alloc.words (members c.args.names.now c.args.words.now) no
    (rw (c.pass.ensures.passed, c.loop-alloc-test.true) at c.in_err-read_member.ensures) c.loop-alloc.invariant)

pub loop-alloc-smaller : goal.loop-alloc-smaller
loop-alloc-smaller c = member_less c.args.names.now c.loop-alloc.words c.in_ok-read_member.field-0
    c.read_member.new.words
    (rw (c.pass.ensures.passed, c.loop-alloc-test.true) at c.in_ok-read_member.ensures)

pub loop-alloc-preserved : goal.loop-alloc-preserved
loop-alloc-preserved c =
    let no = sym c.pass.ensures.test ∙ c.loop-alloc-test.true in
    rw c.in_ok-push.ensures
    (members_more c.args.names.now c.loop-alloc.members c.loop-alloc.words c.in_ok-read_member.field-0
    c.read_member.new.words (members c.args.names.now c.args.words.now) no
    (rw (c.pass.ensures.passed, c.loop-alloc-test.true) at c.in_ok-read_member.ensures) c.loop-alloc.invariant)

pub returns : goal.returns
returns c =
    let yes = sym c.pass.ensures.test ∙ c.loop-alloc-test.false in
    rw (c.pass.ensures.passed, c.loop-alloc-test.false)
    (members_done c.args.names.now c.loop-alloc.members c.loop-alloc.words (members c.args.names.now c.args.words.now)
    yes c.loop-alloc.invariant)
