-- Answers of `row_of_method`: what its calls ask for, and what it promises.
use Rattle.std.proofs.Common.{◌∙◌, sym, ap, map, arith}
use Rattle.std.specs.Option.{option_map}
use Rattle.lib_table.specs.Lookups.{member_told}
use Rattle.lib_table.specs.bodies.Rows.{told_member}
use Rattle.lib_table.proofs.Classes.{method_is, method_found, no_method}
use Rattle.lib_table.proofs.member.row_of_method.Goals as goal

pub returns-then-before-eq0 : goal.returns-then-before-eq0
returns-then-before-eq0 c =
    sym (method_is (map told_member c.args.members.now) c.args.k ∙ ap (option_map member_told) c.loop-member.invariant.1
    ∙ method_found c.args.members.now c.loop-member.member-index c.loop-member.before c.loop-member.at _ c.told.result
    c.loop-member-test.true c.if-member.true c.if-before-eq0.true c.loop-member.invariant.0 c.told.ensures)

pub returns : goal.returns
returns c =
    sym (method_is (map told_member c.args.members.now) c.args.k
    ∙ ap (option_map member_told)
    (c.loop-member.invariant.1
    ∙ no_method c.args.members.now c.loop-member.member-index c.loop-member.before
    (omega (arith, c.loop-member-test.false))))
