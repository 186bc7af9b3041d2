-- Answers of `want_called_in`: what its calls ask for, and what it promises.
use Rattle.std.proofs.Common.{rules, ◌<◌, arith, length, sym}
use Rattle.lib_table.specs.Library.{library}
use Rattle.lib_table.proofs.Classes.{members_few}
use Rattle.item_needs.proofs.CalledMethods.{called_all, called_more}
use Rattle.item_needs.proofs.classes.want_called_in.Goals as goal

pub loop-at-preserved : goal.loop-at-preserved
loop-at-preserved c =
    called_more c.args.id c.args.number c.loop-at.at c.args.wants.now c.loop-at.wants c.want_run.new.wants
    (sym c.if-not-has_member.ensures) c.loop-at.invariant c.in_ok-want_run.ensures

pub returns : goal.returns
returns c =
    let there : c.args.id < length library = search rules in
    let few = members_few c.args.id there in
    called_all c.args.id c.args.number c.loop-at.at c.args.wants.now c.loop-at.wants
    (omega (arith, few, c.loop-at-test.false)) c.loop-at.invariant
