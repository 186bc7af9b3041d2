-- Answers of `add_chosen`: what its calls ask for, and what it promises.
use Rattle.std.proofs.Common.{◌∙◌, ap, flat_map, subst, arith}
use Rattle.std.proofs.lemmas.List.{take_all}
use Rattle.member_shrink.specs.Shrunk.{chosen, is_marked}
use Rattle.jv_base.specs.Names.{is_text}
use Rattle.rename_map.specs.bodies.Adding.{Adds}
use Rattle.rename_map.proofs.Added.{adds_none, chosen_adds}
use Rattle.rename_map.proofs.gathering.add_chosen.Goals as goal

pub loop-member-init : goal.loop-member-init
loop-member-init g c = (omega arith, adds_none c.args.names.now)

pub loop-member-preserved : goal.loop-member-preserved
loop-member-preserved g c = (
  omega (arith, c.loop-member.invariant.0),
  chosen_adds (g.T.Tells.tells c.args.told) c.args.row.now c.args.first c.args.members.now c.loop-member.member-index
      c.member-item.result c.args.names.now c.loop-member.names c.add_if.new.names
      c.is_marked-is_chosen.result
      c.loop-member-test.true c.member-item.is
      (c.is_marked-is_chosen.ensures ∙ ap (is_marked c.args.row.now) c.loop-member.invariant.0)
      c.loop-member.invariant.1 c.in_ok-add_if.ensures,
)

pub returns : goal.returns
returns g c =
    subst (λ l. Adds is_text c.args.names.now
    (flat_map (g.T.Tells.tells c.args.told) (chosen c.args.row.now c.args.first l))
    c.loop-member.names)
    (take_all c.loop-member.member-index c.args.members.now c.loop-member-test.false) c.loop-member.invariant.1
