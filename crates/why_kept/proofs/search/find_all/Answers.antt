-- Answers of `find_all`: what its calls ask for, and what it promises.
use Rattle.std.proofs.Common.{◌≤◌, take_all, subst, take, arith}
use Rattle.std.proofs.lemmas.List.Elements.{All-more, All-get_or}
use Rattle.why_kept.specs.Derivations.{IsDerivedAt}
use Rattle.why_kept.specs.bodies.Searching.{AreNear, level_in}
use Rattle.why_kept.proofs.Growing.{grows_trans, near_grows}
use Rattle.why_kept.proofs.search.find_all.Goals as goal

pub find-requires-clause-due : goal.find-requires-clause-due
find-requires-clause-due c = All-get_or
    (λ x. IsDerivedAt c.args.sys.now x c.args.level) c.args.items.now c.loop-item.item-index 0 c.loop-item-test.true
    c.requires.due

pub find-requires-clause-few : goal.find-requires-clause-few
find-requires-clause-few c = let same = c.loop-item.invariant.grows.left in omega (arith, same, c.requires.few)

pub loop-item-preserved : goal.loop-item-preserved
loop-item-preserved c =
    let grows = c.in_ok-find.ensures.grows in record {
      sound = c.in_ok-find.ensures.sound;
      grows = grows_trans c.args.sys.now c.args.search.now c.loop-item.search c.find.new.search
          c.loop-item.invariant.grows grows;
      near = All-more (λ x. level_in c.args.sys.now c.find.new.search x ≤ c.args.level) c.args.items.now
          c.loop-item.item-index 0 c.loop-item-test.true
          (near_grows c.args.sys.now c.loop-item.search c.find.new.search c.args.level
          (take c.loop-item.item-index c.args.items.now) grows c.loop-item.invariant.near)
          c.in_ok-find.ensures.near;
    }

pub returns-clause-near : goal.returns-clause-near
returns-clause-near c =
    subst (AreNear c.args.sys.now c.loop-item.search c.args.level)
    (take_all c.loop-item.item-index c.args.items.now
    (omega (arith, c.loop-item-test.false))) c.loop-item.invariant.near
