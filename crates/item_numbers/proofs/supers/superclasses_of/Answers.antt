-- Answers of `superclasses_of`: what its calls ask for, and what it promises.
use Rattle.std.proofs.Common.{◌≡◌, ◌-◌, ◌+◌, ◌<◌, ◌++◌, ℕ, List, [], Option, Some, sym, ap, subst, arith, ◌∙◌}
use Rattle.std.specs.Option.{IfSome, option_map_or}
use Rattle.class_pool.specs.Hierarchy.{IsClass}
use Rattle.class_pool.specs.Walk.{superclasses_from, upwards}
use Rattle.class_pool.specs.declared.id.ClassId.{ClassId}
use Rattle.class_pool.specs.declared.id.ClassId.TheVariants.{Prog}
use Rattle.class_pool.proofs.Declaring.{superclass_there}
use Rattle.item_numbers.proofs.Meeting.{chain_ends, chain_goes, chain_stops}
use Rattle.item_numbers.proofs.supers.superclasses_of.Goals as goal

pub loop-init : goal.loop-init
loop-init c =
    let all : 8589934592 - 0 ≡ 8589934592 = omega arith in
    record {
      there = c.requires;
      ids = ap (λ (t : List ClassId). t ++ option_map_or (upwards (8589934592 - 0) c.args.set.now)
          (Some (Prog c.args.number)) []) c.in_ok-ids.ensures.items
          ∙ ap (λ (n : ℕ). option_map_or (upwards n c.args.set.now) (Some (Prog c.args.number)) []) all;
    }

pub super_of-next-requires : goal.super_of-next-requires
super_of-next-requires c = subst (λ (o : Option ClassId). IfSome o (IsClass c.args.set.now)) c.in-Some.is
    c.loop.invariant.there

pub returns-in_default : goal.returns-in_default
returns-in_default c =
    chain_ends c.args.set.now (8589934592 - c.loop.counter) c.loop.ids.items
    (superclasses_from c.args.set.now (Prog c.args.number)) c.loop.next c.in_default.is c.loop.invariant.ids

pub loop-preserved : goal.loop-preserved
loop-preserved c =
    let some : 0 < 8589934592 - c.loop.counter = omega (arith, c.loop-test.true) in
    let less : 8589934592 - (c.loop.counter + 1) ≡ 8589934592 - c.loop.counter - 1 = omega arith in
    record {
      there = subst (λ (o : Option ClassId). IfSome o (IsClass c.args.set.now)) (sym c.super_of-next.ensures)
          (superclass_there c.args.set.now c.in-Some.class);
      ids = chain_goes c.args.set.now (8589934592 - c.loop.counter) (8589934592 - (c.loop.counter + 1))
          c.in-Some.class c.loop.ids.items _ (superclasses_from c.args.set.now (Prog c.args.number)) c.loop.next _ some
          less c.in-Some.is c.super_of-next.ensures c.in_ok-push.ensures.items c.loop.invariant.ids;
    }

pub returns : goal.returns
returns c =
    chain_stops c.args.set.now (8589934592 - c.loop.counter) c.loop.ids.items
    (superclasses_from c.args.set.now (Prog c.args.number)) c.loop.next (omega (arith, c.loop-test.false))
    c.loop.invariant.ids
