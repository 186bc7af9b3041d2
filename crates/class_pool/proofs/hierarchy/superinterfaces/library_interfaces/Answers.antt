-- Answers of `library_interfaces`: what its calls ask for, and what it promises.
use Rattle.std.proofs.Common.{arith, rules}
use Rattle.class_pool.proofs.Graphing.{few_interfaces, interface_below}
use Rattle.class_pool.proofs.FillingLaws.{library_done, library_put}
use Rattle.class_pool.proofs.hierarchy.superinterfaces.library_interfaces.Goals as goal

pub overflow_add-k : goal.overflow_add-k
overflow_add-k c =
    let few = few_interfaces c.args.id in
    let below = interface_below c.args.id c.loop-interface.k c.in-Some.interface c.in-Some.ensures in
    omega (arith, few, below)

pub loop-interface-smaller : goal.loop-interface-smaller
loop-interface-smaller c =
    let below = interface_below c.args.id c.loop-interface.k c.in-Some.interface c.in-Some.ensures in
    omega (arith, below)

pub loop-interface-preserved : goal.loop-interface-preserved
loop-interface-preserved c =
    let below = interface_below c.args.id c.loop-interface.k c.in-Some.interface c.in-Some.ensures in (
      library_put c.args.id c.loop-interface.k c.in-Some.interface c.loop-interface.ids c.push.new.self
          c.in-Some.ensures c.loop-interface.invariant.0 c.in_ok-push.ensures,
      omega (arith, below),
    )

pub returns : goal.returns
returns c = library_done c.args.id c.loop-interface.k c.loop-interface.ids (search rules) c.loop-interface.invariant.0
