-- Answers of `above_library`: what its calls ask for, and what it promises.
use Rattle.std.proofs.Common.{◌∙◌, arith, rules}
use Rattle.class_pool.proofs.Graphing.{few_interfaces, interface_below, interface_put, interface_there, interfaces_all}
use Rattle.class_pool.proofs.Graphing.{super_there}
use Rattle.class_pool.proofs.hierarchy.graph.above_library.Goals as goal

pub overflow_add-k : goal.overflow_add-k
overflow_add-k c =
    let few = few_interfaces c.args.id in
    let below = interface_below c.args.id c.loop-interface.k c.in-Some-lib_interface.interface
    c.in-Some-lib_interface.ensures in
    omega (arith, few, below)

pub loop-interface-smaller : goal.loop-interface-smaller
loop-interface-smaller c =
    let below = interface_below c.args.id c.loop-interface.k c.in-Some-lib_interface.interface
    c.in-Some-lib_interface.ensures in
    omega (arith, below)

pub loop-interface-preserved : goal.loop-interface-preserved
loop-interface-preserved c =
    let below = interface_below c.args.id c.loop-interface.k c.in-Some-lib_interface.interface
    c.in-Some-lib_interface.ensures in (
      interface_put c.args.id c.loop-interface.k c.in-Some-lib_interface.interface
          c.library_number-in-Some-lib_interface.result c.loop-interface.numbers c.push-in-Some-lib_interface.new.self
          c.in-Some-lib_interface.ensures c.loop-interface.invariant.0 c.library_number-in-Some-lib_interface.ensures
          c.in_ok-push-2.ensures,
      omega (arith, below),
    )

pub returns : goal.returns
returns c = interfaces_all c.args.id c.loop-interface.k c.loop-interface.numbers
    (search rules) c.loop-interface.invariant.0

pub library_number-requires : goal.library_number-requires
library_number-requires c = record {
  library = c.as_slice.ensures ∙ c.requires;
  there = super_there c.args.id c.in-Some.above c.in-Some.ensures;
}

pub library_number-requires-in-Some-lib_interface-clause-there :
    goal.library_number-requires-in-Some-lib_interface-clause-there
library_number-requires-in-Some-lib_interface-clause-there c =
    interface_there c.args.id c.loop-interface.k c.in-Some-lib_interface.interface c.in-Some-lib_interface.ensures
