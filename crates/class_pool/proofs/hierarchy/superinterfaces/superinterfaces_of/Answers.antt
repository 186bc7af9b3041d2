-- Answers of `superinterfaces_of`: what its calls ask for, and what it promises.
use Rattle.std.proofs.Common.{◌≡◌, ◌+◌, ◌≤◌, length, arith}
use Rattle.lib_table.specs.Library.{library}
use Rattle.lib_table.proofs.Computed.{count}
use Rattle.class_pool.proofs.FillingLaws.{filled_below, filling_none, own_of}
use Rattle.class_pool.proofs.Graphing.{library_length}
use Rattle.class_pool.proofs.hierarchy.superinterfaces.superinterfaces_of.Goals as goal

pub overflow_add-count : goal.overflow_add-count
overflow_add-count c =
    let long = library_length c.args.library.now c.requires.library in
    omega (arith, long, count, c.len.ensures, c.len-2.ensures)

pub fill_in_order-requires-clause-filling : goal.fill_in_order-requires-clause-filling
fill_in_order-requires-clause-filling c =
    let long = library_length c.args.library.now c.requires.library in
    let few : length c.args.classes.now ≤ 4294967295 = omega (arith, c.len-2.ensures) in
    let total : c.len.result + c.len-2.result
    ≡ length library + length c.args.classes.now = omega (arith, long, c.len.ensures, c.len-2.ensures) in
    filling_none c.args.classes.now c.in_ok-filling.filling
    (c.len.result + c.len-2.result) few total c.in_ok-filling.ensures.lists.0 c.in_ok-filling.ensures.lists.1
    c.in_ok-filling.ensures.filled.0 c.in_ok-filling.ensures.filled.1 c.in_ok-filling.ensures.met

pub loop-preserved : goal.loop-preserved
loop-preserved c = record {
  filling = c.in_ok-fill_each.ensures.filling;
  low = λ r a a-in low.
      c.in_ok-fill_each.ensures.more a a-in
      (filled_below c.args.classes.now r c.loop.filling.filled.items c.loop.counter a
      (c.loop.invariant.low r) a-in low);
}

pub returns : goal.returns
returns c =
    let long = library_length c.args.library.now c.requires.library in
    own_of c.args.classes.now c.loop.filling c.loop.invariant.filling
    (λ a a-in.
    let most = c.requires.ranks.most a a-in in
    c.loop.invariant.low c.requires.ranks a a-in
    (omega (arith, long, most, c.len.ensures, c.len-2.ensures, c.loop-test.false)))
