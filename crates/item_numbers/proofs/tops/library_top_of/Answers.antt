-- Answers of `library_top_of`: what its calls ask for, and what it promises.
use Rattle.std.proofs.Common.{arith}
use Rattle.class_pool.specs.Walk.{own_superinterfaces}
use Rattle.class_pool.specs.declared.id.ClassId.TheVariants.{Prog}
use Rattle.item_numbers.proofs.Looking.{library_top_above, own_empty}
use Rattle.item_numbers.proofs.tops.library_top_of.Goals as goal

pub returns-then-is_empty : goal.returns-then-is_empty
returns-then-is_empty c =
    library_top_above c.args.set.now c.has_ranks.ensures c.args.tops.now c.args.number c.in-Some.above
    c.superclass_number.result (omega (arith, c.len-count.ensures)) c.requires.there c.requires.tops
    c.superclass_number.ensures c.in-Some.is
    (own_empty (own_superinterfaces c.args.set.now (Prog c.args.number)) c.own_superinterfaces.result.now
    c.is_empty.result c.own_superinterfaces.ensures.are c.is_empty.ensures c.if-is_empty.true)
