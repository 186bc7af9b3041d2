-- Answers of `ClassesByName::class`: what its calls ask for, and what it promises.
use Rattle.std.proofs.Common.{arith}
use Rattle.class_pool.proofs.Counting.{members_counted}
use Rattle.class_pool.proofs.set.lookup.ClassesByName.class.Goals as goal

pub returns-clause-few : goal.returns-clause-few
returns-clause-few c =
    let few = members_counted c.self.inside.classes c.args.id c.index.result.now c.index.ensures in
    omega (arith, few, c.self.invariant.1)
