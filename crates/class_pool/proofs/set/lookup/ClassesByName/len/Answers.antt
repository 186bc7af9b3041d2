-- Answers of `ClassesByName::len`: what its calls ask for, and what it promises.
use Rattle.std.proofs.Common.{arith}
use Rattle.class_pool.proofs.Counting.{classes_counted}
use Rattle.class_pool.proofs.set.lookup.ClassesByName.len.Goals as goal

pub overflow_cast-result : goal.overflow_cast-result
overflow_cast-result c =
    let few = classes_counted c.self.inside.classes in
    omega (arith, few, c.self.invariant.1, c.len.ensures)
