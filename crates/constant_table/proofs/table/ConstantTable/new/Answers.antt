-- Answers of `ConstantTable::new`: what its calls ask for, and what it promises.
use Rattle.std.proofs.Common.{List, ℕ, [], sym, subst}
use Rattle.constant_table.specs.declared.key.Key.{Key}
use Rattle.constant_table.specs.bodies.Keys.{AreKeysOf}
use Rattle.constant_table.proofs.Placed.{no_keys}
use Rattle.constant_table.proofs.table.ConstantTable.new.Goals as goal

pub invariant_of-result : goal.invariant_of-result
invariant_of-result c =
    subst (λ (texts : List (List ℕ)). AreKeysOf texts c.new-2.result) (sym c.new.ensures)
    (subst (λ (keys : List Key). AreKeysOf [] keys) (sym c.new-2.ensures) no_keys)
