use Rattle.std.proofs.Common.{◌≡◌, map, take}
use Rattle.class_pool.specs.bodies.ByName.{Key}
use Rattle.class_pool.specs.bodies.Notes.{number_in}
use Rattle.class_pool.proofs.set.notes.own_numbers.Given as goal

abbrev pub invariant-loop-key : goal.invariant-loop-key
invariant-loop-key l =
    l.numbers ≡ map (λ (key : Key). number_in l.keys (key.0, key.1.0)) (take l.key-index l.own)
