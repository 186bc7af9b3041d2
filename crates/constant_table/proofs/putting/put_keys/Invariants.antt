use Rattle.std.proofs.Common.{◌≡◌, map, drop}
use Rattle.indexmap.specs.IndexSet.{insert_all}
use Rattle.class_model.specs.CanonicalPool.{same}
use Rattle.constant_table.specs.bodies.Keys.{AreKeysOf, constant_of, constants_of}
use Rattle.constant_table.proofs.putting.put_keys.Given as goal

abbrev pub invariant-loop-key : goal.invariant-loop-key
invariant-loop-key l =
    AreKeysOf l.texts l.keys
    × (insert_all same (constants_of l.texts l.keys) (map (constant_of l.texts) (drop l.key-index l.wanted))
    ≡ insert_all same (constants_of l.texts l.initial.keys) (map (constant_of l.texts) l.wanted))
