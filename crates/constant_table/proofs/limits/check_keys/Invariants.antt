use Rattle.std.proofs.Common.{◌≡◌, map, drop}
use Rattle.class_model.specs.WriteLimits.{first_of, text_fits}
use Rattle.constant_table.specs.bodies.Keys.{constant_of}
use Rattle.constant_table.proofs.limits.check_keys.Given as goal

abbrev pub invariant-loop-key : goal.invariant-loop-key
invariant-loop-key l =
    first_of text_fits (map (constant_of l.texts) (drop l.key-index l.keys))
    ≡ first_of text_fits (map (constant_of l.texts) l.keys)
