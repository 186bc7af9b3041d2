-- Of no keys nothing is asked.
use Rattle.std.proofs.Common.{[]}
use Rattle.std.specs.List.{IsDistinct}
use Rattle.constant_table.specs.bodies.Keys.{AreKeysOf}

-- there are none at first
pub no_keys : AreKeysOf [] []
unfolding IsDistinct
no_keys = record { distinct = tt; within = tt }
