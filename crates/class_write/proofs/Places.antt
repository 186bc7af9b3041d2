-- The index of a constant is at most the one behind the last.
use Rattle.std.proofs.Common.{List, ◌≤◌, ◌+◌, length, arith}
use Rattle.std.specs.List.{position_or_len}
use Rattle.std.proofs.lemmas.List.Sums.{prefix_len-le-length}
use Rattle.class_model.specs.declared.class.Constant.{Constant}
use Rattle.class_model.specs.declared.class.Constant.TheVariants.{Int, Long, Text}
use Rattle.class_model.specs.declared.constant.PoolConstant.{PoolConstant}
use Rattle.class_model.specs.declared.constant.PoolConstant.TheVariants as constant
use Rattle.class_model.specs.CanonicalPool.{same, index_of}
use Rattle.class_model.specs.CanonicalClass.{value_index}

pub index_within : (pool : List PoolConstant) (k : PoolConstant) → index_of pool k ≤ 1 + length pool
index_within pool k =
    let within : position_or_len (same k) pool ≤ length pool = prefix_len-le-length _ pool in
    omega (arith, within)

pub value_within : (pool : List PoolConstant) (value : Constant) → value_index pool value ≤ 1 + length pool
value_within pool (Int n) = index_within pool (constant.Integer n)
value_within pool (Long n) = index_within pool (constant.Long n)
value_within pool (Text units) = index_within pool (constant.Str units)
