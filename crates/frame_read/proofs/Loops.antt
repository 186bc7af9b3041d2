-- Types of a row one behind the other, as a loop goes through them.
use Rattle.std.proofs.Common.{ℕ, List, ◌++◌, map, drop}
use Rattle.std.proofs.Common.{Option, Some, None}
use Rattle.class_model.specs.declared.pool.Entry.{Entry}
use Rattle.class_model.specs.declared.op.Op.{Op}
use Rattle.class_model.specs.declared.frame.VType.{VType}
use Rattle.class_model.specs.ReadingFrames.{types_of}
use Rattle.frame_read.specs.bodies.Rows.{info_of}
use Rattle.frame_read.specs.declared.row.TypeInfo.{TypeInfo}

-- ---- types that are written

-- what was found, before what is still to be
abbrev pub onto : {A : Type 0} → List A → Option (List A) → Option (List A)
onto front (Some xs) = Some (front ++ xs)
onto front None = None

module _ (pool : List Entry) (starts : List ℕ) (ops : List Op) where
  -- what is found of the types behind an index
  abbrev pub types_from : ℕ → List TypeInfo → Option (List VType)
  types_from i infos = types_of pool starts ops (map info_of (drop i infos))
