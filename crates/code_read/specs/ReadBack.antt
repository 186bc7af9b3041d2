-- The law that canonical bytes are read back (the project's own: what is written can be read).
use Rattle.std.specs.Prelude.{◌≡◌, List, length, map, take, Ok}
use Rattle.class_model.specs.declared.pool.Entry.{Entry}
use Rattle.class_model.specs.declared.constant.PoolConstant.{PoolConstant}
use Rattle.class_model.specs.declared.code.Ins.{Ins}
use Rattle.class_model.specs.CanonicalCode.{places, code_bytes}
use Rattle.class_model.specs.WritableCode.{IsWritableCode}
use Rattle.code_read.specs.Decoded.{code_decoded}

-- the canonical bytes of a code are decoded as its instructions, which begin at all of their places but the last
abbrev pub CanonicalIsDecoded : Type 0
CanonicalIsDecoded = (entries : List Entry) (pool : List PoolConstant) (ins : List Ins)
    → IsWritableCode entries pool ins
    → code_decoded entries (code_bytes pool (places pool ins) ins)
    ≡ Ok (record { ops = map (λ (i : Ins). i.op) ins; starts = take (length ins) (places pool ins) })
