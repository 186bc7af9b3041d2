-- Codes with the places of their instructions, and what the writing of a code rests on
-- (JVMS 4.7.3; only the proof of write_class needs it).
use Rattle.std.specs.Prelude.{◌<◌, List, length, map, Option, Some, None, IfSome, Result, Ok}
use Rattle.std.specs.List.{AllByRecursion}
use Rattle.jv_base.specs.Outcome.{◌>>=◌}
use Rattle.class_model.specs.declared.limit.WriteLimit.{WriteLimit}
use Rattle.class_model.specs.declared.code.Code.{Code}
use Rattle.class_model.specs.declared.code.Ins.{Ins}
use Rattle.class_model.specs.declared.class.Method.{Method}
use Rattle.class_model.specs.declared.constant.PoolConstant.{PoolConstant}
use Rattle.class_model.specs.CanonicalCode.{places, code_bytes}
use Rattle.class_model.specs.WellFormed.{IsGoodCode, HasFewWords}
use Rattle.class_model.specs.WriteLimits.{first_of, code_fits}
use Rattle.class_write.specs.declared.placing.PlacedCode.{PlacedCode}

-- the bytes of a code, and its places
abbrev pub placed_code : List PoolConstant → Code → PlacedCode
placed_code pool code = record {
  bytes = code_bytes pool
      (places pool code.ins) code.ins;
  places = places pool code.ins;
}

-- of a method that has a code
abbrev pub placed_body : List PoolConstant → Option Code → Option PlacedCode
placed_body pool (Some code) = Some (placed_code pool code)
placed_body pool None = None

-- it isn't too long and none of its branches too far, and then these are its bytes
abbrev pub code_due : List PoolConstant → Code → Result PlacedCode WriteLimit
code_due pool code = code_fits pool (Some code) >>= (λ fits. Ok (placed_code pool code))

-- the same of a method's code, if it has one
abbrev pub body_due : List PoolConstant → Option Code → Result (Option PlacedCode) WriteLimit
body_due pool code = code_fits pool code >>= (λ fits. Ok (placed_body pool code))

-- of each method
abbrev pub placed_bodies : List PoolConstant → List Method → List (Option PlacedCode)
placed_bodies pool methods = map (λ (m : Method). placed_body pool m.code) methods

-- the same of all methods, in their order
abbrev pub bodies_due : List PoolConstant → List Method → Result (List (Option PlacedCode)) WriteLimit
bodies_due pool methods = first_of (λ (m : Method). code_fits pool m.code) methods >>=
    (λ fits. Ok (placed_bodies pool methods))

-- a well-formed code, its instructions counted by a number of four bytes and the words of each invokeinterface by one
pub record IsWritable (code : Code) : Type 0 where
  pub good : IsGoodCode code
  pub few_words : AllByRecursion (λ (i : Ins). HasFewWords i.op) code.ins
  pub count : length code.ins < 4294967295

-- the method's code, where there is one
abbrev pub HasWritable : Method → Type 0
HasWritable m = IfSome m.code IsWritable
