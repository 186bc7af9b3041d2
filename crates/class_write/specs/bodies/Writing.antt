-- What the writing of attributes and methods rests on, and what it leaves (only the proof of write_class needs it).
use Rattle.std.specs.Prelude.{◌≡◌, ℕ, ◌+◌, ◌^◌, ◌<◌, Bool, List, [], ◌++◌, length, map, None, IfSome, Result, Ok, Err}
use Rattle.std.specs.Prelude.{if◌then◌else◌}
use Rattle.std.specs.Int.{w16, w32, to_be_bytes}
use Rattle.std.specs.List.{flat_map}
use Rattle.jv_base.specs.declared.outcome.Or.{Or}
use Rattle.jv_base.specs.declared.outcome.Or.TheVariants.{Fault, OutOfMemory}
use Rattle.jv_base.specs.Outcome.{◌>>=◌}
use Rattle.class_model.specs.declared.limit.WriteLimit.{WriteLimit}
use Rattle.class_model.specs.declared.code.Code.{Code}
use Rattle.class_model.specs.declared.frame.VType.{VType}
use Rattle.class_model.specs.declared.class.Method.{Method}
use Rattle.class_model.specs.declared.constant.PoolConstant.{PoolConstant}
use Rattle.class_model.specs.Structure.{exception_info}
use Rattle.class_model.specs.CanonicalCode.{places, code_bytes}
use Rattle.class_model.specs.CanonicalClass.{line_rows, handler_raw, code_contents}
use Rattle.class_model.specs.WriteLimits.{body_length_fits}
use Rattle.class_write.specs.bodies.Placing.{IsWritable}

-- where no limit is passed, this text stands behind what stood there before; else this is the limit
abbrev pub Puts : Result (Unit {0}) (Or WriteLimit) → List ℕ → List ℕ → List ℕ → Result (Unit {0}) WriteLimit → Type 0
Puts (Ok done) old new text due = (due ≡ Ok tt) × (new ≡ old ++ text)
Puts (Err (Fault limit)) old new text due = due ≡ Err limit
Puts (Err OutOfMemory) old new text due = Unit {0}

-- an attribute with contents of this length, where it is written: its name and its length take six bytes (JVMS 4.7)
abbrev pub attribute_length : Bool → ℕ → ℕ
attribute_length written n = if written then 6 + n else 0

-- a writable code whose bytes and tables are counted by numbers of two bytes (JVMS 4.7.3, 4.7.4, 4.7.12)
pub record FitsTables (pool : List PoolConstant) (code : Code) : Type 0 where
  pub writable : IsWritable code
  pub code_length : length (code_bytes pool (places pool code.ins) code.ins) < 2 ^ 16
  pub handlers : length code.handlers < 2 ^ 16
  pub lines : length (line_rows None [] code.ins) < 2 ^ 16
  pub frames : length code.frames < 2 ^ 16

-- so has a method's, where there is one, and the classes of its Exceptions are so counted too (JVMS 4.7.5)
pub record HasFitting (pool : List PoolConstant) (m : Method) : Type 0 where
  pub body : IfSome m.code (FitsTables pool)
  pub throws : length m.throws < 2 ^ 16

-- what stands in front of the attributes in a Code
abbrev pub items_text : List PoolConstant → Code → List ℕ
items_text pool code = to_be_bytes w16 code.max_stack ++ (to_be_bytes w16 code.max_locals
    ++ (to_be_bytes w32 (length (code_bytes pool (places pool code.ins) code.ins)) ++
    (code_bytes pool (places pool code.ins) code.ins
    ++ (to_be_bytes w16 (length (map (handler_raw pool (places pool code.ins)) code.handlers))
    ++ flat_map exception_info (map (handler_raw pool (places pool code.ins)) code.handlers)))))

-- the contents of the attribute Code, if their length fits four bytes
abbrev pub contents_due : List PoolConstant → List VType → Code → Result (List ℕ) WriteLimit
contents_due pool first code = body_length_fits (length (code_contents pool first code)) >>=
    (λ fits. Ok (code_contents pool first code))
