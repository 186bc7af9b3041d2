-- What a method of the code sees and does, as one of the machine (Java SE 8 API).
use Rattle.std.specs.Prelude.{◌≡◌, ℕ, Bool, true, false, List, [], ◌∷◌, ◌++◌, Option, Some, None, Result, IfOk, map}
use Rattle.std.specs.Option.{option_map}
use Rattle.jv_base.specs.declared.outcome.OutOfMemory.{OutOfMemory}
use Rattle.jvm_model.specs.Library.{Act as Done, Row as Method, Seen as Operand, act}
use Rattle.jvm_model.specs.Library as method
use Rattle.jvm_model.specs.Value.{Ref}
use Rattle.run_library.specs.Rows.{exception_of}
use Rattle.run_library.specs.declared.seen.Act.{Act}
use Rattle.run_library.specs.declared.seen.Act.TheVariants as doing
use Rattle.run_library.specs.declared.seen.Seen.{Seen}
use Rattle.run_library.specs.declared.seen.Seen.TheVariants as seen

-- an operand
abbrev pub operand_of : Seen → Operand
operand_of seen.Null = method.ANull
operand_of (seen.Int z) = method.AnInt z
operand_of (seen.Long z) = method.ALong z
operand_of (seen.Text r units) = method.AString r.now units.now
operand_of (seen.Builder n units) = method.ABuilder n units.now
operand_of (seen.Instance n message cause) = method.AnInstance n message.now cause.now
operand_of (seen.Array n) = method.AnArray n

-- units are appended to the first operand, which is returned, where it is a StringBuilder
abbrev pub appended : List Operand → List ℕ → Done
appended (method.ABuilder n us ∷ xs) units = method.SetsBuilder n (us ++ units) (Some (Ref n))
appended _ units = method.NoAct

-- what is done with these operands
abbrev pub done_of : List Operand → Act → Done
done_of operands (doing.Returns v) = method.Returns v
done_of operands (doing.MakesText units) = method.MakesString units
done_of operands (doing.SetsBuilder n units) = method.SetsBuilder n units None
done_of operands (doing.Appends units) = appended operands units
done_of operands (doing.SetsThrown n message cause) = method.SetsThrown n message cause
done_of operands (doing.Writes units) = method.Writes units
done_of operands (doing.Throws e) = method.Throws (exception_of e)
done_of operands doing.NoAct = method.NoAct

-- it does what a method does with these operands
abbrev pub Acts : Act → Method → List Seen → Type 0
Acts result m operands = done_of (map operand_of operands) result ≡ act m (map operand_of operands)

-- the same, unless memory was wanting
abbrev pub ActsAs : Result Act OutOfMemory → Method → List Seen → Type 0
ActsAs result m operands = IfOk result (λ a. Acts a m operands)

-- it does this, whatever the operands are
abbrev pub IsDone : Act → Done → Type 0
IsDone result due = (operands : List Operand) → done_of operands result ≡ due

-- the same, unless memory was wanting
abbrev pub IsDoneSo : Result Act OutOfMemory → Done → Type 0
IsDoneSo result due = IfOk result (λ a. IsDone a due)

-- what is told was appended to the units before, where anything is told
abbrev pub Tells : Bool → (told : Option (List ℕ)) → (before after : List ℕ) → Type 0
Tells false told before after = told ≡ None
Tells true told before after = option_map (λ us. before ++ us) told ≡ Some after
