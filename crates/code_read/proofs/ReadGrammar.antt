-- What is decoded is exactly what the bytes of the code stand for.
use Rattle.std.proofs.Common.{◌≡◌, ℕ, List, subst, Result, Ok, Err, refl, sym, ap, ◌∙◌}
use Rattle.jv_base.proofs.Results.{same_fault}
use Rattle.format_reading.specs.declared.fault.FormatFault.{FormatFault}
use Rattle.format_reading.specs.declared.fault.FormatKind.{FormatKind}
use Rattle.format_reading.specs.declared.fault.FormatKind.TheVariants as bad
use Rattle.format_reading.proofs.Exact.{IsBytes}
use Rattle.class_model.specs.declared.pool.Entry.{Entry}
use Rattle.class_model.specs.declared.op.Op.{Op}
use Rattle.class_model.specs.InstructionStructure.{Info, starts_of}
use Rattle.class_model.specs.ReadingCode.{CodeRead, instructions, has_left_out, code_read, ops_of}
use Rattle.class_model.proofs.NameLaw.{HaveUnits}
use Rattle.class_model.proofs.CodeLaw.{code_found, code_only}
use Rattle.class_model.proofs.LeftOutLaw.{left_code_found}
use Rattle.code_read.specs.declared.decoding.Decoded.{Decoded}
use Rattle.code_read.specs.declared.fault.CodeFault.{CodeFault}
use Rattle.code_read.specs.declared.fault.CodeFault.TheVariants as code
use Rattle.code_read.specs.Fault.{code_fault, wrong_of}
use Rattle.code_read.specs.Decoded.{with_starts, as_decoded, code_decoded, IsDecoded, ToldLeftOut}

-- instructions whose targets were found
abbrev Found : List Entry → List Info → Decoded → Type 0
Found pool infos d = (ops_of pool 0 infos ≡ Ok d.ops) × (d.starts ≡ starts_of infos)

with_ok : (pool : List Entry) (infos : List Info) (r : Result (List Op) FormatFault) (d : Decoded)
    → ops_of pool 0 infos ≡ r → with_starts infos r ≡ Ok d → Found pool infos d
with_ok pool infos (Ok ops) d e h =
    let is : (let D : Decoded = record { ops = ops; starts = starts_of infos } in D) ≡ d = cc in (
      e ∙ ap (λ (x : Decoded). let R : Result (List Op) FormatFault = Ok x.ops in R) is,
      sym
          (ap (λ (x : Decoded). x.starts) is),
    )
with_ok pool infos (Err f) d e h = absurd cc

read_ok : (pool : List Entry) (bytes : List ℕ) (r : Result CodeRead FormatFault) (d : Decoded) → IsBytes bytes
    → HaveUnits pool → code_read pool bytes ≡ r → as_decoded pool r ≡ Ok d → IsDecoded pool bytes d
read_ok pool bytes (Ok (instructions infos)) d fits fit e h =
    let w = with_ok pool infos (ops_of pool 0 infos) d refl h in
    let t = code_found pool bytes 0 infos d.ops fits fit e w.0 in
    (infos, t.0, w.1, t.1)
read_ok pool bytes (Ok (has_left_out offset opcode)) d fits fit e h = absurd cc
read_ok pool bytes (Err f) d fits fit e h = absurd cc

-- what is decoded, the bytes stand for
pub decoded_found : (pool : List Entry) (bytes : List ℕ) (d : Decoded) → IsBytes bytes → HaveUnits pool
    → code_decoded pool bytes ≡ Ok d → IsDecoded pool bytes d
unfolding code_decoded
decoded_found pool bytes d fits fit h = read_ok pool bytes (code_read pool bytes) d fits fit refl h

-- what the bytes stand for, is decoded
pub decoded_only : (pool : List Entry) (bytes : List ℕ) (d : Decoded) → IsDecoded pool bytes d
    → code_decoded pool bytes ≡ Ok d
unfolding code_decoded
decoded_only pool bytes d h =
    let c = code_only pool bytes 0 h.0 d.ops (h.1, h.3) in
    ap (as_decoded pool) c.0 ∙ ap (with_starts h.0) c.1
    ∙ ap (λ (s : List ℕ). let R : Result Decoded CodeFault = Ok (record { ops = d.ops; starts = s }) in R) (sym h.2)

-- ---- what is left out

other_fault : (pool : List Entry) (bytes : List ℕ) (offset : ℕ) (kind : FormatKind)
    → ToldLeftOut pool bytes (code_fault offset (wrong_of kind))
other_fault pool bytes offset bad.BadOpcode = tt
other_fault pool bytes offset bad.BadOperand = tt
other_fault pool bytes offset _ = tt

target_fault : (pool : List Entry) (bytes : List ℕ) (infos : List Info) (r : Result (List Op) FormatFault)
    (f : CodeFault) → with_starts infos r ≡ Err f → ToldLeftOut pool bytes f
target_fault pool bytes infos (Ok ops) f h = absurd cc
target_fault pool bytes infos (Err g) f h = subst (λ (x : CodeFault). ToldLeftOut pool bytes x)
    (same_fault (code.BadTarget g.offset) f h) tt

left_by : (pool : List Entry) (bytes : List ℕ) (r : Result CodeRead FormatFault) (f : CodeFault) → IsBytes bytes
    → HaveUnits pool → code_read pool bytes ≡ r → as_decoded pool r ≡ Err f → ToldLeftOut pool bytes f
left_by pool bytes (Ok (instructions infos)) f fits fit e h = target_fault pool bytes infos (ops_of pool 0 infos) f h
left_by pool bytes (Ok (has_left_out offset opcode)) f fits fit e h =
    subst (λ (x : CodeFault). ToldLeftOut pool bytes x) (same_fault (code.LeftOutOpcode offset opcode) f h)
    (left_code_found pool bytes offset opcode fits fit e)
left_by pool bytes (Err g) f fits fit e h = subst (λ (x : CodeFault). ToldLeftOut pool bytes x)
    (same_fault (code_fault g.offset (wrong_of g.kind)) f h) (other_fault pool bytes g.offset g.kind)

-- what is told as left out is so
pub decoded_left : (pool : List Entry) (bytes : List ℕ) (f : CodeFault) → IsBytes bytes → HaveUnits pool
    → code_decoded pool bytes ≡ Err f → ToldLeftOut pool bytes f
unfolding code_decoded
decoded_left pool bytes f fits fit h = left_by pool bytes (code_read pool bytes) f fits fit refl h
