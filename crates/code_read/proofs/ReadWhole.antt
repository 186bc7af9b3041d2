-- What the decoder gives is what the reading of a code gives.
use Rattle.std.proofs.Common.{◌≡◌, ℕ, List, length, Result, Ok, Err, refl, ap, ◌∙◌, arith}
use Rattle.jv_base.specs.Outcome.{◌>>=◌}
use Rattle.jv_base.specs.Place.{Place, start}
use Rattle.format_reading.specs.declared.fault.FormatFault.{FormatFault}
use Rattle.format_reading.proofs.Exact.{IsBytes}
use Rattle.class_model.specs.declared.pool.Entry.{Entry}
use Rattle.class_model.specs.declared.op.Op.{Op}
use Rattle.class_model.specs.InstructionStructure.{Info, starts_of as begun_at}
use Rattle.class_model.specs.InstructionMeaning.{aim_at}
use Rattle.class_model.specs.ReadingCode.{CodeRead, instructions, has_left_out, without_place, until_end, code_read}
use Rattle.class_model.specs.ReadingCode.{ops_of}
use Rattle.code_read.specs.declared.decoding.Decoded.{Decoded}
use Rattle.code_read.specs.declared.fault.CodeFault.{CodeFault}
use Rattle.code_read.specs.declared.unaimed.Placed.{Placed}
use Rattle.code_read.specs.Decoding.{placed_to_end}
use Rattle.code_read.specs.Targets.{collected, placed_aimed}
use Rattle.code_read.specs.Decoded.{all_decoded, decoded, with_starts, as_decoded, code_decoded}
use Rattle.code_read.proofs.ReadToEnd.{told_target, Matches, Agrees, all_agree}

-- with the starts of the instructions
starts_told : (infos : List Info) (r : Result (List Op) FormatFault)
    → (told_target r >>=
    (λ ops. let R : Result Decoded CodeFault = Ok (record { ops = ops; starts = begun_at infos }) in R))
    ≡ with_starts infos r
starts_told infos (Ok ops) = refl
starts_told infos (Err f) = refl

-- instructions with their targets
targets_told : (pool : List Entry) (infos : List Info) (placed : List Placed) → Matches pool 0 infos placed
    → all_decoded placed ≡ with_starts infos (ops_of pool 0 infos)
targets_told pool infos placed m =
    ap (λ (starts : List ℕ). collected (placed_aimed (aim_at starts)) placed >>=
    (λ ops. let R : Result Decoded CodeFault = Ok (record { ops = ops; starts = starts }) in R)) m.starts
    ∙ ap (λ (r : Result (List Op) CodeFault). r >>=
    (λ ops. let R : Result Decoded CodeFault = Ok (record { ops = ops; starts = begun_at infos }) in R))
    (m.alike (aim_at (begun_at infos)))
    ∙ starts_told infos (ops_of pool 0 infos)

-- what agrees is decoded alike
decoded_alike : (pool : List Entry) (r : Result (CodeRead × Place) FormatFault) (s : Result (List Placed) CodeFault)
    → Agrees pool 0 r s → (s >>= all_decoded) ≡ as_decoded pool (without_place r)
decoded_alike pool (Ok (instructions infos, q)) s a = ap (λ (t : Result (List Placed) CodeFault). t >>= all_decoded) a.1
    ∙ targets_told pool infos a.0 a.2
decoded_alike pool (Ok (has_left_out offset opcode, q)) s a = ap
    (λ (t : Result (List Placed) CodeFault). t >>= all_decoded) a
decoded_alike pool (Err f) s a = ap (λ (t : Result (List Placed) CodeFault). t >>= all_decoded) a

-- the decoder gives what the reading of the code and its targets give
pub decoded_is : (pool : List Entry) (bytes : List ℕ) → IsBytes bytes → decoded pool bytes ≡ code_decoded pool bytes
unfolding decoded code_read code_decoded
decoded_is pool bytes fits =
    decoded_alike pool (until_end (length bytes) pool 0 (length bytes) (start bytes))
    (placed_to_end (length bytes) pool (start bytes))
    (all_agree (length bytes) pool bytes (start bytes) fits (record { bytes = refl; within = omega arith })
    (omega arith))
