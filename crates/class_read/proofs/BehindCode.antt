-- What stands behind a code whose instructions are all read: the targets first, and then the rest.
use Rattle.std.proofs.Common.{◌≡◌, ℕ, ◌+◌, List, [], ◌∷◌, length, Result, Ok, Err, refl, ap}
use Rattle.jv_base.specs.Place.{Place}
use Rattle.format_reading.specs.declared.fault.FormatFault.{FormatFault}
use Rattle.format_reading.specs.Reader.{bind, give, of_result}
use Rattle.class_model.specs.declared.pool.Entry.{Entry}
use Rattle.class_model.specs.declared.op.Op.{Op}
use Rattle.class_model.specs.declared.code.Ins.{Ins}
use Rattle.class_model.specs.declared.code.Handler.{Handler}
use Rattle.class_model.specs.declared.frame.VType.{VType}
use Rattle.class_model.specs.InstructionStructure.{Info, info_bytes, starts_from, starts_of}
use Rattle.class_model.specs.LineNumbers.{LineNumber, line_at}
use Rattle.class_model.specs.ReadingCode.{instructions, ops_of}
use Rattle.class_model.specs.ReadingCodeAttribute.{Body, CodeSeen, with_lines, code_of, behind_code, read_handlers}
use Rattle.class_read.specs.bodies.Lines.{lined}
use Rattle.class_read.specs.bodies.CodeAttributes.{code_with, behind_instructions}
use Rattle.class_read.proofs.CodeParts.{seen_behind}

-- each instruction has its line by where it begins
pub lines_same : (rows : List LineNumber) (at : ℕ) (infos : List Info) (ops : List Op)
    → with_lines rows at infos ops ≡ lined rows (starts_from at infos) ops
lines_same rows at [] ops = refl
lines_same rows at (info ∷ infos) [] = refl
lines_same rows at (info ∷ infos) (o ∷ ops) =
    ap (λ (others : List Ins). let ins : Ins = record { op = o; line = line_at rows at } in ins ∷ others)
    (lines_same rows (at + length (info_bytes info)) infos ops)

code_same : (max_stack max_locals : ℕ) (infos : List Info) (ops : List Op) (handlers : List Handler) (seen : CodeSeen)
    → code_of max_stack max_locals infos ops handlers seen
    ≡ code_with max_stack max_locals (starts_of infos) ops handlers seen
code_same max_stack max_locals infos ops handlers seen = rw (lines_same seen.lines 0 infos ops) refl

module _ (pool : List Entry) (first : List VType) (max_stack max_locals from end : ℕ) (infos : List Info) where
  -- what is made of the attributes that were seen
  seen_same : (ops : List Op) (handlers : List Handler) (q : Place) (seen : Result (CodeSeen × Place) FormatFault)
      → seen_behind pool first max_stack max_locals end (starts_of infos) ops q ≡ seen
      → bind (seen_behind pool first max_stack max_locals end (starts_of infos) ops)
      (λ s. give (code_of max_stack max_locals infos ops handlers s)) q
      ≡ bind (seen_behind pool first max_stack max_locals end (starts_of infos) ops)
      (λ s. give (code_with max_stack max_locals (starts_of infos) ops handlers s)) q
  unfolding bind give
  seen_same ops handlers q (Ok s) h = rw h
      (ap (λ (body : Body). let R : Result (Body × Place) FormatFault = Ok (body, s.1) in R)
      (code_same max_stack max_locals infos ops handlers s.0))
  seen_same ops handlers q (Err f) h = rw h refl

  -- the exception table and the attributes of such a code
  table_same : (ops : List Op) (p : Place) (table : Result (List Handler × Place) FormatFault)
      → read_handlers pool (starts_of infos) end p ≡ table
      → bind (read_handlers pool (starts_of infos) end)
      (λ handlers. bind (seen_behind pool first max_stack max_locals end (starts_of infos) ops)
      (λ s. give (code_of max_stack max_locals infos ops handlers s))) p
      ≡ behind_instructions pool first max_stack max_locals end (starts_of infos) ops p
  unfolding bind behind_instructions
  table_same ops p (Ok t) h = rw h (seen_same ops t.0 t.1 _ refl)
  table_same ops p (Err f) h = rw h refl

  -- the same where the instructions have their targets, or one has none
  told_same : (ops : Result (List Op) FormatFault) (p : Place)
      → bind (of_result ops) (λ os. bind (read_handlers pool (starts_of infos) end)
      (λ handlers. bind (seen_behind pool first max_stack max_locals end (starts_of infos) os)
      (λ s. give (code_of max_stack max_locals infos os handlers s)))) p
      ≡ bind (of_result ops) (λ os. behind_instructions pool first max_stack max_locals end (starts_of infos) os) p
  unfolding bind of_result
  told_same (Ok os) p = table_same os p _ refl
  told_same (Err f) p = refl

  -- what stands behind a code is, after its targets, what stands behind its instructions
  pub behind_code_is : (p : Place) → behind_code pool first max_stack max_locals from end (instructions infos) p
      ≡ bind (of_result (ops_of pool from infos))
      (λ ops. behind_instructions pool first max_stack max_locals end (starts_of infos) ops) p
  behind_code_is p = told_same (ops_of pool from infos) p
