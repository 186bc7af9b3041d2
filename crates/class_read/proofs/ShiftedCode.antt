-- The instructions of a code that is a part of a text are those of the code alone.
use Rattle.std.proofs.Common.{◌≡◌, ℕ, zero, suc, ◌+◌, ◌-◌, Bool, true, false, cond, List, [], length, sym, ap}
use Rattle.std.proofs.Common.{◌∙◌, arith}
use Rattle.std.specs.Prelude.{nat_le}
use Rattle.std.proofs.lemmas.Bool.Decides.{nat_tests}
use Rattle.format_reading.specs.Reader.{FormatReader, bytes, bind, give, here}
use Rattle.class_model.specs.declared.pool.Entry.{Entry}
use Rattle.class_model.specs.ReadingCode.{Read, instruction, left_out, CodeRead, instructions, has_left_out, in_front}
use Rattle.class_model.specs.ReadingCode.{goes_on, read_instruction, until_end}
use Rattle.class_read.proofs.ShiftedReaders.{behind, read_behind, Shifts, bytes_shift, give_shifts, bind_shifts}
use Rattle.class_read.proofs.ShiftedInstructions.{instruction_shifts}
use Rattle.class_model.proofs.UntilLaw.{until_is}

module _ (front : List ℕ) (from n end : ℕ) (is : from ≡ length front) (ends : end ≡ from + n) where
  chosen_shift : {A : Type 0} (b : Bool) (r s t u : FormatReader A) → Shifts front r t → Shifts front s u
      → Shifts front (cond b r s) (cond b t u)
  chosen_shift true r s t u h k = h
  chosen_shift false r s t u h k = k

  -- behind an instruction that is left out the rest is passed over
  passes_shift : (offset opcode : ℕ) (r s : FormatReader CodeRead)
      → Shifts front (goes_on r offset n (left_out opcode)) (goes_on s offset end (left_out opcode))
  unfolding bind here
  passes_shift offset opcode r s p =
      let same : end - (length front + p.at) ≡ n - p.at = omega (arith, is, ends) in
      ap (λ (k : ℕ). bind (bytes k) (λ skipped. give (has_left_out offset opcode)) (behind front p)) same
      ∙ bind_shifts front (bytes (n - p.at)) (bytes (n - p.at)) _ _ (bytes_shift front (n - p.at))
      (λ skipped. give_shifts front (has_left_out offset opcode)) p

  goes_shift : (offset : ℕ) (r s : FormatReader CodeRead) (read : Read) → Shifts front r s
      → Shifts front (goes_on r offset n read) (goes_on s offset end read)
  goes_shift offset r s (instruction info) h = bind_shifts front r s _ _ h
      (λ others. give_shifts front (in_front info others))
  goes_shift offset r s (left_out opcode) h = passes_shift offset opcode r s

  -- the instructions up to the end
  pub until_shifts : (k : ℕ) (pool : List Entry) → Shifts front (until_end k pool 0 n) (until_end k pool from end)
  unfolding until_end
  until_shifts zero pool p = give_shifts front (instructions []) p
  until_shifts (suc k) pool p =
      let same : (length front + p.at) - from ≡ p.at - 0 = omega (arith, is) in
      let ended : nat_le end (length front + p.at) ≡ nat_le n p.at = grind (arith, nat_tests) in
      let one : FormatReader CodeRead = bind (read_instruction pool 0) (goes_on (until_end k pool 0 n) (p.at - 0) n) in
      let other : FormatReader CodeRead = bind (read_instruction pool from)
      (goes_on (until_end k pool from end) (p.at - 0) end) in
      until_is k pool from end (behind front p)
      ∙ ap (λ (o : ℕ). cond (nat_le end (length front + p.at)) (give (instructions []))
      (bind (read_instruction pool from) (goes_on (until_end k pool from end) o end)) (behind front p)) same
      ∙ ap (λ (b : Bool). cond b (give (instructions [])) other (behind front p)) ended
      ∙ chosen_shift (nat_le n p.at) (give (instructions [])) one (give (instructions [])) other
      (give_shifts front (instructions []))
      (bind_shifts front (read_instruction pool 0) (read_instruction pool from) _ _
      (instruction_shifts front pool from is)
      (λ read. goes_shift (p.at - 0) (until_end k pool 0 n) (until_end k pool from end) read
      (until_shifts k pool))) p
      ∙ ap (read_behind front) (sym (until_is k pool 0 n p))
