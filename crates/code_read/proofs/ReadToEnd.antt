-- The decoder goes through a code as the reading of it does.
use Rattle.std.proofs.Common.{◌≡◌, inl, inr, ℕ, zero, suc, ◌+◌, ◌-◌, ◌<◌, ◌≤◌, Bool, true, false, eqb, ltb, List, []}
use Rattle.std.proofs.Common.{◌∷◌, length, Result, Ok, Err, refl, sym, ap, subst, ◌∙◌, arith}
use Rattle.std.specs.Prelude.{ℤ, nat_le, slice_range}
use Rattle.std.proofs.lemmas.Bool.{cases_lt, eq-eqb, eqb-true, le-ltb}
use Rattle.std.proofs.lemmas.Bool.Decides.{nat_tests}
use Rattle.std.proofs.lemmas.List.{length-append, length-drop}
use Rattle.jv_base.specs.Place.{Place, after}
use Rattle.format_reading.specs.Fault.{fault}
use Rattle.format_reading.specs.Reader.{bind, give, here, bytes, after_read, lead, u1}
use Rattle.format_reading.specs.declared.fault.FormatFault.{FormatFault}
use Rattle.format_reading.specs.declared.fault.FormatKind.{FormatKind}
use Rattle.format_reading.proofs.Exact.{Takes, IsBytes, left}
use Rattle.class_model.specs.declared.pool.Entry.{Entry}
use Rattle.class_model.specs.declared.op.Op.{Op}
use Rattle.class_model.specs.InstructionStructure.{Info, info_bytes, starts_from}
use Rattle.class_model.specs.InstructionMeaning.{op_of}
use Rattle.class_model.specs.ReadingCode.{Read, instruction, left_out, CodeRead, instructions, has_left_out, in_front}
use Rattle.class_model.specs.ReadingCode.{goes_on, until_end, read_instruction, begun, in_code, at_instruction, op_then}
use Rattle.class_model.specs.ReadingCode.{ops_from}
use Rattle.class_model.proofs.BackSizes.{info_is_there}
use Rattle.class_model.proofs.InstructionRead.{IsRight, read_found}
use Rattle.class_model.proofs.UntilLaw.{kept_is}
use Rattle.code_read.specs.declared.fault.CodeFault.{CodeFault}
use Rattle.code_read.specs.declared.fault.CodeFault.TheVariants as code
use Rattle.code_read.specs.declared.unaimed.Placed.{Placed}
use Rattle.code_read.specs.declared.unaimed.Unaimed.{Unaimed}
use Rattle.code_read.specs.Fault.{code_fault, wrong_of}
use Rattle.code_read.specs.Meaning.{meaning_of_read}
use Rattle.code_read.specs.Decoding.{at_offset, placed_at, placed_to_end, after_first, in_front as before_list}
use Rattle.code_read.specs.Targets.{with_first, collected, placed_aimed, op_aimed, or_bad_target, starts_of}
use Rattle.code_read.proofs.ReadMeant.{right_meant}

-- ---- what agrees

-- of a fault of a target its offset counts
abbrev pub told_target : Result (List Op) FormatFault → Result (List Op) CodeFault
told_target (Ok ops) = Ok ops
told_target (Err f) = Err (code.BadTarget f.offset)

-- these are the instructions, each at its offset, and their targets lead to the same
pub record Matches (pool : List Entry) (at : ℕ) (infos : List Info) (placed : List Placed) : Type 0 where
  pub starts : starts_of placed ≡ starts_from at infos
  pub alike : (aim : ℤ → Result ℕ FormatKind)
      → collected (placed_aimed aim) placed ≡ told_target (ops_from aim pool 0 at infos)

-- what the decoder has gone through is what was read from an offset on
abbrev pub Agrees : List Entry → ℕ → Result (CodeRead × Place) FormatFault → Result (List Placed) CodeFault → Type 0
Agrees pool at (Ok (instructions infos, q)) through = (placed : List Placed) × (through ≡ Ok placed)
    × Matches pool at infos placed
Agrees pool at (Ok (has_left_out offset opcode, q)) through = through ≡ Err (code.LeftOutOpcode offset opcode)
Agrees pool at (Err f) through = through ≡ Err (code_fault f.offset (wrong_of f.kind))

-- ---- one instruction

-- a target before others
first_told : (at : ℕ) (r : Result Op FormatKind) (s : Result (List Op) FormatFault)
    → with_first (or_bad_target at r) (told_target s) ≡ told_target (op_then (0 + at) r s)
first_told at (Ok o) (Ok os) = refl
first_told at (Ok o) (Err f) = refl
first_told at (Err kind) s = ap (λ (o : ℕ). let R : Result (List Op) CodeFault = Err (code.BadTarget o) in R)
    (let e : at ≡ 0 + at = omega arith in e)

-- an instruction before others
matches_more : (pool : List Entry) (at : ℕ) (info : Info) (infos : List Info) (u : Unaimed) (placed : List Placed)
    → ((aim : ℤ → Result ℕ FormatKind)
    → or_bad_target at (op_aimed aim at u) ≡ or_bad_target at (op_of aim pool at info))
    → Matches pool (at + length (info_bytes info)) infos placed
    → Matches pool at (info ∷ infos) (record { at = at; op = u } ∷ placed)
unfolding collected ops_from
matches_more pool at info infos u placed one m = record {
  starts = ap (λ (s : List ℕ). at ∷ s) m.starts;
  alike = λ aim.
      ap (λ (r : Result Op CodeFault). with_first r (collected (placed_aimed aim) placed)) (one aim)
      ∙ ap (λ (s : Result (List Op) CodeFault). with_first (or_bad_target at (op_of aim pool at info)) s) (m.alike aim)
      ∙ first_told at (op_of aim pool at info) (ops_from aim pool 0 (at + length (info_bytes info)) infos);
}

-- an instruction before what agrees
agrees_more : (pool : List Entry) (at next : ℕ) (info : Info) (u : Unaimed) (r : Result (CodeRead × Place) FormatFault)
    (s : Result (List Placed) CodeFault)
    → ((aim : ℤ → Result ℕ FormatKind)
    → or_bad_target at (op_aimed aim at u) ≡ or_bad_target at (op_of aim pool at info))
    → Agrees pool (at + length (info_bytes info)) r s
    → Agrees pool at (after_read next (λ behind. Ok (give (in_front info behind))) r)
    (before_list (record { at = at; op = u } ∷ []) s)
unfolding give
agrees_more pool at next info u (Ok (instructions infos, q)) s one a = (
  record { at = at; op = u } ∷ a.0,
  ap
      (before_list (record { at = at; op = u } ∷ [])) a.1,
  matches_more pool at info infos u a.0 one a.2,
)
agrees_more pool at next info u (Ok (has_left_out offset opcode, q)) s one a = ap
    (before_list (record { at = at; op = u } ∷ [])) a
agrees_more pool at next info u (Err f) s one a = ap (before_list (record { at = at; op = u } ∷ [])) a

-- a fault of an instruction is at its first byte
fault_at : (at : ℕ) (r : Result (Read × Place) FormatFault) (f : FormatFault) → at_instruction at r ≡ Err f
    → f.offset ≡ at
fault_at at (Ok x) f h = absurd cc
fault_at at (Err e) f h = let is : fault at (in_code e.kind) ≡ f = cc in sym (ap (λ (g : FormatFault). g.offset) is)

fault_is : (pool : List Entry) (from : ℕ) (p : Place) (f : FormatFault) → read_instruction pool from p ≡ Err f
    → f.offset ≡ p.at
unfolding read_instruction
fault_is pool from p f h = fault_at p.at (lead u1 (begun pool (p.at - from)) p) f h

-- ---- all of them

-- the rest of the bytes can be passed over
pub passed_over : (length_of : ℕ) (q : Place) → length q.bytes ≡ length_of
    → (x : List ℕ) × (z : Place) × (bytes (length_of - q.at) q ≡ Ok (x, z))
unfolding bytes
passed_over end q is =
    let there : ltb (length q.bytes - q.at) (end - q.at) ≡ false = le-ltb _ _ (omega (arith, is)) in
    (slice_range q.bytes q.at (q.at + (end - q.at)), after (end - q.at) q, rw there refl)

-- a place of a code
pub record IsPlace (whole : List ℕ) (p : Place) : Type 0 where
  pub bytes : p.bytes ≡ whole
  pub within : p.at ≤ length whole

-- the place behind a text that was taken
pub place_behind : (whole : List ℕ) (p q : Place) (text : List ℕ) → IsPlace whole p → Takes p text q
    → IsPlace whole q × (q.at ≡ p.at + length text)
place_behind whole p q text is t =
    let same : q.bytes ≡ whole = ap (λ (z : Place). z.bytes) t.moved ∙ is.bytes in
    let moved : q.at ≡ p.at + length text = ap (λ (z : Place). z.at) t.moved in
    let w = is.within in (
      record {
        bytes = same;
        within = omega (
          arith,
          w,
          moved,
          ap length t.parts,
          length-append text
              (left q),
          length-drop p.at p.bytes,
          length-drop q.at q.bytes,
          ap length same,
          ap length is.bytes,
        );
      },
      moved,
    )

-- at the end
at_end : (n : ℕ) (pool : List Entry) (whole : List ℕ) (p : Place) → IsPlace whole p → length whole ≤ p.at
    → Agrees pool p.at (until_end (suc n) pool 0 (length whole) p) (placed_to_end (suc n) pool p)
unfolding until_end placed_to_end bind here give collected ops_from
at_end n pool whole p is le =
    let w = is.within in
    let end : nat_le (length whole) p.at ≡ true = grind (arith, nat_tests) in
    let same : eqb p.at (length p.bytes) ≡ true = eq-eqb _ _ (omega (arith, w, le, ap length is.bytes)) in
    rw (end, same) ([], refl, record { starts = refl; alike = λ aim. refl })

-- two numbers that are not the same
apart_false : (m n : ℕ) (b : Bool) → eqb m n ≡ b → (m ≡ n → ⊥) → b ≡ false
apart_false m n true is apart = absurd (apart (eqb-true m n is))
apart_false m n false is apart = refl

-- before the end
until_is : (n : ℕ) (pool : List Entry) (whole : List ℕ) (p : Place) → p.at < length whole
    → until_end (suc n) pool 0 (length whole) p
    ≡ after_read p.at (λ x. Ok (goes_on (until_end n pool 0 (length whole)) (p.at - 0) (length whole) x))
    (read_instruction pool 0 p)
unfolding until_end bind here
until_is n pool whole p lt = let inside : nat_le (length whole) p.at
    ≡ false = grind (arith, nat_tests) in rw inside refl

placed_is : (n : ℕ) (pool : List Entry) (whole : List ℕ) (p : Place) → IsPlace whole p → p.at < length whole
    → placed_to_end (suc n) pool p
    ≡ after_first (at_offset p.at (meaning_of_read pool (read_instruction pool 0 p))) (placed_to_end n pool)
unfolding placed_to_end placed_at
placed_is n pool whole p is lt =
    let apart : p.at ≡ length p.bytes → ⊥ = λ e. omega (arith, e, lt, ap length is.bytes) in
    let inside : eqb p.at (length p.bytes)
    ≡ false = apart_false p.at (length p.bytes) (eqb p.at (length p.bytes)) refl apart in
    rw inside refl

-- one behind what was read
step : (n : ℕ) (pool : List Entry) (whole : List ℕ) (p : Place) (r : Result (Read × Place) FormatFault) → IsBytes whole
    → IsPlace whole p → p.at < length whole → length whole - p.at ≤ suc n → read_instruction pool 0 p ≡ r
    → ((q : Place) → IsPlace whole q → length whole - q.at ≤ n
    → Agrees pool q.at (until_end n pool 0 (length whole) q) (placed_to_end n pool q))
    → Agrees pool p.at (after_read p.at (λ x. Ok (goes_on (until_end n pool 0 (length whole)) (p.at - 0)
    (length whole) x)) r) (after_first (at_offset p.at (meaning_of_read pool r)) (placed_to_end n pool))
unfolding bind here give
step n pool whole p (Err f) fits is lt enough e others = ap
    (λ (o : ℕ). let R : Result (List Placed) CodeFault = Err (code_fault o (wrong_of f.kind)) in R)
    (sym (fault_is pool 0 p f e))
step n pool whole p (Ok (left_out c, q)) fits is lt enough e others =
    let f = read_found pool 0 p (left_out c) q (subst (λ (b : List ℕ). IsBytes b) (sym is.bytes) fits) e in
    let b = place_behind whole p q f.0 is f.2 in
    let passed = passed_over (length whole) q (ap length b.0.bytes) in
    let same : p.at - 0 ≡ p.at = omega arith in
    rw (passed.2) (ap (λ (o : ℕ). let R : Result (List Placed) CodeFault = Err (code.LeftOutOpcode o c) in R)
    (sym same))
step n pool whole p (Ok (instruction info, q)) fits is lt enough e others =
    let f = read_found pool 0 p (instruction info) q (subst (λ (b : List ℕ). IsBytes b) (sym is.bytes) fits) e in
    let b = place_behind whole p q f.0 is f.2 in
    let k = kept_is pool (p.at - 0) f.0 info f.1 in
    let same : p.at - 0 ≡ p.at = omega arith in
    let m = right_meant pool p.at info (subst (λ (o : ℕ). IsRight pool o info) same k.1) in
    let moved : q.at ≡ p.at + length (info_bytes info) = b.1 ∙ ap (λ (t : List ℕ). p.at + length t) k.0 in
    let less : length whole - q.at ≤ n = omega (arith, enough, moved, info_is_there info, lt) in
    let behind = subst (λ (o : ℕ). Agrees pool o (until_end n pool 0 (length whole) q) (placed_to_end n pool q)) moved
    (others q b.0 less) in
    rw (m.is) (agrees_more pool p.at q.at info m.meaning (until_end n pool 0 (length whole) q)
    (placed_to_end n pool q) m.alike behind)

-- the decoder goes through a code as the reading of it does
pub all_agree : (n : ℕ) (pool : List Entry) (whole : List ℕ) (p : Place) → IsBytes whole → IsPlace whole p
    → length whole - p.at ≤ n → Agrees pool p.at (until_end n pool 0 (length whole) p) (placed_to_end n pool p)
unfolding until_end placed_to_end give collected ops_from
all_agree zero pool whole p fits is enough = ([], refl, record { starts = refl; alike = λ aim. refl })
all_agree (suc n) pool whole p fits is enough =
    elim (cases_lt p.at (length whole)) [
      | inl lt ↦ rw (until_is n pool whole p lt, placed_is n pool whole p is lt)
          (step n pool whole p (read_instruction pool 0 p) fits is lt enough refl
          (λ q at-q less. all_agree n pool whole q fits at-q less))
      | inr le ↦ at_end n pool whole p is le
    ]
