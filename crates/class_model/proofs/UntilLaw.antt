-- The instructions of a code are read up to its end exactly where they are right, or one of them is left out.
use Rattle.std.proofs.Common.{◌≡◌, ◌⊎◌, inl, inr, ℕ, zero, suc, ◌+◌, ◌-◌, ◌<◌, ◌≤◌, Bool, true, false, cond, List, []}
use Rattle.std.proofs.Common.{◌∷◌, ◌++◌, length, Result, Ok, Err, refl, sym, ap, subst, ◌∙◌, append_assoc, arith}
use Rattle.std.specs.Prelude.{nat_le}
use Rattle.std.specs.List.{flat_map}
use Rattle.std.proofs.lemmas.Bool.Decides.{nat_tests}
use Rattle.std.proofs.lemmas.List.{append-nil, length-append, nil_from_length, drop_all}
use Rattle.jv_base.specs.Place.{Place, start, after}
use Rattle.format_reading.specs.Reader.{FormatReader, bind, give, here, bytes}
use Rattle.format_reading.specs.Spelling.{Spells}
use Rattle.format_reading.specs.declared.fault.FormatFault.{FormatFault}
use Rattle.format_reading.proofs.Exact.{Exact, Takes, IsBytes, Both, left, as_raw, bind_exact, map_exact, give_exact}
use Rattle.format_reading.proofs.Exact.{here_exact, bytes_exact}
use Rattle.class_model.specs.declared.pool.Entry.{Entry}
use Rattle.class_model.specs.InstructionStructure.{Info, info_bytes}
use Rattle.class_model.specs.ReadingCode.{Read, instruction, left_out, CodeRead, instructions, has_left_out, in_front}
use Rattle.class_model.specs.ReadingCode.{goes_on, read_instruction, until_end, without_place, code_read}
use Rattle.class_model.proofs.BackSizes.{info_is_there}
use Rattle.class_model.proofs.InstructionOperands.{as_text}
use Rattle.class_model.proofs.InstructionRead.{IsRight, LeftInfo, LeftOpcode, LeftLocal, LeftArray, LeftLoad}
use Rattle.class_model.proofs.InstructionRead.{LeftWideLoad, left_bytes, left_opcode, IsLeft, IsRead}
use Rattle.class_model.proofs.InstructionOnly.{read_exact}

-- ---- one instruction behind the other

-- a text that is its own spelling
plain_text : {A : Type 0} {r : FormatReader A} (g : ℕ → List ℕ → A → Type 0) → Exact r (Spells (λ t. t) g) → Exact r g
plain_text g e = record {
  found = λ p x q fits h. let o = e.found p x q fits h in
      (o.0, subst (λ (t : List ℕ). g p.at t x) (sym o.1.1) o.1.2, o.2);
  only = λ p text x q h k. e.only p text x q (text, refl, h) k;
}

-- what stands behind an instruction that was read at an offset
abbrev pub GoesOn : (ℕ → List ℕ → CodeRead → Type 0) → ℕ → ℕ → Read → ℕ → List ℕ → CodeRead → Type 0
GoesOn others offset end (instruction info) at text x = (z : CodeRead) × others at text z × (x ≡ in_front info z)
GoesOn others offset end (left_out c) at text x = (length text ≡ end - at) × (x ≡ has_left_out offset c)

goes_exact : (r : FormatReader CodeRead) (others : ℕ → List ℕ → CodeRead → Type 0) → Exact r others
    → (offset end : ℕ) (y : Read) → Exact (goes_on r offset end y) (GoesOn others offset end y)
goes_exact r others e offset end (instruction info) = plain_text (GoesOn others offset end (instruction info))
    (map_exact (in_front info) (as_text {g = others} e))
goes_exact r others e offset end (left_out c) = plain_text (GoesOn others offset end (left_out c))
    (as_raw (λ t. t) (GoesOn others offset end (left_out c)) (λ w. w.1) (λ t. (tt, t))
    (λ at w y h. (refl, (h.2.1.0 ∙ ap (λ (n : ℕ). end - n) h.1, h.2.2)))
    (λ at t y h. (refl, (at, refl, (t, (h.0, refl), h.1))))
    (bind_exact (λ at. bind (bytes (end - at)) (λ skipped. give (has_left_out offset c))) (λ t. t)
    (λ x o t y. (z : List ℕ) × ((length t ≡ end - x) × (z ≡ t)) × (y ≡ has_left_out offset c)) here_exact
    (λ at. map_exact (λ skipped. has_left_out offset c) (bytes_exact (end - at)))))

-- an instruction, and what stands behind it
abbrev pub OneMore : List Entry → ℕ → ℕ → ℕ → (ℕ → List ℕ → CodeRead → Type 0) → ℕ → List ℕ → CodeRead → Type 0
OneMore pool from end offset others = Spells (λ (w : List ℕ × List ℕ). w.0 ++ w.1)
    (Both (λ t. t) (λ o t y. IsRead pool (o - from) t y) (GoesOn others offset end))

-- instructions up to the end, n at most
abbrev pub IsUntil : ℕ → List Entry → ℕ → ℕ → ℕ → List ℕ → CodeRead → Type 0
IsUntil zero pool from end at text x = (text ≡ []) × (x ≡ instructions [])
IsUntil (suc n) pool from end at text x = ((nat_le end at ≡ true) × (text ≡ []) × (x ≡ instructions []))
    ⊎ ((nat_le end at ≡ false) × OneMore pool from end (at - from) (IsUntil n pool from end) at text x)

more_exact : (pool : List Entry) (from end offset : ℕ) (r : FormatReader CodeRead)
    (others : ℕ → List ℕ → CodeRead → Type 0)
    → Exact r others → Exact (bind (read_instruction pool from) (goes_on r offset end))
    (OneMore pool from end offset others)
more_exact pool from end offset r others e = bind_exact (goes_on r offset end) (λ t. t) (GoesOn others offset end)
    (as_text {g = λ o t y. IsRead pool (o - from) t y} (read_exact pool from))
    (λ y. as_text {g = GoesOn others offset end y} (goes_exact r others e offset end y))

-- what a test chooses
pub until_is : (n : ℕ) (pool : List Entry) (from end : ℕ) (p : Place)
    → until_end (suc n) pool from end p
    ≡ cond (nat_le end p.at) (give (instructions []))
    (bind (read_instruction pool from) (goes_on (until_end n pool from end) (p.at - from) end)) p
unfolding until_end bind here
until_is n pool from end p = refl

chosen : {A : Type 0} (b c : Bool) (r s : FormatReader A) (p : Place) → b ≡ c → cond b r s p ≡ cond c r s p
chosen b c r s p e = ap (λ (d : Bool). cond d r s p) e

-- one more instruction at most
until_more : (n : ℕ) (pool : List Entry) (from end : ℕ) → Exact (until_end n pool from end) (IsUntil n pool from end)
    → Exact (until_end (suc n) pool from end) (IsUntil (suc n) pool from end)
until_more n pool from end e = record {
  found = λ p x q fits h. by p x q fits (nat_le end p.at) refl (sym (until_is n pool from end p) ∙ h);
  only = λ p text x q h k. until_is n pool from end p ∙ back p text x q k h;
}
  where
    first : FormatReader CodeRead
    first = give (instructions [])

    more : ℕ → FormatReader CodeRead
    more offset = bind (read_instruction pool from) (goes_on (until_end n pool from end) offset end)

    exact : (offset : ℕ) → Exact (more offset) (OneMore pool from end offset (IsUntil n pool from end))
    exact offset = more_exact pool from end offset (until_end n pool from end) (IsUntil n pool from end) e

    by : (p : Place) (x : CodeRead) (q : Place) → IsBytes p.bytes → (b : Bool) → nat_le end p.at ≡ b
        → cond b first (more (p.at - from)) p ≡ Ok (x, q)
        → (text : List ℕ) × IsUntil (suc n) pool from end p.at text x × Takes p text q
    by p x q fits true e h = let o = (give_exact (instructions [])).found p x q fits h in
        (o.0, inl (e, o.1.1, o.1.2), o.2)
    by p x q fits false e h = let o = (exact (p.at - from)).found p x q fits h in (o.0, inr (e, o.1), o.2)

    back : (p : Place) (text : List ℕ) (x : CodeRead) (q : Place) → Takes p text q
        → IsUntil (suc n) pool from end p.at text x → cond (nat_le end p.at) first (more (p.at - from)) p ≡ Ok (x, q)
    back p text x q k (inl h) = chosen (nat_le end p.at) true first (more (p.at - from)) p h.0
        ∙ (give_exact (instructions [])).only p text x q (tt, h.1, h.2) k
    back p text x q k (inr h) = chosen (nat_le end p.at) false first (more (p.at - from)) p h.0
        ∙ (exact (p.at - from)).only p text x q h.1 k

-- instructions are read up to the end exactly where they stand
pub until_exact : (n : ℕ) (pool : List Entry) (from end : ℕ)
    → Exact (until_end n pool from end) (IsUntil n pool from end)
unfolding until_end
until_exact zero pool from end = record {
  found = λ p x q fits h. let o = (give_exact (instructions [])).found p x q fits h in (o.0, (o.1.1, o.1.2), o.2);
  only = λ p text x q h k. (give_exact (instructions [])).only p text x q (tt, h.0, h.1) k;
}
until_exact (suc n) pool from end = until_more n pool from end (until_exact n pool from end)

-- ---- what the bytes of a code are

-- each instruction, at its offset of the code, is right
abbrev pub AreRight : List Entry → ℕ → List Info → Type 0
AreRight pool at [] = Unit {0}
AreRight pool at (info ∷ infos) = IsRight pool at info × AreRight pool (at + length (info_bytes info)) infos

-- instructions that are right, one that is left out, and then any bytes
pub record IsLeftFrom (pool : List Entry) (at : ℕ) (text : List ℕ) (offset opcode : ℕ) : Type 0 where
  pub infos : List Info
  pub right : AreRight pool at infos
  pub left : LeftInfo
  pub is_left : IsLeft pool left
  pub opcode_is : opcode ≡ left_opcode left
  pub offset_is : offset ≡ at + length (flat_map info_bytes infos)
  pub rest : List ℕ
  pub is : text ≡ flat_map info_bytes infos ++ (left_bytes left ++ rest)

-- the bytes of a code from an offset on are what was read
abbrev pub IsCodeFrom : List Entry → ℕ → List ℕ → CodeRead → Type 0
IsCodeFrom pool at text (instructions infos) = (text ≡ flat_map info_bytes infos) × AreRight pool at infos
IsCodeFrom pool at text (has_left_out offset opcode) = IsLeftFrom pool at text offset opcode

-- an instruction before the others
one_more : (pool : List Entry) (at : ℕ) (first others : List ℕ) (info : Info) (z : CodeRead) → first ≡ info_bytes info
    → IsRight pool at info → IsCodeFrom pool (at + length (info_bytes info)) others z
    → IsCodeFrom pool at (first ++ others) (in_front info z)
one_more pool at first others info (instructions infos) e right h =
    (ap (λ (t : List ℕ). t ++ others) e ∙ ap (λ (t : List ℕ). info_bytes info ++ t) h.0, (right, h.1))
one_more pool at first others info (has_left_out offset opcode) e right h = record {
  infos = info ∷ h.infos;
  right = (right, h.right);
  left = h.left;
  is_left = h.is_left;
  opcode_is = h.opcode_is;
  offset_is = omega (arith, h.offset_is, length-append (info_bytes info) (flat_map info_bytes h.infos));
  rest = h.rest;
  is = ap (λ (t : List ℕ). t ++ others) e ∙ ap (λ (t : List ℕ). info_bytes info ++ t) h.is
      ∙ sym (append_assoc (info_bytes info) (flat_map info_bytes h.infos) (left_bytes h.left ++ h.rest));
}

-- what was read of an instruction that is not left out
pub kept_is : (pool : List Entry) (at : ℕ) (text : List ℕ) (info : Info) → IsRead pool at text (instruction info)
    → (text ≡ info_bytes info) × IsRight pool at info
kept_is pool at text info (inl h) = let e : info
    ≡ h.0 = cc in (h.2 ∙ ap info_bytes (sym e), subst (λ (i : Info). IsRight pool at i) (sym e) h.3)
kept_is pool at text info (inr h) = let e : instruction info ≡ left_out (left_opcode h.0) = h.1 in absurd cc

-- what was read of one that is
left_is : (pool : List Entry) (at : ℕ) (text : List ℕ) (c : ℕ) → IsRead pool at text (left_out c)
    → (left : LeftInfo) × (c ≡ left_opcode left) × (text ≡ left_bytes left) × IsLeft pool left
left_is pool at text c (inl h) = let e : left_out c ≡ instruction h.0 = h.1 in absurd cc
left_is pool at text c (inr h) = let e : left_out c ≡ left_out (left_opcode h.0) = h.1 in (h.0, cc, h.2, h.3)

-- nothing is left to be read
none_from : (pool : List Entry) (at : ℕ) (text : List ℕ) (x : CodeRead) → text ≡ [] → x ≡ instructions []
    → IsCodeFrom pool at text x
none_from pool at text x e is = subst (λ (r : CodeRead). IsCodeFrom pool at text r) (sym is) (e, tt)

-- what stands up to the end of a code is a code, up to the end
abbrev IsFound : ℕ → List Entry → ℕ → ℕ → Type 0
IsFound n pool from end = (at : ℕ) (text : List ℕ) (x : CodeRead) → from ≤ at → at + length text ≤ end → end - at ≤ n
    → IsUntil n pool from end at text x → IsCodeFrom pool (at - from) text x × (at + length text ≡ end)

left_found : (pool : List Entry) (from end at : ℕ) (first others : List ℕ) (x : CodeRead) (c : ℕ) (left : LeftInfo)
    → at + length (first ++ others) ≤ end → c ≡ left_opcode left → first ≡ left_bytes left → IsLeft pool left
    → length others ≡ end - (at + length first) → x ≡ has_left_out (at - from) c
    → IsCodeFrom pool (at - from) (first ++ others) x × (at + length (first ++ others) ≡ end)
left_found pool from end at first others x c left within is bytes left-is long x-is =
    let code : IsLeftFrom pool (at - from) (first ++ others)
    (at - from) c = record {
      infos = [];
      right = tt;
      left = left;
      is_left = left-is;
      opcode_is = is;
      offset_is = omega
          arith;
      rest = others;
      is = ap (λ (t : List ℕ). t ++ others) bytes;
    } in (
      subst (λ (r : CodeRead). IsCodeFrom pool (at - from) (first ++ others) r) (sym x-is) code,
      omega
          (arith, within, long, length-append first others),
    )

found_more : (n : ℕ) (pool : List Entry) (from end at : ℕ) (first others : List ℕ) (y : Read) (x : CodeRead)
    → IsFound n pool from end → from ≤ at → at + length (first ++ others) ≤ end → end - at ≤ suc n
    → IsRead pool (at - from) first y
    → GoesOn (IsUntil n pool from end) (at - from) end y (at + length first) others x
    → IsCodeFrom pool (at - from) (first ++ others) x × (at + length (first ++ others) ≡ end)
found_more n pool from end at first others (instruction info) x ih low within enough r g =
    let k = kept_is pool (at - from) first info r in
    let sum = length-append first others in
    let size : length first ≡ length (info_bytes info) = ap length k.0 in
    let some = info_is_there info in
    let f = ih (at + length first) others g.0 (omega (arith, low)) (omega (arith, within, sum))
    (omega (arith, enough, size, some)) g.1 in
    let same : (at + length first) - from ≡ (at - from) + length (info_bytes info) = omega (arith, low, size) in
    let code = one_more pool (at - from) first others info g.0 k.0 k.1
    (subst (λ (o : ℕ). IsCodeFrom pool o others g.0) same f.0) in
    (subst (λ (z : CodeRead). IsCodeFrom pool (at - from) (first ++ others) z) (sym g.2) code, omega (arith, sum, f.1))
found_more n pool from end at first others (left_out c) x ih low within enough r g =
    let l = left_is pool (at - from) first c r in
    left_found pool from end at first others x c l.0 within l.1 l.2 l.3 g.0 g.1

pub until_found : (n : ℕ) (pool : List Entry) (from end : ℕ) → IsFound n pool from end
until_found zero pool from end at text x low within enough h =
    (none_from pool (at - from) text x h.0 h.1, omega (arith, within, enough, ap length h.0))
until_found (suc n) pool from end at text x low within enough (inl h) = (
  none_from pool
      (at - from) text x h.1 h.2,
  let none = ap length h.1 in let passed = h.0 in let ended : end ≤ at = grind
      (arith, nat_tests) in omega (arith, within, none, ended),
)
until_found (suc n) pool from end at text x low within enough (inr h) =
    let w = h.1.0 in
    let f = found_more n pool from end at w.0 w.1 h.1.2.0 x (until_found n pool from end) low
    (subst (λ (t : List ℕ). at + length t ≤ end) h.1.1 within) enough h.1.2.1 h.1.2.2 in
    subst (λ (t : List ℕ). IsCodeFrom pool (at - from) t x × (at + length t ≡ end)) (sym h.1.1) f

-- ---- what a code is, stands up to its end

left_is_there : (left : LeftInfo) → 0 < length (left_bytes left)
left_is_there (LeftOpcode c) = omega arith
left_is_there (LeftLocal c) = omega arith
left_is_there (LeftArray atype) = omega arith
left_is_there (LeftLoad index) = omega arith
left_is_there (LeftWideLoad c index) = omega arith

not_ended : (end at : ℕ) → at < end → nat_le end at ≡ false
not_ended end at lt = grind (arith, nat_tests)

is_ended : (end at : ℕ) → end ≤ at → nat_le end at ≡ true
is_ended end at le = grind (arith, nat_tests)

instructions_only : (n : ℕ) (pool : List Entry) (from end : ℕ) (infos : List Info) (at : ℕ) (text : List ℕ) → from ≤ at
    → at + length text ≡ end → length text ≤ n → text ≡ flat_map info_bytes infos → AreRight pool (at - from) infos
    → IsUntil n pool from end at text (instructions infos)
instructions_only zero pool from end [] at text low whole enough is right = (is, refl)
instructions_only zero pool from end (info ∷ infos) at text low whole enough is right = absurd
    (omega (
      arith,
      enough,
      ap length is,
      length-append (info_bytes info)
          (flat_map info_bytes infos),
      info_is_there info,
    ))
instructions_only (suc n) pool from end [] at text low whole enough is right = inl
    (is_ended end at (omega (arith, whole, ap length is)), is, refl)
instructions_only (suc n) pool from end (info ∷ infos) at text low whole enough is right =
    let sum : length text ≡ length (info_bytes info) + length (flat_map info_bytes infos) = ap length is
    ∙ length-append (info_bytes info) (flat_map info_bytes infos) in
    let some = info_is_there info in
    let same : (at - from) + length (info_bytes info) ≡ (at + length (info_bytes info)) - from = omega (arith, low) in
    let others = instructions_only n pool from end infos (at + length (info_bytes info)) (flat_map info_bytes infos)
    (omega (arith, low)) (omega (arith, whole, sum)) (omega (arith, enough, sum, some)) refl
    (subst (λ (o : ℕ). AreRight pool o infos) same right.1) in
    inr (
      not_ended end at (omega (arith, whole, sum, some)),
      (
        (info_bytes info, flat_map info_bytes infos),
        is,
        (instruction info, inl (info, refl, refl, right.0), (instructions infos, others, refl)),
      ),
    )

left_only : (n : ℕ) (pool : List Entry) (from end offset opcode : ℕ) (left : LeftInfo) (rest : List ℕ)
    (infos : List Info) (at : ℕ) (text : List ℕ) → IsLeft pool left → opcode ≡ left_opcode left → from ≤ at
    → at + length text ≡ end → length text ≤ n
    → text ≡ flat_map info_bytes infos ++ (left_bytes left ++ rest) → AreRight pool (at - from) infos
    → offset ≡ (at - from) + length (flat_map info_bytes infos)
    → IsUntil n pool from end at text (has_left_out offset opcode)
left_only zero pool from end offset opcode left rest infos at text is-left opcode-is low whole enough is right
    offset-is =
    absurd (omega (
      arith,
      enough,
      ap length is,
      length-append (flat_map info_bytes infos)
          (left_bytes left ++ rest),
      length-append (left_bytes left) rest,
      left_is_there left,
    ))
left_only
    (suc n) pool from end offset opcode left rest [] at text is-left opcode-is low whole enough is right offset-is =
    let sum : length text ≡ length (left_bytes left) + length rest = ap length is
    ∙ length-append (left_bytes left) rest in
    let some = left_is_there left in
    inr (
      not_ended end at (omega (arith, whole, sum, some)),
      (
        (left_bytes left, rest),
        is,
        (
          left_out opcode,
          inr (left, ap (λ (c : ℕ). left_out c) opcode-is, refl, is-left),
          (
            omega (arith, whole, sum),
            ap (λ (o : ℕ). has_left_out o opcode)
                (let e : offset ≡ at - from = omega (arith, offset-is) in e),
          ),
        ),
      ),
    )
left_only (suc n) pool from end offset opcode left rest
    (info ∷ infos) at text is-left opcode-is low whole enough is right offset-is =
    let tail : List ℕ = flat_map info_bytes infos ++ (left_bytes left ++ rest) in
    let parts : text ≡ info_bytes info ++ tail = is
    ∙ append_assoc (info_bytes info) (flat_map info_bytes infos) (left_bytes left ++ rest) in
    let sum : length text ≡ length (info_bytes info) + length tail = ap length parts
    ∙ length-append (info_bytes info) tail in
    let some = info_is_there info in
    let same : (at - from) + length (info_bytes info) ≡ (at + length (info_bytes info)) - from = omega (arith, low) in
    let others = left_only n pool from end offset opcode left rest infos
    (at + length (info_bytes info)) tail is-left opcode-is (omega (arith, low)) (omega (arith, whole, sum))
    (omega (arith, enough, sum, some)) refl
    (subst (λ (o : ℕ). AreRight pool o infos) same right.1)
    (omega (arith, offset-is, length-append (info_bytes info) (flat_map info_bytes infos), same)) in
    inr (
      not_ended end at (omega (arith, whole, sum, some)),
      (
        (info_bytes info, tail),
        parts,
        (instruction info, inl (info, refl, refl, right.0), (has_left_out offset opcode, others, refl)),
      ),
    )

pub until_only : (n : ℕ) (pool : List Entry) (from end at : ℕ) (text : List ℕ) (x : CodeRead) → from ≤ at
    → at + length text ≡ end → length text ≤ n → IsCodeFrom pool (at - from) text x → IsUntil n pool from end at text x
until_only n pool from end at text
    (instructions infos) low whole enough h = instructions_only n pool from end infos at text low whole enough h.0 h.1
until_only n pool from end at text
    (has_left_out offset opcode) low whole enough h = left_only n pool from end offset opcode h.left h.rest h.infos at
    text h.is_left h.opcode_is low whole enough h.is h.right h.offset_is

-- ---- a whole code

without_is : (r : Result (CodeRead × Place) FormatFault) (x : CodeRead) → without_place r ≡ Ok x
    → (q : Place) × (r ≡ Ok (x, q))
without_is (Ok y) x h = let e : y.0
    ≡ x = cc in (y.1, ap (λ (z : CodeRead). let R : Result (CodeRead × Place) FormatFault = Ok (z, y.1) in R) e)
without_is (Err f) x h = absurd cc

-- what is read of a code is the code
pub read_code_found : (pool : List Entry) (code : List ℕ) (x : CodeRead) → IsBytes code → code_read pool code ≡ Ok x
    → IsCodeFrom pool 0 code x
unfolding code_read
read_code_found pool code x fits h =
    let r = without_is (until_end (length code) pool 0 (length code) (start code)) x h in
    let o = (until_exact (length code) pool 0 (length code)).found (start code) x r.0 fits r.1 in
    let sum : length code ≡ length o.0 + length (left r.0) = ap length o.2.parts ∙ length-append o.0 (left r.0) in
    let f = until_found (length code) pool 0 (length code) 0 o.0 x (omega arith) (omega (arith, sum))
    (omega arith) o.1 in
    let none : left r.0 ≡ [] = nil_from_length (left r.0) (omega (arith, sum, f.1)) in
    let whole : code ≡ o.0 = o.2.parts ∙ ap (λ (t : List ℕ). o.0 ++ t) none ∙ append-nil o.0 in
    subst (λ (t : List ℕ). IsCodeFrom pool 0 t x) (sym whole) f.0

-- what a code is, is read of it
pub read_code_only : (pool : List Entry) (code : List ℕ) (x : CodeRead) → IsCodeFrom pool 0 code x
    → code_read pool code ≡ Ok x
unfolding code_read
read_code_only pool code x h =
    let end : Place = after (length code) (start code) in
    let taken : Takes (start code) code end = record {
      parts = sym
          (ap (λ (t : List ℕ). code ++ t) (drop_all (0 + length code) code (omega arith))
          ∙ append-nil code);
      moved = refl;
    } in
    ap without_place ((until_exact (length code) pool 0 (length code)).only (start code) code x end
    (until_only (length code) pool 0 (length code) 0 code x (omega arith) (omega arith) (omega arith) h) taken)
