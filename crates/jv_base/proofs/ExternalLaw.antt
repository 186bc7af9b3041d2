-- Types as Java source spells them: what is written is read, and what is read was written so.
use Rattle.std.proofs.Common.{◌≡◌, ℕ, zero, suc, ◌+◌, ◌<◌, ◌≤◌, Bool, true, false, cond, not, ◌&&◌, List, [], ◌∷◌}
use Rattle.std.proofs.Common.{◌++◌, Option, Some, None, Result, Ok, Err, inl, inr, refl, sym, ap, subst, ◌∙◌}
use Rattle.std.proofs.Common.{append_assoc, arith, ne_eqb}
use Rattle.std.specs.Prelude.{nat_eq, nat_lt, codes}
use Rattle.std.specs.List.{list_any, repeat}
use Rattle.std.proofs.lemmas.List.{append-nil, map-append}
use Rattle.std.proofs.lemmas.Bool.{eqb-true, and_parts, or_parts, not-true}
use Rattle.std.proofs.lemmas.Bool.Decides.{nat_tests}
use Rattle.std.proofs.lemmas.Option.{cond_some}
use Rattle.jv_base.specs.Descriptors.{typed, bad_descriptor}
use Rattle.jv_base.specs.External.{SpellsExternal, External, word, opened, closed, dotted, swapped, word_text}
use Rattle.jv_base.specs.External.{external_text, keyword_base, or_class, word_base, word_on, word_opened, word_byte}
use Rattle.jv_base.specs.External.{external_byte, word_whole, external_end, read_external}
use Rattle.jv_base.specs.Longest.{GoesOn, IsLongest}
use Rattle.jv_base.specs.Names.{is_class_name, is_primitive_or_void, is_name_byte, is_text, part_after, parts_whole}
use Rattle.jv_base.specs.Types.{IsBase}
use Rattle.jv_base.specs.Walk.{walk, walk_from, or_fault}
use Rattle.jv_base.specs.declared.descriptors.BadDescriptor.{BadDescriptor}
use Rattle.jv_base.specs.declared.types.Base.{Base}
use Rattle.jv_base.specs.declared.types.Base.TheVariants.{Boolean, Byte, Char, Short, Int, Long, Float, Double, Class}
use Rattle.jv_base.specs.declared.types.FieldType.{FieldType}
use Rattle.jv_base.proofs.Equality.{text_Decides}
use Rattle.jv_base.proofs.FieldLaw.{bad_err, bad_ok, class_parts, front_empty, front_more, front_whole, goes_in}
use Rattle.jv_base.proofs.FieldLaw.{IsNameFront, letters}
use Rattle.jv_base.proofs.Naming.{class_name_is}
use Rattle.jv_base.proofs.Swapping.{repeat_push}
use Rattle.jv_base.proofs.WalkLaw.{nothing_more, walk_found, walk_longest}
use Rattle.jv_base.proofs.Coding.{passed}

-- ---- words

-- a word is that of a base type
abbrev IsWordOf : List ℕ → Base → Type 0
IsWordOf text base = IsBase base × (word_text base ≡ dotted text)

abbrev AreWordsOf : List ℕ → Option Base → Type 0
AreWordsOf text o = (base : Base) → o ≡ Some base → IsWordOf text base

word_row : (text code : List ℕ) (base : Base) (rest : Option Base) → IsBase base → word_text base ≡ dotted code
    → AreWordsOf text rest → AreWordsOf text (cond (is_text text code) (Some base) rest)
word_row text code base rest is said others found h = elim (passed (is_text text code) base found rest h) [
  | inl p ↦ let same : text
      ≡ code = (text_Decides text code).0 p.0 in subst (IsWordOf text) p.1 (is, said ∙ ap dotted (sym same))
  | inr p ↦ others found p.1
]

keyword_is : (text : List ℕ) → AreWordsOf text (keyword_base text)
unfolding keyword_base word_text
keyword_is text = word_row text (codes "boolean") Boolean _ tt refl
    (word_row text (codes "byte") Byte _ tt refl
    (word_row text (codes "char") Char _ tt refl (word_row text (codes "short") Short _ tt refl
    (word_row text (codes "int") Int _ tt refl
    (word_row text (codes "long") Long _ tt refl
    (word_row text (codes "float") Float _ tt refl
    (word_row text (codes "double") Double None tt refl (λ base h. absurd cc))))))))

word_is : (text : List ℕ) → AreWordsOf text (word_base text)
unfolding word_base word_text
word_is text base h = by (keyword_base text) refl h
  where
    by : (o : Option Base) → keyword_base text ≡ o → or_class text o ≡ Some base → IsWordOf text base
    by (Some other) e k = keyword_is text base (e ∙ k)
    by None e k = let p = cond_some (is_class_name text) (Class text) base k in subst (IsWordOf text) p.1 (p.0, refl)

skip : (text first : List ℕ) (others : List (List ℕ)) → list_any (is_text text) (first ∷ others) ≡ false
    → (is_text text first ≡ false) × (list_any (is_text text) others ≡ false)
skip text first others h = or_parts (is_text text first) (list_any (is_text text) others) h

abbrev from_void : List (List ℕ)
from_void = codes "void" ∷ []

abbrev from_double : List (List ℕ)
from_double = codes "double" ∷ from_void

abbrev from_float : List (List ℕ)
from_float = codes "float" ∷ from_double

abbrev from_long : List (List ℕ)
from_long = codes "long" ∷ from_float

abbrev from_int : List (List ℕ)
from_int = codes "int" ∷ from_long

abbrev from_short : List (List ℕ)
from_short = codes "short" ∷ from_int

abbrev from_char : List (List ℕ)
from_char = codes "char" ∷ from_short

abbrev from_byte : List (List ℕ)
from_byte = codes "byte" ∷ from_char

not_one : (text : List ℕ) → is_primitive_or_void text ≡ false → keyword_base text ≡ None
unfolding is_primitive_or_void keyword_base
not_one text h =
    let a = skip text (codes "boolean") from_byte h in
    let b = skip text (codes "byte") from_char a.1 in
    let c = skip text (codes "char") from_short b.1 in
    let d = skip text (codes "short") from_int c.1 in
    let e = skip text (codes "int") from_long d.1 in
    let f = skip text (codes "long") from_float e.1 in
    let g = skip text (codes "float") from_double f.1 in
    let i = skip text (codes "double") from_void g.1 in
    rw (a.0, b.0, c.0, d.0, e.0, f.0, g.0, i.0) refl

class_word : (text : List ℕ) → is_class_name text ≡ true → word_base text ≡ Some (Class text)
unfolding word_base
class_word text h =
    let p = and_parts (parts_whole false text) (not (is_primitive_or_void text)) (sym (class_name_is text) ∙ h) in
    rw (not_one text (not-true (is_primitive_or_void text) p.1), h) refl

keyword_word : (text : List ℕ) (base : Base) → keyword_base text ≡ Some base → word_base text ≡ Some base
unfolding word_base
keyword_word text base h = ap (or_class text) h

-- ---- what the bytes so far are

abbrev ExternalReads : External → List ℕ → Type 0
ExternalReads (word text in_part) so_far = IsNameFront text in_part × (so_far ≡ dotted text)
ExternalReads (opened dims base) so_far = IsBase base × (dims < 255)
    × (so_far ≡ external_text (typed dims base) ++ 91 ∷ [])
ExternalReads (closed dims base) so_far = IsBase base × (dims ≤ 255) × (so_far ≡ external_text (typed dims base))

pub one_more : (dims : ℕ) (base : Base)
    → (external_text (typed dims base) ++ 91 ∷ []) ++ 93 ∷ [] ≡ external_text (typed (dims + 1) base)
unfolding external_text
one_more dims base =
    append_assoc (word_text base ++ repeat dims (codes "[]")) (91 ∷ []) (93 ∷ [])
    ∙ append_assoc (word_text base) (repeat dims (codes "[]")) (91 ∷ 93 ∷ [])
    ∙ ap (λ (t : List ℕ). word_text base ++ t) (repeat_push dims (codes "[]"))

none_yet : (base : Base) → external_text (typed 0 base) ≡ word_text base
unfolding external_text
none_yet base = append-nil (word_text base)

-- a byte of a spelling, and the same of a name in internal form
swapped_back : (b : ℕ) → nat_eq b 47 ≡ false → swapped 47 46 (swapped 46 47 b) ≡ b
swapped_back b h = by (nat_eq b 46) refl
  where
    by : (t : Bool) → nat_eq b 46 ≡ t → swapped 47 46 (cond t 47 b) ≡ b
    by true e = sym (eqb-true b 46 e)
    by false e = rw h refl

opens : (text : List ℕ) (o : Option Base) (r : External) (b : ℕ) (so_far : List ℕ) → word_base text ≡ o
    → so_far ≡ dotted text → nat_eq b 91 ≡ true → word_opened o ≡ Some r → ExternalReads r (so_far ++ b ∷ [])
opens text None r b so_far is said bracket h = absurd cc
opens text (Some base) r b so_far is said bracket h =
    let w = word_is text base is in
    let made : opened 0 base ≡ r = cc in
    subst (λ (x : External). ExternalReads x (so_far ++ b ∷ [])) made (
      w.0,
      omega arith,
      ap (λ (t : List ℕ). t ++ b ∷ []) (said ∙ sym w.1 ∙ sym (none_yet base))
          ∙ ap (λ (n : ℕ). external_text (typed 0 base) ++ n ∷ []) (eqb-true b 91 bracket),
    )

goes_on : (text : List ℕ) (in_part : Bool) (o : Option Bool) (r : External) (b : ℕ) (so_far : List ℕ)
    → IsNameFront text in_part → so_far ≡ dotted text → nat_eq b 47 ≡ false → part_after in_part (swapped 46 47 b) ≡ o
    → word_on (text ++ swapped 46 47 b ∷ []) o ≡ Some r → ExternalReads r (so_far ++ b ∷ [])
goes_on text in_part None r b so_far front said other is h = absurd cc
goes_on text in_part (Some then_part) r b so_far front said other is h =
    let made : word (text ++ swapped 46 47 b ∷ []) then_part ≡ r = cc in
    subst (λ (x : External). ExternalReads x (so_far ++ b ∷ [])) made (
      front_more text in_part then_part (swapped 46 47 b) front is,
      ap (λ (t : List ℕ). t ++ b ∷ []) said ∙ ap (λ (n : ℕ). dotted text ++ n ∷ []) (sym (swapped_back b other))
          ∙ sym (map-append (swapped 47 46) text (swapped 46 47 b ∷ [])),
    )

word_keeps : (text : List ℕ) (in_part bracket slash : Bool) (r : External) (b : ℕ) (so_far : List ℕ)
    → IsNameFront text in_part → so_far ≡ dotted text → nat_eq b 91 ≡ bracket → nat_eq b 47 ≡ slash
    → cond bracket (word_opened (word_base text))
    (cond slash None (word_on (text ++ swapped 46 47 b ∷ []) (part_after in_part (swapped 46 47 b)))) ≡ Some r
    → ExternalReads r (so_far ++ b ∷ [])
word_keeps text in_part true slash r b so_far front said k s h = opens text (word_base text) r b so_far refl said k h
word_keeps text in_part false true r b so_far front said k s h = absurd cc
word_keeps text in_part false false r b so_far front said k s h = goes_on text in_part
    (part_after in_part (swapped 46 47 b)) r b so_far front said s refl h

keeps : (r q : External) (b : ℕ) (so_far : List ℕ) → ExternalReads r so_far → external_byte r b ≡ Some q
    → ExternalReads q (so_far ++ b ∷ [])
unfolding external_byte
keeps (word text in_part) q b so_far h k = word_keeps text in_part (nat_eq b 91)
    (nat_eq b 47) q b so_far h.0 h.1 refl refl k
keeps (opened dims base) q b so_far h k =
    let p = cond_some (nat_eq b 93) (closed (dims + 1) base) q k in
    let room = h.1 in
    subst (λ (x : External). ExternalReads x (so_far ++ b ∷ [])) p.1 (
      h.0,
      omega arith,
      ap (λ (t : List ℕ). t ++ b ∷ []) h.2
          ∙ ap (λ (n : ℕ). (external_text (typed dims base) ++ 91 ∷ []) ++ n ∷ []) (eqb-true b 93 p.0)
          ∙ one_more dims base,
    )
keeps (closed dims base) q b so_far h k =
    let p = cond_some (nat_eq b 91 && nat_lt dims 255) (opened dims base) q k in
    let tests = and_parts (nat_eq b 91) (nat_lt dims 255) p.0 in
    let room : dims < 255 = grind (arith, nat_tests, tests.1) in
    subst (λ (x : External). ExternalReads x (so_far ++ b ∷ [])) p.1 (
      h.0,
      room,
      ap (λ (t : List ℕ). t ++ b ∷ []) h.2
          ∙ ap (λ (n : ℕ). external_text (typed dims base) ++ n ∷ []) (eqb-true b 91 tests.0),
    )

whole_is : (text : List ℕ) (o : Option Base) (ty : FieldType) (so_far : List ℕ) → word_base text ≡ o
    → so_far ≡ dotted text → word_whole o ≡ Some ty → SpellsExternal so_far ty
whole_is text None ty so_far is said h = absurd cc
whole_is text (Some base) ty so_far is said h =
    let w = word_is text base is in
    let made : typed 0 base ≡ ty = cc in
    subst (λ (x : FieldType). SpellsExternal so_far x) made
    (record { dimensions = omega arith; named = w.0 }, none_yet base ∙ w.1 ∙ sym said)

ends : (r : External) (ty : FieldType) (so_far : List ℕ) → ExternalReads r so_far → external_end r ≡ Some ty
    → SpellsExternal so_far ty
unfolding external_end
ends (word text in_part) ty so_far h k = whole_is text (word_base text) ty so_far refl h.1 k
ends (opened dims base) ty so_far h k = absurd cc
ends (closed dims base) ty so_far h k =
    let made : typed dims base ≡ ty = cc in
    subst (λ (x : FieldType). SpellsExternal so_far x) made (record { dimensions = h.1; named = h.0 }, sym h.2)

class_text : (text : List ℕ) → word_text (Class text) ≡ dotted text
unfolding word_text
class_text text = refl

live : (r : External) (so_far : List ℕ) → ExternalReads r so_far → GoesOn SpellsExternal so_far
live (word text in_part) so_far h = (
  letters,
  typed 0 (Class (text ++ letters)),
  (
    record { dimensions = omega arith; named = front_whole text in_part h.0 },
    none_yet (Class (text ++ letters)) ∙ class_text (text ++ letters) ∙ map-append (swapped 47 46) text letters
        ∙ ap (λ (t : List ℕ). t ++ letters) (sym h.1),
  ),
)
live (opened dims base) so_far h = let room = h.1 in (
  93 ∷ [],
  typed (dims + 1) base,
  (
    record { dimensions = omega arith; named = h.0 },
    sym (one_more dims base)
        ∙ ap (λ (t : List ℕ). t ++ 93 ∷ []) (sym h.2),
  ),
)
live (closed dims base) so_far h = nothing_more SpellsExternal so_far (typed dims base)
    (record { dimensions = h.1; named = h.0 }, sym h.2)

-- ---- what is written is read

abbrev from_state : External → ℕ → List ℕ → Result FieldType ℕ
from_state r at text = walk external_byte external_end r at text

over : (r q : External) (at b : ℕ) (text : List ℕ) → external_byte r b ≡ Some q
    → from_state r at (b ∷ text) ≡ from_state q (at + 1) text
unfolding walk
over r q at b text h = ap
    (λ (o : Option External). walk_from at o (λ t. walk external_byte external_end t (at + 1) text)) h

end_here : (r : External) (at : ℕ) (ty : FieldType) → external_end r ≡ Some ty → from_state r at [] ≡ Ok ty
unfolding walk
end_here r at ty h = ap (or_fault at) h

-- a byte that goes on in a part of a name is neither a dot nor a bracket
dot_is_none : is_name_byte 46 ≡ false
unfolding is_name_byte
dot_is_none = refl

bracket_is_none : is_name_byte 91 ≡ false
unfolding is_name_byte
bracket_is_none = refl

name_byte_is : (in_part then_part : Bool) (b : ℕ) → nat_eq b 47 ≡ false → part_after in_part b ≡ Some then_part
    → (nat_eq b 91 ≡ false) × (nat_eq b 46 ≡ false)
unfolding part_after
name_byte_is in_part then_part b other h =
    let k : cond (is_name_byte b) (Some true) None ≡ Some then_part = rw other at h in
    let p = cond_some (is_name_byte b) true then_part k in (
      ne_eqb b 91 (λ e. let n : is_name_byte b ≡ false = rw e bracket_is_none in let y = p.0 in cc),
      ne_eqb b 46
          (λ e. let n : is_name_byte b ≡ false = rw e dot_is_none in let y = p.0 in cc),
    )

-- bytes of a name, with dots in place of slashes
dot_over : (text : List ℕ) (in_part then_part : Bool) (b : ℕ) → part_after in_part b ≡ Some then_part
    → external_byte (word text in_part) (swapped 47 46 b) ≡ Some (word (text ++ b ∷ []) then_part)
unfolding external_byte
dot_over text in_part then_part b h = by (nat_eq b 47) refl
  where
    by : (t : Bool) → nat_eq b 47 ≡ t → word_byte text in_part (cond t 46 b) ≡ Some (word (text ++ b ∷ []) then_part)
    by true e =
        let is : b ≡ 47 = eqb-true b 47 e in
        let back : part_after in_part 47 ≡ Some then_part = ap (part_after in_part) (sym is) ∙ h in
        ap (λ (n : ℕ). word_on (text ++ n ∷ []) (part_after in_part 47)) (sym is) ∙ ap (word_on (text ++ b ∷ [])) back
    by false e = let k = name_byte_is in_part then_part b e h in rw (k.0, e, k.1, h) refl

word_over : (bs text : List ℕ) (in_part : Bool) (at : ℕ) (rest : List ℕ) → parts_whole in_part bs ≡ true
    → (next : ℕ) × (last : Bool)
    × (from_state (word text in_part) at (dotted bs ++ rest) ≡ from_state (word (text ++ bs) last) next rest)
word_over [] text in_part at rest h =
    (at, in_part, ap (λ (t : List ℕ). from_state (word t in_part) at rest) (sym (append-nil text)))
word_over (b ∷ bs) text in_part at rest h =
    let g = goes_in in_part b bs h in
    let deep = word_over bs (text ++ b ∷ []) g.0 (at + 1) rest g.2 in (
      deep.0,
      deep.1,
      over (word text in_part) (word (text ++ b ∷ []) g.0) at (swapped 47 46 b) (dotted bs ++ rest)
          (dot_over text in_part g.0 b g.1) ∙ deep.2
          ∙ ap (λ (t : List ℕ). from_state (word t deep.1) deep.0 rest) (append_assoc text (b ∷ []) bs),
    )

-- a word, and that its base type is found
record IsRead (base : Base) : Type 0 where
  text : List ℕ
  parts : parts_whole false text ≡ true
  said : word_text base ≡ dotted text
  found : word_base text ≡ Some base

keyword_read : (text : List ℕ) (base : Base) → parts_whole false text ≡ true → word_text base ≡ dotted text
    → keyword_base text ≡ Some base → IsRead base
keyword_read text base parts said found =
    record { text = text; parts = parts; said = said; found = keyword_word text base found }

is_read : (base : Base) → IsBase base → IsRead base
unfolding word_text keyword_base is_name_byte
is_read Boolean is = keyword_read (codes "boolean") Boolean refl refl refl
is_read Byte is = keyword_read (codes "byte") Byte refl refl refl
is_read Char is = keyword_read (codes "char") Char refl refl refl
is_read Short is = keyword_read (codes "short") Short refl refl refl
is_read Int is = keyword_read (codes "int") Int refl refl refl
is_read Long is = keyword_read (codes "long") Long refl refl refl
is_read Float is = keyword_read (codes "float") Float refl refl refl
is_read Double is = keyword_read (codes "double") Double refl refl refl
is_read (Class text) is = record { text = text; parts = class_parts text is; said = refl; found = class_word text is }

pair_over : (dims at : ℕ) (base : Base) (rest : List ℕ) → dims < 255
    → from_state (closed dims base) at (91 ∷ 93 ∷ rest) ≡ from_state (closed (dims + 1) base) (at + 1 + 1) rest
unfolding external_byte
pair_over dims at base rest lt =
    let room : nat_lt dims 255 ≡ true = grind (arith, nat_tests) in
    over (closed dims base) (opened dims base) at 91 (93 ∷ rest) (rw room refl)
    ∙ over (opened dims base) (closed (dims + 1) base) (at + 1) 93 rest refl

pairs_over : (n dims at : ℕ) (base : Base) → dims + n ≤ 255
    → from_state (closed dims base) at (repeat n (codes "[]")) ≡ Ok (typed (dims + n) base)
unfolding external_end
pairs_over zero dims at base few = end_here (closed dims base) at (typed dims base) refl
    ∙ ap (λ (d : ℕ). Ok (typed d base)) (omega arith)
pairs_over (suc n) dims at base few =
    pair_over dims at base (repeat n (codes "[]")) (omega arith)
    ∙ pairs_over n (dims + 1) (at + 1 + 1) base (omega arith) ∙ ap (λ (d : ℕ). Ok (typed d base)) (omega arith)

word_ends : (text : List ℕ) (last : Bool) (n at : ℕ) (base : Base) → word_base text ≡ Some base → n ≤ 255
    → from_state (word text last) at (repeat n (codes "[]")) ≡ Ok (typed n base)
unfolding external_byte external_end
word_ends text last zero at base is few = end_here (word text last) at (typed 0 base) (ap word_whole is)
word_ends text last (suc n) at base is few =
    over (word text last) (opened 0 base) at 91 (93 ∷ repeat n (codes "[]")) (ap word_opened is)
    ∙ over (opened 0 base) (closed 1 base) (at + 1) 93 (repeat n (codes "[]")) refl
    ∙ pairs_over n 1 (at + 1 + 1) base (omega arith) ∙ ap (λ (d : ℕ). Ok (typed d base)) (omega arith)

reads : (text : List ℕ) (ty : FieldType) → SpellsExternal text ty → from_state (word [] false) 0 text ≡ Ok ty
unfolding external_text
reads text ty h =
    let r = is_read ty.base h.0.named in
    let w = word_over r.text [] false 0 (repeat ty.dims (codes "[]")) r.parts in
    ap (from_state (word [] false) 0) (sym h.1 ∙ ap (λ (t : List ℕ). t ++ repeat ty.dims (codes "[]")) r.said) ∙ w.2
    ∙ word_ends r.text w.1 ty.dims w.0 ty.base r.found h.0.dimensions

starts : ExternalReads (word [] false) []
starts = (front_empty, refl)

pub read_external-found : (text : List ℕ) (ty : FieldType) → read_external text ≡ Ok ty → SpellsExternal text ty
unfolding read_external
read_external-found text ty h = walk_found external_byte external_end ExternalReads SpellsExternal keeps ends text
    (word [] false) 0 ty [] starts (bad_ok _ ty h)

pub read_external-only : (text : List ℕ) (ty : FieldType) → SpellsExternal text ty → read_external text ≡ Ok ty
unfolding read_external
read_external-only text ty h = ap bad_descriptor (reads text ty h)

pub read_external-longest : (text : List ℕ) (e : BadDescriptor) → read_external text ≡ Err e
    → IsLongest SpellsExternal text e.place
unfolding read_external
read_external-longest text e h = walk_longest external_byte external_end ExternalReads SpellsExternal keeps
    (word [] false) starts live reads text e.place (bad_err _ e h)
