-- Field descriptors: what is written is read, and what is read was written so.
use Rattle.std.proofs.Common.{◌≡◌, ℕ, zero, suc, ◌+◌, ◌<◌, ◌≤◌, Bool, true, false, cond, not, ◌&&◌, List, [], ◌∷◌, ◌++◌}
use Rattle.std.proofs.Common.{length, Option, Some, None, Result, Ok, Err, ◌⊎◌, inl, inr, refl, sym, ap, subst, ◌∙◌}
use Rattle.std.proofs.Common.{append_assoc, arith, ne_eqb}
use Rattle.std.specs.Prelude.{nat_eq, nat_lt, replicate, codes}
use Rattle.std.specs.Cmp.Lexicographic.{unequal}
use Rattle.std.proofs.lemmas.List.{append-nil, length-append, replicate-append-replicate}
use Rattle.std.proofs.lemmas.Bool.{eqb-true, and_parts}
use Rattle.std.proofs.lemmas.Bool.Decides.{nat_tests}
use Rattle.std.proofs.lemmas.Option.{cond_some}
use Rattle.jv_base.specs.Descriptors.{SpellsField, typed, letter_base, Begun, brackets, name, Grown, more, whole}
use Rattle.jv_base.specs.Descriptors.{letter_grown, name_on, grown, FieldRead, field_begun, field_whole, field_on}
use Rattle.jv_base.specs.Descriptors.{field_byte, field_end, bad_descriptor, read_field}
use Rattle.jv_base.specs.Longest.{GoesOn, IsLongest}
use Rattle.jv_base.specs.Names.{is_class_name, is_primitive_or_void, is_name_byte, is_text, part_after, parts_whole}
use Rattle.jv_base.specs.Types.{base_text, field_text, IsBase, IsFieldType, words_of}
use Rattle.jv_base.specs.Walk.{walk, walk_from}
use Rattle.jv_base.specs.declared.descriptors.BadDescriptor.{BadDescriptor}
use Rattle.jv_base.specs.declared.types.Base.{Base}
use Rattle.jv_base.specs.declared.types.Base.TheVariants.{Boolean, Byte, Char, Short, Int, Long, Float, Double, Class}
use Rattle.jv_base.specs.declared.types.FieldType.{FieldType}
use Rattle.jv_base.proofs.Naming.{class_name_is}
use Rattle.jv_base.proofs.WalkLaw.{nothing_more, walk_found, walk_longest}
use Rattle.jv_base.proofs.Coding.{passed}

-- ---- class names that are begun

-- a text is the beginning of class names, whose last part is begun or not
pub record IsNameFront (text : List ℕ) (in_part : Bool) : Type 0 where
  pub rest : (s : List ℕ) → parts_whole false (text ++ s) ≡ parts_whole in_part s

pub front_empty : IsNameFront [] false
front_empty = record { rest = λ s. refl }

after_is : (in_part then_part : Bool) (b : ℕ) (s : List ℕ) → part_after in_part b ≡ Some then_part
    → parts_whole in_part (b ∷ s) ≡ parts_whole then_part s
unfolding part_after
after_is in_part then_part b s h = on in_part (nat_eq b 47) (is_name_byte b) h
  where
    on : (in_part slash fits : Bool)
        → cond slash (cond in_part (Some false) None) (cond fits (Some true) None) ≡ Some then_part
        → cond slash (in_part && parts_whole false s) (fits && parts_whole true s) ≡ parts_whole then_part s
    on true true fits h = ap (λ (t : Bool). parts_whole t s) cc
    on false true fits h = absurd cc
    on in_part false true h = ap (λ (t : Bool). parts_whole t s) cc
    on in_part false false h = absurd cc

pub front_more : (text : List ℕ) (in_part then_part : Bool) (b : ℕ) → IsNameFront text in_part
    → part_after in_part b ≡ Some then_part → IsNameFront (text ++ b ∷ []) then_part
front_more text in_part then_part b f h = record {
  rest = λ s. ap (parts_whole false) (append_assoc text (b ∷ []) s) ∙ f.rest (b ∷ s) ∙ after_is in_part then_part b s h;
}

-- letters that make any beginning a class name
abbrev pub letters : List ℕ
letters = codes "aaaaaaaa"

letters_whole : (in_part : Bool) → parts_whole in_part letters ≡ true
unfolding is_name_byte
letters_whole in_part = refl

not_keyword : (text : List ℕ) → 8 ≤ length text → is_primitive_or_void text ≡ false
unfolding is_primitive_or_void
not_keyword text long =
    let differs : (word : List ℕ) → length word < 8
    → is_text text word ≡ false = λ word short. unequal nat_eq text word (λ e. omega arith) in
    rw (
      differs (codes "boolean") (omega arith),
      differs (codes "byte") (omega arith),
      differs (codes "char") (omega arith),
      differs (codes "short") (omega arith),
      differs (codes "int") (omega arith),
      differs (codes "long") (omega arith),
      differs (codes "float") (omega arith),
      differs (codes "double") (omega arith),
      differs (codes "void") (omega arith),
    ) refl

pub front_whole : (text : List ℕ) (in_part : Bool) → IsNameFront text in_part → is_class_name (text ++ letters) ≡ true
front_whole text in_part f =
    let long = length-append text letters in
    class_name_is (text ++ letters)
    ∙ rw (f.rest letters, letters_whole in_part, not_keyword (text ++ letters) (omega arith)) refl

-- ---- what one more byte makes of a type that is begun

-- the bytes of what is begun
abbrev pub begun_text : Begun → List ℕ
begun_text (brackets dims) = replicate dims 91
begun_text (name dims text in_part) = replicate dims 91 ++ 76 ∷ text

abbrev pub CanBegin : Begun → Type 0
CanBegin (brackets dims) = dims ≤ 255
CanBegin (name dims text in_part) = (dims ≤ 255) × IsNameFront text in_part

abbrev pub FitsGrown : Begun → ℕ → Grown → Type 0
FitsGrown s b (more next) = CanBegin next × (begun_text next ≡ begun_text s ++ b ∷ [])
FitsGrown s b (whole ty) = IsFieldType ty × (field_text ty ≡ begun_text s ++ b ∷ [])

-- the letter of a base type is its text
abbrev IsLetterOf : ℕ → Base → Type 0
IsLetterOf b base = IsBase base × (base_text base ≡ b ∷ [])

abbrev NoMore : ℕ → Option Base → Type 0
NoMore b o = (base : Base) → o ≡ Some base → IsLetterOf b base

letter_row : (b code : ℕ) (base : Base) (rest : Option Base) → IsBase base → base_text base ≡ code ∷ [] → NoMore b rest
    → NoMore b (cond (nat_eq b code) (Some base) rest)
letter_row b code base rest is text others found h = elim (passed (nat_eq b code) base found rest h) [
  | inl p ↦ subst (IsLetterOf b) p.1 (is, text ∙ ap (λ (n : ℕ). n ∷ []) (sym (eqb-true b code p.0)))
  | inr p ↦ others found p.1
]

letter_is : (b : ℕ) → NoMore b (letter_base b)
unfolding base_text
letter_is b = letter_row b 90 Boolean _ tt refl
    (letter_row b 66 Byte _ tt refl (letter_row b 67 Char _ tt refl (letter_row b 83 Short _ tt refl
    (letter_row b 73 Int _ tt refl
    (letter_row b 74 Long _ tt refl
    (letter_row b 70 Float _ tt refl (letter_row b 68 Double None tt refl (λ base h. absurd cc))))))))

letter_fits : (dims b : ℕ) (base : Option Base) (o : Grown) → dims ≤ 255 → letter_base b ≡ base
    → letter_grown dims base ≡ Some o → FitsGrown (brackets dims) b o
unfolding field_text
letter_fits dims b None o few is h = absurd cc
letter_fits dims b (Some base) o few is h =
    let letter = letter_is b base is in
    let made : whole (typed dims base) ≡ o = cc in
    subst (FitsGrown (brackets dims) b) made
    (record { dimensions = few; named = letter.0 }, ap (λ (t : List ℕ). replicate dims 91 ++ t) letter.1)

bracket_more : (dims b : ℕ) → b ≡ 91 → replicate (dims + 1) 91 ≡ replicate dims 91 ++ b ∷ []
bracket_more dims b is = sym (replicate-append-replicate dims 1 91)
    ∙ ap (λ (n : ℕ). replicate dims 91 ++ n ∷ []) (sym is)

brackets_fit : (dims b : ℕ) (o : Grown) → dims ≤ 255 → grown (brackets dims) b ≡ Some o → FitsGrown (brackets dims) b o
unfolding grown
brackets_fit dims b o few h = at_bracket (nat_eq b 91) refl h
  where
    at_name : (t : Bool) → nat_eq b 76 ≡ t
        → cond t (Some (more (name dims [] false))) (letter_grown dims (letter_base b)) ≡ Some o
        → FitsGrown (brackets dims) b o
    at_name true is k =
        let made : more (name dims [] false) ≡ o = cc in
        subst (FitsGrown (brackets dims) b) made
        ((few, front_empty), ap (λ (n : ℕ). replicate dims 91 ++ n ∷ []) (sym (eqb-true b 76 is)))
    at_name false is k = letter_fits dims b (letter_base b) o few refl k

    at_bracket : (t : Bool) → nat_eq b 91 ≡ t
        → cond t (cond (nat_lt dims 255) (Some (more (brackets (dims + 1)))) None)
        (cond (nat_eq b 76) (Some (more (name dims [] false))) (letter_grown dims (letter_base b))) ≡ Some o
        → FitsGrown (brackets dims) b o
    at_bracket true is k =
        let p = cond_some (nat_lt dims 255) (more (brackets (dims + 1))) o k in
        let below : dims < 255 = grind (arith, nat_tests, p.0) in
        subst (FitsGrown (brackets dims) b) p.1 (omega arith, bracket_more dims b (eqb-true b 91 is))
    at_bracket false is k = at_name (nat_eq b 76) refl k

name_fits : (dims : ℕ) (text : List ℕ) (in_part : Bool) (b : ℕ) (o : Grown) → dims ≤ 255 → IsNameFront text in_part
    → grown (name dims text in_part) b ≡ Some o → FitsGrown (name dims text in_part) b o
unfolding grown field_text base_text
name_fits dims text in_part b o few front h = at_end (nat_eq b 59) refl h
  where
    at_byte : (then_part : Option Bool) → part_after in_part b ≡ then_part
        → name_on dims (text ++ b ∷ []) then_part ≡ Some o → FitsGrown (name dims text in_part) b o
    at_byte None is k = absurd cc
    at_byte (Some then_part) is k =
        let made : more (name dims (text ++ b ∷ []) then_part) ≡ o = cc in
        subst (FitsGrown (name dims text in_part) b) made (
          (few, front_more text in_part then_part b front is),
          sym
              (append_assoc (replicate dims 91) (76 ∷ text) (b ∷ [])),
        )

    at_end : (t : Bool) → nat_eq b 59 ≡ t
        → cond t (cond (is_class_name text) (Some (whole (typed dims (Class text)))) None)
        (name_on dims (text ++ b ∷ []) (part_after in_part b)) ≡ Some o → FitsGrown (name dims text in_part) b o
    at_end true is k =
        let p = cond_some (is_class_name text) (whole (typed dims (Class text))) o k in
        subst (FitsGrown (name dims text in_part) b) p.1 (
          record { dimensions = few; named = p.0 },
          ap (λ (n : ℕ). replicate dims 91 ++ 76 ∷ (text ++ n ∷ [])) (sym (eqb-true b 59 is))
              ∙ sym (append_assoc (replicate dims 91) (76 ∷ text) (b ∷ [])),
        )
    at_end false is k = at_byte (part_after in_part b) refl k

pub grown_fits : (s : Begun) (b : ℕ) (o : Grown) → CanBegin s → grown s b ≡ Some o → FitsGrown s b o
grown_fits (brackets dims) b o can h = brackets_fit dims b o can h
grown_fits (name dims text in_part) b o can h = name_fits dims text in_part b o can.0 can.1 h

-- ---- what is begun goes on

-- the rest of a type of one word
pub record GoesWhole (s : Begun) : Type 0 where
  pub rest : List ℕ
  pub ty : FieldType
  pub is : IsFieldType ty
  pub narrow : words_of ty ≡ 1
  pub text : field_text ty ≡ begun_text s ++ rest

narrow_boolean : (dims : ℕ) → words_of (typed dims Boolean) ≡ 1
unfolding words_of
narrow_boolean dims = grind (arith, nat_tests)

narrow_class : (dims : ℕ) (text : List ℕ) → words_of (typed dims (Class text)) ≡ 1
unfolding words_of
narrow_class dims text = grind (arith, nat_tests)

pub goes_whole : (s : Begun) → CanBegin s → GoesWhole s
unfolding field_text base_text
goes_whole (brackets dims) can = record {
  rest = 90 ∷ [];
  ty = typed dims Boolean;
  is = record { dimensions = can; named = tt };
  narrow = narrow_boolean dims;
  text = refl;
}
goes_whole (name dims text in_part) can = record {
  rest = letters ++ 59 ∷ [];
  ty = typed dims (Class (text ++ letters));
  is = record { dimensions = can.0; named = front_whole text in_part can.1 };
  narrow = narrow_class dims (text ++ letters);
  text = ap (λ (t : List ℕ). replicate dims 91 ++ 76 ∷ t) (append_assoc text letters (59 ∷ []))
      ∙ sym (append_assoc (replicate dims 91) (76 ∷ text) (letters ++ 59 ∷ []));
}

-- ---- a type's text, byte by byte

-- every byte but the last makes more, and the last makes the type whole
abbrev pub Path : Begun → List ℕ → FieldType → Type 0
Path s [] ty = ⊥
Path s (b ∷ bs) ty = ((bs ≡ []) × (grown s b ≡ Some (whole ty)))
    ⊎ ((next : Begun) × (grown s b ≡ Some (more next)) × Path next bs ty)

path_brackets : (n dims : ℕ) (rest : List ℕ) (ty : FieldType) → dims + n ≤ 255 → Path (brackets (dims + n)) rest ty
    → Path (brackets dims) (replicate n 91 ++ rest) ty
unfolding grown
path_brackets zero dims rest ty few p = subst (λ (d : ℕ). Path (brackets d) rest ty) (omega arith) p
path_brackets (suc n) dims rest ty few p =
    let below : nat_lt dims 255 ≡ true = grind (arith, nat_tests) in
    let one : grown (brackets dims) 91 ≡ Some (more (brackets (dims + 1))) = rw below refl in
    let at : dims + suc n ≡ dims + 1 + n = omega arith in
    inr (
      brackets (dims + 1),
      one,
      path_brackets n (dims + 1) rest ty (omega arith)
          (subst (λ (d : ℕ). Path (brackets d) rest ty) at p),
    )

-- neither a separator nor a byte of a name ends a class name
separator_goes_on : (b : ℕ) → nat_eq b 47 ≡ true → nat_eq b 59 ≡ false
separator_goes_on b h = rw (eqb-true b 47 h) refl

semicolon_ends : is_name_byte 59 ≡ false
unfolding is_name_byte
semicolon_ends = refl

name_goes_on : (b : ℕ) → is_name_byte b ≡ true → nat_eq b 59 ≡ false
name_goes_on b h = ne_eqb b 59 (λ e. let f : is_name_byte b ≡ false = rw e semicolon_ends in cc)

abbrev GoesIn : Bool → Bool → Bool → ℕ → List ℕ → Type 0
GoesIn in_part slash fits b bs = (then_part : Bool)
    × (cond slash (cond in_part (Some false) None) (cond fits (Some true) None) ≡ Some then_part)
    × (parts_whole then_part bs ≡ true) × (nat_eq b 59 ≡ false)

goes_in_by : (in_part slash fits : Bool) (b : ℕ) (bs : List ℕ) → nat_eq b 47 ≡ slash → is_name_byte b ≡ fits
    → cond slash (in_part && parts_whole false bs) (fits && parts_whole true bs) ≡ true → GoesIn in_part slash fits b bs
goes_in_by true true fits b bs s f h = (false, refl, h, separator_goes_on b s)
goes_in_by false true fits b bs s f h = absurd cc
goes_in_by in_part false true b bs s f h = (true, refl, h, name_goes_on b f)
goes_in_by in_part false false b bs s f h = absurd cc

-- a byte that goes on in a class name
pub goes_in : (in_part : Bool) (b : ℕ) (bs : List ℕ) → parts_whole in_part (b ∷ bs) ≡ true
    → (then_part : Bool) × (part_after in_part b ≡ Some then_part) × (parts_whole then_part bs ≡ true)
    × (nat_eq b 59 ≡ false)
unfolding part_after
goes_in in_part b bs h = goes_in_by in_part (nat_eq b 47) (is_name_byte b) b bs refl refl h

path_name : (bs : List ℕ) (dims : ℕ) (text : List ℕ) (in_part : Bool) → parts_whole in_part bs ≡ true
    → is_class_name (text ++ bs) ≡ true
    → Path (name dims text in_part) (bs ++ 59 ∷ []) (typed dims (Class (text ++ bs)))
unfolding grown
path_name [] dims text in_part h valid =
    let P : List ℕ → Type 0 = λ (t : List ℕ). (is_class_name t ≡ true)
    → Path (name dims text in_part) (59 ∷ []) (typed dims (Class t)) in
    let here : P text = λ v. inl (refl, rw v refl) in
    subst P (sym (append-nil text)) here valid
path_name (b ∷ bs) dims text in_part h valid =
    let g = goes_in in_part b bs h in
    let one : grown (name dims text in_part) b ≡ Some (more (name dims (text ++ b ∷ []) g.0)) = rw (g.3, g.1) refl in
    let whole_ : text ++ b ∷ bs ≡ (text ++ b ∷ []) ++ bs = sym (append_assoc text (b ∷ []) bs) in
    let P : List ℕ → Type 0 = λ (t : List ℕ). (is_class_name t ≡ true)
    → Path (name dims (text ++ b ∷ []) g.0) (bs ++ 59 ∷ []) (typed dims (Class t)) in
    let deep : P ((text ++ b ∷ []) ++ bs) = λ v. path_name bs dims (text ++ b ∷ []) g.0 g.2 v in
    inr (name dims (text ++ b ∷ []) g.0, one, subst P (sym whole_) deep valid)

pub class_parts : (text : List ℕ) → is_class_name text ≡ true → parts_whole false text ≡ true
class_parts text h =
    (and_parts (parts_whole false text) (not (is_primitive_or_void text)) (sym (class_name_is text) ∙ h)).0

path_base : (dims : ℕ) (base : Base) → IsBase base → Path (brackets dims) (base_text base) (typed dims base)
unfolding grown base_text
path_base dims Boolean is = inl (refl, refl)
path_base dims Byte is = inl (refl, refl)
path_base dims Char is = inl (refl, refl)
path_base dims Short is = inl (refl, refl)
path_base dims Int is = inl (refl, refl)
path_base dims Long is = inl (refl, refl)
path_base dims Float is = inl (refl, refl)
path_base dims Double is = inl (refl, refl)
path_base dims (Class text) is = inr (name dims [] false, refl, path_name text dims [] false (class_parts text is) is)

pub path_field : (ty : FieldType) → IsFieldType ty → Path (brackets 0) (field_text ty) ty
unfolding field_text
path_field ty is =
    let base : Path (brackets ty.dims) (base_text ty.base) ty = path_base ty.dims ty.base is.named in
    path_brackets ty.dims 0 (base_text ty.base) ty (let few = is.dimensions in omega arith)
    (subst (λ (d : ℕ). Path (brackets d) (base_text ty.base) ty) (omega arith) base)

-- ---- reading a field descriptor

abbrev FieldReads : FieldRead → List ℕ → Type 0
FieldReads (field_begun s) so_far = CanBegin s × (so_far ≡ begun_text s)
FieldReads (field_whole ty) so_far = SpellsField so_far ty

keeps_begun : (s : Begun) (o : Option Grown) (r : FieldRead) (b : ℕ) (so_far : List ℕ) → CanBegin s
    → so_far ≡ begun_text s → grown s b ≡ o → field_on o ≡ Some r → FieldReads r (so_far ++ b ∷ [])
keeps_begun s None r b so_far can text h k = absurd cc
keeps_begun s (Some (more next)) r b so_far can text h k =
    let f = grown_fits s b (more next) can h in
    let made : field_begun next ≡ r = cc in
    subst (λ (x : FieldRead). FieldReads x (so_far ++ b ∷ [])) made
    (f.0, ap (λ (t : List ℕ). t ++ b ∷ []) text ∙ sym f.1)
keeps_begun s (Some (whole ty)) r b so_far can text h k =
    let f = grown_fits s b (whole ty) can h in
    let made : field_whole ty ≡ r = cc in
    subst (λ (x : FieldRead). FieldReads x (so_far ++ b ∷ [])) made
    (f.0, f.1 ∙ ap (λ (t : List ℕ). t ++ b ∷ []) (sym text))

keeps : (r q : FieldRead) (b : ℕ) (so_far : List ℕ) → FieldReads r so_far → field_byte r b ≡ Some q
    → FieldReads q (so_far ++ b ∷ [])
keeps (field_begun s) q b so_far h k = keeps_begun s (grown s b) q b so_far h.0 h.1 refl k
keeps (field_whole ty) q b so_far h k = absurd cc

ends : (r : FieldRead) (ty : FieldType) (so_far : List ℕ) → FieldReads r so_far → field_end r ≡ Some ty
    → SpellsField so_far ty
ends (field_begun s) ty so_far h k = absurd cc
ends (field_whole one) ty so_far h k = let same : one
    ≡ ty = cc in subst (λ (t : FieldType). SpellsField so_far t) same h

live : (r : FieldRead) (so_far : List ℕ) → FieldReads r so_far → GoesOn SpellsField so_far
live (field_begun s) so_far h = let g = goes_whole s h.0 in
    (g.rest, g.ty, (g.is, g.text ∙ ap (λ (t : List ℕ). t ++ g.rest) (sym h.1)))
live (field_whole ty) so_far h = nothing_more SpellsField so_far ty h

follows : (text : List ℕ) (s : Begun) (ty : FieldType) (at : ℕ) → Path s text ty
    → walk field_byte field_end (field_begun s) at text ≡ Ok ty
unfolding walk
follows [] s ty at p = absurd p
follows (b ∷ bs) s ty at (inl last) =
    rw (last.0) (ap (λ (o : Option Grown). walk_from at (field_on o)
    (λ t. walk field_byte field_end t (at + 1) [])) last.1)
follows (b ∷ bs) s ty at (inr on) =
    ap (λ (o : Option Grown). walk_from at (field_on o) (λ t. walk field_byte field_end t (at + 1) bs)) on.1
    ∙ follows bs on.0 ty (at + 1) on.2

reads : (text : List ℕ) (ty : FieldType) → SpellsField text ty
    → walk field_byte field_end (field_begun (brackets 0)) 0 text ≡ Ok ty
reads text ty h = subst (λ (t : List ℕ). walk field_byte field_end (field_begun (brackets 0)) 0 t ≡ Ok ty) h.1
    (follows (field_text ty) (brackets 0) ty 0 (path_field ty h.0))

starts : FieldReads (field_begun (brackets 0)) []
starts = (omega arith, refl)

pub bad_ok : {V : Type 0} (r : Result V ℕ) (v : V) → bad_descriptor r ≡ Ok v → r ≡ Ok v
bad_ok (Ok x) v h = ap Ok cc
bad_ok (Err n) v h = absurd cc

pub bad_err : {V : Type 0} (r : Result V ℕ) (e : BadDescriptor) → bad_descriptor r ≡ Err e → r ≡ Err e.place
bad_err (Ok x) e h = absurd cc
bad_err (Err n) e h = let made : BadDescriptor = record { place = n } in let is : made
    ≡ e = cc in ap (λ (x : BadDescriptor). Err x.place) is

pub read_field-found : (text : List ℕ) (ty : FieldType) → read_field text ≡ Ok ty → SpellsField text ty
unfolding read_field
read_field-found text ty h = walk_found field_byte field_end FieldReads SpellsField keeps ends text
    (field_begun (brackets 0)) 0 ty [] starts (bad_ok _ ty h)

pub read_field-only : (text : List ℕ) (ty : FieldType) → SpellsField text ty → read_field text ≡ Ok ty
unfolding read_field
read_field-only text ty h = ap bad_descriptor (reads text ty h)

pub read_field-longest : (text : List ℕ) (e : BadDescriptor) → read_field text ≡ Err e
    → IsLongest SpellsField text e.place
unfolding read_field
read_field-longest text e h = walk_longest field_byte field_end FieldReads SpellsField keeps
    (field_begun (brackets 0)) starts live reads text e.place (bad_err _ e h)
