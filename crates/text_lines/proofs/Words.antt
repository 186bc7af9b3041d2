-- Which bytes names, types and numbers have: none at which a line is taken apart.
use Rattle.std.proofs.Common.{◌≡◌, ◌≢◌, ℕ, zero, suc, ◌+◌, ◌<◌, ◌≤◌, Bool, true, false, not, cond, eqb, ltb, leb, ◌&&◌}
use Rattle.std.proofs.Common.{◌||◌, List, [], ◌∷◌, ◌++◌, map, length, Option, Some, None, refl, sym, ap, subst, ◌∙◌}
use Rattle.std.proofs.Common.{arith, rules, inl, inr, codes}
use Rattle.std.specs.Prelude.{nat_eq, IsTrue, IfSome}
use Rattle.std.specs.Char.{is_ascii_digit, is_ascii_alphanumeric}
use Rattle.std.specs.List.{AllByRecursion, list_all, list_any, flat_map, join_by, repeat}
use Rattle.std.proofs.lemmas.Bool.{and_parts, or_cases, eqb-true, cases_Bool}
use Rattle.jv_base.specs.External.{dotted, external_text, swapped, word_text}
use Rattle.jv_base.specs.Names.{all_name_bytes, is_class_name, is_member_name, is_method_name, is_name_byte}
use Rattle.jv_base.specs.Names.{is_text, parts_whole}
use Rattle.jv_base.specs.Types.{IsBase, IsFieldType}
use Rattle.jv_base.specs.declared.types.Base.{Base}
use Rattle.jv_base.specs.declared.types.Base.TheVariants.{Boolean, Byte, Char, Short, Int, Long, Float, Double, Class}
use Rattle.jv_base.specs.declared.types.FieldType.{FieldType}
use Rattle.jv_base.proofs.Equality.{text_Decides}
use Rattle.jv_base.proofs.FieldLaw.{class_parts}
use Rattle.text_lines.specs.Cut.{Lacks}
use Rattle.text_lines.specs.Lines.{is_blank, is_comment, is_passed_over}
use Rattle.text_lines.specs.Members.{result_text}

-- a byte of a name, a dot, or one of `<>[]`
abbrev pub is_word_byte : ℕ → Bool
is_word_byte b = is_name_byte b || (eqb b 46 || (eqb b 60 || (eqb b 62 || (eqb b 91 || eqb b 93))))

-- each byte is one of these
abbrev pub IsWord : List ℕ → Type 0
IsWord text = AllByRecursion (λ b. is_word_byte b ≡ true) text

pub word_append : (x y : List ℕ) → IsWord x → IsWord y → IsWord (x ++ y)
word_append [] y p q = q
word_append (b ∷ x) y p q = (p.0, word_append x y p.1 q)

pub word_lacks : (byte : ℕ) (text : List ℕ) → is_word_byte byte ≡ false → IsWord text → Lacks byte text
word_lacks byte [] not_one h = tt
word_lacks byte (b ∷ text) not_one h = (
  (λ e. let f : false ≡ true = sym not_one ∙ subst (λ (x : ℕ). is_word_byte x ≡ true) e h.0 in absurd cc),
  word_lacks byte text not_one h.1,
)

pub name_byte : (b : ℕ) → is_name_byte b ≡ true → is_word_byte b ≡ true
name_byte b h = rw h refl

names_word : (text : List ℕ) → all_name_bytes text ≡ true → IsWord text
names_word [] h = tt
names_word (b ∷ text) h =
    let p = and_parts (is_name_byte b) (all_name_bytes text) h in (name_byte b p.0, names_word text p.1)

member_parts : (text : List ℕ) → is_member_name text ≡ true → (0 < length text) × (all_name_bytes text ≡ true)
unfolding is_member_name
member_parts text h = let p = and_parts (not (eqb (length text) 0)) (all_name_bytes text) h in (grind (arith, p.0), p.1)

pub member_word : (text : List ℕ) → IsTrue (is_member_name text) → IsWord text
member_word text h = names_word text (member_parts text h).1

pub member_some : (text : List ℕ) → IsTrue (is_member_name text) → 0 < length text
member_some text h = (member_parts text h).0

init_word : IsWord (codes "<init>")
unfolding is_name_byte
init_word = (refl, (refl, (refl, (refl, (refl, (refl, tt))))))

clinit_word : IsWord (codes "<clinit>")
unfolding is_name_byte
clinit_word = (refl, (refl, (refl, (refl, (refl, (refl, (refl, (refl, tt))))))))

pub method_word : (text : List ℕ) → IsTrue (is_method_name text) → IsWord text
unfolding is_method_name
method_word text h =
    elim (or_cases (is_member_name text || is_text text (codes "<init>")) (is_text text (codes "<clinit>")) h) [
      | inl p ↦ elim (or_cases (is_member_name text) (is_text text (codes "<init>")) p) [
        | inl q ↦ member_word text q
        | inr q ↦ subst IsWord (sym ((text_Decides text (codes "<init>")).0 q)) init_word
      ]
      | inr p ↦ subst IsWord (sym ((text_Decides text (codes "<clinit>")).0 p)) clinit_word
    ]

-- ---- class names

dotted_byte : (b : ℕ) (t : Bool) → eqb b 47 ≡ t → (t ≡ false → is_name_byte b ≡ true)
    → is_word_byte (cond t 46 b) ≡ true
unfolding is_name_byte
dotted_byte b true e h = refl
dotted_byte b false e h = name_byte b (h refl)

whole_word : (in_part : Bool) (name : List ℕ) → parts_whole in_part name ≡ true → IsWord (dotted name)
whole_word in_part [] h = tt
whole_word in_part (b ∷ bs) h =
    elim (eqb b 47) as
    (λ t. eqb b 47 ≡ t → cond t (in_part && parts_whole false bs) (is_name_byte b && parts_whole true bs) ≡ true
    → (is_word_byte (cond t 46 b) ≡ true) × IsWord (dotted bs)) [
      | true ↦ λ e k. let p = and_parts in_part (parts_whole false bs) k in
          (dotted_byte b true e (λ x. absurd cc), whole_word false bs p.1)
      | false ↦ λ e k. let p = and_parts (is_name_byte b) (parts_whole true bs) k in
          (dotted_byte b false e (λ x. p.0), whole_word true bs p.1)
    ] refl h

pub class_word : (name : List ℕ) → IsTrue (is_class_name name) → IsWord (dotted name)
class_word name h = whole_word false name (class_parts name h)

whole_some : (name : List ℕ) → parts_whole false name ≡ true → 0 < length (dotted name)
whole_some [] h = absurd cc
whole_some (b ∷ bs) h = omega arith

pub class_some : (name : List ℕ) → IsTrue (is_class_name name) → 0 < length (dotted name)
class_some name h = whole_some name (class_parts name h)

-- ---- types

base_word : (base : Base) → IsBase base → IsWord (word_text base) × (0 < length (word_text base))
unfolding word_text is_name_byte
base_word Boolean h = ((refl, (refl, (refl, (refl, (refl, (refl, (refl, tt))))))), omega arith)
base_word Byte h = ((refl, (refl, (refl, (refl, tt)))), omega arith)
base_word Char h = ((refl, (refl, (refl, (refl, tt)))), omega arith)
base_word Short h = ((refl, (refl, (refl, (refl, (refl, tt))))), omega arith)
base_word Int h = ((refl, (refl, (refl, tt))), omega arith)
base_word Long h = ((refl, (refl, (refl, (refl, tt)))), omega arith)
base_word Float h = ((refl, (refl, (refl, (refl, (refl, tt))))), omega arith)
base_word Double h = ((refl, (refl, (refl, (refl, (refl, (refl, tt)))))), omega arith)
base_word (Class name) h = (class_word name h, class_some name h)

brackets_word : (n : ℕ) → IsWord (repeat n (codes "[]"))
unfolding is_name_byte
brackets_word zero = tt
brackets_word (suc n) = (refl, (refl, brackets_word n))

pub longer : (x y : List ℕ) → 0 < length x → 0 < length (x ++ y)
longer [] y h = absurd (omega arith)
longer (b ∷ x) y h = omega arith

pub type_word : (ty : FieldType) → IsFieldType ty → IsWord (external_text ty) × (0 < length (external_text ty))
unfolding external_text
type_word ty h =
    let base = base_word ty.base h.named in
    (word_append (word_text ty.base) (repeat ty.dims (codes "[]")) base.0 (brackets_word ty.dims), longer _ _ base.1)

abbrev pub IsResult : Option FieldType → Type 0
IsResult None = Unit {0}
IsResult (Some ty) = IsFieldType ty

pub returned_is : (o : Option FieldType) → IfSome o IsFieldType → IsResult o
returned_is None h = tt
returned_is (Some ty) h = h

pub result_word : (ret : Option FieldType) → IsResult ret → IsWord (result_text ret) × (0 < length (result_text ret))
unfolding is_name_byte
result_word None h = ((refl, (refl, (refl, (refl, tt)))), omega arith)
result_word (Some ty) h = type_word ty h

-- ---- digits

alphanumeric : (b : ℕ) → is_ascii_digit b ≡ true → is_word_byte b ≡ true
unfolding is_name_byte
alphanumeric b h = grind (arith, h)

pub digits_word : (text : List ℕ) → list_all is_ascii_digit text ≡ true → IsWord text
digits_word [] h = tt
digits_word (b ∷ text) h =
    let p = and_parts (is_ascii_digit b) (list_all is_ascii_digit text) h in (alphanumeric b p.0, digits_word text p.1)

-- ---- lines that say something

blank_no : (b : ℕ) → is_word_byte b ≡ true → is_blank b ≡ false
unfolding is_name_byte
blank_no b h = elim (cases_Bool (is_blank b)) [
  | inl blank ↦ elim (or_cases (eqb b 32) (eqb b 9) blank) [
    | inl e ↦ (let f : false ≡ true = subst (λ (x : ℕ). is_word_byte x ≡ true) (eqb-true b 32 e) h in absurd cc)
    | inr e ↦ (let f : false ≡ true = subst (λ (x : ℕ). is_word_byte x ≡ true) (eqb-true b 9 e) h in absurd cc)
  ]
  | inr other ↦ other
]

hash_no : (b : ℕ) → is_word_byte b ≡ true → eqb b 35 ≡ false
unfolding is_name_byte
hash_no b h = elim (cases_Bool (eqb b 35)) [
  | inl e ↦ (let f : false ≡ true = subst (λ (x : ℕ). is_word_byte x ≡ true) (eqb-true b 35 e) h in absurd cc)
  | inr other ↦ other
]

-- a line that begins with a word
pub word_says : (word rest : List ℕ) → IsWord word → 0 < length word → is_passed_over (word ++ rest) ≡ false
unfolding is_passed_over
word_says [] rest h some = absurd (omega arith)
word_says (b ∷ word) rest h some = rw (hash_no b h.0, blank_no b h.0) refl

-- a line that begins with four blanks and a word
pub member_says : (word rest : List ℕ) → IsWord word → 0 < length word
    → is_passed_over (codes "    " ++ (word ++ rest)) ≡ false
unfolding is_passed_over
member_says [] rest h some = absurd (omega arith)
member_says (b ∷ word) rest h some = rw (blank_no b h.0) refl
