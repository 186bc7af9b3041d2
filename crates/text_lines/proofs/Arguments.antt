-- Types that are read one by one, with a comma between two.
use Rattle.std.proofs.Common.{◌≡◌, ◌≢◌, ℕ, ◌+◌, ◌<◌, Bool, true, false, cond, eqb, eq-eqb, List, [], ◌∷◌, ◌++◌, length}
use Rattle.std.proofs.Common.{Option, Some, None, Bor, refl, sym, ap, subst, ◌∙◌, append_assoc, arith, ne_eqb, codes}
use Rattle.std.specs.List.{slice_split, onto_first, AllByRecursion, flat_map}
use Rattle.std.specs.Option.{option_map}
use Rattle.std.proofs.lemmas.List.{append-nil, length-append}
use Rattle.jv_base.specs.declared.types.FieldType.{FieldType}
use Rattle.jv_base.specs.External.{external_text}
use Rattle.jv_base.specs.Types.{IsFieldType}
use Rattle.text_lines.specs.Cut.{◌>>=◌, cut, Lacks, parts_copied}
use Rattle.text_lines.specs.Members.{arguments_of, type_of, types_of, arguments_text}
use Rattle.text_lines.specs.bodies.Shared.{IsPushed}
use Rattle.text_lines.proofs.Parts.{cut_some, cut_not, lacks_append}
use Rattle.text_lines.proofs.Words.{is_word_byte, type_word, word_lacks}

-- the parts between commas
abbrev pub between : List ℕ → List (List ℕ)
between text = slice_split (λ b. eqb b 44) text

-- the first part ends at the first comma
pub split_first : (x y : List ℕ) → Lacks 44 x → between (x ++ 44 ∷ y) ≡ x ∷ between y
split_first [] y h = refl
split_first (b ∷ x) y h = let other : eqb b 44 ≡ false = ne_eqb b 44 h.0 in rw (other, split_first x y h.1) refl

-- without a comma there is one part
pub split_none : (x : List ℕ) → Lacks 44 x → between x ≡ x ∷ []
split_none [] h = refl
split_none (b ∷ x) h = let other : eqb b 44 ≡ false = ne_eqb b 44 h.0 in rw (other, split_none x h.1) refl

-- ---- a loop over the parts

-- what was read, and what is still to be read
abbrev pub read_on : List FieldType → List (List ℕ) → Option (List FieldType)
read_on types rest = option_map (λ tys. types ++ tys) (types_of rest)

one_more : (types new : List FieldType) (found : Option FieldType) (b : Bool) (o : Option (List FieldType)) → b ≡ true
    → IsPushed b types new found
    → option_map (λ tys. types ++ tys) (found >>= (λ ty. option_map (λ tys. ty ∷ tys) o))
    ≡ option_map (λ tys. new ++ tys) o
one_more types new (Some ty) true None e h = refl
one_more types new (Some ty) true (Some tys) e h =
    rw h (ap (λ (l : List FieldType). let r : Option (List FieldType) = Some l in r)
    (sym (append_assoc types (ty ∷ []) tys)))
one_more types new None true o e h = absurd h
one_more types new found false o e h = absurd cc

no_more : (types new : List FieldType) (found : Option FieldType) (b : Bool) (o : Option (List FieldType)) → b ≡ false
    → IsPushed b types new found
    → option_map (λ tys. types ++ tys) (found >>= (λ ty. option_map (λ tys. ty ∷ tys) o)) ≡ None
no_more types new found false o e h = rw h refl
no_more types new found true o e h = absurd cc

first_of : (text first others : List ℕ) → cut 44 text ≡ Some (first, others) → between text ≡ first ∷ between others
first_of text first others h =
    let parts = cut_some 44 text (first, others) h in ap between parts.0 ∙ split_first first others parts.1

-- a part was read
pub goes_on : (text first others : List ℕ) (types new : List FieldType) (b : Bool) (total : Option (List FieldType))
    → cut 44 text ≡ Some (first, others) → b ≡ true → IsPushed b types new (type_of first)
    → read_on types (between text) ≡ total → read_on new (between others) ≡ total
goes_on text first others types new b total h e pushed so_far =
    sym (one_more types new (type_of first) b (types_of (between others)) e pushed)
    ∙ ap (read_on types) (sym (first_of text first others h)) ∙ so_far

-- a part spells no type
pub stops : (text first others : List ℕ) (types new : List FieldType) (b : Bool) (total : Option (List FieldType))
    → cut 44 text ≡ Some (first, others) → b ≡ false → IsPushed b types new (type_of first)
    → read_on types (between text) ≡ total → None ≡ total
stops text first others types new b total h e pushed so_far =
    sym (no_more types new (type_of first) b (types_of (between others)) e pushed)
    ∙ ap (read_on types) (sym (first_of text first others h)) ∙ so_far

last_of : (text : List ℕ) → cut 44 text ≡ None → between text ≡ text ∷ []
last_of text h = split_none text (cut_not 44 text h)

-- the last part was read
pub ends : (text : List ℕ) (types new : List FieldType) (b : Bool) (total : Option (List FieldType))
    → cut 44 text ≡ None
    → b ≡ true → IsPushed b types new (type_of text) → read_on types (between text) ≡ total → Some new ≡ total
ends text types new b total h e pushed so_far =
    ap (λ (l : List FieldType). let r : Option (List FieldType) = Some l in r) (sym (append-nil new))
    ∙ sym (one_more types new (type_of text) b (Some []) e pushed)
    ∙ ap (read_on types) (sym (last_of text h)) ∙ so_far

-- the last part spells no type
pub ends_not : (text : List ℕ) (types new : List FieldType) (b : Bool) (total : Option (List FieldType))
    → cut 44 text ≡ None
    → b ≡ false → IsPushed b types new (type_of text) → read_on types (between text) ≡ total → None ≡ total
ends_not text types new b total h e pushed so_far =
    sym (no_more types new (type_of text) b (Some []) e pushed)
    ∙ ap (read_on types) (sym (last_of text h)) ∙ so_far

-- what is behind a comma is shorter
pub shorter : (text first others : List ℕ) → cut 44 text ≡ Some (first, others) → length others < length text
shorter text first others h =
    let parts = cut_some 44 text (first, others) h in
    let len = ap length parts.0 ∙ length-append first (44 ∷ others) in omega (arith, len)

-- a text that isn't empty
pub arguments_is : (text : List ℕ) → false ≡ eqb (length text) 0 → types_of (between text) ≡ arguments_of text
arguments_is text e = rw (← e) refl

-- ---- bytes that stand in no type

types_lack : (byte : ℕ) (tys : List FieldType) → is_word_byte byte ≡ false → 44 ≢ byte
    → AllByRecursion IsFieldType tys → Lacks byte (flat_map (λ ty. codes "," ++ external_text ty) tys)
types_lack byte [] none comma h = tt
types_lack byte (ty ∷ tys) none comma h = (
  comma,
  lacks_append byte (external_text ty) _ (word_lacks byte (external_text ty) none (type_word ty h.0).0)
      (types_lack byte tys none comma h.1),
)

pub arguments_lack_byte : (byte : ℕ) (tys : List FieldType) → is_word_byte byte ≡ false → 44 ≢ byte
    → AllByRecursion IsFieldType tys → Lacks byte (arguments_text tys)
arguments_lack_byte byte [] none comma h = tt
arguments_lack_byte byte (ty ∷ tys) none comma h =
    lacks_append byte (external_text ty) _ (word_lacks byte (external_text ty) none (type_word ty h.0).0)
    (types_lack byte tys none comma h.1)
