-- Attributes as they are written are found by their names (JVMS 4.7).
use Rattle.std.proofs.Common.{◌≡◌, ℕ, ◌+◌, ◌^◌, ◌<◌, ◌≤◌, Bool, true, false, List, [], ◌++◌, length, Option, refl, sym}
use Rattle.std.proofs.Common.{ap, subst, ◌∙◌, arith}
use Rattle.std.specs.Prelude.{codes}
use Rattle.std.specs.List.{AllByRecursion}
use Rattle.std.specs.Str.{chars}
use Rattle.std.proofs.lemmas.List.{append-nil, length-append}
use Rattle.std.proofs.lemmas.List.Elements.{filter-append}
use Rattle.jv_base.specs.Utf16.{units_of}
use Rattle.jv_base.specs.Names.{is_text}
use Rattle.class_model.specs.declared.pool.Entry.{Entry}
use Rattle.class_model.specs.declared.constant.PoolConstant.{PoolConstant}
use Rattle.class_model.specs.declared.constant.PoolConstant.TheVariants.{Utf8}
use Rattle.class_model.specs.Pool.{units_at}
use Rattle.class_model.specs.Structure.{AttributeInfo}
use Rattle.class_model.specs.Attributes.{is_named, named, IsAttribute, IsMark}
use Rattle.class_model.specs.CanonicalClass.{text_index, attribute, attribute_constants, mark_constants}
use Rattle.class_model.specs.CanonicalClass.{mark_attributes}
use Rattle.class_model.specs.bodies.PoolEntries.{entries_of, Has}
use Rattle.class_model.proofs.BackPool.{index_fits}
use Rattle.class_laws.proofs.SpelledLists.{all_front, all_back, all_both}
use Rattle.class_laws.proofs.SpelledPool.{units_there}
use Rattle.class_laws.proofs.SpelledWanted.{HasAll}

-- ---- names are their units

pub code_units : units_of (codes "Code") ≡ codes "Code"
unfolding lib.Utf8.encode units_of chars
code_units = refl

pub lines_units : units_of (codes "LineNumberTable") ≡ codes "LineNumberTable"
unfolding lib.Utf8.encode units_of chars
lines_units = refl

pub map_units : units_of (codes "StackMapTable") ≡ codes "StackMapTable"
unfolding lib.Utf8.encode units_of chars
map_units = refl

pub exceptions_units : units_of (codes "Exceptions") ≡ codes "Exceptions"
unfolding lib.Utf8.encode units_of chars
exceptions_units = refl

pub synthetic_units : units_of (codes "Synthetic") ≡ codes "Synthetic"
unfolding lib.Utf8.encode units_of chars
synthetic_units = refl

pub deprecated_units : units_of (codes "Deprecated") ≡ codes "Deprecated"
unfolding lib.Utf8.encode units_of chars
deprecated_units = refl

pub value_units : units_of (codes "ConstantValue") ≡ codes "ConstantValue"
unfolding lib.Utf8.encode units_of chars
value_units = refl

pub source_units : units_of (codes "SourceFile") ≡ codes "SourceFile"
unfolding lib.Utf8.encode units_of chars
source_units = refl

-- ---- attributes

module _ (pool : List PoolConstant) where
  abbrev entries : List Entry
  entries = entries_of pool

  abbrev Named : List ℕ → List AttributeInfo → List AttributeInfo → Type 0
  Named name xs ys = named entries name xs ≡ ys

  -- ---- lists of attributes that are put together

  pub named_left : (name : List ℕ) (xs ys zs : List AttributeInfo) → Named name xs zs → Named name ys []
      → Named name (xs ++ ys) zs
  named_left name xs ys zs h k =
      filter-append (λ (a : AttributeInfo). is_named (units_at entries a.attribute_name_index) name) xs ys
      ∙ ap (λ (l : List AttributeInfo). l ++ named entries name ys) h
      ∙ ap (λ (l : List AttributeInfo). zs ++ l) k ∙ append-nil zs

  pub named_right : (name : List ℕ) (xs ys zs : List AttributeInfo) → Named name xs [] → Named name ys zs
      → Named name (xs ++ ys) zs
  named_right name xs ys zs h k =
      filter-append (λ (a : AttributeInfo). is_named (units_at entries a.attribute_name_index) name) xs ys
      ∙ ap (λ (l : List AttributeInfo). l ++ named entries name ys) h ∙ k

  -- ---- one attribute

  name_is : (name other : List ℕ) (s : Bool) → units_of name ≡ name → is_text name other ≡ s
      → Has pool (Utf8 (units_of name)) → is_named (units_at entries (text_index pool name)) other ≡ s
  name_is name other s plain e h =
      ap (λ (o : Option (List ℕ)). is_named o other) (units_there pool (units_of name) h)
      ∙ ap (λ (u : List ℕ). is_text u other) plain ∙ e

  -- it has its name
  pub named_this : (b : Bool) (name info : List ℕ) (contents : List PoolConstant) → units_of name ≡ name
      → is_text name name ≡ true → HasAll pool (attribute_constants b name contents)
      → Named name (attribute pool b name info) (attribute pool b name info)
  named_this false name info contents plain e h = refl
  named_this true name info contents plain e h = rw (name_is name name true plain e h.0) refl

  -- and no other
  pub named_other : (b : Bool) (name other info : List ℕ) (contents : List PoolConstant) → units_of name ≡ name
      → is_text name other ≡ false → HasAll pool (attribute_constants b name contents)
      → Named other (attribute pool b name info) []
  named_other false name other info contents plain e h = refl
  named_other true name other info contents plain e h = rw (name_is name other false plain e h.0) refl

  pub few : (b : Bool) (name info : List ℕ) → length (attribute pool b name info) ≤ 1
  few false name info = omega arith
  few true name info = omega arith

  pub attribute_is : (count : length pool + 1 < 2 ^ 16) (b : Bool) (name info : List ℕ) (contents : List PoolConstant)
      → (b ≡ true → length info < 2 ^ 32) → HasAll pool (attribute_constants b name contents)
      → AllByRecursion (IsAttribute entries) (attribute pool b name info)
  attribute_is count false name info contents short h = tt
  attribute_is count true name info contents short h = (
    record {
      index_fits = index_fits pool
          (Utf8 (units_of name)) count;
      name = units_of name;
      named = units_there pool
          (units_of name) h.0;
      length_fits = short refl;
    },
    tt,
  )

  -- a mark
  pub mark_is : (b : Bool) (name : List ℕ) → IsMark (attribute pool b name []) b
  mark_is false name = refl
  mark_is true name = (refl, refl)

  -- ---- Synthetic and Deprecated

  module _ (synthetic deprecated : Bool) (has : HasAll pool (mark_constants synthetic deprecated)) where
    first : HasAll pool (attribute_constants synthetic (codes "Synthetic") [])
    first = all_front (Has pool) (attribute_constants synthetic (codes "Synthetic") [])
        (attribute_constants deprecated (codes "Deprecated") []) has

    second : HasAll pool (attribute_constants deprecated (codes "Deprecated") [])
    second = all_back (Has pool) (attribute_constants synthetic (codes "Synthetic") [])
        (attribute_constants deprecated (codes "Deprecated") []) has

    abbrev one : List AttributeInfo
    one = attribute pool synthetic (codes "Synthetic") []

    abbrev two : List AttributeInfo
    two = attribute pool deprecated (codes "Deprecated") []

    pub marks_other : (name : List ℕ) → is_text (codes "Synthetic") name ≡ false
        → is_text (codes "Deprecated") name ≡ false → Named name (mark_attributes pool synthetic deprecated) []
    marks_other name e f = named_left name one two []
        (named_other synthetic (codes "Synthetic") name [] [] synthetic_units e first)
        (named_other deprecated (codes "Deprecated") name [] [] deprecated_units f second)

    pub synthetic_is : IsMark (named entries (codes "Synthetic") (mark_attributes pool synthetic deprecated)) synthetic
    synthetic_is =
        let e = named_left (codes "Synthetic") one two one
        (named_this synthetic (codes "Synthetic") [] [] synthetic_units refl first)
        (named_other deprecated (codes "Deprecated") (codes "Synthetic") [] [] deprecated_units refl second) in
        subst (λ (l : List AttributeInfo). IsMark l synthetic) (sym e) (mark_is synthetic (codes "Synthetic"))

    pub deprecated_is : IsMark
        (named entries (codes "Deprecated") (mark_attributes pool synthetic deprecated)) deprecated
    deprecated_is =
        let e = named_right (codes "Deprecated") one two two
        (named_other synthetic (codes "Synthetic") (codes "Deprecated") [] [] synthetic_units refl first)
        (named_this deprecated (codes "Deprecated") [] [] deprecated_units refl second) in
        subst (λ (l : List AttributeInfo). IsMark l deprecated) (sym e) (mark_is deprecated (codes "Deprecated"))

    pub marks_are : length pool + 1 < 2 ^ 16
        → AllByRecursion (IsAttribute entries) (mark_attributes pool synthetic deprecated)
    marks_are count = all_both (IsAttribute entries) one two
        (attribute_is count synthetic (codes "Synthetic") [] [] (λ e. omega arith) first)
        (attribute_is count deprecated (codes "Deprecated") [] [] (λ e. omega arith) second)

    pub marks_few : length (mark_attributes pool synthetic deprecated) ≤ 2
    marks_few = omega (
      arith,
      length-append one two,
      few synthetic (codes "Synthetic") [],
      few deprecated
          (codes "Deprecated") [],
    )

  -- of attributes before the marks
  pub mark_behind : (name : List ℕ) (xs ys : List AttributeInfo) (b : Bool) → Named name xs []
      → IsMark (named entries name ys) b → IsMark (named entries name (xs ++ ys)) b
  mark_behind name xs ys b h k = subst (λ (l : List AttributeInfo). IsMark l b)
      (sym (named_right name xs ys (named entries name ys) h refl)) k
