-- Classes of which no two members have one name and descriptor (JVMS 4.5, 4.6).
use Rattle.std.specs.Prelude.{◌≡◌, ℕ, Bool, true, List, [], ◌∷◌, Some, None}
use Rattle.std.specs.List.{position}
use Rattle.class_model.specs.declared.class.Class.{Class}
use Rattle.class_pool.specs.Members.{is_field, is_method}

-- no more than one of a list passes the test (the project's own)
abbrev pub Once : {A : Type 0} → (A → Bool) → List A → Type 0
Once test [] = Unit {0}
Once test (x ∷ xs) = (test x ≡ true → position test xs ≡ None) × Once test xs

-- a name and a descriptor are those of one member at most
pub record MembersDiffer (c : Class) : Type 0 where
  pub fields : (name descriptor : List ℕ) → Once (is_field name descriptor) c.fields
  pub methods : (name descriptor : List ℕ) → Once (is_method name descriptor) c.methods
  pub apart : (name descriptor : List ℕ) (k : ℕ) → position (is_field name descriptor) c.fields ≡ Some k
      → position (is_method name descriptor) c.methods ≡ None
