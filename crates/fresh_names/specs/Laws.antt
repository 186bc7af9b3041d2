-- No two names of one group get one new name (the project's own: what is renamed is told apart as before).
use Rattle.std.specs.Prelude.{◌≡◌, ◌⊎◌, ℕ, true, List}
use Rattle.class_rename.specs.Names.{MethodName}
use Rattle.fresh_names.specs.Fresh.{is_taken}
use Rattle.fresh_names.specs.Given.{NameTable, class_given, field_given, front_of, method_given, of_type, stays_for}

-- a name that is taken, or stands among those that get new ones where they aren't taken
abbrev pub IsNamed : List (List ℕ) → List (List ℕ) → List ℕ → Type 0
IsNamed taken names a = (is_taken taken a ≡ true) ⊎ (is_taken names a ≡ true)

-- no two classes get one name
abbrev pub ClassesDiffer : Type 0
ClassesDiffer = (old : NameTable) (stays names : List (List ℕ)) (a b : List ℕ) → IsNamed stays names a
    → IsNamed stays names b → class_given old stays names a ≡ class_given old stays names b → a ≡ b

-- nor do fields
abbrev pub FieldsDiffer : Type 0
FieldsDiffer = (old : NameTable) (stays names : List (List ℕ)) (a b : List ℕ) → IsNamed stays names a
    → IsNamed stays names b → field_given old stays names a ≡ field_given old stays names b → a ≡ b

-- nor do methods of one descriptor (JVMS 4.6)
abbrev pub MethodsDiffer : Type 0
MethodsDiffer = (old : List (MethodName × List ℕ)) (fixed methods : List MethodName) (d a b : List ℕ)
    → IsNamed (stays_for fixed d) (of_type d methods) a → IsNamed (stays_for fixed d) (of_type d methods) b
    → method_given old fixed methods a d ≡ method_given old fixed methods b d → a ≡ b

-- a name that stays is its own new one
abbrev pub ClassesStay : Type 0
ClassesStay = (old : NameTable) (stays names : List (List ℕ)) (a : List ℕ) → is_taken stays a ≡ true
    → class_given old stays names a ≡ a

abbrev pub FieldsStay : Type 0
FieldsStay = (old : NameTable) (stays names : List (List ℕ)) (a : List ℕ) → is_taken stays a ≡ true
    → field_given old stays names a ≡ a

abbrev pub MethodsStay : Type 0
MethodsStay = (old : List (MethodName × List ℕ)) (fixed methods : List MethodName) (a d : List ℕ)
    → is_taken (stays_for fixed d) a ≡ true → method_given old fixed methods a d ≡ a

-- a class stays in its package (JVMS 4.2.1)
abbrev pub PackagesStay : Type 0
PackagesStay = (old : NameTable) (stays names : List (List ℕ)) (a : List ℕ)
    → front_of (class_given old stays names a) ≡ front_of a
