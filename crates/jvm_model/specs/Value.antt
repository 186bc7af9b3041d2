-- Values: what a local variable, an operand stack, a field or a component of an array holds (JVMS 2.3, 2.4, 2.6).
use Rattle.std.specs.Prelude.{ℕ, ℤ, pos, Bool, true, false, ◌&&◌, ◌==◌, List, Option, Some, None, if◌then◌else◌}
use Rattle.jv_base.specs.Names.{is_text}
use Rattle.class_model.specs.declared.op.Kind.{Kind}
use Rattle.class_model.specs.declared.op.Kind.TheVariants as kind

-- Of the computational types (JVMS 2.11.1) int stands for boolean, byte, char and short too. A reference is null, that
-- to an object by its number, or that to the string of a literal by its UTF-16 units, since equal literals are one
-- (JVMS 5.1).
pub data Value : Type 0 where
  Int : ℤ → Value
  Long : ℤ → Value
  Null : Value
  Ref : ℕ → Value
  Lit : List ℕ → Value

-- the value is a reference (JVMS 2.4)
abbrev pub is_reference : Value → Bool
is_reference Null = true
is_reference (Ref n) = true
is_reference (Lit units) = true
is_reference _ = false

-- the value is of category 2, so it takes two words (JVMS 2.11.1, table 2.11.1-B)
abbrev pub is_wide : Value → Bool
is_wide (Long z) = true
is_wide _ = false

-- the int of a value that is one
abbrev pub as_int : Value → Option ℤ
as_int (Int z) = Some z
as_int _ = None

-- the long of a value that is one
abbrev pub as_long : Value → Option ℤ
as_long (Long z) = Some z
as_long _ = None

-- the value is of this computational type (JVMS 2.11.1)
abbrev pub is_of : Kind → Value → Bool
is_of kind.Int (Int z) = true
is_of kind.Long (Long z) = true
is_of kind.Ref v = is_reference v
is_of _ _ = false

-- the value, where it is of this computational type
abbrev pub as_kind : Kind → Value → Option Value
as_kind k v = if is_of k v then Some v else None

-- two references are equal (JVMS 6.5.if_acmp_cond)
abbrev pub same_reference : Value → Value → Bool
same_reference Null Null = true
same_reference (Ref m) (Ref n) = m == n
same_reference (Lit units) (Lit others) = is_text units others
same_reference _ _ = false

-- a truth value as an int (JVMS 2.3.4)
abbrev pub truth : Bool → Value
truth true = Int (pos 1)
truth false = Int (pos 0)

-- a field or a method: the class that declares it, its name and its descriptor (JVMS 4.5, 4.6)
pub record Key : Type 0 where
  pub class : List ℕ
  pub name : List ℕ
  pub descriptor : List ℕ

-- two fields or methods are one
abbrev pub same_key : Key → Key → Bool
same_key a b = is_text a.class b.class && is_text a.name b.name && is_text a.descriptor b.descriptor

-- a function with another value at one number
abbrev pub set_at : {A : Type 0} → (ℕ → A) → ℕ → A → ℕ → A
set_at f n v m = if m == n then v else f m

-- a function of class names with another value at one of them
abbrev pub set_class : {A : Type 0} → (List ℕ → A) → List ℕ → A → List ℕ → A
set_class f name v other = if is_text other name then v else f other

-- a function of members with another value at one of them
abbrev pub set_key : {A : Type 0} → (Key → A) → Key → A → Key → A
set_key f key v other = if same_key other key then v else f other
