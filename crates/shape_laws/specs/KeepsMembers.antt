-- What a change of classes leaves alone, so that names lead to the same classes and members: all
-- that a program for the machine is made of, the codes aside (JVMS 4.1, 4.5, 4.6, 5.4.3).
use Rattle.std.specs.Prelude.{◌≡◌, ℕ, List, ◌++◌, map, Option, None}
use Rattle.class_model.specs.Flags.{acc_public, has}
use Rattle.class_model.specs.declared.class.Class.{Class}
use Rattle.class_model.specs.declared.class.Constant.{Constant}
use Rattle.class_model.specs.declared.class.Field.{Field}
use Rattle.class_model.specs.declared.class.Method.{Method}
use Rattle.class_pool.specs.Found.{MemberRow, field_row, method_row}
use Rattle.class_pool.specs.Hierarchy.{kind_of}
use Rattle.class_pool.specs.Members.{member_named}

-- the members of a class, as names are looked up among them
abbrev pub rows_of : Class → List MemberRow
rows_of c = map field_row c.fields ++ map method_row c.methods

abbrev pub no_constant : Method → Option Constant
no_constant m = None

-- the constant values of the members of a class (JVMS 4.7.2)
abbrev pub constants_of : Class → List (Option Constant)
constants_of c = map (λ (f : Field). f.constant) c.fields ++ map no_constant c.methods

pub record KeepsMembers (f : Class → Class) : Type 0 where
  pub name : (c : Class) → (f c).name ≡ c.name
  pub super_name : (c : Class) → (f c).super_name ≡ c.super_name
  pub interfaces : (c : Class) → (f c).interfaces ≡ c.interfaces
  pub kind : (c : Class) → kind_of (f c) ≡ kind_of c
  pub is_public : (c : Class) → has acc_public (f c).flags.0 ≡ has acc_public c.flags.0
  pub rows : (c : Class) → rows_of (f c) ≡ rows_of c
  pub named : (c : Class) (name ty : List ℕ) → member_named (f c) name ty ≡ member_named c name ty
  pub constants : (c : Class) → constants_of (f c) ≡ constants_of c
