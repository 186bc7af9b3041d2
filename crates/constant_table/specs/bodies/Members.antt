-- References to members by the numbers of their texts (the project's own: only the proof of the table needs it).
use Rattle.std.specs.Prelude.{ℕ, Bool, List, [], ◌∷◌, ◌≡◌, length, if◌then◌else◌}
use Rattle.jv_base.specs.Utf16.{units_of}
use Rattle.class_model.specs.declared.constant.PoolConstant.{PoolConstant}
use Rattle.class_model.specs.declared.op.MemberRef.{MemberRef}
use Rattle.class_model.specs.CanonicalPool.{type_name}
use Rattle.constant_table.specs.declared.key.Key.{Key}
use Rattle.constant_table.specs.declared.key.Key.TheVariants as key
use Rattle.constant_table.specs.declared.finding.MemberNumbers.{MemberNumbers}
use Rattle.constant_table.specs.bodies.Keys.{number_of, constant_of, IsKeyIn}
use Rattle.constant_table.specs.bodies.Texts.{HasText}

-- the numbers of its class, its name and its descriptor
abbrev pub numbers_of : List (List ℕ) → MemberRef → MemberNumbers
numbers_of texts member = record {
  class = number_of texts (units_of (type_name member.class));
  name = number_of texts (units_of member.name);
  descriptor = number_of texts (units_of member.ty);
}

-- the key of a field
abbrev pub field_key : MemberNumbers → Key
field_key m = key.Fieldref m.class m.name m.descriptor

-- the key of a method, by whether its class is an interface
abbrev pub method_key : MemberNumbers → Bool → Key
method_key m of_interface = if of_interface then key.InterfaceMethodref m.class m.name m.descriptor else key.Methodref
    m.class m.name m.descriptor

-- the keys of its class and its name and type, each behind its parts
abbrev pub part_keys : MemberNumbers → List Key
part_keys m = key.Utf8 m.class ∷ key.Class m.class ∷ key.Utf8 m.name ∷ key.Utf8 m.descriptor
    ∷ key.NameAndType m.name m.descriptor ∷ []

-- a key tells this constant
pub record Tells (texts : List (List ℕ)) (k : Key) (constant : PoolConstant) : Type 0 where
  pub within : IsKeyIn (length texts) k
  pub is : constant_of texts k ≡ constant

-- the texts of these numbers
pub record TellsTexts (texts : List (List ℕ)) (m : MemberNumbers)
    (of_class of_name of_descriptor : List ℕ) : Type 0 where
  pub class : HasText texts m.class of_class
  pub name : HasText texts m.name of_name
  pub descriptor : HasText texts m.descriptor of_descriptor
