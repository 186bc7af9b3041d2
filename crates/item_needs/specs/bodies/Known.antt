-- What references want, as it is remembered (only the proof of system_of needs it).
use Rattle.std.specs.Prelude.{◌≡◌, ◌≤◌, ℕ, IfSome, List, ◌++◌, Option, Some, drop, length, slice_get, true}
use Rattle.std.specs.List.{All}
use Rattle.jv_base.specs.Descriptors.{read_field, read_method}
use Rattle.class_model.specs.declared.class.Class.{Class}
use Rattle.class_model.specs.declared.op.MemberRef.{MemberRef}
use Rattle.class_pool.specs.declared.id.ClassId.TheVariants.{Prog}
use Rattle.link_check.specs.Links.{resolved_method}
use Rattle.link_check.specs.Profile.{class_of}
use Rattle.require_sys.specs.Requires.{Item, field_ref_wants, field_text_wants, method_ref_wants, method_text_wants}
use Rattle.require_sys.specs.Requires.{name_wants, numbers, special_wants}
use Rattle.item_numbers.specs.bodies.Wanting.{has}
use Rattle.item_needs.specs.declared.known.RefKind.{RefKind}
use Rattle.item_needs.specs.declared.known.RefKind.TheVariants.{Field, Method, Special}
use Rattle.item_needs.specs.declared.known.Row.{Row}
use Rattle.item_needs.specs.declared.known.TextKind.{TextKind}
use Rattle.item_needs.specs.declared.known.TextKind.TheVariants as text
use Rattle.item_needs.specs.declared.known.TextRow.{TextRow}

-- what a reference wants in the class with a number, by the kind of its instruction
abbrev pub ref_wants : List Class → ℕ → RefKind → MemberRef → List Item
ref_wants classes n Field r = field_ref_wants classes n r
ref_wants classes n Method r = method_ref_wants classes n r
ref_wants classes n Special r =
    method_ref_wants classes n r ++ special_wants classes n (class_of classes r) (resolved_method classes (Prog n) r)

-- what a name or a descriptor wants
abbrev pub text_wants : List Class → TextKind → List ℕ → List Item
text_wants classes (text.Name) t = name_wants classes t
text_wants classes (text.Field) t = field_text_wants classes (read_field t)
text_wants classes (text.Method) t = method_text_wants classes (read_method t)

-- these stand behind so many others
pub record IsBehind (start : ℕ) (all behind : List ℕ) : Type 0 where
  pub within : start ≤ length all
  pub are : drop start all ≡ behind

-- a row has the numbers of what its text wants
abbrev pub IsTextRow : List Class → TextRow → Type 0
IsTextRow classes row = row.numbers ≡ numbers classes (text_wants classes row.kind row.text)

-- the row is that of a text
pub record IsTextFor (k : TextKind) (t : List ℕ) (row : TextRow) : Type 0 where
  pub kind : row.kind ≡ k
  pub text : row.text ≡ t

-- a row has the numbers of what its reference wants
abbrev pub IsRow : List Class → Row → Type 0
IsRow classes row = row.numbers ≡ numbers classes (ref_wants classes row.from row.kind row.reference)

-- the row is that of a reference
pub record IsFor (n : ℕ) (k : RefKind) (r : MemberRef) (row : Row) : Type 0 where
  pub from : row.from ≡ n
  pub kind : row.kind ≡ k
  pub reference : row.reference ≡ r

-- what is remembered of a set while the wants of an item are gathered as numbers: each row has what it is to have, and
-- where a reference has the stamp of the item, what it wants is among the numbers
pub record Remembers (classes : List Class) (texts : List (Option TextRow)) (rows : List (Option Row))
    (stamps : List ℕ) (stamp : ℕ) (gathered : List ℕ) : Type 0 where
  pub of_texts : All (λ o. IfSome o (IsTextRow classes)) texts
  pub of_rows : All (λ o. IfSome o (IsRow classes)) rows
  pub before : All (λ s. s ≤ stamp) stamps
  pub there : (place : ℕ) (row : Row) → slice_get stamps place ≡ Some stamp → slice_get rows place ≡ Some (Some row)
      → (x : ℕ) → has x row.numbers ≡ true → has x gathered ≡ true
