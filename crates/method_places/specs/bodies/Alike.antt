-- Methods of one name and descriptor, and the instance methods of each class in a table (only the proof of system_of
-- needs it).
use Rattle.std.specs.Prelude.{◌≡◌, ◌≤◌, ◌<◌, ℕ, ◌+◌, ◌^◌, true, List, [], length, map, nat_lt, slice_index_or, Option}
use Rattle.std.specs.Prelude.{Some, None, ◌||◌, if◌then◌else◌}
use Rattle.std.specs.List.{filter, filter_map, prefix_len}
use Rattle.std.specs.List.Sorted.{IsSorted}
use Rattle.std.specs.Ordering.{nat_cmp}
use Rattle.class_model.specs.declared.class.Class.{Class}
use Rattle.class_model.specs.declared.class.Method.{Method}
use Rattle.class_pool.specs.Found.{IsMethod, NameAndType, declared_in, is_instance_method, is_private_member}
use Rattle.class_pool.specs.Found.{is_protected_member, is_public_member, named_at}
use Rattle.jv_base.specs.Types.{method_text}
use Rattle.class_pool.specs.Items.{class_item}
use Rattle.class_pool.specs.Resolution.{is_interface_in}
use Rattle.class_pool.specs.declared.id.ClassId.{ClassId}
use Rattle.class_pool.specs.declared.id.ClassId.TheVariants.{Prog, Lib}
use Rattle.class_pool.specs.declared.id.MemberAt.{MemberAt}
use Rattle.require_sys.specs.Requires.{members_of}
use Rattle.method_places.specs.bodies.Marks.{mark_of}
use Rattle.method_places.specs.declared.alike.Group.{Group}
use Rattle.method_places.specs.declared.alike.Group.TheVariants.{Mixed, None as no_method, Of}
use Rattle.method_places.specs.declared.methods.InstanceMethod.{InstanceMethod}
use Rattle.method_places.specs.declared.methods.Openness.{Openness}
use Rattle.method_places.specs.declared.methods.Openness.TheVariants.{Abstract, Open, Package, Private}

-- ---- marks of methods

-- the mark of a method by its name and its descriptor
abbrev pub mark_in : Method → ℕ
mark_in m = mark_of (m.name, method_text m.ty)

-- those of the methods of a class, in their order
abbrev pub class_marks : Class → List ℕ
class_marks c = map mark_in c.methods

-- ---- groups of methods

-- how many of the first keys are less than a mark
abbrev pub place_of : List ℕ → ℕ → ℕ
place_of keys mark = prefix_len (λ key. nat_lt key mark) keys

-- a method is the first one of its class with its name and descriptor
abbrev pub IsFirst : List Class → MemberAt → Type 0
IsFirst classes m = declared_in classes (named_at classes m) m.class ≡ Some m

-- a class of the program has a number up to this one
abbrev pub IsUpTo : ℕ → ClassId → Type 0
IsUpTo last (Prog n) = n ≤ last
IsUpTo last (Lib id) = ⊥

-- what is known of a group holds of a method in it
abbrev pub Knows : List Class → Group → MemberAt → Type 0
Knows classes (no_method) m = ⊥
Knows classes (Of one last) m = (named_at classes m ≡ (one.now.name, method_text one.now.ty)) × IsFirst classes m
    × IsUpTo last m.class
Knows classes (Mixed) m = Unit {0}

-- so it is with each earlier method of a class that has the same name and descriptor as one
abbrev pub KnowsEarlier : List Class → Group → ℕ → ℕ → Type 0
KnowsEarlier classes group n index = (k : ℕ) → k < index
    → IsMethod classes (record { class = Prog n; index = k })
    → named_at classes (record { class = Prog n; index = k }) ≡ named_at classes
    (record { class = Prog n; index = index })
    → Knows classes group (record { class = Prog n; index = k })

-- so it is with a member of the set and the group at the place of its mark
abbrev pub IsGrouped : List Class → List ℕ → List Group → ℕ → ℕ → Type 0
IsGrouped classes keys groups n k =
    Knows classes
    (slice_index_or groups (place_of keys (mark_of (named_at classes (record { class = Prog n; index = k }))))
    Mixed) (record { class = Prog n; index = k })

-- of each of the first classes each method
abbrev pub AreGrouped : List Class → List ℕ → List Group → ℕ → Type 0
AreGrouped classes keys groups count = (n k : ℕ) → n < count
    → IsMethod classes (record { class = Prog n; index = k }) → IsGrouped classes keys groups n k

-- a group has no method of this name and descriptor
abbrev pub HasNone : List Class → NameAndType → Group → Type 0
HasNone classes named group = (m : MemberAt) → Knows classes group m → named_at classes m ≡ named → ⊥

-- each mark has the place of a group
abbrev pub ArePlaced : List ℕ → List Group → Type 0
ArePlaced keys groups = (mark : ℕ) → mark < 2 ^ 64 → place_of keys mark < length groups

-- of a class its first methods, which stand behind so many fields
abbrev pub AreClassGrouped : List Class → List ℕ → List Group → ℕ → ℕ → ℕ → Type 0
AreClassGrouped classes keys groups n fields count = (k : ℕ) → k < count → IsGrouped classes keys groups n (fields + k)

-- what groups know they still know
abbrev pub StillKnow : List Class → List Group → List Group → Type 0
StillKnow classes old new = (length new ≡ length old)
    × ((g : ℕ) (m : MemberAt) → Knows classes (slice_index_or old g Mixed) m
    → Knows classes (slice_index_or new g Mixed) m)

-- the methods of a set in groups, by the marks of all of them
pub record AreAlike (classes : List Class) (marks : List (List ℕ)) (keys : List ℕ) (groups : List Group) : Type 0 where
  pub marked : marks ≡ map class_marks classes
  pub sorted : IsSorted nat_cmp keys
  pub grouped : AreGrouped classes keys groups (length classes)

-- the number of a group at a place, 0 for one that isn't of one name and descriptor
abbrev pub group_number : ℕ → Group → ℕ
group_number place (Of one last) = place + 1
group_number place _ = 0

-- the number of the group of a mark
abbrev pub marked_number : List ℕ → List Group → ℕ → ℕ
marked_number keys groups mark = group_number (place_of keys mark) (slice_index_or groups (place_of keys mark) Mixed)

-- the number of a name and a descriptor
abbrev pub number_in : List ℕ → List Group → NameAndType → ℕ
number_in keys groups named = marked_number keys groups (mark_of named)

-- ---- instance methods

-- who may override an instance method by its flags (JVMS 5.4.5)
abbrev pub openness : List Class → MemberAt → Openness
openness classes m =
    if is_private_member classes m then Private
    else if is_interface_in classes m.class then Abstract
    else if is_public_member classes m || is_protected_member classes m then Open
    else Package

-- what the table has of a member of a class of the set
abbrev pub row_in : List Class → (NameAndType → ℕ) → ℕ → ℕ → InstanceMethod
row_in classes number n k = record {
  class = n;
  index = k;
  item = class_item classes n + 1 + k;
  openness = openness classes (record { class = Prog n; index = k });
  number = number (named_at classes (record { class = Prog n; index = k }));
}

abbrev pub row_of : List Class → (NameAndType → ℕ) → MemberAt → Option InstanceMethod
row_of classes number m = of_class m.class m.index where
  of_class : ClassId → ℕ → Option InstanceMethod
  of_class (Prog n) k = Some (row_in classes number n k)
  of_class (Lib id) k = None

-- the member of a row
abbrev pub member_at : InstanceMethod → MemberAt
member_at row = record { class = Prog row.class; index = row.index }

-- a row has the item of its method
abbrev pub HasItem : List Class → InstanceMethod → Type 0
HasItem classes row = row.item ≡ class_item classes row.class + 1 + row.index

-- a row is that of an instance method of a class
pub record IsRow (classes : List Class) (number : NameAndType → ℕ) (n : ℕ) (row : InstanceMethod) : Type 0 where
  pub class : row.class ≡ n
  pub item : HasItem classes row
  pub instance : is_instance_method classes (member_at row) ≡ true
  pub openness : row.openness ≡ openness classes (member_at row)
  pub numbered : row.number ≡ number (named_at classes (member_at row))

-- the rows of a class
abbrev pub class_rows : List Class → (NameAndType → ℕ) → ℕ → List InstanceMethod
class_rows classes number n =
    filter_map (row_of classes number) (filter (is_instance_method classes) (members_of classes (Prog n)))

-- methods with one number, other than 0, have one name and descriptor, and each is the first one of its class
pub record AreNumbers (classes : List Class) (number : NameAndType → ℕ) : Type 0 where
  pub first : (n k : ℕ) → is_instance_method classes (record { class = Prog n; index = k }) ≡ true
      → 0 < number (named_at classes (record { class = Prog n; index = k }))
      → IsFirst classes (record { class = Prog n; index = k })
  pub same : (n k o l : ℕ) → is_instance_method classes (record { class = Prog n; index = k }) ≡ true
      → is_instance_method classes (record { class = Prog o; index = l }) ≡ true
      → 0 < number (named_at classes (record { class = Prog n; index = k }))
      → number (named_at classes (record { class = Prog n; index = k }))
      ≡ number (named_at classes (record { class = Prog o; index = l }))
      → named_at classes (record { class = Prog n; index = k })
      ≡ named_at classes (record { class = Prog o; index = l })

-- the table has the rows of each class
pub record AreRows (classes : List Class) (rows : List (List InstanceMethod)) : Type 0 where
  pub number : NameAndType → ℕ
  pub numbers : AreNumbers classes number
  pub count : length rows ≡ length classes
  pub each : (n : ℕ) → n < length classes → slice_index_or rows n [] ≡ class_rows classes number n
