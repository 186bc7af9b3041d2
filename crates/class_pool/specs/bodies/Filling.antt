-- Lists of the superinterfaces that classes have themselves, while they are made (only the proof of build needs it).
use Rattle.std.specs.Prelude.{◌≡◌, ◌+◌, ◌≤◌, Bool, true, false, List, [], length, slice_index_or}
use Rattle.std.specs.List.{All}
use Rattle.class_model.specs.declared.class.Class.{Class}
use Rattle.lib_table.specs.Library.{library}
use Rattle.class_pool.specs.declared.id.ClassId.{ClassId}
use Rattle.class_pool.specs.declared.hierarchy.superinterfaces.Filling.{Filling}
use Rattle.class_pool.specs.bodies.Graph.{number}
use Rattle.class_pool.specs.Hierarchy.{IsClass}
use Rattle.class_pool.specs.bodies.Lists.{list_at}
use Rattle.class_pool.specs.Walk.{each_once, own_superinterfaces}

-- the class has its list
abbrev pub is_filled : List Bool → ClassId → Bool
is_filled filled a = slice_index_or filled (number a) false

-- so has each of these classes
abbrev pub AreFilled : List Bool → List ClassId → Type 0
AreFilled filled ids = All (λ b. is_filled filled b ≡ true) ids

-- each class stands once
abbrev pub IsOnce : List ClassId → Type 0
IsOnce ids = each_once [] ids ≡ ids

-- the lists that are there are right
pub record IsFilling (classes : List Class) (f : Filling) : Type 0 where
  pub few : length classes ≤ 4294967295
  pub lists : length f.lists ≡ length library + length classes
  pub filled : length f.filled.items ≡ length library + length classes
  pub count : f.met.count ≡ length library + length classes
  pub none : f.met.ids ≡ []
  pub there : All (All (IsClass classes)) f.lists
  pub own : (a : ClassId) → IsClass classes a → is_filled f.filled.items a ≡ true
      → list_at f.lists a ≡ each_once [] (own_superinterfaces classes a)

-- each class that is filled stays so
abbrev pub Keeps : List Bool → List Bool → Type 0
Keeps old new = (a : ClassId) → is_filled old a ≡ true → is_filled new a ≡ true
