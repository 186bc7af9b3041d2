-- Which classes and members of a set are kept where only marked items are left, and where each stands then (the
-- project's own: classes and members are told by their numbers).
use Rattle.std.specs.Prelude.{◌≡◌, ℕ, zero, suc, ◌+◌, nat_lt, Bool, true, ◌&&◌, List, length, Some, IfSome}
use Rattle.std.specs.Prelude.{slice_get, if◌then◌else◌, codes}
use Rattle.std.specs.List.{AllByRecursion}
use Rattle.class_model.specs.declared.class.Class.{Class}
use Rattle.lib_table.specs.Library.{library}
use Rattle.class_pool.specs.Distinct.{MembersDiffer}
use Rattle.class_pool.specs.Found.{rows_in}
use Rattle.class_pool.specs.Hierarchy.{class_named, interfaces, superclass}
use Rattle.class_pool.specs.Items.{class_item}
use Rattle.class_pool.specs.declared.id.ClassId.{ClassId}
use Rattle.class_pool.specs.declared.id.ClassId.TheVariants.{Prog, Lib}
use Rattle.class_pool.specs.declared.id.MemberAt.{MemberAt}
use Rattle.member_shrink.specs.Shrunk.{is_marked}

-- how many numbers pass a test, of the first so many from n on
abbrev pub rank : (ℕ → Bool) → ℕ → ℕ → ℕ
rank passes n zero = 0
rank passes n (suc i) = if passes n then suc (rank passes (n + 1) i) else rank passes (n + 1) i

module _ (classes : List Class) where
  -- a class is one of the set or of the library
  abbrev pub is_class_there : ClassId → Bool
  is_class_there (Prog n) = nat_lt n (length classes)
  is_class_there (Lib id) = nat_lt id (length library)

  module _ (marks : List Bool) where
    -- the item of a class is marked; what is of the library stays in any case
    abbrev pub is_class_marked : ClassId → Bool
    is_class_marked (Prog n) = is_marked marks (class_item classes n)
    is_class_marked (Lib id) = true

    -- the same of the member of a class with a number
    abbrev pub is_index_marked : ClassId → ℕ → Bool
    is_index_marked (Prog n) index = is_marked marks (class_item classes n + 1 + index)
    is_index_marked (Lib id) index = true

    -- a class that is there and marked
    abbrev pub is_class_kept : ClassId → Bool
    is_class_kept x = is_class_there x && is_class_marked x

    -- a member of such a class that is there and marked
    abbrev pub is_member_kept : MemberAt → Bool
    is_member_kept m = is_class_kept m.class
        && (nat_lt m.index (length (rows_in classes m.class)) && is_index_marked m.class m.index)

    -- a class is left behind as many as are marked before it
    abbrev pub class_place : ClassId → ClassId
    class_place (Prog n) = Prog (rank (λ k. is_marked marks (class_item classes k)) 0 n)
    class_place (Lib id) = Lib id

    -- so is a member of a class
    abbrev pub index_place : ClassId → ℕ → ℕ
    index_place (Prog n) index = rank (is_marked marks) (class_item classes n + 1) index
    index_place (Lib id) index = index

    abbrev pub member_place : MemberAt → MemberAt
    member_place m = record { class = class_place m.class; index = index_place m.class m.index }

    -- the direct supertypes of a marked class are marked (JVMS 4.1)
    abbrev pub SupersMarked : Type 0
    SupersMarked = (n : ℕ) (c : Class) → slice_get classes n ≡ Some c → is_class_marked (Prog n) ≡ true
        → IfSome (superclass classes (Prog n)) (λ y. is_class_marked y ≡ true)
        × AllByRecursion (λ y. is_class_marked y ≡ true) (interfaces classes (Prog n))

    -- Object is kept
    abbrev pub ObjectKept : Type 0
    ObjectKept = IfSome (class_named classes (codes "java/lang/Object")) (λ y. is_class_kept y ≡ true)

  -- no two members of a class have one name and one descriptor (JVMS 4.5, 4.6)
  abbrev pub AllMembersDiffer : Type 0
  AllMembersDiffer = (n : ℕ) (c : Class) → slice_get classes n ≡ Some c → MembersDiffer c
