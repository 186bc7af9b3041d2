-- How a method overrides one that not all packages may override (JVMS 5.4.5): by itself, or through a method that all
-- may (only the proofs of check_links and select need it).
use Rattle.std.specs.Prelude.{Bool, false, ◌&&◌, ◌||◌, List, [], ◌∷◌}
use Rattle.std.specs.List.{list_any}
use Rattle.class_model.specs.declared.class.Class.{Class}
use Rattle.class_pool.specs.declared.id.ClassId.{ClassId}
use Rattle.class_pool.specs.declared.id.MemberAt.{MemberAt}
use Rattle.class_pool.specs.Found.{declared_by, is_protected_member, is_public_member, named_at, same_member}
use Rattle.class_pool.specs.Selection.{may_be_overridden, may_override}
use Rattle.class_pool.specs.Walk.{superclasses_from}

-- a member is one of these
abbrev pub is_among : MemberAt → List MemberAt → Bool
is_among above ms = list_any (λ m. same_member m above) ms

module _ (classes : List Class) (above : MemberAt) where
  -- the methods of its name and descriptor in a class and its superclasses
  abbrev pub alike_from : ClassId → List MemberAt
  alike_from c = declared_by classes (named_at classes above) (superclasses_from classes c)

  -- a method of a subclass overrides the one above by itself, and those of all packages may override it
  abbrev pub overrides_openly : MemberAt → Bool
  overrides_openly m = may_override classes m && may_be_overridden classes m.class above
      && (is_public_member classes m || is_protected_member classes m)

  -- of these methods, the lowest class's first, one does so and has the one above behind it
  abbrev pub has_open_override : List MemberAt → Bool
  has_open_override [] = false
  has_open_override (m ∷ ms) = (overrides_openly m && is_among above ms) || has_open_override ms

  -- a method is the one above or overrides it by itself; where one does so openly, any that may override does
  abbrev pub overrides_where : Bool → MemberAt → Bool
  overrides_where opened m = same_member m above
      || (may_override classes m && (opened || may_be_overridden classes m.class above))
