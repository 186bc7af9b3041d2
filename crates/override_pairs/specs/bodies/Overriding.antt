-- Which methods override one that those of all packages may override (only the proof of system_of needs it).
use Rattle.std.specs.Prelude.{◌≡◌, ℕ, true, false, Bool, ◌||◌, List, Some}
use Rattle.class_model.specs.declared.class.Class.{Class}
use Rattle.class_pool.specs.Found.{declared_in, is_protected_member, is_public_member, named_at, same_member}
use Rattle.class_pool.specs.Resolution.{is_class_below, is_interface_in}
use Rattle.class_pool.specs.Selection.{may_override}
use Rattle.class_pool.specs.declared.id.ClassId.TheVariants.{Prog}
use Rattle.class_pool.specs.declared.id.MemberAt.{MemberAt}

-- a method is the one above, or overrides it where those of all packages may (JVMS 5.4.5)
abbrev pub overrides_openly : List Class → MemberAt → MemberAt → Bool
overrides_openly classes above m = same_member m above || may_override classes m

-- a method that those of all packages may override, which a class or a superclass of it has as the first one of its
-- name and descriptor (JVMS 5.4.5)
pub record IsOpenAbove (classes : List Class) (n : ℕ) (m : MemberAt) : Type 0 where
  pub class : is_interface_in classes m.class ≡ false
  pub first : declared_in classes (named_at classes m) m.class ≡ Some m
  pub above : is_class_below classes (Prog n) m.class ≡ true
  pub wide : (is_public_member classes m || is_protected_member classes m) ≡ true
