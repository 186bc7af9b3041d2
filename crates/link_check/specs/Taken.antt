-- A set that breaks no rule: at none of its places is a kind due.
use Rattle.std.specs.Prelude.{◌≡◌, ◌+◌, ℕ, List, [], length, Some, slice_get}
use Rattle.class_model.specs.declared.class.Class.{Class}
use Rattle.class_model.specs.declared.class.Field.{Field}
use Rattle.class_model.specs.declared.class.Method.{Method}
use Rattle.link_check.specs.Profile.{kinds_of_class, kinds_of_field, kinds_of_method}

-- the project's own: what each class, each field and each method of a set that is taken meets
pub record BreaksNoRule (classes : List Class) : Type 0 where
  pub class : (n : ℕ) (c : Class) → slice_get classes n ≡ Some c → kinds_of_class classes n c ≡ []
  pub field : (n : ℕ) (c : Class) (i : ℕ) (f : Field) → slice_get classes n ≡ Some c → slice_get c.fields i ≡ Some f
      → kinds_of_field classes n c i f ≡ []
  pub method : (n : ℕ) (c : Class) (i : ℕ) (m : Method) → slice_get classes n ≡ Some c → slice_get c.methods i ≡ Some m
      → kinds_of_method classes n c (length c.fields + i) m ≡ []
