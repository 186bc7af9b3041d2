-- Names and groups of classes and fields.
use Rattle.std.proofs.Common.{◌≡◌, ℕ, Bool, true, false, ◌&&◌, List, refl, sym, ap}
use Rattle.jv_base.specs.Names.{is_text}
use Rattle.jv_base.proofs.Equality.{same_text, text_is}
use Rattle.class_rename.specs.Names.{is_same_method}
use Rattle.fresh_names.specs.bodies.Giving.{group_of, name_in_group}
use Rattle.fresh_names.specs.declared.taken.Named.{Named}

-- names differ where the names with their groups do
pub names_apart : (named : Named) (a b : List ℕ)
    → is_text a b ≡ is_same_method (name_in_group named a) (name_in_group named b)
names_apart named a b = by (is_text a b) refl
  where
    by : (c : Bool) → is_text a b ≡ c → c ≡ (c && is_text (group_of named a) (group_of named b))
    by true e = sym (text_is (group_of named a) (group_of named b) (ap (group_of named) (same_text a b e)))
    by false e = refl
