-- Rules that are all on classes mark the same for classes and for members.
use Rattle.std.proofs.Common.{◌≡◌, ℕ, Bool, true, not, ◌&&◌, ◌||◌, List, [], ◌∷◌, ◌++◌, map, refl, sym, ap}
use Rattle.std.specs.List.{enumerate_from, list_all, list_any}
use Rattle.std.proofs.lemmas.Bool.{and_parts}
use Rattle.class_model.specs.declared.class.Class.{Class}
use Rattle.class_model.specs.declared.class.Field.{Field}
use Rattle.class_model.specs.declared.class.Method.{Method}
use Rattle.keep_rules.specs.declared.rules.Keep.{Keep}
use Rattle.keep_rules.specs.declared.rules.Rules.{Rules}
use Rattle.keep_match.specs.Fixed.{are_fixed, fixed_rows, fixes_class, fixes_field, fixes_method}
use Rattle.keep_match.specs.Matches.{matches_class, matches_field, matches_method}
use Rattle.keep_match.specs.Seeds.{are_members_met}
use Rattle.keep_match.specs.declared.fixed.Fixes.TheVariants as fixes
use Rattle.rename_map.specs.bodies.Kinds.{is_for_classes}

any_same : (f g : Keep → Bool) → ((k : Keep) → is_for_classes k ≡ true → f k ≡ g k) → (ks : List Keep)
    → list_all is_for_classes ks ≡ true → list_any f ks ≡ list_any g ks
any_same f g same [] all = refl
any_same f g same (k ∷ ks) all =
    let parts = and_parts (is_for_classes k) (list_all is_for_classes ks) all in
    (λ i. same k parts.0 i || any_same f g same ks parts.1 i)

module _ (classes : List Class) (n : ℕ) (c : Class) where
  class_same : (k : Keep) → is_for_classes k ≡ true
      → fixes_class fixes.Members classes n c k ≡ fixes_class fixes.Classes classes n c k
  unfolding fixes_class
  class_same k is = ap (λ (b : Bool). (not k.allow_obfuscation && b) && matches_class k.spec classes n c
      && are_members_met k.kind k.spec.members c) (sym is)

  field_same : (f : Field) (k : Keep) → is_for_classes k ≡ true
      → fixes_field fixes.Members classes n c f k ≡ fixes_field fixes.Classes classes n c f k
  field_same f k is =
      ap (λ (b : Bool). b && list_any (λ spec. matches_field spec f) k.spec.members) (class_same k is)

  method_same : (m : Method) (k : Keep) → is_for_classes k ≡ true
      → fixes_method fixes.Members classes n c m k ≡ fixes_method fixes.Classes classes n c m k
  method_same m k is =
      ap (λ (b : Bool). b && list_any (λ spec. matches_method spec m) k.spec.members) (class_same k is)

  row_same : (ks : List Keep) → list_all is_for_classes ks ≡ true
      → are_fixed fixes.Members ks classes (n, c) ≡ are_fixed fixes.Classes ks classes (n, c)
  row_same ks all = λ i.
      any_same (fixes_class fixes.Members classes n c) (fixes_class fixes.Classes classes n c) class_same ks all i
      ∷ (map (λ (f : Field). any_same (fixes_field fixes.Members classes n c f) (fixes_field fixes.Classes classes n c f)
      (field_same f) ks all i) c.fields
      ++ map (λ (m : Method). any_same (fixes_method fixes.Members classes n c m)
      (fixes_method fixes.Classes classes n c m) (method_same m) ks all i) c.methods)

pub rows_same : (rules : Rules) (classes : List Class) → list_all is_for_classes rules.keeps ≡ true
    → fixed_rows fixes.Members rules classes ≡ fixed_rows fixes.Classes rules classes
rows_same rules classes all =
    λ i. map (λ (e : ℕ × Class). row_same classes e.0 e.1 rules.keeps all i) (enumerate_from 0 classes)
