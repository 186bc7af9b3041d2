-- The code that a set, as a program, has for a method is the method's own.
use Rattle.std.proofs.Common.{◌≡◌, ℕ, suc, ◌+◌, List, [], ◌∷◌, ◌++◌, length, map, Option, Some, None, slice_get, sym, ap}
use Rattle.std.proofs.Common.{◌∙◌, arith}
use Rattle.std.specs.Option.{option_and_then, option_map, option_map_or}
use Rattle.std.proofs.lemmas.Option.{slice_get-map, slice_get_within}
use Rattle.jv_base.specs.Types.{method_text}
use Rattle.class_model.specs.declared.class.Class.{Class}
use Rattle.class_model.specs.declared.class.Field.{Field}
use Rattle.class_model.specs.declared.class.Method.{Method}
use Rattle.class_model.specs.declared.code.Code.{Code}
use Rattle.class_pool.specs.Found.{IsMember, MemberRow, NameAndType, declared_in, field_row, method_row, named_at, rows_in}
use Rattle.class_pool.specs.Hierarchy.{class_named}
use Rattle.class_pool.specs.declared.id.ClassId.TheVariants.{Prog}
use Rattle.class_pool.specs.declared.id.MemberAt.{MemberAt}
use Rattle.jvm_model.specs.Value.{Key}
use Rattle.set_view.specs.ViewOf.{code_at, member_of, view_of}
use Rattle.image_laws.specs.TakenSet.TakenSet.{IsTaken}
use Rattle.image_laws.proofs.TakenSet.Members.{own_declared}
use Rattle.image_laws.proofs.TakenSet.Names.{class_found}
use Rattle.pair_laws.proofs.RenamedTaken.Rules.{method_row_there}

-- what is told of a method stands behind what is told of fields
behind_fields : {A : Type 0} (g : Field → A) (h : Method → A) (fs : List Field) (ms : List Method) (k : ℕ) (m : Method)
    → slice_get ms k ≡ Some m → slice_get (map g fs ++ map h ms) (length fs + k) ≡ Some (h m)
behind_fields g h [] ms k m at =
    let plain : 0 + k ≡ k = omega arith in
    ap (slice_get (map h ms)) plain ∙ slice_get-map h ms k ∙ ap (option_map h) at
behind_fields g h (f ∷ fs) ms k m at =
    let next : suc (length fs) + k ≡ suc (length fs + k) = omega arith in
    ap (slice_get (map g (f ∷ fs) ++ map h ms)) next ∙ behind_fields g h fs ms k m at

-- the key of a method of a class
abbrev pub key_of : Class → Method → Key
key_of c m = record { class = c.name; name = m.name; descriptor = method_text m.ty }

module _ (classes : List Class) (taken : IsTaken classes) (n : ℕ) (c : Class) (at : slice_get classes n ≡ Some c) (k : ℕ)
    (m : Method) (there : slice_get c.methods k ≡ Some m) where
  abbrev place : MemberAt
  place = record { class = Prog n; index = length c.fields + k }

  row : slice_get (rows_in classes (Prog n)) (length c.fields + k) ≡ Some (method_row m)
  row =
      ap (λ o. slice_get (option_map_or (λ (c : Class). map field_row c.fields ++ map method_row c.methods) o [])
      (length c.fields + k)) at
      ∙ method_row_there c.fields c.methods k m there

  named : named_at classes place ≡ (m.name, method_text m.ty)
  named = ap (λ o. option_map_or (λ (r : MemberRow). r.named) o ([], [])) row

  is_member : IsMember classes place
  is_member = (
    slice_get_within classes n c at,
    slice_get_within (rows_in classes (Prog n)) (length c.fields + k) (method_row m) row,
  )

  class_is : class_named classes c.name ≡ Some (Prog n)
  class_is =
      sym (ap (λ o. class_named classes (option_map_or (λ (c : Class). c.name) o [])) at)
      ∙ class_found classes taken (Prog n) (slice_get_within classes n c at)

  found : member_of classes (key_of c m) ≡ Some place
  found =
      ap (option_and_then (declared_in classes (m.name, method_text m.ty))) class_is
      ∙ ap (λ (named : NameAndType). declared_in classes named (Prog n)) (sym named)
      ∙ own_declared classes taken place is_member

  code_is : code_at classes place ≡ m.code
  code_is =
      ap (λ o. option_and_then (λ (c : Class). option_and_then (λ x. x)
      (slice_get (map (λ (f : Field). None) c.fields ++ map (λ (m : Method). m.code) c.methods) place.index)) o) at
      ∙ ap (λ (o : Option (Option Code)). option_and_then (λ x. x) o)
      (behind_fields (λ (f : Field). None) (λ (m : Method). m.code) c.fields c.methods k m there)

  pub own_code : (view_of classes).code (key_of c m) ≡ m.code
  own_code = ap (option_and_then (code_at classes)) found ∙ code_is
