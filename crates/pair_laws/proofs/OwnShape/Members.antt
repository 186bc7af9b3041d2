-- Classes and members that are kept are there, and differ as before.
use Rattle.std.proofs.Common.{◌≡◌, ℕ, zero, suc, ◌+◌, Bool, true, false, cond, List, [], ◌∷◌, length, Option}
use Rattle.std.proofs.Common.{◌≢◌, Some, None, slice_get, refl, sym, ap, subst, ◌∙◌}
use Rattle.std.specs.Prelude.{is_some}
use Rattle.std.specs.List.{AllByRecursion, position}
use Rattle.std.specs.Option.{option_and_then, option_map, option_map_or}
use Rattle.std.proofs.lemmas.Bool.{and_from}
use Rattle.jv_base.specs.Names.{is_text}
use Rattle.jv_base.specs.Types.{field_text, method_text}
use Rattle.jv_base.proofs.Equality.{text_Decides}
use Rattle.class_model.specs.Members.{FieldsDiffer, MethodsDiffer}
use Rattle.class_model.specs.declared.class.Class.{Class}
use Rattle.class_model.specs.declared.class.Field.{Field}
use Rattle.class_model.specs.declared.class.Method.{Method}
use Rattle.class_pool.specs.Items.{class_item}
use Rattle.class_pool.specs.Members.{is_field, is_method, member_named, or_method}
use Rattle.class_pool.specs.bodies.Faults.{NamesDiffer}
use Rattle.class_pool.specs.declared.id.ClassId.TheVariants.{Prog}
use Rattle.class_pool.specs.Members.{declared_at}
use Rattle.class_pool.proofs.Distinct.{once_from_pairs, position_at, position_next}
use Rattle.class_pool.proofs.FaultLaws.{names_differ}
use Rattle.image_laws.specs.TakenSet.TakenSet.{IsTaken}
use Rattle.image_laws.proofs.TakenSet.Proper.{names_right}
use Rattle.member_shrink.specs.Shrunk.{is_marked, shrunk, with_marked_members}
use Rattle.pair_laws.proofs.NamedForm.Picked.{all_picked_at}
use Rattle.pair_clauses.specs.Shape.{has_class, has_member, number_of}
use Rattle.pair_laws.proofs.OwnShape.Searching.{Differ, differ_chosen, differ_from}

-- one that passes is found
pub found_some : {A : Type 0} (test : A → Bool) (xs : List A) (k : ℕ) (x : A) → slice_get xs k ≡ Some x
    → test x ≡ true → is_some (position test xs) ≡ true
found_some test [] k x at h = absurd cc
found_some test (y ∷ xs) zero x at h =
    let same : y ≡ x = cc in
    ap is_some (position_next test y xs
    ∙ ap (λ (b : Bool). cond b (Some 0) (option_map suc (position test xs))) (ap test same ∙ h))
found_some test (y ∷ xs) (suc k) x at h =
    ap is_some (position_next test y xs) ∙ by (test y) (position test xs) (found_some test xs k x at h)
  where
    by : (b : Bool) (o : Option ℕ) → is_some o ≡ true → is_some (cond b (Some 0) (option_map suc o)) ≡ true
    by true o h = refl
    by false None h = h
    by false (Some n) h = refl

module _ (c : Class) where
  -- a field is found by its name and descriptor
  field_there : (k : ℕ) (f : Field) → slice_get c.fields k ≡ Some f
      → is_some (member_named c f.name (field_text f.ty)) ≡ true
  field_there k f at =
      by (position (is_field f.name (field_text f.ty)) c.fields)
      (found_some (is_field f.name (field_text f.ty)) c.fields k f at
      (and_from (is_text f.name f.name) (is_text (field_text f.ty) (field_text f.ty))
      ((text_Decides f.name f.name).1 refl) ((text_Decides (field_text f.ty) (field_text f.ty)).1 refl)))
    where
      by : (o : Option ℕ) → is_some o ≡ true → is_some (or_method c f.name (field_text f.ty) o) ≡ true
      by None h = absurd cc
      by (Some n) h = refl

  -- so is a method, or a field in its place
  method_there : (k : ℕ) (m : Method) → slice_get c.methods k ≡ Some m
      → is_some (member_named c m.name (method_text m.ty)) ≡ true
  method_there k m at =
      by (position (is_field m.name (method_text m.ty)) c.fields)
      (position (is_method m.name (method_text m.ty)) c.methods) refl
      (found_some (is_method m.name (method_text m.ty)) c.methods k m at
      (and_from (is_text m.name m.name) (is_text (method_text m.ty) (method_text m.ty))
      ((text_Decides m.name m.name).1 refl) ((text_Decides (method_text m.ty) (method_text m.ty)).1 refl)))
    where
      by : (o p : Option ℕ) → position (is_method m.name (method_text m.ty)) c.methods ≡ p → is_some p ≡ true
          → is_some (or_method c m.name (method_text m.ty) o) ≡ true
      by (Some n) p e h = refl
      by None None e h = absurd cc
      by None (Some n) e h = ap (λ o. is_some (option_map (λ n. length c.fields + n) o)) e

module _ (classes : List Class) where
  -- a class of these names, with members that are there and differ
  pub record IsThere (d : Class) : Type 0 where
    pub class : has_class classes d.name ≡ true
    pub fields : AllByRecursion (λ (f : Field). has_member classes d.name (f.name, field_text f.ty) ≡ true) d.fields
    pub methods : AllByRecursion (λ (m : Method). has_member classes d.name (m.name, method_text m.ty) ≡ true) d.methods
    pub fields_differ : Differ FieldsDiffer d.fields
    pub methods_differ : Differ MethodsDiffer d.methods

  module _ (taken : IsTaken classes) where
    all_differ : NamesDiffer classes
    all_differ = subst NamesDiffer (sym taken.built.2)
        (names_differ taken.files taken.ascend (names_right classes taken))

    number_is : (n : ℕ) (c : Class) → slice_get classes n ≡ Some c → number_of classes c.name ≡ Some n
    number_is n c at =
        position_at (λ (d : Class). is_text c.name d.name) classes n c
        (once_from_pairs (λ (d : Class). is_text c.name d.name) (λ x y. x.name ≢ y.name)
        (λ x y h k other. other (sym ((text_Decides c.name x.name).0 h) ∙ (text_Decides c.name y.name).0 k))
        classes all_differ)
        at ((text_Decides c.name c.name).1 refl)

    member_is : (n : ℕ) (c : Class) → slice_get classes n ≡ Some c → (name descriptor : List ℕ)
        → is_some (member_named c name descriptor) ≡ true → has_member classes c.name (name, descriptor) ≡ true
    member_is n c at name descriptor h =
        ap (λ o. option_map_or (λ n. is_some (declared_at classes (Prog n) name descriptor)) o false) (number_is n c at)
        ∙ ap (λ o. is_some (option_and_then (λ (c : Class). member_named c name descriptor) o)) at
        ∙ h

    -- so is each class that is kept
    pub kept_there : (marks : List Bool) → AllByRecursion IsThere (shrunk classes marks)
    kept_there marks = all_picked_at (λ n. is_marked marks (class_item classes n))
        (λ (e : ℕ × Class). with_marked_members marks (class_item classes e.0) e.1) IsThere 0 classes
        (λ k c at passes. record {
          class = ap is_some (number_is k c at);
          fields = all_picked_at (is_marked marks) (λ (e : ℕ × Field). e.1)
              (λ (f : Field). has_member classes c.name (f.name, field_text f.ty) ≡ true)
              (class_item classes (0 + k) + 1) c.fields
              (λ j f there h. member_is k c at f.name (field_text f.ty) (field_there c j f there));
          methods = all_picked_at (is_marked marks) (λ (e : ℕ × Method). e.1)
              (λ (m : Method). has_member classes c.name (m.name, method_text m.ty) ≡ true)
              (class_item classes (0 + k) + 1 + length c.fields) c.methods
              (λ j m there h. member_is k c at m.name (method_text m.ty) (method_there c j m there));
          fields_differ = differ_chosen FieldsDiffer marks (class_item classes (0 + k) + 1) c.fields
              (differ_from FieldsDiffer c.fields (taken.formed k c at).fields_differ);
          methods_differ = differ_chosen MethodsDiffer marks (class_item classes (0 + k) + 1 + length c.fields)
              c.methods
              (differ_from MethodsDiffer c.methods (taken.formed k c at).methods_differ);
        })
