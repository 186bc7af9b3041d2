-- Which entry of the witness a method has: that of the edited method that it is, or none.
use Rattle.std.proofs.Common.{◌≡◌, ◌⊎◌, inl, inr, ℕ, ◌&&◌, Bool, true, false, List, map, Option, Some, None, slice_get}
use Rattle.std.proofs.Common.{refl, sym, ap, subst, ◌∙◌}
use Rattle.std.specs.List.{AllByRecursion}
use Rattle.std.proofs.lemmas.Bool.{and_from, and_parts}
use Rattle.std.proofs.lemmas.Option.{same_Some}
use Rattle.jv_base.specs.Names.{is_text}
use Rattle.jv_base.specs.Types.{method_text}
use Rattle.jv_base.proofs.Equality.{text_Decides}
use Rattle.jv_base.proofs.Lists.{all_at, all_from, got_mapped, mapped_from, none_passes}
use Rattle.class_model.specs.declared.class.Class.{Class}
use Rattle.class_model.specs.declared.class.Method.{Method}
use Rattle.code_edit.specs.SoundCode.{IsSound}
use Rattle.flow_laws.proofs.LastGoes.{typed_sound}
use Rattle.image_laws.specs.TakenSet.TakenSet.{IsTaken}
use Rattle.pair_edits.specs.Entries as of_pair
use Rattle.type_verifier.specs.Verified.{AreTyped}
use Rattle.witness_file.specs.Witnesses.{is_method}
use Rattle.witness_file.specs.declared.witness.MethodWitness.{MethodWitness}
use Rattle.pair_laws.proofs.NamedForm.Written.{names_apart}
use Rattle.pair_laws.proofs.OptimisedPairs.EditedMethods.{EditedMethod, IsEditedMethod, entry_of}
use Rattle.pair_laws.proofs.OptimisedPairs.OnePlace.{find_where, one_place}
use Rattle.pair_laws.proofs.OptimisedPairs.PutCodes.{IsElsewhere}

-- a witness's entry is that of a method by three texts
pub same_method : (c : List ℕ) (m : List ℕ) (t : List ℕ) (w : MethodWitness) → is_method c m t w ≡ true
    → (c ≡ w.class) × (m ≡ w.name) × (t ≡ w.ty)
same_method c m t w h =
    let first = and_parts (is_text c w.class) (is_text m w.name && is_text t w.ty) h in
    let rest = and_parts (is_text m w.name) (is_text t w.ty) first.1 in (
      (text_Decides c w.class).0 first.0,
      (text_Decides m w.name).0 rest.0,
      (text_Decides t w.ty).0 rest.1,
    )

pub is_itself : (w : MethodWitness) → is_method w.class w.name w.ty w ≡ true
is_itself w = and_from (is_text w.class w.class) (is_text w.name w.name && is_text w.ty w.ty)
    ((text_Decides w.class w.class).1 refl)
    (and_from (is_text w.name w.name) (is_text w.ty w.ty) ((text_Decides w.name w.name).1 refl)
    ((text_Decides w.ty w.ty).1 refl))

-- two methods have one name and one descriptor
abbrev AreOne : Method → Method → Type 0
AreOne m o = (m.name ≡ o.name) × (method_text m.ty ≡ method_text o.ty)

-- a method that an edited one is by its names
pub record IsThat (n k : ℕ) (c : Class) (m : Method) (d : EditedMethod) : Type 0 where
  pub class : d.spot.class ≡ n
  pub method : d.spot.method ≡ k
  pub class_is : d.class ≡ c
  pub method_is : d.method ≡ m

-- the entry that the method of a class and a number has among those of edited methods, if it has one
pub data Looked (classes : List Class) (n k : ℕ) (c : Class) (m : Method) (ds : List EditedMethod) : Type 0 where
  nowhere : of_pair.entry_of (map entry_of ds) c m ≡ None → AllByRecursion (IsElsewhere n k) ds
      → Looked classes n k c m ds
  stands : (j : ℕ) (d : EditedMethod) → slice_get ds j ≡ Some d → IsEditedMethod classes d → IsThat n k c m d
      → of_pair.entry_of (map entry_of ds) c m ≡ Some (entry_of d) → Looked classes n k c m ds

module _ (classes : List Class) (taken : IsTaken classes) where
  pub class_one : (n j : ℕ) (c d : Class) → slice_get classes n ≡ Some c → slice_get classes j ≡ Some d
      → c.name ≡ d.name → n ≡ j
  class_one n j c d at there same =
      one_place (λ (c d : Class). c.name ≡ d.name) (λ c d e. sym e) classes
      (names_apart classes (record {
        files = taken.files;
        ascend = taken.ascend;
        built = taken.built;
        linked = taken.linked;
      })) n j c d at there same

  pub method_one : (n : ℕ) (c : Class) → slice_get classes n ≡ Some c → (k j : ℕ) (m o : Method)
      → slice_get c.methods k ≡ Some m → slice_get c.methods j ≡ Some o → AreOne m o → k ≡ j
  method_one n c at k j m o here there same =
      one_place AreOne (λ m o e. (sym e.0, sym e.1)) c.methods (taken.formed n c at).methods_differ k j m o here there
      same

  module _ (n k : ℕ) (c : Class) (m : Method) (at : slice_get classes n ≡ Some c)
      (in_methods : slice_get c.methods k ≡ Some m) where
    pub that_one : (d : EditedMethod) → IsEditedMethod classes d
        → is_method c.name m.name (method_text m.ty) (entry_of d) ≡ true → IsThat n k c m d
    that_one d is h =
        let texts = same_method c.name m.name (method_text m.ty) (entry_of d) h in
        let own : d.spot.class ≡ n = class_one d.spot.class n d.class c is.at.in_set at (sym texts.0) in
        let class_is : d.class ≡ c =
        same_Some d.class c (sym is.at.in_set ∙ ap (slice_get classes) own ∙ at) in
        let there : slice_get c.methods d.spot.method ≡ Some d.method =
        subst (λ (x : Class). slice_get x.methods d.spot.method ≡ Some d.method) class_is is.at.in_class in
        let number : d.spot.method ≡ k =
        method_one n c at d.spot.method k d.method m there in_methods (sym texts.1, sym texts.2) in
        record {
          class = own;
          method = number;
          class_is = class_is;
          method_is = same_Some d.method m (sym there ∙ ap (slice_get c.methods) number ∙ in_methods);
        }

    pub its_entry : (d : EditedMethod) → IsEditedMethod classes d → IsElsewhere n k d
        ⊎ (is_method c.name m.name (method_text m.ty) (entry_of d) ≡ true)
    its_entry d is = by (is_method c.name m.name (method_text m.ty) (entry_of d)) refl
      where
        by : (b : Bool) → is_method c.name m.name (method_text m.ty) (entry_of d) ≡ b
            → IsElsewhere n k d ⊎ (is_method c.name m.name (method_text m.ty) (entry_of d) ≡ true)
        by true h = inr h
        by false h = inl (λ own number.
            let class_is : d.class ≡ c =
            same_Some d.class c (sym is.at.in_set ∙ ap (slice_get classes) own ∙ at) in
            let method_is : d.method ≡ m =
            same_Some d.method m (sym is.at.in_class ∙ (λ i. slice_get (class_is i).methods (number i)) ∙ in_methods) in
            let wrong : true ≡ false = sym (is_itself (entry_of d))
            ∙ (λ i. is_method (class_is i).name (method_is i).name (method_text (method_is i).ty) (entry_of d)) ∙ h in
            cc)

    pub looked : (ds : List EditedMethod) → AllByRecursion (IsEditedMethod classes) ds → Looked classes n k c m ds
    looked ds are = by (of_pair.entry_of (map entry_of ds) c m) refl
      where
        by : (o : Option MethodWitness) → of_pair.entry_of (map entry_of ds) c m ≡ o → Looked classes n k c m ds
        by None none = nowhere none
            (all_from (IsElsewhere n k) ds (λ j d there.
            other d (its_entry d (all_at (IsEditedMethod classes) ds j d are there))
            (all_at (λ (w : MethodWitness). is_method c.name m.name (method_text m.ty) w ≡ false) (map entry_of ds) j
            (entry_of d) (none_passes (is_method c.name m.name (method_text m.ty)) (map entry_of ds) none)
            (got_mapped entry_of ds j d there))))
          where
            other : (d : EditedMethod)
                → IsElsewhere n k d ⊎ (is_method c.name m.name (method_text m.ty) (entry_of d) ≡ true)
                → is_method c.name m.name (method_text m.ty) (entry_of d) ≡ false → IsElsewhere n k d
            other d (inl elsewhere) fails = elsewhere
            other d (inr passes) fails = absurd (let wrong : true ≡ false = sym passes ∙ fails in cc)
        by (Some w) found =
            let where_found = find_where (is_method c.name m.name (method_text m.ty)) (map entry_of ds) w found in
            let from = mapped_from entry_of ds where_found.0 w where_found.1 in
            let is = all_at (IsEditedMethod classes) ds where_found.0 from.0 are from.1 in
            stands where_found.0 from.0 from.1 is
            (that_one from.0 is
            (subst (λ (x : MethodWitness). is_method c.name m.name (method_text m.ty) x ≡ true) from.2 where_found.2))
            (found ∙ ap Some from.2)

  -- the code of an edited method is sound
  pub own_sound : AreTyped classes → (d : EditedMethod) → IsEditedMethod classes d → IsSound d.own
  own_sound typed d is =
      typed_sound classes d.spot.class d.class d.spot.method d.method d.own
      (taken.formed d.spot.class d.class is.at.in_set) is.at.in_set is.at.in_class is.at.has typed
