-- Each class follows the format under its new names (JVMS 4.1 to 4.9).
use Rattle.std.proofs.Common.{◌≡◌, ℕ, ◌+◌, true, false, List, [], ◌∷◌, ◌++◌, length, map, Some, slice_get, refl}
use Rattle.std.proofs.Common.{sym, ap, subst, ◌∙◌, inl}
use Rattle.std.specs.List.{AllByRecursion}
use Rattle.std.specs.Option.{option_map_or}
use Rattle.jv_base.specs.Types.{IsFieldType, IsMethodType, field_text, method_text}
use Rattle.jv_base.proofs.Lists.{all_from}
use Rattle.class_model.specs.WellFormed.{IsWellFormed}
use Rattle.class_model.specs.declared.class.Class.{Class}
use Rattle.class_model.specs.declared.class.Field.{Field}
use Rattle.class_model.specs.declared.class.Method.{Method}
use Rattle.class_pool.specs.Found.{MemberRow, field_row, method_row, rows_in}
use Rattle.class_pool.specs.declared.id.ClassId.TheVariants.{Prog}
use Rattle.class_rename.specs.Names.{Names}
use Rattle.pair_laws.specs.RenamedForm.Form.{IsKnownMethodType, IsKnownType, TellsApart}
use Rattle.pair_laws.proofs.RenamedForm.Apart.{kept_apart}
use Rattle.pair_laws.proofs.RenamedForm.Formed as format
use Rattle.pair_laws.specs.RenamedImage.Renaming.{IsMemberName, is_known}
use Rattle.pair_laws.proofs.RenamedTaken.Placed.{IsPlaced, was}
use Rattle.pair_laws.proofs.RenamedTaken.Rules.{field_row_there, method_row_there}

second : {X : Type 0} (P Q : X → Type 0) (xs : List X) → AllByRecursion (λ (x : X). P x × Q x) xs → AllByRecursion Q xs
second P Q [] all = tt
second P Q (x ∷ xs) all = (all.0.1, second P Q xs all.1)

module _ (names : Names) (place back : ℕ → ℕ) (xs ys : List Class) (h : IsPlaced names place back xs ys) where
  -- ---- names of members

  row_is : (n : ℕ) (c : Class) → slice_get xs n ≡ Some c → (k : ℕ) (row : MemberRow)
      → slice_get (map field_row c.fields ++ map method_row c.methods) k ≡ Some row
      → slice_get (rows_in xs (Prog n)) k ≡ Some row
  row_is n c is k row at =
      ap (λ o. slice_get (option_map_or (λ (c : Class). map field_row c.fields ++ map method_row c.methods) o []) k) is
      ∙ at

  field_named : (n : ℕ) (c : Class) → slice_get xs n ≡ Some c → (k : ℕ) (f : Field) → slice_get c.fields k ≡ Some f
      → IsMemberName xs false (f.name, field_text f.ty)
  field_named n c is k f at = inl (record {
    class = Prog n;
    index = k;
    row = field_row f;
    at = row_is n c is k (field_row f) (field_row_there c.fields c.methods k f at);
    kind = refl;
    named_is = refl;
  })

  method_named : (n : ℕ) (c : Class) → slice_get xs n ≡ Some c → (k : ℕ) (m : Method)
      → slice_get c.methods k ≡ Some m → IsMemberName xs true (m.name, method_text m.ty)
  method_named n c is k m at = inl (record {
    class = Prog n;
    index = length c.fields + k;
    row = method_row m;
    at = row_is n c is (length c.fields + k) (method_row m) (method_row_there c.fields c.methods k m at);
    kind = refl;
    named_is = refl;
  })

  -- ---- the members of a class stay apart

  told_apart : (n : ℕ) (c : Class) → slice_get xs n ≡ Some c → TellsApart names (is_known xs) c
  told_apart n c is = record {
    class = h.apart.one_class;
    types = record {
      fields = second (λ (f : Field). IsFieldType f.ty) (λ (f : Field). IsKnownType (is_known xs) f.ty) c.fields
          (h.known.fields n c is);
      methods = second (λ (m : Method). IsMethodType m.ty) (λ (m : Method). IsKnownMethodType (is_known xs) m.ty)
          c.methods (h.known.methods n c is);
    };
    fields = all_from _ c.fields (λ j one at. all_from _ c.fields (λ k other then_at.
        h.apart.one_field (one.name, field_text one.ty) (other.name, field_text other.ty) (field_named n c is j one at) (field_named n c is k other then_at)));
    methods = all_from _ c.methods (λ j one at. all_from _ c.methods (λ k other then_at text same.
        h.apart.one_method one.name other.name (method_text one.ty) (method_named n c is j one at)
        (subst (λ (d : List ℕ). IsMemberName xs true (other.name, d)) (sym text) (method_named n c is k other then_at))
        (same ∙ ap (names.method other.name) (sym text))));
  }

  pub formed : (j : ℕ) (d : Class) → slice_get ys j ≡ Some d → IsWellFormed d
  formed j d at =
      let w = was names place back xs ys h j d at in
      let well = h.taken.formed w.n w.class w.there in
      subst IsWellFormed (sym w.is) (format.formed names h.form w.class
      (kept_apart names h.form (is_known xs) w.class well (told_apart w.n w.class w.there)) well)
