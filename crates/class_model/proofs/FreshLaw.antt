-- Members that are unlike all before them differ (JVMS 4.5, 4.6).
use Rattle.std.proofs.Common.{◌≡◌, suc, Bool, true, false, ◌&&◌, List, [], ◌∷◌, refl, sym, ◌∙◌, arith}
use Rattle.std.specs.List.{All, AllPairs, AllByRecursion, list_any}
use Rattle.std.proofs.lemmas.List.Kept.{AllPairs-cons}
use Rattle.std.proofs.lemmas.List.Elements.{All-from_recursion, recursion_from_All}
use Rattle.jv_base.specs.Names.{is_text}
use Rattle.jv_base.specs.Types.{field_text, method_text}
use Rattle.jv_base.proofs.Equality.{text_Decides}
use Rattle.class_model.specs.declared.class.Field.{Field}
use Rattle.class_model.specs.declared.class.Method.{Method}
use Rattle.class_model.specs.Members.{FieldsDiffer, MethodsDiffer}
use Rattle.class_model.specs.ReadingMembers.{Signature, same_signature}
use Rattle.std.proofs.lemmas.Bool.{or_parts}

-- none of those before has the signature
abbrev pub IsNew : List Signature → Signature → Type 0
IsNew before signature = list_any (same_signature signature) before ≡ false

module _ {M : Type 0} (signature : M → Signature) (Differ : M → M → Type 0)
    (apart : (one other : M) → same_signature (signature other) (signature one) ≡ false → Differ one other)
    (told : (one other : M) → Differ one other → same_signature (signature other) (signature one) ≡ false) where
  -- each is unlike all before it
  abbrev pub AreNew : List Signature → List M → Type 0
  AreNew before [] = Unit {0}
  AreNew before (x ∷ xs) = IsNew before (signature x) × AreNew (signature x ∷ before) xs

  -- then they differ, and from those before
  pub new_found : (before : List Signature) (xs : List M) → AreNew before xs
      → AllPairs Differ xs × AllByRecursion (λ x. IsNew before (signature x)) xs
  new_found before [] h = (λ i j d lt within. absurd (omega (arith, lt, within)), tt)
  new_found before (x ∷ xs) h =
      let r = new_found (signature x ∷ before) xs h.1 in
      (AllPairs-cons Differ x xs (All-from_recursion (Differ x) xs (others xs r.1)) r.0, (h.0, behind xs r.1))
    where
      others : (ys : List M) → AllByRecursion (λ y. IsNew (signature x ∷ before) (signature y)) ys
          → AllByRecursion (Differ x) ys
      others [] k = tt
      others (y ∷ ys) k = (apart x y (or_parts _ _ k.0).0, others ys k.1)

      behind : (ys : List M) → AllByRecursion (λ y. IsNew (signature x ∷ before) (signature y)) ys
          → AllByRecursion (λ y. IsNew before (signature y)) ys
      behind [] k = tt
      behind (y ∷ ys) k = ((or_parts _ _ k.0).1, behind ys k.1)

  -- and the other way
  pub new_only : (before : List Signature) (xs : List M) → AllPairs Differ xs
      → AllByRecursion (λ x. IsNew before (signature x)) xs → AreNew before xs
  new_only before [] h k = tt
  new_only before (x ∷ xs) h k =
      let head : All (Differ x) xs = λ j d within. h 0 (suc j) d (omega arith) (omega (arith, within)) in
      let tail : AllPairs Differ xs = λ i j d lt within. h (suc i) (suc j) d (omega (arith, lt))
      (omega (arith, within)) in
      (k.0, new_only (signature x ∷ before) xs tail (joined xs (recursion_from_All (Differ x) xs head) k.1))
    where
      joined : (ys : List M) → AllByRecursion (Differ x) ys → AllByRecursion (λ y. IsNew before (signature y)) ys
          → AllByRecursion (λ y. IsNew (signature x ∷ before) (signature y)) ys
      joined [] d n = tt
      joined (y ∷ ys) d n = (rw (told x y d.0, n.0) refl, joined ys d.1 n.1)

-- nothing is before the first
pub none_before : {M : Type 0} (signature : M → Signature) (xs : List M)
    → AllByRecursion (λ x. IsNew [] (signature x)) xs
none_before signature [] = tt
none_before signature (x ∷ xs) = (refl, none_before signature xs)

-- ---- signatures

-- two signatures are one where their texts are
same_is : (one other : Signature) → same_signature one other ≡ true → (one.0 ≡ other.0) × (one.1 ≡ other.1)
same_is one other h = by (is_text one.0 other.0) refl h
  where
    by : (b : Bool) → is_text one.0 other.0 ≡ b → (b && is_text one.1 other.1) ≡ true
        → (one.0 ≡ other.0) × (one.1 ≡ other.1)
    by true e g = ((text_Decides one.0 other.0).0 e, (text_Decides one.1 other.1).0 g)
    by false e g = absurd cc

is_same : (one other : Signature) → one.0 ≡ other.0 → one.1 ≡ other.1 → same_signature one other ≡ true
is_same one other a b = rw ((text_Decides one.0 other.0).1 a, (text_Decides one.1 other.1).1 b) refl

-- not the same, where they are not the same
not_same : (one other : Signature) → ¬ ((other.0 ≡ one.0) × (other.1 ≡ one.1)) → same_signature one other ≡ false
not_same one other h = by (same_signature one other) refl
  where
    by : (b : Bool) → same_signature one other ≡ b → b ≡ false
    by true e = let s = same_is one other e in absurd (h (sym s.0, sym s.1))
    by false e = refl

-- a field by its name and its descriptor
abbrev pub field_signature : Field → Signature
field_signature f = (f.name, field_text f.ty)

pub fields_apart : (one other : Field) → same_signature (field_signature other) (field_signature one) ≡ false
    → FieldsDiffer one other
fields_apart one other h s = let e : true
    ≡ false = sym (is_same (field_signature other) (field_signature one) (sym s.0) (sym s.1)) ∙ h in absurd cc

pub fields_told : (one other : Field) → FieldsDiffer one other
    → same_signature (field_signature other) (field_signature one) ≡ false
fields_told one other h = not_same (field_signature other) (field_signature one) h

-- a method by its name and its descriptor
abbrev pub method_signature : Method → Signature
method_signature m = (m.name, method_text m.ty)

pub methods_apart : (one other : Method) → same_signature (method_signature other) (method_signature one) ≡ false
    → MethodsDiffer one other
methods_apart one other h s = let e : true
    ≡ false = sym (is_same (method_signature other) (method_signature one) (sym s.0) (sym s.1)) ∙ h in absurd cc

pub methods_told : (one other : Method) → MethodsDiffer one other
    → same_signature (method_signature other) (method_signature one) ≡ false
methods_told one other h = not_same (method_signature other) (method_signature one) h
