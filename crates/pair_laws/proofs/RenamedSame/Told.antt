-- Codes and constants stay with their members, under new names.
use Rattle.std.proofs.Common.{◌≡◌, ℕ, zero, suc, true, List, [], ◌∷◌, ◌++◌, map, Option, None, slice_get}
use Rattle.std.proofs.Common.{refl}
use Rattle.std.proofs.Common.{sym, ap, subst, ◌∙◌}
use Rattle.std.specs.List.{AllZip}
use Rattle.std.specs.Option.{option_and_then}
use Rattle.removal_laws.proofs.RemovalSame.Told.{told_of}
use Rattle.jv_base.proofs.Options.{some_there}
use Rattle.class_model.specs.declared.class.Class.{Class}
use Rattle.class_model.specs.declared.class.Constant.{Constant}
use Rattle.class_model.specs.declared.class.Field.{Field}
use Rattle.class_model.specs.declared.class.Method.{Method}
use Rattle.class_model.specs.declared.code.Code.{Code}
use Rattle.class_pool.specs.declared.id.ClassId.{ClassId}
use Rattle.class_pool.specs.declared.id.ClassId.TheVariants.{Prog, Lib}
use Rattle.class_pool.specs.declared.id.MemberAt.{MemberAt}
use Rattle.class_rename.specs.Names.{Names}
use Rattle.jvm_model.specs.Mapped.{OptionCorr}
use Rattle.set_view.specs.ViewOf.{code_at, constant_at}
use Rattle.pair_laws.specs.RenamedImage.Naming.{is_class_there}
use Rattle.pair_laws.specs.RenamedImage.Renaming.{IsNewField, IsRenamedSet, placed_class, placed_member}
use Rattle.pair_laws.specs.RenamedSame.NewCodes.{HasNewCode, HasNewCodes, IsNewCode}

abbrev its_code : ℕ → Class → Option Code
its_code k c = told_of (λ f. None) (λ m. m.code) k c

abbrev its_constant : ℕ → Class → Option Constant
its_constant k c = told_of (λ f. f.constant) (λ m. None) k c

none_told : (ns : List Method) (k : ℕ)
    → option_and_then (λ (x : Option Constant). x) (slice_get (map (λ (n : Method). None) ns) k) ≡ None
none_told [] k = refl
none_told (n ∷ ns) zero = refl
none_told (n ∷ ns) (suc k) = none_told ns k

module _ (names : Names) where
  method_codes : (ms ns : List Method) → AllZip (HasNewCode names) ms ns → (k : ℕ)
      → OptionCorr (IsNewCode names)
      (option_and_then (λ x. x) (slice_get (map (λ (m : Method). m.code) ms) k))
      (option_and_then (λ x. x) (slice_get (map (λ (m : Method). m.code) ns) k))
  method_codes [] [] zip k = refl
  method_codes [] (n ∷ ns) zip k = absurd zip
  method_codes (m ∷ ms) [] zip k = absurd zip
  method_codes (m ∷ ms) (n ∷ ns) zip zero = zip.0
  method_codes (m ∷ ms) (n ∷ ns) zip (suc k) = method_codes ms ns zip.1 k

  codes_of : (fs gs : List Field) → AllZip (IsNewField names) fs gs → (ms ns : List Method)
      → AllZip (HasNewCode names) ms ns → (k : ℕ)
      → OptionCorr (IsNewCode names)
      (option_and_then (λ x. x) (slice_get (map (λ (f : Field). None) fs ++ map (λ (m : Method). m.code) ms) k))
      (option_and_then (λ x. x) (slice_get (map (λ (f : Field). None) gs ++ map (λ (m : Method). m.code) ns) k))
  codes_of [] [] zip ms ns then_zip k = method_codes ms ns then_zip k
  codes_of [] (g ∷ gs) zip ms ns then_zip k = absurd zip
  codes_of (f ∷ fs) [] zip ms ns then_zip k = absurd zip
  codes_of (f ∷ fs) (g ∷ gs) zip ms ns then_zip zero = refl
  codes_of (f ∷ fs) (g ∷ gs) zip ms ns then_zip (suc k) = codes_of fs gs zip.1 ms ns then_zip k

  constants_of : (fs gs : List Field) → AllZip (IsNewField names) fs gs → (ms ns : List Method) (k : ℕ)
      → option_and_then (λ (x : Option Constant). x)
      (slice_get (map (λ (f : Field). f.constant) gs ++ map (λ (m : Method). None) ns) k)
      ≡ option_and_then (λ (x : Option Constant). x)
      (slice_get (map (λ (f : Field). f.constant) fs ++ map (λ (m : Method). None) ms) k)
  constants_of [] [] zip ms ns k = none_told ns k ∙ sym (none_told ms k)
  constants_of [] (g ∷ gs) zip ms ns k = absurd zip
  constants_of (f ∷ fs) [] zip ms ns k = absurd zip
  constants_of (f ∷ fs) (g ∷ gs) zip ms ns zero = zip.0.constant
  constants_of (f ∷ fs) (g ∷ gs) zip ms ns (suc k) = constants_of fs gs zip.1 ms ns k

  module _ (place : ℕ → ℕ) (xs ys : List Class) (new : IsRenamedSet names place xs ys) where
    pub code_told : HasNewCodes names place xs ys → (m : MemberAt) → is_class_there xs m.class ≡ true
        → OptionCorr (IsNewCode names) (code_at xs m) (code_at ys (placed_member place m))
    code_told codes m h = by m.class m.index h
      where
        by : (x : ClassId) (k : ℕ) → is_class_there xs x ≡ true
            → OptionCorr (IsNewCode names) (code_at xs (record { class = x; index = k }))
            (code_at ys (record { class = placed_class place x; index = k }))
        by (Lib id) k h = refl
        by (Prog n) k h =
            let c = some_there (slice_get xs n) h in
            let d = new n c.0 c.1 in
            subst (λ (o : Option Class). OptionCorr (IsNewCode names) (option_and_then (its_code k) o)
            (option_and_then (its_code k) (slice_get ys (place n)))) (sym c.1)
            (subst (λ (o : Option Class). OptionCorr (IsNewCode names) (its_code k c.0)
            (option_and_then (its_code k) o)) (sym d.1)
            (codes_of c.0.fields d.0.fields d.2.fields c.0.methods d.0.methods (codes n c.0 d.0 c.1 d.1) k))

    pub constant_told : (m : MemberAt) → is_class_there xs m.class ≡ true
        → constant_at ys (placed_member place m) ≡ constant_at xs m
    constant_told m h = by m.class m.index h
      where
        by : (x : ClassId) (k : ℕ) → is_class_there xs x ≡ true
            → constant_at ys (record { class = placed_class place x; index = k })
            ≡ constant_at xs (record { class = x; index = k })
        by (Lib id) k h = refl
        by (Prog n) k h =
            let c = some_there (slice_get xs n) h in
            let d = new n c.0 c.1 in
            ap (option_and_then (its_constant k)) d.1
            ∙ constants_of c.0.fields d.0.fields d.2.fields c.0.methods d.0.methods k
            ∙ sym (ap (option_and_then (its_constant k)) c.1)
