-- Each method of the set with new codes has the code that the witness tells, frames aside; and the acts are legal.
use Rattle.std.proofs.Common.{◌≡◌, ℕ, suc, List, [], ◌∷◌, map, length, Option, Some, None, slice_get, refl, sym, ap, subst, ◌∙◌}
use Rattle.std.proofs.Common.{Bool, arith}
use Rattle.std.specs.List.{AllZip}
use Rattle.std.specs.Option.{option_map}
use Rattle.std.proofs.lemmas.List.{length-map}
use Rattle.std.proofs.lemmas.Option.{same_Some}
use Rattle.jv_base.proofs.Lists.{got_mapped, mapped_from}
use Rattle.class_model.specs.declared.class.Class.{Class}
use Rattle.class_model.specs.declared.class.Method.{Method}
use Rattle.class_model.specs.declared.code.Code.{Code}
use Rattle.code_edit.specs.Applied.{edited}
use Rattle.image_laws.specs.TakenSet.TakenSet.{IsTaken}
use Rattle.pair_clauses.specs.Finding.{FindsUnless, FirstOf}
use Rattle.pair_clauses.specs.Places.{place_of_method}
use Rattle.pair_clauses.specs.declared.place.Place.{Place}
use Rattle.pair_edits.specs.Edits.{AreLegalOn, ClassEditIllegal, EditIllegal}
use Rattle.pair_edits.specs.Entries.{edited_class, edited_input, edited_method, steps_in, steps_of}
use Rattle.pass_driver.specs.Optimised.{with_codes}
use Rattle.pass_driver.specs.Stepped.{stepped}
use Rattle.pass_driver.specs.declared.optimising.NewCode.{NewCode}
use Rattle.shape_laws.specs.Bare.{bare, bare_method}
use Rattle.type_verifier.specs.Verified.{AreTyped}
use Rattle.witness_file.specs.declared.witness.MethodWitness.{MethodWitness}
use Rattle.witness_file.specs.declared.witness.Witness.{Witness}
use Rattle.pair_laws.proofs.OptimisedPairs.EditedMethods.{AreEdited, EditedMethod, entry_of, new_of}
use Rattle.pair_laws.proofs.OptimisedPairs.Looked.{Looked, looked, nowhere, own_sound, stands}
use Rattle.pair_laws.proofs.OptimisedPairs.PutCodes.{all_put, codes_bare, none_put, one_stands, put_codes}
use Rattle.pair_laws.proofs.OptimisedPairs.SteppedCodes.{FindsLegal, edited_is, steps_legal}

-- ---- codes that differ in frames alone

-- two codes have the same instructions and handlers
pub record AreBodies (code other : Code) : Type 0 where
  pub ins : code.ins ≡ other.ins
  pub handlers : code.handlers ≡ other.handlers

-- so it is of methods that may have none
abbrev pub SameBodies : Option Code → Option Code → Type 0
SameBodies (Some code) (Some other) = AreBodies code other
SameBodies None None = Unit {0}
SameBodies _ _ = ⊥

own_bodies : (o : Option Code) → SameBodies (option_map (edited []) o) o
own_bodies None = tt
own_bodies (Some code) = record { ins = refl; handlers = refl }

own_legal : (o : Option Code) → AreLegalOn [] o
own_legal None = tt
own_legal (Some code) = tt

-- lists as long as each other whose elements are related at each place
pub zip_from : {X Y : Type 0} (R : X → Y → Type 0) (xs : List X) (ys : List Y) → length ys ≡ length xs
    → ((k : ℕ) (x : X) (y : Y) → slice_get xs k ≡ Some x → slice_get ys k ≡ Some y → R x y) → AllZip R xs ys
zip_from R [] [] long each = tt
zip_from R [] (y ∷ ys) long each = absurd (omega (arith, long))
zip_from R (x ∷ xs) [] long each = absurd (omega (arith, long))
zip_from R (x ∷ xs) (y ∷ ys) long each =
    (each 0 x y refl refl, zip_from R xs ys (omega (arith, long)) (λ k a b at there. each (suc k) a b at there))

-- a search finds nothing where none does
first_none : {A : Type 0} (Finds : A → Option Place → Type 0) (xs : List A)
    → ((k : ℕ) (x : A) → slice_get xs k ≡ Some x → Finds x None) → FirstOf Finds xs None
first_none Finds [] each = refl
first_none Finds (x ∷ xs) each = (each 0 x refl, first_none Finds xs (λ k y at. each (suc k) y at))

-- ---- sets

module _ (legal : FindsLegal) (marks : List Bool) (classes : List Class) (codes : List NewCode)
    (entries : List MethodWitness) (taken : IsTaken classes) (typed : AreTyped classes)
    (g : AreEdited marks classes codes entries) where
  abbrev ds : List EditedMethod
  ds = g.edited

  abbrev witness : Witness
  witness = record { methods = entries }

  -- what becomes of a method
  module _ (n k : ℕ) (c : Class) (m : Method) (at : slice_get classes n ≡ Some c)
      (in_methods : slice_get c.methods k ≡ Some m) where
    legal_by : Looked classes n k c m ds → AreLegalOn (steps_of (map entry_of ds) c m) m.code
    legal_by (nowhere none elsewhere) =
        subst (λ (e : Option MethodWitness). AreLegalOn (steps_in e) m.code) (sym none) (own_legal m.code)
    legal_by (stands j d there is that found) =
        subst (λ (e : Option MethodWitness). AreLegalOn (steps_in e) m.code) (sym found)
        (subst (AreLegalOn d.edits.steps) (sym is.at.has ∙ ap (λ (x : Method). x.code) that.method_is)
        (steps_legal legal d.edits.steps d.own is.steps (own_sound classes taken typed d is)))

    bodies_by : Looked classes n k c m ds
        → SameBodies (option_map (edited (steps_of (map entry_of ds) c m)) m.code) (put_codes n k (map new_of ds) m.code)
    bodies_by (nowhere none elsewhere) =
        subst (λ (o : Option Code). SameBodies (option_map (edited (steps_of (map entry_of ds) c m)) m.code) o)
        (sym (none_put n k ds m.code elsewhere))
        (subst (λ (e : Option MethodWitness). SameBodies (option_map (edited (steps_in e)) m.code) m.code) (sym none)
        (own_bodies m.code))
    bodies_by (stands j d there is that found) =
        let after = edited_is legal d.edits.steps d.own is.steps (own_sound classes taken typed d is) in
        let has : Some d.own ≡ m.code = sym is.at.has ∙ ap (λ (x : Method). x.code) that.method_is in
        subst (SameBodies (option_map (edited (steps_of (map entry_of ds) c m)) m.code))
        (sym (one_stands n k ds m.code g.ordered j d there that.class that.method))
        (subst (λ (e : Option MethodWitness). SameBodies (option_map (edited (steps_in e)) m.code)
        (Some (stepped d.edits.steps d.own))) (sym found)
        (subst (λ (o : Option Code). SameBodies (option_map (edited d.edits.steps) o)
        (Some (stepped d.edits.steps d.own))) has
        (record {
          ins = ap (λ (x : Code). x.ins) after.1;
          handlers = ap (λ (x : Code). x.handlers) after.1;
        })))

    pub method_legal : AreLegalOn (steps_of entries c m) m.code
    method_legal = subst (λ (es : List MethodWitness). AreLegalOn (steps_of es c m) m.code) (sym g.entries_are)
        (legal_by (looked classes taken n k c m at in_methods ds g.are))

    pub method_bodies : SameBodies (edited_method entries c m).code (put_codes n k codes m.code)
    method_bodies = subst (λ (xs : List NewCode). SameBodies (edited_method entries c m).code (put_codes n k xs m.code))
        (sym g.codes_are)
        (subst (λ (es : List MethodWitness). SameBodies (edited_method es c m).code (put_codes n k (map new_of ds) m.code))
        (sym g.entries_are) (bodies_by (looked classes taken n k c m at in_methods ds g.are)))

  -- ---- EditIllegal

  pub none_illegal : EditIllegal witness classes None
  none_illegal = first_none (ClassEditIllegal entries) classes (λ n c at.
      first_none (λ (m : Method). FindsUnless (AreLegalOn (steps_of entries c m) m.code) (place_of_method c m)) c.methods
      (λ k m in_methods. method_legal n k c m at in_methods))

  -- ---- codes

  -- a class of the edited input, and that with the new codes
  abbrev AreAlike : Class → Class → Type 0
  AreAlike c e = AllZip (λ (m o : Method). SameBodies m.code o.code) c.methods e.methods

  long_methods : (n : ℕ) (c e : Class) → slice_get classes n ≡ Some c
      → slice_get (with_codes codes classes) n ≡ Some e → length e.methods ≡ length c.methods
  long_methods n c e at there =
      let like : bare e ≡ bare c =
      same_Some (bare e) (bare c) (sym (got_mapped bare (with_codes codes classes) n e there)
      ∙ ap (λ (xs : List Class). slice_get xs n) (codes_bare codes classes) ∙ got_mapped bare classes n c at) in
      sym (length-map e.methods bare_method) ∙ ap (λ (x : Class). length x.methods) like
      ∙ length-map c.methods bare_method

  methods_alike : (n : ℕ) (c e : Class) → slice_get classes n ≡ Some c
      → slice_get (with_codes codes classes) n ≡ Some e → AreAlike (edited_class entries c) e
  methods_alike n c e at there =
      zip_from (λ (m o : Method). SameBodies m.code o.code) (map (edited_method entries c) c.methods) e.methods
      (long_methods n c e at there ∙ sym (length-map c.methods (edited_method entries c)))
      (λ k x o in_edited in_new. one k x o (mapped_from (edited_method entries c) c.methods k x in_edited) in_new)
    where
      one : (k : ℕ) (x o : Method)
          → (m : Method) × (slice_get c.methods k ≡ Some m) × (x ≡ edited_method entries c m)
          → slice_get e.methods k ≡ Some o → SameBodies x.code o.code
      one k x o (m, in_methods, is) in_new =
          let put = all_put codes classes n k c m at in_methods in
          let class_is : put.class ≡ e = same_Some put.class e (sym put.in_set ∙ there) in
          let method_is : o ≡ record m { code = put_codes n k codes m.code } =
          same_Some o (record m { code = put_codes n k codes m.code })
          (sym in_new ∙ ap (λ (y : Class). slice_get y.methods k) (sym class_is) ∙ put.in_class) in
          subst (λ (y : Method). SameBodies x.code y.code) (sym method_is)
          (subst (λ (y : Method). SameBodies y.code (put_codes n k codes m.code)) (sym is)
          (method_bodies n k c m at in_methods))

  pub sets_alike : AllZip AreAlike (edited_input witness classes) (with_codes codes classes)
  sets_alike =
      zip_from AreAlike (map (edited_class entries) classes) (with_codes codes classes)
      (sym (length-map (with_codes codes classes) bare) ∙ ap length (codes_bare codes classes)
      ∙ length-map classes bare ∙ sym (length-map classes (edited_class entries)))
      (λ n x e in_edited there. one n x e (mapped_from (edited_class entries) classes n x in_edited) there)
    where
      one : (n : ℕ) (x e : Class) → (c : Class) × (slice_get classes n ≡ Some c) × (x ≡ edited_class entries c)
          → slice_get (with_codes codes classes) n ≡ Some e → AreAlike x e
      one n x e (c, at, is) there = subst (λ (y : Class). AreAlike y e) (sym is) (methods_alike n c e at there)
