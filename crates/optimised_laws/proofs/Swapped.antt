-- A set with new codes is swapped for its own: the codes follow the format and name nothing more.
use Rattle.std.proofs.Common.{◌≡◌, inl, inr, true, false, ℕ, zero, suc, List, [], ◌∷◌, map, length, Option, Some, None, slice_get, refl}
use Rattle.std.proofs.Common.{sym, ap, subst, ◌∙◌, arith}
use Rattle.std.specs.Prelude.{IfSome}
use Rattle.std.specs.List.{AllByRecursion, AllZip}
use Rattle.std.proofs.lemmas.Option.{same_Some}
use Rattle.jv_base.proofs.Lists.{all_at, all_from}
use Rattle.class_model.specs.Flags.{is_interface}
use Rattle.class_model.specs.WellFormed.{IsGoodCode, IsGoodMethod}
use Rattle.class_model.specs.declared.class.Class.{Class}
use Rattle.class_model.specs.declared.class.Method.{Method}
use Rattle.class_model.specs.declared.code.Code.{Code}
use Rattle.code_edit.specs.Acts.{step_passes}
use Rattle.code_edit.specs.declared.act.Act.{Act}
use Rattle.code_edit.specs.declared.act.Pass.{Pass}
use Rattle.code_edit.specs.declared.act.PassEdits.{PassEdits}
use Rattle.code_edit.specs.Legal.{AreLegal, AreRightActs, IsRightAct}
use Rattle.code_edit.specs.Passes.{IsFound}
use Rattle.code_edit.specs.SoundCode.{IsSound}
use Rattle.flow_laws.proofs.LastGoes.{typed_sound}
use Rattle.image_laws.specs.TakenSet.TakenSet.{IsTaken}
use Rattle.optimised_laws.proofs.NamingLess.{own_less}
use Rattle.optimised_laws.proofs.NewCodes.{IsNew, all_new}
use Rattle.optimised_laws.proofs.Placed.{IsFrom, codes_bare, method_from}
use Rattle.optimised_laws.proofs.SteppedGood.{IsFit, stepped_fit}
use Rattle.optimised_laws.specs.Laws.{OptimisedSetsAreSwapped, SetsByRulesAreSwapped}
use Rattle.pass_driver.specs.Optimised.{spots, with_codes}
use Rattle.pass_driver.specs.declared.optimising.NewCode.{NewCode}
use Rattle.pass_driver.specs.declared.optimising.Optimised.{Optimised}
use Rattle.shape_laws.specs.Bare.{bare, bare_method}
use Rattle.swap_laws.specs.Swapped.{CodeSwaps, IsSwapped, NamesLessThan}
use Rattle.type_verifier.specs.Verified.{AreTyped}

-- right acts are found
abbrev pub FindsRight : Type 0
FindsRight = (p : Pass) (s : PassEdits) (code : Code) → IsFound p code s.acts → IsSound code
    → AreRightActs p s.acts code

-- lists as long as each other whose elements are related at each place
zip_from : {X : Type 0} (R : X → X → Type 0) (xs ys : List X) → length ys ≡ length xs
    → ((k : ℕ) (x y : X) → slice_get xs k ≡ Some x → slice_get ys k ≡ Some y → R x y) → AllZip R xs ys
zip_from R [] [] long each = tt
zip_from R [] (y ∷ ys) long each = absurd (omega (arith, long))
zip_from R (x ∷ xs) [] long each = absurd (omega (arith, long))
zip_from R (x ∷ xs) (y ∷ ys) long each =
    (each 0 x y refl refl, zip_from R xs ys (omega (arith, long)) (λ k a b at there. each (suc k) a b at there))

map_long : {X Y : Type 0} (f : X → Y) (xs : List X) → length (map f xs) ≡ length xs
map_long f [] = refl
map_long f (x ∷ xs) = ap suc (map_long f xs)

own_swaps : (m : Method) → IfSome m.code IsGoodCode → CodeSwaps m m
own_swaps m good = record { no_more = by m.code; good = good }
  where
    by : (o : Option Code) → NamesLessThan o o
    by None = tt
    by (Some code) = own_less code

module _ (classes : List Class) (codes : List NewCode) (taken : IsTaken classes) (typed : AreTyped classes)
    (new : AllByRecursion (IsNew classes) codes) (right : FindsRight) where
  good_method : (n : ℕ) (c : Class) → slice_get classes n ≡ Some c → (k : ℕ) (m : Method)
      → slice_get c.methods k ≡ Some m → IfSome m.code IsGoodCode
  good_method n c at k m in_methods =
      (all_at (IsGoodMethod (is_interface c.flags.0)) c.methods k m (taken.formed n c at).methods in_methods).code

  swaps : (n k : ℕ) (c : Class) (m o : Method) → slice_get classes n ≡ Some c → slice_get c.methods k ≡ Some m
      → IsFrom codes n k m o → CodeSwaps m o
  swaps n k c m o at in_methods (inl same) =
      subst (CodeSwaps m) (sym same) (own_swaps m (good_method n c at k m in_methods))
  swaps n k c m o at in_methods (inr (j, x, stands, own, number, same)) =
      let is = all_at (IsNew classes) codes j x new stands in
      let good : IsGoodCode is.own =
      subst (λ (p : Option Code). IfSome p IsGoodCode) is.has
      (good_method x.class is.of is.class_at x.method is.method is.method_at) in
      let sound : IsSound is.own =
      typed_sound classes x.class is.of x.method is.method is.own (taken.formed x.class is.of is.class_at) is.class_at
      is.method_at is.has typed in
      let fit : IsFit is.own x.code =
      subst (IsFit is.own) (sym is.is)
      (stepped_fit is.own right step_passes is.steps is.own is.found
      (record { less = own_less is.own; good = good; sound = sound })) in
      let class_is : is.of ≡ c =
      same_Some is.of c (sym is.class_at ∙ ap (λ (i : ℕ). slice_get classes i) own ∙ at) in
      let method_is : is.method ≡ m =
      same_Some is.method m (sym is.method_at
      ∙ (λ i. slice_get (class_is i).methods (number i)) ∙ in_methods) in
      let has : m.code ≡ Some is.own = sym (ap (λ (y : Method). y.code) method_is) ∙ is.has in
      record {
        no_more = subst (λ (p : Option Code). NamesLessThan p o.code) (sym has)
            (subst (NamesLessThan (Some is.own)) (sym (ap (λ (y : Method). y.code) same)) fit.less);
        good = subst (λ (p : Option Code). IfSome p IsGoodCode) (sym (ap (λ (y : Method). y.code) same)) fit.good;
      }

  pub is_swapped : IsSwapped classes (with_codes codes classes)
  is_swapped = record {
    alike = sym (codes_bare codes classes);
    codes = λ n c e at there.
        zip_from CodeSwaps c.methods e.methods (long n c e at there)
        (λ k m o in_methods in_new. by n k c m at in_methods o
        (method_from codes classes n k e o there in_new));
  }
    where
      got : (xs : List Class) (k : ℕ) (x : Class) → slice_get xs k ≡ Some x → slice_get (map bare xs) k ≡ Some (bare x)
      got [] k x h = absurd cc
      got (y ∷ xs) zero x h = ap (λ (z : Class). Some (bare z)) (same_Some y x h)
      got (y ∷ xs) (suc k) x h = got xs k x h

      long : (n : ℕ) (c e : Class) → slice_get classes n ≡ Some c → slice_get (with_codes codes classes) n ≡ Some e
          → length e.methods ≡ length c.methods
      long n c e at there =
          let like : bare e ≡ bare c =
          same_Some (bare e) (bare c) (sym (got (with_codes codes classes) n e there)
          ∙ ap (λ (xs : List Class). slice_get xs n) (codes_bare codes classes) ∙ got classes n c at) in
          sym (map_long bare_method e.methods) ∙ ap (λ (x : Class). length x.methods) like
          ∙ map_long bare_method c.methods

      by : (n k : ℕ) (c : Class) (m : Method) → slice_get classes n ≡ Some c → slice_get c.methods k ≡ Some m
          → (o : Method)
          → (d : Class) × (slice_get classes n ≡ Some d) × (p : Method) × (slice_get d.methods k ≡ Some p)
          × IsFrom codes n k p o
          → CodeSwaps m o
      by n k c m at in_methods o r =
          let class_is : r.0 ≡ c = same_Some r.0 c (sym r.1 ∙ at) in
          let method_is : r.2 ≡ m = same_Some r.2 m (sym r.3
          ∙ ap (λ (x : Class). slice_get x.methods k) class_is ∙ in_methods) in
          swaps n k c m o at in_methods (subst (λ (p : Method). IsFrom codes n k p o) method_is r.4)

-- what a pass finds is legal
abbrev pub FindsLegal : Type 0
FindsLegal = (p : Pass) (acts : List Act) (code : Code) → IsFound p code acts → IsSound code → AreLegal p acts code

finds_right : FindsLegal → FindsRight
finds_right legal p s code found sound =
    all_from (IsRightAct p s.acts code) s.acts (λ k a at. (legal p s.acts code found sound k a at).0)

pub optimised_swapped : FindsLegal → OptimisedSetsAreSwapped
optimised_swapped legal marks classes o taken typed done =
    is_swapped classes o.codes taken typed
    (all_new classes (spots marks classes) o.codes o.witness.methods o.fallback done) (finds_right legal)

-- where no code is new, each stands for itself
pub swapped_by_rules : FindsLegal → SetsByRulesAreSwapped
swapped_by_rules legal true marks classes o taken typed done =
    optimised_swapped legal marks classes o taken typed done
swapped_by_rules legal false marks classes o taken typed own =
    subst (λ (p : Optimised). IsSwapped classes (with_codes p.codes classes)) (sym own)
    (is_swapped classes [] taken typed tt (finds_right legal))
