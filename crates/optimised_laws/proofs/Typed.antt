-- Each method of a set with new codes is typed.
use Rattle.std.proofs.Common.{◌≡◌, inl, inr, true, false, ℕ, zero, suc, List, ◌∷◌, [], map, Some, slice_get, refl, sym, ap, subst, ◌∙◌}
use Rattle.std.proofs.Math.Path.{transport, transport⁻¹}
use Rattle.std.proofs.lemmas.Option.{same_Some}
use Rattle.std.specs.List.{AllByRecursion}
use Rattle.jv_base.proofs.Lists.{all_at}
use Rattle.class_model.specs.declared.class.Class.{Class}
use Rattle.class_model.specs.declared.class.Method.{Method}
use Rattle.class_model.specs.declared.code.Code.{Code}
use Rattle.pass_driver.specs.Optimised.{spots, with_codes}
use Rattle.pass_driver.specs.declared.optimising.NewCode.{NewCode}
use Rattle.pass_driver.specs.declared.optimising.Optimised.{Optimised}
use Rattle.shape_laws.specs.Bare.{bare, bare_method}
use Rattle.type_verifier.specs.Environment.{Environment}
use Rattle.type_verifier.specs.Typed.{Typed}
use Rattle.type_verifier.specs.Verified.{AreTyped, environment}
use Rattle.type_verifier.specs.WithCode.{changed_at, class_with_code, method_with_code, set_with_code}
use Rattle.type_verifier.proofs.RulesWithoutCodes.{bare_env, typed_same}
use Rattle.optimised_laws.specs.Laws.{OptimisedSetsAreTyped, SetsByRulesAreTyped}
use Rattle.optimised_laws.proofs.NewCodes.{IsNew, all_new}
use Rattle.optimised_laws.proofs.Placed.{IsFrom, class_bare, codes_bare, method_from, set_bare}

-- no rule looks at the codes of a set, so a code is typed alike in sets that differ in codes alone
typed_alike : (a b : List Class) (n k : ℕ) (c e : Class) (m o : Method) (code : Code) → map bare b ≡ map bare a
    → bare e ≡ bare c → bare_method o ≡ bare_method m → Typed (environment a n c k m code)
    → Typed (environment b n e k o code)
typed_alike a b n k c e m o code sets classes methods t =
    let old = environment a n c k m code in
    let new = environment b n e k o code in
    let same : bare_env new ≡ bare_env old = λ i. record {
      classes = sets i;
      own = n;
      class = classes i;
      number = k;
      method = methods i;
      code = code;
    } in
    transport (typed_same new) (subst (λ (env : Environment). Typed env) (sym same) (transport⁻¹ (typed_same old) t))

-- what stands where an element was changed
changed_here : {X : Type 0} (f : X → X) (n : ℕ) (xs : List X) (x : X) → slice_get xs n ≡ Some x
    → slice_get (changed_at n f xs) n ≡ Some (f x)
changed_here f n [] x at = absurd cc
changed_here f zero (y ∷ xs) x at = ap (λ z. Some (f z)) (same_Some y x at)
changed_here f (suc n) (y ∷ xs) x at = changed_here f n xs x at

module _ (classes : List Class) (codes : List NewCode) (typed : AreTyped classes)
    (new : AllByRecursion (IsNew classes) codes) where
  abbrev after : List Class
  after = with_codes codes classes

  here : (n k : ℕ) (c e : Class) (m o : Method) (code : Code) → slice_get classes n ≡ Some c
      → slice_get c.methods k ≡ Some m → bare e ≡ bare c → o.code ≡ Some code → IsFrom codes n k m o
      → Typed (environment after n e k o code)
  here n k c e m o code at in_methods like has (inl same) =
      typed_alike classes after n k c e m o code (codes_bare codes classes) like
      (ap (λ (x : Method). bare_method x) same)
      (typed n k c at m in_methods code (sym (ap (λ (x : Method). x.code) same) ∙ has))
  here n k c e m o code at in_methods like has (inr (j, x, stands, own, number, same)) =
      let is = all_at (IsNew classes) codes j x new stands in
      let code_is : x.code ≡ code =
      same_Some x.code code (sym (ap (λ (y : Method). y.code) same) ∙ has) in
      let class_is : is.of ≡ c =
      same_Some is.of c (sym is.class_at ∙ ap (λ (i : ℕ). slice_get classes i) own ∙ at) in
      let there = is.typed (class_with_code x.method x.code is.of)
      (changed_here (class_with_code x.method x.code) x.class classes is.of is.class_at)
      (method_with_code x.code is.method)
      (changed_here (method_with_code x.code) x.method is.of.methods is.method is.method_at) x.code refl in
      let method_is : is.method ≡ m =
      same_Some is.method m (sym is.method_at
      ∙ (λ i. slice_get (class_is i).methods (number i)) ∙ in_methods) in
      subst (λ (y : Code). Typed (environment after n e k o y)) code_is
      (typed_alike (set_with_code classes x.class x.method x.code) after n k
      (class_with_code x.method x.code is.of) e (method_with_code x.code is.method) o x.code
      (codes_bare codes classes ∙ sym (set_bare x.class x.method x.code classes))
      (like ∙ ap bare (sym class_is) ∙ sym (class_bare x.method x.code is.of))
      (ap (λ (y : Method). bare_method y) same ∙ ap bare_method (sym method_is))
      (subst (λ (i : ℕ). Typed (environment (set_with_code classes x.class x.method x.code) n
      (class_with_code x.method x.code is.of) i (method_with_code x.code is.method) x.code)) number
      (subst (λ (i : ℕ). Typed (environment (set_with_code classes x.class x.method x.code) i
      (class_with_code x.method x.code is.of) x.method (method_with_code x.code is.method) x.code)) own there)))

pub optimised_typed : OptimisedSetsAreTyped
optimised_typed marks classes o typed done own number e at m in_methods code has =
    let new = all_new classes (spots marks classes) o.codes o.witness.methods o.fallback done in
    let r = method_from o.codes classes own number e m at in_methods in
    here classes o.codes typed new own number r.0 e r.2 m code r.1 r.3
    (class_like classes o.codes own e r.0 at r.1) has r.4
  where
    class_like : (cs : List Class) (codes : List NewCode) (n : ℕ) (e c : Class)
        → slice_get (with_codes codes cs) n ≡ Some e → slice_get cs n ≡ Some c → bare e ≡ bare c
    class_like cs codes n e c at there =
        same_Some (bare e) (bare c)
        (sym (got (with_codes codes cs) n e at) ∙ ap (λ (xs : List Class). slice_get xs n) (codes_bare codes cs)
        ∙ got cs n c there)
      where
        got : (xs : List Class) (k : ℕ) (x : Class) → slice_get xs k ≡ Some x → slice_get (map bare xs) k ≡ Some (bare x)
        got [] k x h = absurd cc
        got (y ∷ xs) zero x h = ap (λ (z : Class). Some (bare z)) (same_Some y x h)
        got (y ∷ xs) (suc k) x h = got xs k x h

pub typed_by_rules : SetsByRulesAreTyped
typed_by_rules true marks classes o typed done = optimised_typed marks classes o typed done
typed_by_rules false marks classes o typed own =
    subst (λ (p : Optimised). AreTyped (with_codes p.codes classes)) (sym own) typed
