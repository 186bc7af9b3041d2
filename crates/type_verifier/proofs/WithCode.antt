-- A code is typed as that of a method where the method is typed in the set in which it has this code.
use Rattle.std.proofs.Common.{◌≡◌, ℕ, zero, suc, List, [], ◌∷◌, map, Some, Result, Ok, Err, refl, sym, ap, subst, ◌∙◌}
use Rattle.std.proofs.Math.Path.{transport, transport⁻¹}
use Rattle.std.specs.Prelude.{slice_get}
use Rattle.std.specs.Option.{option_map}
use Rattle.jv_base.specs.Outcome.{IsDue}
use Rattle.jv_base.specs.declared.outcome.Or.{Or}
use Rattle.jv_base.specs.declared.outcome.Or.TheVariants as or
use Rattle.class_model.specs.declared.class.Class.{Class}
use Rattle.class_model.specs.declared.class.Method.{Method}
use Rattle.class_model.specs.declared.code.Code.{Code}
use Rattle.type_verifier.specs.declared.fault.TypeFault.{TypeFault}
use Rattle.type_verifier.specs.Environment.{Environment}
use Rattle.type_verifier.specs.Typed.{IsFirstFault, Typed}
use Rattle.type_verifier.specs.Verified.{IsTypedAt, IsTypedMethod, JudgesMethod, environment}
use Rattle.type_verifier.specs.WithCode.{changed_at, class_with_code, method_with_code, set_with_code}
use Rattle.type_verifier.specs.bodies.Walked.{code_checked}
use Rattle.type_verifier.proofs.WithoutCodes.{bare, bare_method}
use Rattle.type_verifier.proofs.RulesWithoutCodes.{bare_env, fault_same, typed_same}
use Rattle.type_verifier.proofs.SetLaw.{typed_there}
use Rattle.type_verifier.proofs.TypedLaw.{first_where_no, typed_where_yes, yes_where_typed}

-- ---- lists

changed_map : {X Y : Type 0} (g : X → Y) (f : X → X) → ((x : X) → g (f x) ≡ g x) → (n : ℕ) (xs : List X)
    → map g (changed_at n f xs) ≡ map g xs
changed_map g f same n [] = refl
changed_map {Y = Y} g f same zero (x ∷ xs) = ap (λ (y : Y). y ∷ map g xs) (same x)
changed_map {Y = Y} g f same (suc n) (x ∷ xs) = ap (λ (ys : List Y). g x ∷ ys) (changed_map g f same n xs)

changed_get : {X : Type 0} (f : X → X) (n : ℕ) (xs : List X)
    → slice_get (changed_at n f xs) n ≡ option_map f (slice_get xs n)
changed_get f n [] = refl
changed_get f zero (x ∷ xs) = refl
changed_get f (suc n) (x ∷ xs) = changed_get f n xs

-- ---- the set with the code

module _ (classes : List Class) (own number : ℕ) (c : Class) (m : Method) (code : Code) where
  class_bare : (d : Class) → bare (class_with_code number code d) ≡ bare d
  class_bare d = λ i. record {
    flags = d.flags;
    name = d.name;
    super_name = d.super_name;
    interfaces = d.interfaces;
    fields = d.fields;
    methods = changed_map bare_method (method_with_code code) (λ n. refl) number d.methods i;
    source = d.source;
    synthetic = d.synthetic;
    deprecated = d.deprecated;
    left_out = d.left_out;
  }

  abbrev Tried : Environment
  Tried = environment (set_with_code classes own number code) own (class_with_code number code c) number
      (method_with_code code m) code

  abbrev There : Environment
  There = environment classes own c number m code

  env_bare : bare_env Tried ≡ bare_env There
  env_bare = λ i. record {
    classes = changed_map bare (class_with_code number code) class_bare own classes i;
    own = own;
    class = class_bare c i;
    number = number;
    method = bare_method m;
    code = code;
  }

  typed_tried : Typed There → Typed Tried
  typed_tried t = transport (typed_same Tried)
      (subst (λ (e : Environment). Typed e) (sym env_bare) (transport⁻¹ (typed_same There) t))

  tried_typed : Typed Tried → Typed There
  tried_typed t = transport (typed_same There)
      (subst (λ (e : Environment). Typed e) env_bare (transport⁻¹ (typed_same Tried) t))

  fault_tried : (f : TypeFault) → IsFirstFault There f → IsFirstFault Tried f
  fault_tried f t = transport (fault_same Tried f)
      (subst (λ (e : Environment). IsFirstFault e f) (sym env_bare) (transport⁻¹ (fault_same There f) t))

  there_tried : slice_get classes own ≡ Some c
      → slice_get (set_with_code classes own number code) own ≡ Some (class_with_code number code c)
  there_tried there = changed_get (class_with_code number code) own classes
      ∙ ap (option_map (class_with_code number code)) there

  is_tried : slice_get c.methods number ≡ Some m
      → slice_get (class_with_code number code c).methods number ≡ Some (method_with_code code m)
  is_tried is = changed_get (method_with_code code) number c.methods ∙ ap (option_map (method_with_code code)) is

  only_code : Typed Tried
      → IsTypedMethod (set_with_code classes own number code) own (class_with_code number code c) number
      (method_with_code code m)
  only_code t other has =
      let same : code ≡ other = cc in
      subst (λ (k : Code). Typed
      (environment (set_with_code classes own number code) own (class_with_code number code c)
      number (method_with_code code m) k)) same t

  -- what is answered of the code is what holds of the method in the set in which it has the code
  pub code_judged : (r : Result (Unit {0}) (Or TypeFault)) → slice_get classes own ≡ Some c
      → slice_get c.methods number ≡ Some m → IsDue r (code_checked There)
      → JudgesMethod r (set_with_code classes own number code) own number
  code_judged (Ok u) there is h =
      typed_there (set_with_code classes own number code) own number (class_with_code number code c)
      (method_with_code code m) (there_tried there) (is_tried is) (only_code (typed_tried (typed_where_yes There h)))
  code_judged (Err (or.Fault f)) there is h = (
    class_with_code number code c,
    there_tried there,
    method_with_code code m,
    is_tried is,
    code,
    refl,
    fault_tried f (first_where_no There f h),
  )
  code_judged (Err or.OutOfMemory) there is h = tt

  -- a typed code is taken
  pub typed_code : slice_get classes own ≡ Some c → slice_get c.methods number ≡ Some m
      → IsTypedAt (set_with_code classes own number code) own number → code_checked There ≡ Ok tt
  typed_code there is t = yes_where_typed There
      (tried_typed
      (t (class_with_code number code c) (there_tried there) (method_with_code code m) (is_tried is) code refl))
