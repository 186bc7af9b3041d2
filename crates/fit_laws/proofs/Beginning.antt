-- Methods as the view has them, and their beginning.
use Rattle.std.proofs.Common.{ℕ, suc, ◌+◌, ◌++◌, List, [], ◌∷◌, Option, Some, None, ◌≡◌, refl, sym}
use Rattle.std.proofs.Common.{ap, ◌∙◌, slice_get, length}
use Rattle.std.specs.Prelude.{map}
use Rattle.std.specs.List.{AllZip}
use Rattle.std.specs.Option.{option_and_then}
use Rattle.jv_base.proofs.Lists.{got_mapped, got_right}
use Rattle.class_model.specs.Flags.{is_static}
use Rattle.class_model.specs.Frames.{initial_locals}
use Rattle.class_model.specs.declared.class.Class.{Class}
use Rattle.class_model.specs.declared.class.Field.{Field}
use Rattle.class_model.specs.declared.class.Method.{Method}
use Rattle.class_model.specs.declared.code.Code.{Code}
use Rattle.class_model.specs.declared.frame.VType.{VType}
use Rattle.class_pool.specs.declared.id.ClassId.TheVariants.{Prog}
use Rattle.jvm_model.specs.Heap.{Object}
use Rattle.jvm_model.specs.Value.{Key, Value}
use Rattle.set_view.specs.ViewOf.{code_at, member_of, view_of}
use Rattle.type_verifier.specs.Environment.{Environment}
use Rattle.fit_laws.specs.Frames.{Begins, Environs, result_of}
use Rattle.fit_laws.specs.Values.{FitsValue}
use Rattle.fit_laws.proofs.Arguments.{NoTops, arguments_fit}

module _ (classes : List Class) where
  same_number : (fs : List Field)
      → length (map (λ (f : Field). (let o : Option Code = None in o)) fs) ≡ length fs
  same_number [] = refl
  same_number (f ∷ fs) = ap suc (same_number fs)

  -- the view has the code of a method that is found
  pub code_found : (k : Key) (own : ℕ) (c : Class) (number : ℕ) (m : Method) (code : Code)
      → member_of classes k ≡ Some (record { class = Prog own; index = length c.fields + number })
      → slice_get classes own ≡ Some c → slice_get c.methods number ≡ Some m → m.code ≡ Some code
      → (view_of classes).code k ≡ Some code
  code_found k own c number m code found there method is =
      ap (option_and_then (code_at classes)) found
      ∙ ap (λ (o : Option Class). option_and_then (λ (d : Class). option_and_then (λ x. x)
      (slice_get (map (λ f. None) d.fields ++ map (λ (n : Method). n.code) d.methods)
      (length c.fields + number))) o) there
      ∙ ap (λ (i : ℕ). option_and_then (λ x. x)
      (slice_get (map (λ (f : Field). None) c.fields ++ map (λ (n : Method). n.code) c.methods)
      (i + number)))
      (sym (same_number c.fields))
      ∙ ap (option_and_then (λ (x : Option Code). x))
      (got_right (map (λ f. None) c.fields) (map (λ (n : Method). n.code) c.methods) number
      ∙ got_mapped (λ (n : Method). n.code) c.methods number m method)
      ∙ is

  -- a method begins with arguments that fit its first locals
  pub begins_with : (heap : List Object) (k : Key) (env : Environment)
      (is : Environs classes k env) (args : List Value)
      → (let ts : List VType = initial_locals env.class.name (is_static env.method.flags.0)
      env.method.name env.method.ty in
      NoTops env heap ts × AllZip (FitsValue env heap) ts args)
      → Begins classes heap (result_of env) k args
  begins_with heap k env is args x = record {
    env = env;
    is = is;
    fits = record {
      locals = arguments_fit env heap env.code.max_locals
          (initial_locals env.class.name (is_static env.method.flags.0) env.method.name
          env.method.ty) args x.0 x.1;
      stack = tt;
    };
    result = refl;
  }
