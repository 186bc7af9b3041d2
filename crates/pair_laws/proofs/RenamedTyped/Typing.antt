-- Each method under new names is typed, as it was.
use Rattle.std.proofs.Common.{◌≡◌, ℕ, ◌+◌, List, [], ◌∷◌, ◌++◌, length, Option, Some, None, slice_get, refl, sym, ap}
use Rattle.std.proofs.Common.{subst, ◌∙◌}
use Rattle.std.specs.Prelude.{IfSome, not}
use Rattle.std.specs.List.{AllByRecursion, flat_map}
use Rattle.std.specs.Option.{option_map, option_map_or}
use Rattle.std.proofs.lemmas.Option.{same_Some, slice_get-map}
use Rattle.jv_base.specs.Types.{method_text}
use Rattle.jv_base.proofs.Lists.{all_at, nil_parts}
use Rattle.class_model.specs.Flags.{is_interface, is_native}
use Rattle.class_model.specs.WellFormed.{IsGoodCode, IsGoodMethod, IsGoodOp}
use Rattle.class_model.specs.declared.class.Class.{Class}
use Rattle.class_model.specs.declared.class.Method.{Method}
use Rattle.class_model.specs.declared.code.Code.{Code}
use Rattle.class_model.specs.declared.code.Ins.{Ins}
use Rattle.class_pool.specs.declared.id.ClassId.TheVariants.{Prog}
use Rattle.link_check.specs.Profile.{body_kinds, code_kinds, declaration_kinds, frame_kinds, handler_kinds, left_out_at}
use Rattle.link_check.specs.Profile.{method_type_kinds, name_kinds, op_kinds, overriding_kinds, unless}
use Rattle.link_check.specs.declared.fault.ProfileKind.{ProfileKind}
use Rattle.link_check.specs.declared.fault.ProfileKind.TheVariants.{LeftOutFlag}
use Rattle.link_check.proofs.Taken.{links_taken}
use Rattle.class_rename.specs.Names.{Names}
use Rattle.class_rename.specs.Renamed.{renamed, renamed_code, renamed_method}
use Rattle.image_laws.specs.SetImage.Image.{Image}
use Rattle.type_verifier.specs.Typed.{Typed}
use Rattle.type_verifier.specs.Verified.{AreTyped, IsTypedMethod, environment}
use Rattle.image_laws.specs.TypedImage.Named.{IsCodeNamed, IsCodeRenamed, IsOpNamed}
use Rattle.image_laws.proofs.TypedImage.Walking.{is_typed}
use Rattle.pair_laws.proofs.RenamedTaken.Placed.{IsPlaced, was}
use Rattle.pair_laws.proofs.RenamedTaken.Whole.{places_of}
use Rattle.pair_laws.specs.RenamedTyped.Laws.{RenamedIsTyped}
use Rattle.pair_laws.proofs.RenamedTyped.Naming.{class_of_name, frames_named, handlers_named, i, known_named}
use Rattle.pair_laws.proofs.RenamedTyped.Naming.{known_stay, method_type_named}
use Rattle.pair_laws.proofs.RenamedTyped.References.{op_named, rest, whole}

module _ (names : Names) (place back : ℕ → ℕ) (classes out : List Class)
    (h : IsPlaced names place back classes out) where
  -- ---- a code

  module _ (n : ℕ) (c : Class) (there : slice_get classes n ≡ Some c) (k : ℕ) (m : Method)
      (at : slice_get c.methods k ≡ Some m) (code : Code) (is : m.code ≡ Some code) where
    abbrev image : Image classes out
    image = i names place back classes out h

    ops_named : (size : ℕ) (ins : List Ins) → AllByRecursion (λ (x : Ins). IsGoodOp size x.op) ins
        → flat_map (λ (x : Ins). op_kinds classes n m.name x.op) ins ≡ []
        → AllByRecursion (λ (x : Ins). IsOpNamed names (whole names place back classes out h n c there k m code)
        (rest names place back classes out h n c there k m code) image x.op) ins
    ops_named size [] good none = tt
    ops_named size (x ∷ ins) good none =
        let nones = nil_parts (op_kinds classes n m.name x.op)
        (flat_map (λ (x : Ins). op_kinds classes n m.name x.op) ins) none in (
          op_named names place back classes out h n c there k m code size x.op good.0 nones.0,
          ops_named size ins good.1 nones.1,
        )

    good_code : IsGoodCode code
    good_code =
        subst (λ o. IfSome o IsGoodCode) is
        (all_at (IsGoodMethod (is_interface c.flags.0)) c.methods k m (h.taken.formed n c there).methods at).code

    -- no rule for links is broken in the method
    kinds : (declaration_kinds classes n c (length c.fields + k) m ≡ [])
        × (option_map_or (code_kinds classes n m.name) m.code [] ≡ [])
    kinds =
        let overridden = overriding_kinds classes n (record { class = Prog n; index = length c.fields + k }) in
        let declaration = declaration_kinds classes n c (length c.fields + k) m in
        let one = nil_parts (declaration ++ body_kinds c m ++ overridden)
        (option_map_or (code_kinds classes n m.name) m.code [])
        ((links_taken classes h.taken.linked).method n c k m there at) in
        let two = nil_parts (declaration ++ body_kinds c m) overridden one.0 in
        ((nil_parts declaration (body_kinds c m) two.0).0, one.1)

    type_right : method_type_kinds classes n m.ty ≡ []
    type_right =
        let head : List ProfileKind =
        left_out_at c.left_out (Some (length c.fields + k)) ++ unless (not (is_native m.flags.0)) LeftOutFlag in
        (nil_parts head (method_type_kinds classes n m.ty)
        (nil_parts (head ++ method_type_kinds classes n m.ty) (flat_map (name_kinds classes n) m.throws) kinds.0).0).1

    code_right : code_kinds classes n m.name code ≡ []
    code_right = subst (λ (o : Option Code). option_map_or (code_kinds classes n m.name) o [] ≡ []) is kinds.1

    code_renamed : IsCodeRenamed names code (renamed_code names code)
    code_renamed = record {
      max_stack = refl;
      max_locals = refl;
      line = λ j. j.line;
      ins = refl;
      handlers = refl;
      frames = refl;
    }

    pub named : IsCodeNamed names (whole names place back classes out h n c there k m code)
        (rest names place back classes out h n c there k m code) image
    named =
        let of_ins = flat_map (λ (x : Ins). op_kinds classes n m.name x.op) code.ins in
        let of_handlers = flat_map (handler_kinds classes n) code.handlers in
        let nones = nil_parts (of_ins ++ of_handlers) (flat_map (frame_kinds classes n) code.frames) code_right in
        let firsts = nil_parts of_ins of_handlers nones.0 in
        record {
          own = refl;
          super = refl;
          flags = refl;
          constructor = h.form.init m.name (method_text m.ty);
          type = refl;
          code = code_renamed;
          known = known_named names place back classes out h;
          own_named = class_of_name names place back classes out h c.name (Prog n) (h.found.own n c there);
          type_named = method_type_named names place back classes out h n m.ty type_right;
          instructions = ops_named (length code.ins) code.ins good_code.instructions firsts.0;
          handlers = handlers_named names place back classes out h n code.handlers firsts.1;
          frames = frames_named names place back classes out h n code.frames nones.1;
        }

  -- ---- a method

  method_typed : AreTyped classes → (n : ℕ) (c : Class) → slice_get classes n ≡ Some c → (k : ℕ) (m : Method)
      → slice_get c.methods k ≡ Some m → IsTypedMethod out (place n) (renamed names c) k (renamed_method names m)
  method_typed typed n c there k m at new_code its = by m.code refl its
    where
      by : (o : Option Code) → m.code ≡ o → option_map (renamed_code names) o ≡ Some new_code
          → Typed (environment out (place n) (renamed names c) k (renamed_method names m) new_code)
      by None e its = absurd cc
      by (Some code) e its =
          subst (λ (x : Code). Typed (environment out (place n) (renamed names c) k (renamed_method names m) x))
          (same_Some (renamed_code names code) new_code its)
          (is_typed names (whole names place back classes out h n c there k m code)
          (rest names place back classes out h n c there k m code) (i names place back classes out h)
          (known_stay names classes h.apart) (named n c there k m at code e) (typed n k c there m at code e))

  -- of a class at its place
  class_typed : AreTyped classes → (n : ℕ) (c : Class) → slice_get classes n ≡ Some c → (number : ℕ) (m : Method)
      → slice_get (renamed names c).methods number ≡ Some m
      → IsTypedMethod out (place n) (renamed names c) number m
  class_typed typed n c there number m at =
      by (slice_get c.methods number) refl (sym (slice_get-map (renamed_method names) c.methods number) ∙ at)
    where
      by : (o : Option Method) → slice_get c.methods number ≡ o → option_map (renamed_method names) o ≡ Some m
          → IsTypedMethod out (place n) (renamed names c) number m
      by None e is = absurd cc
      by (Some old) e is =
          subst (IsTypedMethod out (place n) (renamed names c) number) (same_Some (renamed_method names old) m is)
          (method_typed typed n c there number old e)

  pub all_typed : AreTyped classes → AreTyped out
  all_typed typed own number d at m here =
      let w = was names place back classes out h own d at in
      subst (λ (x : Class). IsTypedMethod out own x number m) (sym w.is)
      (subst (λ (k : ℕ). IsTypedMethod out k (renamed names w.class) number m) (sym w.place_is)
      (class_typed typed w.n w.class w.there number m
      (ap (λ (x : Class). slice_get x.methods number) (sym w.is) ∙ here)))

pub renamed_typed : RenamedIsTyped
renamed_typed names classes out taken typed set then_taken =
    let placed = places_of names classes out taken set in
    all_typed names placed.0 placed.1 classes out placed.2 typed
