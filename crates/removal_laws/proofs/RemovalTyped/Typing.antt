-- Each method that is left is typed, as it was.
use Rattle.std.proofs.Common.{◌≡◌, ℕ, ◌+◌, Bool, true, List, [], ◌∷◌, ◌++◌, length, Option, Some}
use Rattle.std.proofs.Common.{slice_get}
use Rattle.std.proofs.Common.{refl, sym, ap, subst, ◌∙◌, arith}
use Rattle.std.specs.Prelude.{IfSome}
use Rattle.std.specs.List.{AllByRecursion, flat_map}
use Rattle.std.specs.Option.{option_map_or}
use Rattle.jv_base.proofs.Lists.{all_split, all_at, nil_parts}
use Rattle.mark_core.specs.Marks.{Closed}
use Rattle.class_model.specs.Flags.{is_interface}
use Rattle.class_model.specs.WellFormed.{IsGoodCode, IsGoodMethod, IsGoodOp}
use Rattle.class_model.specs.declared.class.Class.{Class}
use Rattle.class_model.specs.declared.class.Method.{Method}
use Rattle.class_model.specs.declared.code.Code.{Code}
use Rattle.class_model.specs.declared.code.Ins.{Ins}
use Rattle.class_pool.specs.Items.{class_item}
use Rattle.class_pool.specs.declared.id.ClassId.TheVariants.{Prog}
use Rattle.link_check.specs.Profile.{body_kinds, code_kinds, declaration_kinds, frame_kinds, handler_kinds, op_kinds}
use Rattle.link_check.specs.Profile.{overriding_kinds}
use Rattle.link_check.proofs.Taken.{links_taken}
use Rattle.class_rename.specs.Names.{same_names}
use Rattle.member_shrink.specs.Shrunk.{is_marked, shrunk}
use Rattle.require_sys.specs.Requires.{Item, code_wants, op_wants, requires}
use Rattle.require_sys.specs.declared.kept.KeptByRules.{KeptByRules}
use Rattle.image_laws.specs.ShrunkImage.Keeping.{is_class_kept}
use Rattle.image_laws.proofs.ShrunkImage.Classes.{f}
use Rattle.image_laws.proofs.ShrunkImage.Kept.{as_filter}
use Rattle.image_laws.specs.TakenSet.TakenSet.{IsTaken}
use Rattle.type_verifier.specs.Verified.{AreTyped, IsTypedMethod}
use Rattle.removal_laws.proofs.RemovalImage.Wanted.{AllIn, In, wants_of_code, wants_of_method}
use Rattle.removal_laws.proofs.RemovalLinks.Instructions.{left}
use Rattle.removal_laws.proofs.RemovalLinks.Left.{stays}
use Rattle.removal_laws.proofs.RemovalLinks.Places.{origin}
use Rattle.image_laws.specs.TypedImage.Named.{IsCodeNamed, IsOpNamed}
use Rattle.image_laws.proofs.TypedImage.Staying.{itself, known_stay, method_type_stays}
use Rattle.image_laws.proofs.TypedImage.Walking.{is_typed}
use Rattle.removal_laws.specs.RemovalTyped.Laws.{RemovalKeepsTyped}
use Rattle.removal_laws.proofs.RemovalTyped.Naming.{frames_named, handlers_named, known_named, method_type_named}
use Rattle.removal_laws.proofs.RemovalTyped.Naming.{named_here}
use Rattle.removal_laws.proofs.RemovalTyped.References.{i, op_named, own_named, rest, whole}

module _ (classes : List Class) (rules : KeptByRules) (marks : List Bool)
    (closed : Closed (requires classes rules) (is_marked marks)) (taken : IsTaken classes) where
  abbrev out : List Class
  out = shrunk classes marks

  abbrev All : List Item → Type 0
  All items = AllIn classes rules marks closed items

  -- ---- a code

  module _ (n : ℕ) (own : is_class_kept classes marks (Prog n) ≡ true) (c : Class)
      (there : slice_get classes n ≡ Some c) (k j : ℕ) (m : Method) (at : slice_get c.methods k ≡ Some m)
      (marked : is_marked marks (class_item classes n + 1 + (length c.fields + k)) ≡ true) (code : Code)
      (is : m.code ≡ Some code) where
    ops_named : (size : ℕ) (ins : List Ins) → AllByRecursion (λ (x : Ins). IsGoodOp size x.op) ins
        → All (flat_map (λ (x : Ins). op_wants classes n x.op) ins)
        → flat_map (λ (x : Ins). op_kinds classes n m.name x.op) ins ≡ []
        → AllByRecursion (λ (x : Ins). IsOpNamed same_names
        (whole classes rules marks closed taken n own c there k j m code)
        (rest classes rules marks closed taken n own c there k j m code)
        (i classes rules marks closed taken n own c there k j m code) x.op) ins
    ops_named size [] good all none = tt
    ops_named size (x ∷ ins) good all none =
        let parts = all_split (In classes rules marks closed) (op_wants classes n x.op)
        (flat_map (λ (x : Ins). op_wants classes n x.op) ins) all in
        let nones = nil_parts (op_kinds classes n m.name x.op)
        (flat_map (λ (x : Ins). op_kinds classes n m.name x.op) ins) none in (
          op_named classes rules marks closed taken n own c there k j m code size x.op good.0 parts.0 nones.0,
          ops_named size ins good.1 parts.1 nones.1,
        )

    good_code : IsGoodCode code
    good_code =
        subst (λ o. IfSome o IsGoodCode) is
        (all_at (IsGoodMethod (is_interface c.flags.0)) c.methods k m (taken.formed n c there).methods at).code

    -- no rule for links is broken in it
    no_kinds : code_kinds classes n m.name code ≡ []
    no_kinds =
        subst (λ (o : Option Code). option_map_or (code_kinds classes n m.name) o [] ≡ []) is
        (nil_parts (declaration_kinds classes n c (length c.fields + k) m ++ body_kinds c m
        ++ overriding_kinds classes n (record { class = Prog n; index = length c.fields + k }))
        (option_map_or (code_kinds classes n m.name) m.code [])
        ((links_taken classes taken.linked).method n c k m there at)).1

    pub named : IsCodeNamed same_names (whole classes rules marks closed taken n own c there k j m code)
        (rest classes rules marks closed taken n own c there k j m code)
        (i classes rules marks closed taken n own c there k j m code)
    named =
        let method = wants_of_method classes rules marks closed n c k m there at marked in
        let wants = wants_of_code classes rules marks closed n code
        (subst (λ (o : Option Code). All (option_map_or (code_wants classes n) o [])) is method.code) in
        let firsts = nil_parts (flat_map (λ (x : Ins). op_kinds classes n m.name x.op) code.ins)
        (flat_map (handler_kinds classes n) code.handlers)
        (nil_parts (flat_map (λ (x : Ins). op_kinds classes n m.name x.op) code.ins
        ++ flat_map (handler_kinds classes n) code.handlers)
        (flat_map (frame_kinds classes n) code.frames) no_kinds).0 in
        record {
          own = refl;
          super = refl;
          flags = refl;
          constructor = refl;
          type = sym (method_type_stays m.ty);
          code = itself code;
          known = known_named classes rules marks closed taken;
          own_named = named_here classes rules marks closed taken c.name
              (subst (λ o. IfSome o (λ y. is_class_kept classes marks y ≡ true))
              (sym (own_named classes rules marks closed taken n own c there k j m code)) own);
          type_named = method_type_named classes rules marks closed taken m.ty method.typed;
          instructions = ops_named (length code.ins) code.ins good_code.instructions wants.instructions firsts.0;
          handlers = handlers_named classes rules marks closed taken code.handlers wants.handlers;
          frames = frames_named classes rules marks closed taken code.frames wants.frames;
        }

  -- ---- a method that is left

  method_typed : AreTyped classes → (n : ℕ) → (own : is_class_kept classes marks (Prog n) ≡ true) → (c : Class)
      → slice_get classes n ≡ Some c → (j : ℕ) (m : Method)
      → slice_get (f classes marks n c).methods j ≡ Some m
      → IsTypedMethod out (left classes rules marks closed taken n own) (f classes marks n c) j m
  method_typed typed n own c there j m at code is =
      let first = class_item classes n + 1 + length c.fields in
      let o = origin (is_marked marks) (λ k y. y) first c.methods j m
      (ap (λ (t : List Method). slice_get t j)
      (sym (as_filter (is_marked marks) (λ k y. y) first c.methods)) ∙ at) in
      let here : slice_get c.methods o.k ≡ Some m = o.at ∙ ap (λ (z : Method). Some z) (sym o.is) in
      let item : class_item classes n + 1 + length c.fields + o.k
      ≡ class_item classes n + 1 + (length c.fields + o.k) = omega arith in
      let passes : is_marked marks (class_item classes n + 1 + (length c.fields + o.k)) ≡ true =
      ap (is_marked marks) (sym item) ∙ o.passes in
      is_typed same_names (whole classes rules marks closed taken n own c there o.k j m code)
      (rest classes rules marks closed taken n own c there o.k j m code)
      (i classes rules marks closed taken n own c there o.k j m code) known_stay
      (named n own c there o.k j m here passes code is) (typed n o.k c there m here code is)

  pub all_typed : AreTyped classes → AreTyped out
  all_typed typed own number d at m here =
      let s = stays classes rules marks closed taken own d at in
      subst (λ (x : Class). IsTypedMethod out own x number m) (sym s.is)
      (subst (λ (k : ℕ). IsTypedMethod out k (f classes marks s.n s.class) number m) (sym s.place)
      (method_typed typed s.n s.own s.class s.there number m
      (ap (λ (x : Class). slice_get x.methods number) (sym s.is) ∙ here)))

pub typed_again : RemovalKeepsTyped
typed_again classes rules marks taken typed closed = all_typed classes rules marks closed taken typed
