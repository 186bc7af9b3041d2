-- Each frame of a run is of a method with a code: the set is an image of itself in which methods without one have no
-- name.
use Rattle.std.proofs.Common.{◌≡◌, ◌⊎◌, inl, inr, ◌<◌, ℕ, zero, suc, Bool, true, false, cond, List, [], ◌∷◌, Option, Some}
use Rattle.std.proofs.Common.{None, is_some, refl, sym, ap, subst, ◌∙◌, arith, codes}
use Rattle.std.specs.Prelude.{IfSome, IsSome, if◌then◌else◌}
use Rattle.std.specs.List.{AllByRecursion, AllZip}
use Rattle.std.specs.Option.{option_map, option_map_or}
use Rattle.std.proofs.lemmas.Option.{same_Some}
use Rattle.jv_base.specs.declared.types.Base.{Base}
use Rattle.jv_base.specs.declared.types.Base.TheVariants as base
use Rattle.jv_base.specs.declared.types.FieldType.{FieldType}
use Rattle.jv_base.proofs.Lists.{all_at}
use Rattle.jv_base.proofs.Options.{both_there}
use Rattle.class_model.specs.ConstantPool.{IsMethodText}
use Rattle.class_model.specs.Flags.{is_interface}
use Rattle.class_model.specs.WellFormed.{IsGoodCode, IsGoodMethod, IsGoodOp}
use Rattle.class_model.specs.declared.class.Class.{Class}
use Rattle.class_model.specs.declared.code.Code.{Code}
use Rattle.class_model.specs.declared.code.Handler.{Handler}
use Rattle.class_model.specs.declared.code.Ins.{Ins}
use Rattle.class_model.specs.declared.op.MemberRef.{MemberRef}
use Rattle.class_model.specs.declared.op.Op.{Op}
use Rattle.class_model.specs.declared.op.Op.TheVariants as op
use Rattle.class_pool.specs.Found.{declared_in}
use Rattle.class_pool.specs.Hierarchy.{class_named}
use Rattle.class_pool.specs.declared.id.ClassId.{ClassId}
use Rattle.class_pool.specs.declared.id.MemberAt.{MemberAt}
use Rattle.jvm_model.specs.Fields.{blank, stored_in}
use Rattle.jvm_model.specs.Heap.{Object}
use Rattle.jvm_model.specs.Mapped.{CodeMap, HandlerMap, InsMap, Mapped, Mapping, OptionCorr, ShapeMap, TargetMap, op_map}
use Rattle.jvm_model.specs.Program.{Fails, Library, Program, Target, View}
use Rattle.jvm_model.specs.Same.{AreKept, Corr, FrameCorr, Names, base_name, type_name}
use Rattle.jvm_model.specs.Start.{ArePlain}
use Rattle.jvm_model.specs.State.{Frame, State, WentWrong, frames, status}
use Rattle.jvm_model.specs.Step.{run, start}
use Rattle.jvm_model.specs.Types.{argument_kinds, field_kind}
use Rattle.jvm_model.specs.Value.{Key, Value}
use Rattle.jvm_model.proofs.Compose.{line_refl, zip_refl}
use Rattle.jvm_model.proofs.Side.{mapped_steps}
use Rattle.mapping_file.specs.declared.mapping.Mapping.{Mapping as Names_file}
use Rattle.set_view.specs.ViewOf.{array_target_of, code_at, is_startable, key_at, member_of, selected_of, special_of}
use Rattle.set_view.specs.ViewOf.{static_of, view_of}
use Rattle.image_laws.specs.TakenSet.TakenSet.{IsTaken}
use Rattle.removal_laws.proofs.RemovalSame.Told.{code_found}
use Rattle.pair_laws.specs.RenamedImage.Renaming.{is_method_text}
use Rattle.pair_laws.proofs.RenamedImage.Descriptors.{method_is_one}
use Rattle.pair_laws.specs.PairSame.Laws.{pair_names}
use Rattle.pair_laws.specs.PairTrace.Laws.{FramesHaveCodes, IsRetraced, IsTold, RunsRetrace}
use Rattle.pair_laws.proofs.PairTrace.Coded.{IsCoded, RunsCoded, array_coded, clinit_coded, entry_coded, selected_coded}
use Rattle.pair_laws.proofs.PairTrace.Coded.{special_coded, static_coded}
use Rattle.pair_laws.proofs.PairTrace.Traced.{frames_retraced}

some_is : {A : Type 0} (b : Bool) (x y : A) → cond b (Some x) None ≡ Some y → (b ≡ true) × (x ≡ y)
some_is true x y e = (refl, same_Some x y e)
some_is false x y e = absurd cc

module _ (classes : List Class) (taken : IsTaken classes) where
  abbrev v : View
  v = view_of classes

  -- ---- the names of what is told of

  abbrev names : Names
  names = record { class = Some; field = Some; method = λ k. if is_some (v.code k) then Some k else None }

  -- references by the descriptor of a method
  abbrev method_ref : MemberRef → Option MemberRef
  method_ref r = if is_method_text r.ty then Some r else None

  abbrev itself : Mapping
  itself = record {
    names = names;
    field_ref = Some;
    method_ref = method_ref;
    special_ref = λ from r. method_ref r;
  }

  method_stays : (k : Key) → IsCoded classes taken k → names.method k ≡ Some k
  method_stays k coded = ap (λ (b : Bool). cond b (Some k) None) coded

  -- ---- what calls run

  targets_same : (o : Option Target) → IfSome o (RunsCoded classes taken) → OptionCorr (TargetMap names) o o
  targets_same None coded = refl
  targets_same (Some (Program k)) coded = (Program k, refl, (k, refl, method_stays k coded))
  targets_same (Some (Library row)) coded = (Library row, refl, refl)
  targets_same (Some (Fails exception)) coded = (Fails exception, refl, refl)

  by_class : (f : ClassId → Option Target) → ((x : ClassId) → IfSome (f x) (RunsCoded classes taken))
      → (o : Option ClassId) → IfSome (option_map_or f o None) (RunsCoded classes taken)
  by_class f each None = tt
  by_class f each (Some x) = each x

  static_same : (r s : MemberRef) → method_ref r ≡ Some s
      → OptionCorr (TargetMap names) (v.shape.static_target r) (v.shape.static_target s)
  static_same r s e =
      let is = some_is (is_method_text r.ty) r s e in
      subst (λ (t : MemberRef). OptionCorr (TargetMap names) (v.shape.static_target r) (v.shape.static_target t)) is.1
      (targets_same (static_of classes r) (static_coded classes taken r is.0))

  special_same : (c d : List ℕ) (r s : MemberRef) → Some c ≡ Some d → method_ref r ≡ Some s
      → OptionCorr (TargetMap names) (v.shape.special_target c r) (v.shape.special_target d s)
  special_same c d r s same e =
      let is = some_is (is_method_text r.ty) r s e in
      let class : c ≡ d = same_Some c d same in
      subst (λ (t : MemberRef). OptionCorr (TargetMap names) (v.shape.special_target c r) (v.shape.special_target d t))
      is.1
      (subst (λ (a : List ℕ). OptionCorr (TargetMap names) (v.shape.special_target c r) (v.shape.special_target a r))
      class
      (targets_same (v.shape.special_target c r)
      (by_class (special_of classes r) (special_coded classes taken r is.0) (class_named classes c))))

  selected_same : (c d : List ℕ) (r s : MemberRef) → Some c ≡ Some d → method_ref r ≡ Some s
      → OptionCorr (TargetMap names) (v.shape.selected_target c r) (v.shape.selected_target d s)
  selected_same c d r s same e =
      let is = some_is (is_method_text r.ty) r s e in
      let class : c ≡ d = same_Some c d same in
      subst
      (λ (t : MemberRef). OptionCorr (TargetMap names) (v.shape.selected_target c r) (v.shape.selected_target d t))
      is.1
      (subst
      (λ (a : List ℕ). OptionCorr (TargetMap names) (v.shape.selected_target c r) (v.shape.selected_target a r)) class
      (targets_same (v.shape.selected_target c r)
      (by_class (selected_of classes r) (selected_coded classes taken r is.0) (class_named classes c))))

  array_same : (r s : MemberRef) → method_ref r ≡ Some s
      → OptionCorr (TargetMap names) (v.shape.array_target r) (v.shape.array_target s)
  array_same r s e =
      let is = some_is (is_method_text r.ty) r s e in
      subst (λ (t : MemberRef). OptionCorr (TargetMap names) (v.shape.array_target r) (v.shape.array_target t)) is.1
      (targets_same (array_target_of classes r) (array_coded classes taken r is.0))

  -- ---- fields and initialisation methods

  key_same : (o : Option Key) → OptionCorr (λ k l. Some k ≡ Some l) o o
  key_same None = refl
  key_same (Some k) = (k, refl, refl)

  clinit_same : (c : List ℕ) → OptionCorr (λ k l. names.method k ≡ Some l) (v.shape.clinit c) (v.shape.clinit c)
  clinit_same c = by (class_named classes c)
    where
      at : (o : Option MemberAt) → IfSome o (λ m. IsCoded classes taken (key_at classes m))
          → OptionCorr (λ k l. names.method k ≡ Some l) (option_map (key_at classes) o) (option_map (key_at classes) o)
      at None coded = refl
      at (Some m) coded = (key_at classes m, refl, method_stays (key_at classes m) coded)

      by : (o : Option ClassId) → OptionCorr (λ k l. names.method k ≡ Some l)
          (option_map (key_at classes) (option_map_or (declared_in classes (codes "<clinit>", codes "()V")) o None))
          (option_map (key_at classes) (option_map_or (declared_in classes (codes "<clinit>", codes "()V")) o None))
      by None = refl
      by (Some x) = at (declared_in classes (codes "<clinit>", codes "()V") x) (clinit_coded classes taken x)

  -- ---- the shape

  shape_same : ShapeMap itself v.shape v.shape
  shape_same = record {
    one_class = λ a b c e f. same_Some a c e ∙ sym (same_Some b c f);
    one_field = λ a b c e f. same_Some a c e ∙ sym (same_Some b c f);
    own_class = λ c h. refl;
    own_field = refl;
    field_class = λ k l e. ap (λ (x : Key). Some x.class) (same_Some k l e);
    method_class = λ k l e. ap (λ (x : Key). Some x.class) (some_is (is_some (v.code k)) k l e).1;
    field_default = λ k l e. ap blank (sym (same_Some k l e));
    field_stored = λ k l e value. ap (λ (x : Key). stored_in x value) (sym (same_Some k l e));
    field_kind = λ r s e. ap (λ (x : MemberRef). field_kind x.ty) (sym (same_Some r s e));
    method_kinds = λ r s e.
        ap (λ (x : MemberRef). argument_kinds x.ty) (sym (some_is (is_method_text r.ty) r s e).1);
    special_kinds = λ c r s e.
        ap (λ (x : MemberRef). argument_kinds x.ty) (sym (some_is (is_method_text r.ty) r s e).1);
    field = λ r s e.
        subst (λ (x : MemberRef). OptionCorr (λ k l. Some k ≡ Some l) (v.shape.field r) (v.shape.field x))
        (same_Some r s e) (key_same (v.shape.field r));
    static_target = static_same;
    special_target = special_same;
    selected_target = selected_same;
    array_target = array_same;
    is_sub = λ a b c d e f.
        (λ i. v.shape.is_sub (sym (same_Some a c e) i) (sym (same_Some b d f) i));
    is_library = λ c d e. ap v.shape.is_library (sym (same_Some c d e));
    firsts = λ c d e.
        subst (λ (x : List ℕ). AllZip (λ y z. Some y ≡ Some z) (v.shape.firsts c) (v.shape.firsts x)) (same_Some c d e)
        (zip_refl (λ y z. Some y ≡ Some z) (λ y. refl) (v.shape.firsts c));
    clinit = λ c d e.
        subst (λ (x : List ℕ). OptionCorr (λ k l. names.method k ≡ Some l) (v.shape.clinit c) (v.shape.clinit x))
        (same_Some c d e) (clinit_same c);
    constant = λ k l e. ap v.shape.constant (sym (same_Some k l e));
  }

  -- ---- codes

  base_itself : (b : Base) → base_name names b ≡ Some b
  base_itself (base.Class name) = refl
  base_itself base.Boolean = refl
  base_itself base.Byte = refl
  base_itself base.Char = refl
  base_itself base.Short = refl
  base_itself base.Int = refl
  base_itself base.Long = refl
  base_itself base.Float = refl
  base_itself base.Double = refl

  type_itself : (ty : FieldType) → type_name names ty ≡ Some ty
  type_itself ty = ap (option_map (λ (b : Base). record { dims = ty.dims; base = b })) (base_itself ty.base)

  -- a reference to a method has the descriptor of one
  ref_itself : {A : Type 0} (make : MemberRef → A) (r : MemberRef) → IsMethodText r.ty
      → option_map make (method_ref r) ≡ Some (make r)
  ref_itself make r is =
      ap (λ (b : Bool). option_map make (cond b (Some r) None)) (ap is_method_text is.2 ∙ method_is_one is.0)

  op_itself : (from : List ℕ) (n : ℕ) (o : Op) → IsGoodOp n o → op_map itself from o ≡ Some o
  op_itself from n (op.InvokeVirtual r) good = ref_itself op.InvokeVirtual r good.0.descriptor
  op_itself from n (op.InvokeSpecial r) good = ref_itself op.InvokeSpecial r good.descriptor
  op_itself from n (op.InvokeStatic r) good = ref_itself op.InvokeStatic r good.descriptor
  op_itself from n (op.InvokeInterface r) good = ref_itself op.InvokeInterface r good.0.descriptor
  op_itself from n (op.NewArray b) good = ap (option_map op.NewArray) (base_itself b)
  op_itself from n (op.ANewArray ty) good = ap (option_map op.ANewArray) (type_itself ty)
  op_itself from n (op.CheckCast ty) good = ap (option_map op.CheckCast) (type_itself ty)
  op_itself from n (op.InstanceOf ty) good = ap (option_map op.InstanceOf) (type_itself ty)
  op_itself from n (op.MultiNewArray ty dimensions) good =
      ap (option_map (λ (u : FieldType). op.MultiNewArray u dimensions)) (type_itself ty)
  op_itself from n o good = refl

  instructions_same : (from : List ℕ) (n : ℕ) (ins : List Ins) → AllByRecursion (λ (i : Ins). IsGoodOp n i.op) ins
      → AllZip (InsMap itself from) ins ins
  instructions_same from n [] good = tt
  instructions_same from n (i ∷ ins) good = (
    record { op = op_itself from n i.op good.0; line = line_refl i.line },
    instructions_same from n ins good.1,
  )

  caught_same : (o : Option (List ℕ)) → OptionCorr (λ c d. Some c ≡ Some d) o o
  caught_same None = refl
  caught_same (Some c) = (c, refl, refl)

  handler_same : (h : Handler) → HandlerMap itself h h
  handler_same h = record { places = (refl, refl, refl); caught = caught_same h.caught }

  good_code : (k : Key) (code : Code) → v.code k ≡ Some code → IsGoodCode code
  good_code k code is =
      let there = both_there (code_at classes) (member_of classes k) code is in
      let found = code_found classes there.0.class there.0.index code there.2 in
      let good = all_at (IsGoodMethod (is_interface found.class.flags.0)) found.class.methods found.k found.method
      (taken.formed found.n found.class found.class_at).methods found.method_at in
      subst (λ o. IfSome o IsGoodCode) found.code_is good.code

  codes_same : (from : List ℕ) (o : Option Code) → IfSome o IsGoodCode → OptionCorr (CodeMap itself from) o o
  codes_same from None good = refl
  codes_same from (Some code) good = (
    code,
    refl,
    record {
      ins = instructions_same from _ code.ins good.instructions;
      handlers = zip_refl (HandlerMap itself) handler_same code.handlers;
    },
  )

  code_same : (k l : Key) → names.method k ≡ Some l → OptionCorr (CodeMap itself k.class) (v.code k) (v.code l)
  code_same k l e =
      subst (λ (x : Key). OptionCorr (CodeMap itself k.class) (v.code k) (v.code x)) (some_is (is_some (v.code k)) k l e).1
      (codes_same k.class (v.code k) (by (v.code k) refl))
    where
      by : (o : Option Code) → v.code k ≡ o → IfSome o IsGoodCode
      by None is = tt
      by (Some code) is = good_code k code is

  is_itself : Mapped itself v v
  is_itself = record { shape = shape_same; code = code_same }

  -- ---- runs

  all_coded : (fs gs : List Frame) → AllZip (FrameCorr v v names) fs gs
      → AllByRecursion (λ (f : Frame). IsSome (v.code f.method)) fs
  all_coded [] [] zip = tt
  all_coded [] (g ∷ gs) zip = absurd zip
  all_coded (f ∷ fs) [] zip = absurd zip
  all_coded (f ∷ fs) (g ∷ gs) zip =
      ((some_is (is_some (v.code f.method)) f.method g.method zip.0.method).0, all_coded fs gs zip.1)

  module _ (entry : Key) (startable : is_startable classes entry ≡ true) where
    entry_kept : IsSome (names.method entry)
    entry_kept = ap is_some (method_stays entry (entry_coded classes taken entry startable))

    kept : AreKept names (entry ∷ [])
    kept other (zero, low, is) = subst (λ (k : Key). IsSome (names.method k)) is entry_kept
    kept other (suc n, low, is) = absurd (omega (arith, low))

    run_coded : (heap : List Object) → ArePlain heap → (args : List Value) (n : ℕ)
        → (status (run v (start v entry heap args) n) ≡ WentWrong)
        ⊎ AllByRecursion (λ (f : Frame). IsSome (v.code f.method)) (frames (run v (start v entry heap args) n))
    run_coded heap plain args n =
        let steps = mapped_steps itself v v is_itself (entry ∷ []) kept entry (0, omega arith, refl) in
        by steps.0 (steps.2 heap plain args n)
      where
        by : (other : Key) → (status (run v (start v entry heap args) n) ≡ WentWrong)
            ⊎ Corr v v names (run v (start v entry heap args) n) (run v (start v other heap args) n)
            → (status (run v (start v entry heap args) n) ≡ WentWrong)
            ⊎ AllByRecursion (λ (f : Frame). IsSome (v.code f.method)) (frames (run v (start v entry heap args) n))
        by other (inl wrong) = inl wrong
        by other (inr corr) = inr (all_coded _ _ corr.stack)

pub frames_coded : FramesHaveCodes
frames_coded classes taken entry startable heap plain args n =
    run_coded classes taken entry startable heap plain args n

-- ---- traces

each_told : (input output : List Class) (mapping : Names_file) (fs gs : List Frame)
    → AllZip (IsRetraced input output mapping) fs gs
    → AllByRecursion (λ (f : Frame). IsSome ((view_of input).code f.method)) fs → AllZip (IsTold output mapping) fs gs
each_told input output mapping [] [] zip coded = tt
each_told input output mapping [] (g ∷ gs) zip coded = absurd zip
each_told input output mapping (f ∷ fs) [] zip coded = absurd zip
each_told input output mapping (f ∷ fs) (g ∷ gs) zip coded =
    (zip.0 coded.0, each_told input output mapping fs gs zip.1 coded.1)

-- all frames of a run from an entry have codes, so wherever a state agrees with it, and the lines of frames with codes
-- are told, all lines are
pub all_told : (input output : List Class) (mapping : Names_file) → IsTaken input → (w : View) (names : Names)
    (entry : Key) → is_startable input entry ≡ true → (heap : List Object) → ArePlain heap → (args : List Value) (n : ℕ)
    (t : State)
    → Corr (view_of input) w names (run (view_of input) (start (view_of input) entry heap args) n) t
    → AllZip (IsRetraced input output mapping) (frames (run (view_of input) (start (view_of input) entry heap args) n))
    (frames t)
    → AllZip (IsTold output mapping) (frames (run (view_of input) (start (view_of input) entry heap args) n)) (frames t)
all_told input output mapping taken w names entry startable heap plain args n t corr retraced =
    by (frames_coded input taken entry startable heap plain args n)
  where
    by : (status (run (view_of input) (start (view_of input) entry heap args) n) ≡ WentWrong)
        ⊎ AllByRecursion (λ (f : Frame). IsSome ((view_of input).code f.method))
        (frames (run (view_of input) (start (view_of input) entry heap args) n))
        → AllZip (IsTold output mapping) (frames (run (view_of input) (start (view_of input) entry heap args) n))
        (frames t)
    by (inl wrong) = absurd (corr.ending.1 wrong)
    by (inr coded) =
        each_told input output mapping (frames (run (view_of input) (start (view_of input) entry heap args) n)) (frames t)
        retraced coded

pub runs_retraced : RunsRetrace
runs_retraced input output mapping rules taken then_taken pair entry startable heap plain args n t corr =
    all_told input output mapping taken (view_of output) (pair_names input mapping) entry startable heap plain args n t
    corr
    (frames_retraced input output mapping rules taken then_taken pair
    (run (view_of input) (start (view_of input) entry heap args) n) t corr)
