-- A well-formed class is well formed under new names that keep the form of names (JVMS 4.1 to 4.9).
use Rattle.std.proofs.Common.{◌≡◌, inl, inr, ℕ, ◌+◌, ◌<◌, ◌≤◌, ◌==◌, ◌&&◌, ◌||◌, Bool, true, false, not, cond, List, []}
use Rattle.std.proofs.Common.{◌∷◌, length, map, get_or, Option, Some, None, refl, sym, ap, subst, ◌∙◌, arith}
use Rattle.std.specs.Prelude.{IsTrue, codes}
use Rattle.std.specs.Option.{IfSome, is_none, is_some, option_map}
use Rattle.std.specs.List.{AllByRecursion, AllPairs, fold}
use Rattle.std.proofs.lemmas.List.{length-map}
use Rattle.std.proofs.lemmas.List.Folds.{fold-map}
use Rattle.std.proofs.lemmas.Option.{same_Some, slice_get-get_or, slice_get-map}
use Rattle.jv_base.specs.Types.{IsFieldType, IsMethodType, argument_words, method_text}
use Rattle.jv_base.specs.declared.types.Base.{Base}
use Rattle.jv_base.specs.declared.types.Base.TheVariants as base
use Rattle.jv_base.specs.declared.types.FieldType.{FieldType}
use Rattle.jv_base.specs.declared.types.MethodType.{MethodType}
use Rattle.jv_base.proofs.Lists.{all_at}
use Rattle.class_model.specs.Attributes.{IsIntLike, IsPlain}
use Rattle.class_model.specs.ConstantPool.{IsFieldText, IsMethodText}
use Rattle.class_model.specs.Flags.{acc_abstract, acc_final, acc_native, acc_static, acc_synchronized, has_some}
use Rattle.class_model.specs.Flags.{is_interface, is_static}
use Rattle.class_model.specs.Frames.{before_cut, cut_tops, words_of_type, words_of_types}
use Rattle.class_model.specs.Members.{FieldsDiffer, MethodsDiffer}
use Rattle.class_model.specs.Opcodes.{array_type_of}
use Rattle.class_model.specs.WellFormed.{Ascend, CountsFit, FitsField, HasFewWords, IsClassName, IsClassOrArray}
use Rattle.class_model.specs.WellFormed.{IsFieldReference, IsGoodCode, IsGoodField, IsGoodFrame, IsGoodHandler}
use Rattle.class_model.specs.WellFormed.{IsGoodMethod, IsGoodOp, IsGoodType, IsMethodReference, IsWellFormed, LinesGoOn}
use Rattle.class_model.specs.declared.class.Class.{Class}
use Rattle.class_model.specs.declared.class.Constant.{Constant}
use Rattle.class_model.specs.declared.class.Constant.TheVariants as constant
use Rattle.class_model.specs.declared.class.Field.{Field}
use Rattle.class_model.specs.declared.class.Method.{Method}
use Rattle.class_model.specs.declared.code.Code.{Code}
use Rattle.class_model.specs.declared.code.Handler.{Handler}
use Rattle.class_model.specs.declared.code.Ins.{Ins}
use Rattle.class_model.specs.declared.frame.FrameAt.{FrameAt}
use Rattle.class_model.specs.declared.frame.VType.{VType}
use Rattle.class_model.specs.declared.frame.VType.TheVariants as vtype
use Rattle.class_model.specs.declared.op.MemberRef.{MemberRef}
use Rattle.class_model.specs.declared.op.Op.{Op}
use Rattle.class_model.specs.declared.op.Op.TheVariants as op
use Rattle.class_rename.specs.Names.{Names}
use Rattle.class_rename.specs.Renamed.{renamed, renamed_base, renamed_code, renamed_field, renamed_field_ref}
use Rattle.class_rename.specs.Renamed.{renamed_field_text, renamed_frame, renamed_handler, renamed_ins, renamed_method}
use Rattle.class_rename.specs.Renamed.{renamed_method_ref, renamed_method_text, renamed_method_type, renamed_op}
use Rattle.class_rename.specs.Renamed.{renamed_type, renamed_vtype}
use Rattle.class_laws.proofs.Mapped.{all_mapped, some_mapped, pairs_mapped}
use Rattle.pair_laws.specs.RenamedForm.Form.{KeepsApart, KeepsForm}
use Rattle.pair_laws.proofs.RenamedForm.Spelled.{field_text_is, method_text_is, method_type_spelled, one_method_type}
use Rattle.pair_laws.proofs.RenamedForm.Spelled.{arguments_stay, type_spelled}

module _ (names : Names) (form : KeepsForm names) where
  -- ---- types

  class_formed : (a : List ℕ) → IsClassName a → IsClassName (names.class a)
  class_formed a h = (form.class_text a h.0, form.class_name a h.1)

  pub type_formed : (ty : FieldType) → IsFieldType ty → IsFieldType (renamed_type names ty)
  type_formed ty h = type_spelled names form.class_name ty h

  pub method_type_formed : (ty : MethodType) → IsMethodType ty → IsMethodType (renamed_method_type names ty)
  method_type_formed ty h = method_type_spelled names form.class_name ty h

  operand_formed : (ty : FieldType) → IsClassOrArray ty → IsClassOrArray (renamed_type names ty)
  operand_formed ty (is, inl dims) = (type_formed ty is, inl dims)
  operand_formed ty (is, inr (name, named)) = (type_formed ty is, inr (names.class name, ap (renamed_base names) named))

  -- ---- references

  field_text_formed : (text : List ℕ) → IsFieldText text → IsFieldText (renamed_field_text names text)
  field_text_formed text h =
      (renamed_type names h.0, type_formed h.0 h.1, ap (renamed_field_text names) h.2 ∙ field_text_is names h.0 h.1)

  method_text_formed : (text : List ℕ) → IsMethodText text → IsMethodText (renamed_method_text names text)
  method_text_formed text h = (
    renamed_method_type names h.0,
    method_type_formed h.0 h.1,
    ap (renamed_method_text names) h.2
        ∙ method_text_is names h.0 h.1,
  )

  field_ref_formed : (r : MemberRef) → IsFieldReference r → IsFieldReference (renamed_field_ref names r)
  field_ref_formed r h = (
    record {
      class = operand_formed r.class h.0.class;
      name = form.field_name r.name h.0.name;
      descriptor = field_text_formed r.ty h.0.descriptor;
    },
    h.1,
  )

  method_ref_formed : (r : MemberRef) → IsMethodReference r → IsMethodReference (renamed_method_ref names r)
  method_ref_formed r h =
      record {
        class = operand_formed r.class h.class;
        name = form.method_name r.name r.ty h.name;
        descriptor = method_text_formed r.ty h.descriptor;
      }

  -- ---- instructions

  Stays : Option Base → Type 0
  Stays o = (b : Base) → o ≡ Some b → renamed_base names b ≡ b

  stays_if : (c : Bool) (x : Base) (rest : Option Base) → renamed_base names x ≡ x → Stays rest
      → Stays (cond c (Some x) rest)
  unfolding Stays
  stays_if true x rest same more b e = subst (λ (b : Base). renamed_base names b ≡ b) (same_Some x b e) same
  stays_if false x rest same more b e = more b e

  array_stays : (code : ℕ) → Stays (array_type_of code)
  unfolding Stays
  array_stays code =
      stays_if (code == 4) base.Boolean _ refl
      (stays_if (code == 5) base.Char _ refl
      (stays_if (code == 8) base.Byte _ refl (stays_if (code == 9) base.Short _ refl
      (stays_if (code == 10) base.Int _ refl (stays_if (code == 11) base.Long None refl (λ b e. absurd cc))))))

  op_formed : (n : ℕ) (o : Op) → IsGoodOp n o → IsGoodOp n (renamed_op names o)
  unfolding Stays
  op_formed n (op.GetStatic r) h = field_ref_formed r h
  op_formed n (op.PutStatic r) h = field_ref_formed r h
  op_formed n (op.GetField r) h = field_ref_formed r h
  op_formed n (op.PutField r) h = field_ref_formed r h
  op_formed n (op.InvokeVirtual r) h = (method_ref_formed r h.0, h.1)
  op_formed n (op.InvokeSpecial r) h = method_ref_formed r h
  op_formed n (op.InvokeStatic r) h = method_ref_formed r h
  op_formed n (op.InvokeInterface r) h = (method_ref_formed r h.0, h.1)
  op_formed n (op.New name) h = class_formed name h
  op_formed n (op.NewArray b) h = (h.0, h.1 ∙ ap Some (sym (array_stays h.0 b h.1)))
  op_formed n (op.ANewArray ty) h = (operand_formed ty h.0, h.1)
  op_formed n (op.CheckCast ty) h = operand_formed ty h
  op_formed n (op.InstanceOf ty) h = operand_formed ty h
  op_formed n (op.MultiNewArray ty dimensions) h = (type_formed ty h.0, h.1, h.2)
  op_formed n _ h = h

  handler_formed : (n : ℕ) (g : Handler) → IsGoodHandler n g → IsGoodHandler n (renamed_handler names g)
  handler_formed n g h =
      record {
        range = h.range;
        to = h.to;
        entry = h.entry;
        caught = some_mapped IsClassName IsClassName names.class class_formed g.caught h.caught;
      }

  -- ---- frames

  vtype_formed : (ins : List Ins) (t : VType) → IsGoodType ins t
      → IsGoodType (map (renamed_ins names) ins) (renamed_vtype names t)
  vtype_formed ins (vtype.Object ty) h = operand_formed ty h
  vtype_formed ins (vtype.Uninit k) h = (
    renamed_ins names h.0,
    names.class h.1,
    slice_get-map (renamed_ins names) ins k
        ∙ ap (option_map (renamed_ins names)) h.2,
    ap (renamed_op names) h.3,
  )
  vtype_formed ins _ h = tt

  cut_step : (t : VType) (ts : List VType)
      → before_cut (renamed_vtype names t) (map (renamed_vtype names) ts) ≡ map (renamed_vtype names) (before_cut t ts)
  cut_step vtype.Top [] = refl
  cut_step vtype.Top (u ∷ us) = refl
  cut_step (vtype.Object ty) ts = refl
  cut_step _ ts = refl

  cut_stays : (ts : List VType) → cut_tops (map (renamed_vtype names) ts) ≡ map (renamed_vtype names) (cut_tops ts)
  cut_stays [] = refl
  cut_stays (t ∷ ts) = ap (before_cut (renamed_vtype names t)) (cut_stays ts) ∙ cut_step t (cut_tops ts)

  vtype_words : (t : VType) → words_of_type (renamed_vtype names t) ≡ words_of_type t
  vtype_words (vtype.Object ty) = refl
  vtype_words _ = refl

  vtypes_words : (ts : List VType) → words_of_types (map (renamed_vtype names) ts) ≡ words_of_types ts
  vtypes_words ts = fold-map (λ (a : ℕ) (t : VType). a + words_of_type t) (renamed_vtype names) 0 ts
      ∙ (λ i. fold (λ (a : ℕ) (t : VType). a + vtype_words t i) 0 ts)

  frame_formed : (code : Code) (f : FrameAt) → IsGoodFrame code f
      → IsGoodFrame (renamed_code names code) (renamed_frame names f)
  frame_formed code f h = record {
    index = subst (λ (n : ℕ). f.index < n) (sym (length-map code.ins (renamed_ins names))) h.index;
    locals = all_mapped (IsGoodType code.ins) (IsGoodType (map (renamed_ins names) code.ins)) (renamed_vtype names)
        (vtype_formed code.ins) f.frame.locals h.locals;
    cut = cut_stays f.frame.locals ∙ ap (map (renamed_vtype names)) h.cut;
    locals_fit = subst (λ (n : ℕ). n ≤ code.max_locals) (sym (vtypes_words f.frame.locals)) h.locals_fit;
    stack = all_mapped (IsGoodType code.ins) (IsGoodType (map (renamed_ins names) code.ins)) (renamed_vtype names)
        (vtype_formed code.ins) f.frame.stack h.stack;
    stack_fits = subst (λ (n : ℕ). n ≤ code.max_stack) (sym (vtypes_words f.frame.stack)) h.stack_fits;
  }

  -- ---- code

  code_formed : (code : Code) → IsGoodCode code → IsGoodCode (renamed_code names code)
  code_formed code h =
      let same : length code.ins ≡ length (map (renamed_ins names) code.ins) =
      sym (length-map code.ins (renamed_ins names)) in
      record {
        some = subst (λ (n : ℕ). 0 < n) same h.some;
        instructions =
            all_mapped (λ (i : Ins). IsGoodOp (length code.ins) i.op)
            (λ (i : Ins). IsGoodOp (length (map (renamed_ins names) code.ins)) i.op) (renamed_ins names)
            (λ i good. subst (λ (n : ℕ). IsGoodOp n (renamed_op names i.op)) same
            (op_formed (length code.ins) i.op good)) code.ins h.instructions;
        lines = pairs_mapped LinesGoOn (renamed_ins names) code.ins h.lines;
        handlers =
            all_mapped (IsGoodHandler (length code.ins)) (IsGoodHandler (length (map (renamed_ins names) code.ins)))
            (renamed_handler names)
            (λ g good. subst (λ (n : ℕ). IsGoodHandler n (renamed_handler names g)) same
            (handler_formed (length code.ins) g good)) code.handlers h.handlers;
        frames = all_mapped (IsGoodFrame code) (IsGoodFrame (renamed_code names code)) (renamed_frame names)
            (frame_formed code) code.frames h.frames;
        ascending = pairs_mapped Ascend (renamed_frame names) code.frames h.ascending;
      }

  -- ---- members

  plain_stays : (b : Base) (ty : FieldType) → renamed_base names b ≡ b → IsPlain b ty
      → IsPlain b (renamed_type names ty)
  plain_stays b ty same h = (h.0, ap (renamed_base names) h.1 ∙ same)

  int_like_stays : (ty : FieldType) → IsIntLike ty → IsIntLike (renamed_type names ty)
  int_like_stays ty (inl h) = inl (plain_stays base.Int ty refl h)
  int_like_stays ty (inr (inl h)) = inr (inl (plain_stays base.Short ty refl h))
  int_like_stays ty (inr (inr (inl h))) = inr (inr (inl (plain_stays base.Char ty refl h)))
  int_like_stays ty (inr (inr (inr (inl h)))) = inr (inr (inr (inl (plain_stays base.Byte ty refl h))))
  int_like_stays ty (inr (inr (inr (inr h)))) = inr (inr (inr (inr (plain_stays base.Boolean ty refl h))))

  constant_fits : (ty : FieldType) (value : Constant) → FitsField ty value → FitsField (renamed_type names ty) value
  constant_fits ty (constant.Int n) h = int_like_stays ty h
  constant_fits ty (constant.Long n) h = plain_stays base.Long ty refl h
  constant_fits ty (constant.Text units) h =
      (plain_stays (base.Class (codes "java/lang/String")) ty (ap base.Class form.string) h.0, h.1)

  constant_formed : (f : Field) (o : Option Constant)
      → IfSome o (λ value. IsTrue (is_static f.flags.0) × FitsField f.ty value)
      → IfSome o (λ value. IsTrue (is_static f.flags.0) × FitsField (renamed_type names f.ty) value)
  constant_formed f None h = tt
  constant_formed f (Some value) h = (h.0, constant_fits f.ty value h.1)

  field_formed : (in_interface : Bool) (f : Field) → IsGoodField in_interface f
      → IsGoodField in_interface (renamed_field names f)
  field_formed in_interface f h =
      record {
        meant = h.meant;
        flags = h.flags;
        name = form.field_name f.name h.name;
        typed = type_formed f.ty h.typed;
        constant = constant_formed f f.constant h.constant;
      }

  none_stays : (o : Option FieldType) → is_none (option_map (renamed_type names) o) ≡ is_none o
  none_stays None = refl
  none_stays (Some ty) = refl

  code_stays : (o : Option Code) → is_some (option_map (renamed_code names) o) ≡ is_some o
  code_stays None = refl
  code_stays (Some code) = refl

  method_formed : (in_interface : Bool) (m : Method) → IsGoodMethod in_interface m
      → IsGoodMethod in_interface (renamed_method names m)
  method_formed in_interface m h =
      let init = form.init m.name (method_text m.ty) in
      let clinit = form.clinit m.name (method_text m.ty) in
      record {
        meant = h.meant;
        flags = h.flags;
        not_native = h.not_native;
        name = form.method_name m.name (method_text m.ty) h.name;
        typed = method_type_formed m.ty h.typed;
        room_for_this =
            subst (λ (n : ℕ). IsTrue (is_static m.flags.0 || not (n == 255)))
            (sym (arguments_stay names m.ty.args)) h.room_for_this;
        initial_flags =
            subst IsTrue
            (λ i. (not (sym init i) ||
            (not in_interface
            && not (has_some
            (acc_static + acc_final + acc_synchronized + acc_native + acc_abstract) m.flags.0)))
            && (not (sym clinit i) || is_static m.flags.0)) h.initial_flags;
        initial_type =
            subst IsTrue
            (λ i. (not (sym init i || sym clinit i) || sym (none_stays m.ty.ret) i)
            && (not (sym clinit i) || sym (length-map m.ty.args (renamed_type names)) i == 0)) h.initial_type;
        body = code_stays m.code ∙ h.body;
        code = some_mapped IsGoodCode IsGoodCode (renamed_code names) code_formed m.code h.code;
        throws = all_mapped IsClassName IsClassName names.class class_formed m.throws h.throws;
      }

  -- ---- counts of invokeinterface

  few_stay : (n : ℕ) (o : Op) → IsGoodOp n o → HasFewWords o → HasFewWords (renamed_op names o)
  few_stay n (op.InvokeInterface r) good few = λ ty is same.
      let spelled = good.0.descriptor in
      let text : renamed_method_text names r.ty ≡ method_text (renamed_method_type names spelled.0) =
      ap (renamed_method_text names) spelled.2 ∙ method_text_is names spelled.0 spelled.1 in
      let one : ty ≡ renamed_method_type names spelled.0 =
      one_method_type ty (renamed_method_type names spelled.0) is (method_type_formed spelled.0 spelled.1)
      (sym same ∙ text) in
      subst (λ (k : ℕ). k ≤ 254)
      (sym (ap (λ (t : MethodType). argument_words t.args) one ∙ arguments_stay names spelled.0.args))
      (few spelled.0 spelled.1 spelled.2)
  few_stay n (op.GetStatic r) good few = tt
  few_stay n (op.PutStatic r) good few = tt
  few_stay n (op.GetField r) good few = tt
  few_stay n (op.PutField r) good few = tt
  few_stay n (op.InvokeVirtual r) good few = tt
  few_stay n (op.InvokeSpecial r) good few = tt
  few_stay n (op.InvokeStatic r) good few = tt
  few_stay n (op.New name) good few = tt
  few_stay n (op.NewArray b) good few = tt
  few_stay n (op.ANewArray ty) good few = tt
  few_stay n (op.CheckCast ty) good few = tt
  few_stay n (op.InstanceOf ty) good few = tt
  few_stay n (op.MultiNewArray ty dimensions) good few = tt
  few_stay n _ good few = few

  few_in : (n : ℕ) (ins : List Ins) → AllByRecursion (λ (i : Ins). IsGoodOp n i.op) ins
      → AllByRecursion (λ (i : Ins). HasFewWords i.op) ins
      → AllByRecursion (λ (i : Ins). HasFewWords i.op) (map (renamed_ins names) ins)
  few_in n [] good few = tt
  few_in n (i ∷ ins) good few = (few_stay n i.op good.0 few.0, few_in n ins good.1 few.1)

  few_code : (o : Option Code) → IfSome o IsGoodCode
      → IfSome o (λ (code : Code). AllByRecursion (λ (i : Ins). HasFewWords i.op) code.ins)
      → IfSome (option_map (renamed_code names) o)
      (λ (code : Code). AllByRecursion (λ (i : Ins). HasFewWords i.op) code.ins)
  few_code None good few = tt
  few_code (Some code) good few = few_in (length code.ins) code.ins good.instructions few

  few_methods : (in_interface : Bool) (ms : List Method) → AllByRecursion (IsGoodMethod in_interface) ms
      → AllByRecursion
      (λ (m : Method). IfSome m.code (λ (code : Code). AllByRecursion (λ (i : Ins). HasFewWords i.op) code.ins)) ms
      → AllByRecursion
      (λ (m : Method). IfSome m.code (λ (code : Code). AllByRecursion (λ (i : Ins). HasFewWords i.op) code.ins))
      (map (renamed_method names) ms)
  few_methods in_interface [] good few = tt
  few_methods in_interface (m ∷ ms) good few =
      (few_code m.code good.0.code few.0, few_methods in_interface ms good.1 few.1)

  -- ---- the class

  -- those that differ do so under new names
  apart_pairs : {A : Type 0} (Differ Still : A → A → Type 0) (xs : List A)
      → AllByRecursion (λ (x : A). AllByRecursion (λ (y : A). Differ x y → Still x y) xs) xs → AllPairs Differ xs
      → AllPairs Still xs
  apart_pairs {A} Differ Still xs apart differ i j d lt within =
      let x = get_or xs i d in
      let y = get_or xs j d in
      let at_i = slice_get-get_or xs i d (omega (arith, lt, within)) in
      let at_j = slice_get-get_or xs j d within in
      let all = all_at (λ (x : A). AllByRecursion (λ (y : A). Differ x y → Still x y) xs) xs i x apart at_i in
      all_at (λ (y : A). Differ x y → Still x y) xs j y all at_j (differ i j d lt within)

  module _ (c : Class) where
    pub formed : KeepsApart names c → IsWellFormed c → IsWellFormed (renamed names c)
    formed apart h = record {
      nothing_left_out = h.nothing_left_out;
      meant = h.meant;
      flags = h.flags;
      no_annotation_or_enum = h.no_annotation_or_enum;
      name = class_formed c.name h.name;
      super_name = class_formed c.super_name h.super_name;
      interfaces = all_mapped IsClassName IsClassName names.class class_formed c.interfaces h.interfaces;
      fields = all_mapped (IsGoodField (is_interface c.flags.0)) (IsGoodField (is_interface c.flags.0))
          (renamed_field names) (field_formed (is_interface c.flags.0)) c.fields h.fields;
      fields_differ = pairs_mapped FieldsDiffer (renamed_field names) c.fields
          (apart_pairs FieldsDiffer
          (λ (x y : Field). FieldsDiffer (renamed_field names x)
          (renamed_field names y)) c.fields apart.fields h.fields_differ);
      methods = all_mapped (IsGoodMethod (is_interface c.flags.0)) (IsGoodMethod (is_interface c.flags.0))
          (renamed_method names) (method_formed (is_interface c.flags.0)) c.methods h.methods;
      methods_differ = pairs_mapped MethodsDiffer (renamed_method names) c.methods
          (apart_pairs MethodsDiffer
          (λ (x y : Method). MethodsDiffer (renamed_method names x)
          (renamed_method names y)) c.methods apart.methods h.methods_differ);
      source = h.source;
    }

    pub counts_fit : IsWellFormed c → CountsFit c → CountsFit (renamed names c)
    counts_fit h few = few_methods (is_interface c.flags.0) c.methods h.methods few
