-- A code that breaks no rule for links breaks none under new names: its instructions, handlers and frames (JVMS 4.7.3,
-- 4.7.4, 6.5).
use Rattle.std.proofs.Common.{◌≡◌, ℕ, Bool, true, false, List, [], ◌∷◌, ◌++◌, length, map, Option, Some, None, refl}
use Rattle.std.proofs.Common.{sym, ap, ◌∙◌}
use Rattle.std.specs.Prelude.{IfSome}
use Rattle.std.specs.List.{AllByRecursion, flat_map}
use Rattle.std.specs.Option.{option_map, option_map_or}
use Rattle.std.proofs.lemmas.List.{map-append}
use Rattle.jv_base.specs.Names.{is_text}
use Rattle.jv_base.proofs.Lists.{nil_parts, nil_joined}
use Rattle.class_model.specs.WellFormed.{IsGoodCode, IsGoodOp}
use Rattle.class_model.specs.declared.class.Class.{Class}
use Rattle.class_model.specs.declared.code.Code.{Code}
use Rattle.class_model.specs.declared.code.Handler.{Handler}
use Rattle.class_model.specs.declared.code.Ins.{Ins}
use Rattle.class_model.specs.declared.frame.FrameAt.{FrameAt}
use Rattle.class_model.specs.declared.frame.VType.{VType}
use Rattle.class_model.specs.declared.frame.VType.TheVariants as vtype
use Rattle.class_model.specs.declared.op.MemberRef.{MemberRef}
use Rattle.class_model.specs.declared.op.Op.{Op}
use Rattle.class_model.specs.declared.op.Op.TheVariants as op
use Rattle.class_pool.specs.declared.id.ClassId.TheVariants.{Prog}
use Rattle.link_check.specs.Profile.{call_kinds, code_kinds, frame_kinds, handler_kinds, no_init_kinds, op_kinds}
use Rattle.link_check.specs.Profile.{special_class_kinds, verification_kinds}
use Rattle.class_rename.specs.Names.{Names}
use Rattle.class_rename.specs.Renamed.{renamed_code, renamed_frame, renamed_handler, renamed_ins, renamed_method_ref}
use Rattle.class_rename.specs.Renamed.{renamed_op, renamed_vtype}
use Rattle.pair_laws.specs.RenamedImage.Naming.{is_class_there}
use Rattle.pair_laws.proofs.RenamedTaken.Placed.{IsPlaced}
use Rattle.pair_laws.proofs.RenamedTaken.References.{call_right, field_right, new_right, special_right, then_no_init}
use Rattle.pair_laws.proofs.RenamedTaken.References.{writer}
use Rattle.pair_laws.proofs.RenamedTaken.Types.{base_right, caught_right}

module _ (names : Names) (place back : ℕ → ℕ) (xs ys : List Class) (h : IsPlaced names place back xs ys) (n : ℕ)
    (own : is_class_there xs (Prog n) ≡ true) where
  -- ---- frames

  type_right : (v : VType) → verification_kinds xs n v ≡ []
      → verification_kinds ys (place n) (renamed_vtype names v) ≡ []
  type_right (vtype.Object ty) none = base_right names place back xs ys h n own ty.base none
  type_right v none = refl

  types_right : (vs : List VType) → flat_map (verification_kinds xs n) vs ≡ []
      → flat_map (verification_kinds ys (place n)) (map (renamed_vtype names) vs) ≡ []
  types_right [] none = refl
  types_right (v ∷ vs) none =
      let nones = nil_parts (verification_kinds xs n v) (flat_map (verification_kinds xs n) vs) none in
      nil_joined (verification_kinds ys (place n) (renamed_vtype names v))
      (flat_map (verification_kinds ys (place n)) (map (renamed_vtype names) vs))
      (type_right v nones.0) (types_right vs nones.1)

  frames_right : (fs : List FrameAt) → flat_map (frame_kinds xs n) fs ≡ []
      → flat_map (frame_kinds ys (place n)) (map (renamed_frame names) fs) ≡ []
  frames_right [] none = refl
  frames_right (f ∷ fs) none =
      let nones = nil_parts (frame_kinds xs n f) (flat_map (frame_kinds xs n) fs) none in
      nil_joined (frame_kinds ys (place n) (renamed_frame names f))
      (flat_map (frame_kinds ys (place n)) (map (renamed_frame names) fs))
      (ap (flat_map (verification_kinds ys (place n)))
      (sym (map-append (renamed_vtype names) f.frame.locals f.frame.stack))
      ∙ types_right (f.frame.locals ++ f.frame.stack) nones.0)
      (frames_right fs nones.1)

  -- ---- handlers

  handlers_right : (gs : List Handler) → flat_map (handler_kinds xs n) gs ≡ []
      → flat_map (handler_kinds ys (place n)) (map (renamed_handler names) gs) ≡ []
  handlers_right [] none = refl
  handlers_right (g ∷ gs) none =
      let nones = nil_parts (handler_kinds xs n g) (flat_map (handler_kinds xs n) gs) none in
      nil_joined (handler_kinds ys (place n) (renamed_handler names g))
      (flat_map (handler_kinds ys (place n)) (map (renamed_handler names) gs))
      (caught_right names place back xs ys h n own g.caught nones.0) (handlers_right gs nones.1)

  -- ---- instructions

  -- a call that is no special one
  called_right : (static : Bool) (r : MemberRef) → call_kinds xs n static r ++ no_init_kinds r ≡ []
      → (call_kinds xs n static r ≡ [] → call_kinds ys (place n) static (renamed_method_ref names r) ≡ [])
      → call_kinds ys (place n) static (renamed_method_ref names r) ++ no_init_kinds (renamed_method_ref names r) ≡ []
  called_right static r none step =
      then_no_init names place back xs ys h n own r (call_kinds xs n static r)
      (call_kinds ys (place n) static (renamed_method_ref names r))
      (step (nil_parts (call_kinds xs n static r) (no_init_kinds r) none).0) none

  -- in a method whose new name initialises a class or an object where its old one did
  module _ (method new_method : List ℕ)
      (same : (static : Bool) → is_text new_method (writer static) ≡ is_text method (writer static)) where
    op_right : (count : ℕ) (o : Op) → IsGoodOp count o → op_kinds xs n method o ≡ []
        → op_kinds ys (place n) new_method (renamed_op names o) ≡ []
    op_right count (op.GetStatic r) good none =
        field_right names place back xs ys h n own method new_method same true false r good none
    op_right count (op.PutStatic r) good none =
        field_right names place back xs ys h n own method new_method same true true r good none
    op_right count (op.GetField r) good none =
        field_right names place back xs ys h n own method new_method same false false r good none
    op_right count (op.PutField r) good none =
        field_right names place back xs ys h n own method new_method same false true r good none
    op_right count (op.InvokeVirtual r) good none =
        called_right false r none (call_right names place back xs ys h n own false r good.0)
    op_right count (op.InvokeStatic r) good none =
        called_right true r none (call_right names place back xs ys h n own true r good)
    op_right count (op.InvokeInterface r) good none =
        called_right false r none (call_right names place back xs ys h n own false r good.0)
    op_right count (op.InvokeSpecial r) good none =
        let nones = nil_parts (call_kinds xs n false r) (special_class_kinds xs n r) none in
        nil_joined (call_kinds ys (place n) false (renamed_method_ref names r))
        (special_class_kinds ys (place n) (renamed_method_ref names r))
        (call_right names place back xs ys h n own false r good nones.0)
        (special_right names place back xs ys h n own r good nones.1)
    op_right count (op.New name) good none = new_right names place back xs ys h n own name none
    op_right count (op.ANewArray ty) good none = base_right names place back xs ys h n own ty.base none
    op_right count (op.CheckCast ty) good none = base_right names place back xs ys h n own ty.base none
    op_right count (op.InstanceOf ty) good none = base_right names place back xs ys h n own ty.base none
    op_right count (op.MultiNewArray ty d) good none = base_right names place back xs ys h n own ty.base none
    op_right count o good none = refl

    ops_right : (count : ℕ) (is : List Ins) → AllByRecursion (λ (x : Ins). IsGoodOp count x.op) is
        → flat_map (λ (x : Ins). op_kinds xs n method x.op) is ≡ []
        → flat_map (λ (x : Ins). op_kinds ys (place n) new_method x.op) (map (renamed_ins names) is) ≡ []
    ops_right count [] good none = refl
    ops_right count (x ∷ is) good none =
        let nones = nil_parts (op_kinds xs n method x.op) (flat_map (λ (x : Ins). op_kinds xs n method x.op) is)
        none in
        nil_joined (op_kinds ys (place n) new_method (renamed_op names x.op))
        (flat_map (λ (x : Ins). op_kinds ys (place n) new_method x.op) (map (renamed_ins names) is))
        (op_right count x.op good.0 nones.0) (ops_right count is good.1 nones.1)

    -- ---- the code

    pub code_right : (o : Option Code) → IfSome o IsGoodCode → option_map_or (code_kinds xs n method) o [] ≡ []
        → option_map_or (code_kinds ys (place n) new_method) (option_map (renamed_code names) o) [] ≡ []
    code_right None good none = refl
    code_right (Some code) good none =
        let ops = flat_map (λ (x : Ins). op_kinds xs n method x.op) code.ins in
        let handlers = flat_map (handler_kinds xs n) code.handlers in
        let frames = flat_map (frame_kinds xs n) code.frames in
        let nones = nil_parts (ops ++ handlers) frames none in
        let firsts = nil_parts ops handlers nones.0 in
        let new_ops =
        flat_map (λ (x : Ins). op_kinds ys (place n) new_method x.op) (map (renamed_ins names) code.ins) in
        let new_handlers = flat_map (handler_kinds ys (place n)) (map (renamed_handler names) code.handlers) in
        let new_frames = flat_map (frame_kinds ys (place n)) (map (renamed_frame names) code.frames) in
        nil_joined (new_ops ++ new_handlers) new_frames
        (nil_joined new_ops new_handlers (ops_right (length code.ins) code.ins good.instructions firsts.0)
        (handlers_right code.handlers firsts.1)) (frames_right code.frames nones.1)
