-- A code that a Code attribute stands for is well formed (JVMS 4.7.3).
use Rattle.std.proofs.Common.{◌≡◌, inl, inr, ℕ, zero, suc, ◌+◌, ◌-◌, ◌^◌, ◌<◌, ◌≤◌, Bool, true, false, cond, eqb, List}
use Rattle.std.proofs.Common.{[], ◌∷◌, ◌++◌, length, take, map, get_or, Option, Some, None, slice_get, refl, sym, ap}
use Rattle.std.proofs.Common.{subst, ◌∙◌, arith}
use Rattle.std.specs.Prelude.{AllPairs, IfSome, codes}
use Rattle.std.specs.List.{AllByRecursion, AllZip, flat_map}
use Rattle.std.proofs.lemmas.Bool.{cases_lt, eqb-false}
use Rattle.std.proofs.lemmas.List.{length-append}
use Rattle.std.proofs.lemmas.Option.{slice_get_within, get_or_from_slice_get}
use Rattle.jv_base.specs.Names.{is_text}
use Rattle.jv_base.specs.Types.{IsFieldType, IsMethodType}
use Rattle.jv_base.specs.declared.types.FieldType.{FieldType}
use Rattle.jv_base.specs.declared.types.MethodType.{MethodType}
use Rattle.jv_base.specs.declared.types.Base.{Base}
use Rattle.jv_base.specs.declared.types.Base.TheVariants as base
use Rattle.jv_base.proofs.Lists.{all_weaker}
use Rattle.format_reading.specs.Spelling.{AllStand}
use Rattle.class_model.specs.declared.pool.Entry.{Entry}
use Rattle.class_model.specs.declared.code.Code.{Code}
use Rattle.class_model.specs.declared.code.Ins.{Ins}
use Rattle.class_model.specs.declared.code.Handler.{Handler}
use Rattle.class_model.specs.declared.frame.VType.{VType}
use Rattle.class_model.specs.declared.frame.VType.TheVariants as vtype
use Rattle.class_model.specs.declared.frame.FrameAt.{FrameAt}
use Rattle.class_model.specs.declared.class.LeftKind.{LeftKind}
use Rattle.class_model.specs.Structure.{ExceptionInfo, CodeInfo}
use Rattle.class_model.specs.ConstantPool.{class_type, IsOptionalClassAt}
use Rattle.class_model.specs.InstructionStructure.{Info, info_bytes, starts_of}
use Rattle.class_model.specs.LineNumbers.{LineNumber, FitsLine}
use Rattle.class_model.specs.Attributes.{named}
use Rattle.class_model.specs.Frames.{VerificationTypeInfo, TagInfo, ObjectInfo, UninitializedInfo, StackMapFrame}
use Rattle.class_model.specs.Frames.{SameFrame, SameLocalsOneStackItem, SameLocalsOneStackItemExtended, ChopFrame}
use Rattle.class_model.specs.Frames.{SameFrameExtended, AppendFrame, FullFrame, tagged_type, words_of_types, cut_tops}
use Rattle.class_model.specs.Frames.{base_vtype, vtype_of, this_type, initial_locals, offset_behind, IsVType, IsFrame}
use Rattle.class_model.specs.Frames.{IsFrameAt, AreFrames}
use Rattle.class_model.specs.CodeAttribute.{IsIns, IsHandler, IsCode}
use Rattle.class_model.specs.WellFormed.{IsClassName, HasFewWords, IsGoodOp, IsGoodHandler, IsGoodType, IsGoodFrame}
use Rattle.class_model.specs.WellFormed.{Ascend, IsGoodCode}
use Rattle.class_model.proofs.NameLaw.{HaveUnits}
use Rattle.class_model.proofs.ConstantLaw.{AllNameRight}
use Rattle.class_laws.specs.ClassValues.{IsFieldTypeValue, IsMethodTypeValue, IsInsValue, IsVTypeValue, IsFrameValue}
use Rattle.class_laws.specs.ClassValues.{IsCodeValue}
use Rattle.class_laws.proofs.SpelledLists.{all_both}
use Rattle.class_laws.proofs.FormedPool.{EntryFits, class_formed, type_formed}
use Rattle.class_laws.proofs.FormedOps.{IsFormed, op_formed}
use Rattle.class_laws.proofs.FormedPlaces.{line_fits, tables_fit, starts_long, stand_long, ends_from, ends_ascend}
use Rattle.class_laws.proofs.FormedPlaces.{starts_ascend, lines_go_on, all_cut, cut_again, words_cut, pairs_more}

-- ---- types

-- a type in a frame of these instructions
abbrev pub IsTypeOf : List Ins → VType → Type 0
IsTypeOf ins ty = IsGoodType ins ty × IsVTypeValue ty

-- the types that are their tag
tag_by : (ins : List Ins) (b : Bool) (ty : VType) (other : Option VType) → IsTypeOf ins ty → IfSome other (IsTypeOf ins)
    → IfSome (cond b (Some ty) other) (IsTypeOf ins)
tag_by ins true ty other h k = h
tag_by ins false ty other h k = k

tag_formed : (ins : List Ins) (tag : ℕ) → IfSome (tagged_type tag) (IsTypeOf ins)
tag_formed ins tag =
    let g : Option VType = cond (eqb tag 6) (Some vtype.UninitThis) None in
    let f : Option VType = cond (eqb tag 5) (Some vtype.Null) g in
    let e : Option VType = cond (eqb tag 4) (Some vtype.Long) f in
    let d : Option VType = cond (eqb tag 3) (Some vtype.Top) e in
    let c : Option VType = cond (eqb tag 2) (Some vtype.Top) d in
    let b : Option VType = cond (eqb tag 1) (Some vtype.Int) c in
    tag_by ins (eqb tag 0) vtype.Top b (tt, tt)
    (tag_by ins (eqb tag 1) vtype.Int c (tt, tt)
    (tag_by ins (eqb tag 2) vtype.Top d (tt, tt) (tag_by ins (eqb tag 3) vtype.Top e (tt, tt)
    (tag_by ins (eqb tag 4) vtype.Long f (tt, tt)
    (tag_by ins (eqb tag 5) vtype.Null g (tt, tt) (tag_by ins (eqb tag 6) vtype.UninitThis None (tt, tt) tt))))))

-- ---- the initial frame

base_formed : (ins : List Ins) (ty : FieldType) (b : Base) → ty.base ≡ b → IsFieldType ty → IsFieldTypeValue ty
    → IsTypeOf ins (base_vtype ty b)
base_formed ins ty base.Long e h v = (tt, tt)
base_formed ins ty base.Float e h v = (tt, tt)
base_formed ins ty base.Double e h v = (tt, tt)
base_formed ins ty (base.Class name) e h v = ((h, inr (name, e)), v)
base_formed ins ty base.Boolean e h v = (tt, tt)
base_formed ins ty base.Byte e h v = (tt, tt)
base_formed ins ty base.Char e h v = (tt, tt)
base_formed ins ty base.Short e h v = (tt, tt)
base_formed ins ty base.Int e h v = (tt, tt)

argument_formed : (ins : List Ins) (ty : FieldType) → IsFieldType ty → IsFieldTypeValue ty → IsTypeOf ins (vtype_of ty)
argument_formed ins ty h v = by (eqb ty.dims 0) refl
  where
    by : (b : Bool) → eqb ty.dims 0 ≡ b → IsTypeOf ins (cond b (base_vtype ty ty.base) (vtype.Object ty))
    by true e = base_formed ins ty ty.base refl h v
    by false e = ((h, inl (let d : ty.dims ≡ 0 → ⊥ = eqb-false _ _ e in grind arith)), v)

arguments_formed : (ins : List Ins) (tys : List FieldType) → AllByRecursion IsFieldType tys
    → AllByRecursion IsFieldTypeValue tys → AllByRecursion (IsTypeOf ins) (map vtype_of tys)
arguments_formed ins [] h v = tt
arguments_formed ins (ty ∷ tys) h v = (argument_formed ins ty h.0 v.0, arguments_formed ins tys h.1 v.1)

this_formed : (ins : List Ins) (class name : List ℕ) → IsClassName class → IsTypeOf ins (this_type class name)
this_formed ins class name is = by (is_text name (codes "<init>"))
  where
    by : (b : Bool) → IsTypeOf ins (cond b vtype.UninitThis (vtype.Object (class_type class)))
    by true = (tt, tt)
    by false = ((record { dimensions = omega arith; named = is.1 }, inr (class, refl)), is.0)

pub initial_formed : (ins : List Ins) (class : List ℕ) (static : Bool) (name : List ℕ) (ty : MethodType)
    → IsClassName class → IsMethodType ty → IsMethodTypeValue ty
    → AllByRecursion (IsTypeOf ins) (initial_locals class static name ty)
initial_formed ins class true name ty is h v = arguments_formed ins ty.args h.arguments v.arguments
initial_formed ins class false name ty is h v =
    (this_formed ins class name is, arguments_formed ins ty.args h.arguments v.arguments)

-- ---- frames

front : (P : VType → Type 0) (n : ℕ) (types : List VType) → AllByRecursion P types → AllByRecursion P (take n types)
front P zero types h = tt
front P (suc n) [] h = tt
front P (suc n) (ty ∷ types) h = (h.0, front P n types h.1)

module _ (pool : List Entry) (infos : List Info) (code : Code) (long : length (starts_of infos) ≡ length code.ins) where
  abbrev starts : List ℕ
  starts = starts_of infos

  abbrev Good : VType → Type 0
  Good ty = IsTypeOf code.ins ty

  abbrev AllGood : List VType → Type 0
  AllGood types = AllByRecursion Good types

  vtype_formed : (info : VerificationTypeInfo) (ty : VType) → IsVType pool starts code.ins info ty → Good ty
  vtype_formed (TagInfo tag) ty h = subst (λ (o : Option VType). IfSome o Good) h (tag_formed code.ins tag)
  vtype_formed (ObjectInfo i) ty h = subst Good (sym h.3) (type_formed pool i h.1 h.2)
  vtype_formed (UninitializedInfo offset) ty h = subst Good (sym h.4) ((h.3.at, h.3.name, h.3.there, h.3.new), tt)

  vtypes_formed : (is : List VerificationTypeInfo) (types : List VType) → AllZip (IsVType pool starts code.ins) is types
      → AllGood types
  vtypes_formed [] [] h = tt
  vtypes_formed [] (t ∷ ts) h = absurd h
  vtypes_formed (i ∷ is) [] h = absurd h
  vtypes_formed (i ∷ is) (t ∷ ts) h = (vtype_formed i t h.0, vtypes_formed is ts h.1)

  row_formed : (before : List VType) (row : StackMapFrame) (delta : ℕ) (locals stack : List VType) → AllGood before
      → IsFrame pool starts code.ins before row delta locals stack → AllGood locals × AllGood stack
  row_formed before (SameFrame t) delta locals stack g h = (subst AllGood (sym h.2) g, subst AllGood (sym h.3) tt)
  row_formed before (SameLocalsOneStackItem t item) delta locals stack g h =
      (subst AllGood (sym h.2) g, vtypes_formed (item ∷ []) stack h.3)
  row_formed before (SameLocalsOneStackItemExtended d item) delta locals stack g h =
      (subst AllGood (sym h.2) g, vtypes_formed (item ∷ []) stack h.3)
  row_formed before (ChopFrame t d) delta locals stack g h =
      (subst AllGood (sym h.4) (front Good (length before - (251 - t)) before g), subst AllGood (sym h.5) tt)
  row_formed before (SameFrameExtended d) delta locals stack g h =
      (subst AllGood (sym h.2) g, subst AllGood (sym h.3) tt)
  row_formed before (AppendFrame t d is) delta locals stack g h =
      (subst AllGood (sym h.6) (all_both Good before h.4 g (vtypes_formed is h.4 h.5.1)), subst AllGood (sym h.7) tt)
  row_formed before (FullFrame d is ss) delta locals stack g h =
      (vtypes_formed is locals h.2.1, vtypes_formed ss stack h.3.1)

  abbrev Frame : FrameAt → Type 0
  Frame frame = IsGoodFrame code frame × IsFrameValue frame

  frame_formed : (max_stack max_locals : ℕ) → code.max_stack ≡ max_stack → code.max_locals ≡ max_locals
      → (before : List VType) (previous : Option ℕ) (row : StackMapFrame) (frame : FrameAt) (locals : List VType)
      (offset : ℕ)
      → AllGood before → IsFrameAt pool starts code.ins max_stack max_locals before previous row frame locals offset
      → Frame frame × AllGood locals
  frame_formed max_stack max_locals stack_is locals_is before previous row frame locals offset g h =
      let r = row_formed before row h.delta locals frame.frame.stack g h.stands in
      let mine : AllGood frame.frame.locals = subst AllGood (sym h.cut) (all_cut Good locals r.0) in
      let words : words_of_types frame.frame.locals ≤ words_of_types locals = subst
      (λ (l : List VType). words_of_types l ≤ words_of_types locals) (sym h.cut) (words_cut locals) in
      let good : IsGoodFrame code frame = record {
        index = let lt = slice_get_within starts frame.index offset h.index in omega (arith, lt, long);
        locals = all_weaker Good (IsGoodType code.ins) (λ ty k. k.0) frame.frame.locals mine;
        cut = ap cut_tops h.cut ∙ cut_again locals ∙ sym h.cut;
        locals_fit = omega (arith, words, h.locals_fit, locals_is);
        stack = all_weaker Good (IsGoodType code.ins) (λ ty k. k.0) frame.frame.stack r.1;
        stack_fits = omega (arith, h.stack_fits, stack_is);
      } in
      let value : IsFrameValue frame = record {
        locals = all_weaker Good IsVTypeValue
            (λ ty k. k.1) frame.frame.locals mine;
        stack = all_weaker Good IsVTypeValue
            (λ ty k. k.1) frame.frame.stack r.1;
      } in
      ((good, value), r.0)

  frames_formed : (max_stack max_locals : ℕ) → code.max_stack ≡ max_stack → code.max_locals ≡ max_locals
      → (rows : List StackMapFrame) (frames : List FrameAt) (before : List VType) (previous : Option ℕ) → AllGood before
      → AreFrames pool starts code.ins max_stack max_locals before previous rows frames → AllByRecursion Frame frames
  frames_formed max_stack max_locals s l [] [] before previous g h = tt
  frames_formed max_stack max_locals s l [] (f ∷ fs) before previous g h = absurd h
  frames_formed max_stack max_locals s l (r ∷ rs) [] before previous g h = absurd h
  frames_formed max_stack max_locals s l (r ∷ rs) (f ∷ fs) before previous g h =
      let one = frame_formed max_stack max_locals s l before previous r f h.0 h.1 g h.2 in
      (one.0, frames_formed max_stack max_locals s l rs fs h.0 (Some h.1) one.1 h.3)

  -- ---- frames ascend

  -- an instruction that begins further on has a greater number
  index_ascends : (j k a b : ℕ) → slice_get starts j ≡ Some a → slice_get starts k ≡ Some b → a < b → j < k
  index_ascends j k a b at there lt = elim (cases_lt j k) [
    | inl less ↦ less
    | inr le ↦
        let within = slice_get_within starts j a at in
        let one : get_or starts j 0 ≡ a = get_or_from_slice_get starts j a 0 at in
        let other : get_or starts k 0 ≡ b = get_or_from_slice_get starts k b 0 there in
        absurd (elim (cases_lt k j) [
          | inl less ↦ let up = starts_ascend infos 0 k j less (omega (arith, within, starts_long infos 0)) in omega
              (arith, up, one, other, lt)
          | inr more ↦
              let same : j ≡ k = omega (arith, le, more) in
              let e : get_or starts j 0 ≡ get_or starts k 0 = ap (λ (m : ℕ). get_or starts m 0) same in
              omega (arith, e, one, other, lt)
        ])
  ]

  behind : (n delta : ℕ) → n < offset_behind (Some n) delta
  behind n delta = omega arith

  -- each frame begins behind an offset
  all_behind : (max_stack max_locals : ℕ) (rows : List StackMapFrame) (frames : List FrameAt) (before : List VType)
      (j a m : ℕ) → slice_get starts j ≡ Some a → a ≤ m
      → AreFrames pool starts code.ins max_stack max_locals before (Some m) rows frames
      → AllByRecursion (λ (f : FrameAt). j < f.index) frames
  all_behind max_stack max_locals [] [] before j a m at le h = tt
  all_behind max_stack max_locals [] (f ∷ fs) before j a m at le h = absurd h
  all_behind max_stack max_locals (r ∷ rs) [] before j a m at le h = absurd h
  all_behind max_stack max_locals (r ∷ rs) (f ∷ fs) before j a m at le h =
      let lt : m < h.1 = subst (λ (k : ℕ). m < k) (sym h.2.offset_is) (behind m h.2.delta) in (
        index_ascends j f.index a h.1 at h.2.index
            (omega (arith, lt, le)),
        all_behind max_stack max_locals rs fs h.0 j a h.1 at (omega (arith, lt, le)) h.3,
      )

  none_pairs : AllPairs Ascend []
  none_pairs i j d lt within = absurd (omega (arith, within))

  frames_ascend : (max_stack max_locals : ℕ) (rows : List StackMapFrame) (frames : List FrameAt) (before : List VType)
      (previous : Option ℕ) → AreFrames pool starts code.ins max_stack max_locals before previous rows frames
      → AllPairs Ascend frames
  frames_ascend max_stack max_locals [] [] before previous h = none_pairs
  frames_ascend max_stack max_locals [] (f ∷ fs) before previous h = absurd h
  frames_ascend max_stack max_locals (r ∷ rs) [] before previous h = absurd h
  frames_ascend max_stack max_locals (r ∷ rs) (f ∷ fs) before previous h =
      pairs_more Ascend f fs (all_behind max_stack max_locals rs fs h.0 f.index h.1 h.1 h.2.index (omega arith) h.3)
      (frames_ascend max_stack max_locals rs fs h.0 (Some h.1) h.3)

  -- ---- handlers

  caught_formed : (index : ℕ) (o : Option (List ℕ)) → IsOptionalClassAt pool index o → IfSome o IsClassName
  caught_formed index None h = tt
  caught_formed index (Some name) h = class_formed pool index name h

  handler_formed : (end : ℕ) (raw : ExceptionInfo) (h : Handler) → end ≡ length (flat_map info_bytes infos)
      → IsHandler pool starts end raw h → IsGoodHandler (length code.ins) h
  handler_formed end raw h is k =
      let e : end ≡ 0 + length (flat_map info_bytes infos) = omega (arith, is) in
      let to_at : slice_get (ends_from 0 infos) h.to
      ≡ Some raw.end_pc = ap (λ (m : ℕ). slice_get (starts ++ m ∷ []) h.to) (sym e) ∙ k.to in
      let within = slice_get_within (ends_from 0 infos) h.to raw.end_pc to_at in
      let size = length-append starts ((0 + length (flat_map info_bytes infos)) ∷ []) in
      let from_in = slice_get_within starts h.from raw.start_pc k.from in
      let most = starts_long infos 0 in
      let to_is : get_or (ends_from 0 infos) h.to 0
      ≡ raw.end_pc = get_or_from_slice_get (ends_from 0 infos) h.to raw.end_pc 0 to_at in
      let from_is : get_or (ends_from 0 infos) h.from 0
      ≡ raw.start_pc = front_is starts ((0 + length (flat_map info_bytes infos)) ∷ []) h.from from_in
      ∙ get_or_from_slice_get starts h.from raw.start_pc 0 k.from in
      record {
        range = elim (cases_lt h.from h.to) [
          | inl less ↦ less
          | inr le ↦
              absurd (elim (cases_lt h.to h.from) [
                | inl less ↦ let up = ends_ascend infos 0 h.to h.from less (omega (arith, from_in, most)) in omega
                    (arith, up, to_is, from_is, k.range)
                | inr more ↦
                    let same : h.from ≡ h.to = omega (arith, le, more) in
                    let s : get_or (ends_from 0 infos) h.from 0
                    ≡ get_or (ends_from 0 infos) h.to 0 = ap (λ (m : ℕ). get_or (ends_from 0 infos) m 0) same in
                    omega (arith, s, to_is, from_is, k.range)
              ])
        ];
        to = omega (arith, within, size, long);
        entry = let lt = slice_get_within starts h.entry raw.handler_pc k.entry in omega (arith, lt, long);
        caught = caught_formed raw.catch_type h.caught k.caught;
      }
    where
      front_is : (xs ys : List ℕ) (i : ℕ) → i < length xs → get_or (xs ++ ys) i 0 ≡ get_or xs i 0
      front_is [] ys i lt = absurd (omega (arith, lt))
      front_is (x ∷ xs) ys zero lt = refl
      front_is (x ∷ xs) ys (suc i) lt = front_is xs ys i (omega (arith, lt))

  handlers_formed : (end : ℕ) (raws : List ExceptionInfo) (hs : List Handler) → end ≡ length (flat_map info_bytes infos)
      → AllZip (IsHandler pool starts end) raws hs → AllByRecursion (IsGoodHandler (length code.ins)) hs
  handlers_formed end [] [] is k = tt
  handlers_formed end [] (h ∷ hs) is k = absurd k
  handlers_formed end (r ∷ rs) [] is k = absurd k
  handlers_formed end (r ∷ rs) (h ∷ hs) is k = (handler_formed end r h is k.0, handlers_formed end rs hs is k.1)

-- ---- the code

-- the code is well formed, its numbers and texts are in range, and its counts fit
pub record IsFormedCode (code : Code) : Type 0 where
  pub good : IsGoodCode code
  pub value : IsCodeValue code
  pub words : AllByRecursion (λ (i : Ins). HasFewWords i.op) code.ins

module _ (pool : List Entry) (units : HaveUnits pool) (right : AllNameRight pool)
    (fits : AllByRecursion EntryFits pool) where
  abbrev Formed : ℕ → Ins → Type 0
  Formed n i = IsFormed n i.op × IfSome i.line (λ m. m < 2 ^ 16)

  ins_formed : (all : List ℕ) (lines : List LineNumber) (n : ℕ) → length all ≡ n → AllByRecursion FitsLine lines
      → (infos : List Info) (ins : List Ins) (at : ℕ) → AllStand info_bytes (IsIns pool all lines) at infos ins
      → AllByRecursion (Formed n) ins
  ins_formed all lines n long low [] [] at h = tt
  ins_formed all lines n long low [] (i ∷ ins) at h = absurd h
  ins_formed all lines n long low (info ∷ infos) [] at h = absurd h
  ins_formed all lines n long low (info ∷ infos) (i ∷ ins) at h = (
    (
      op_formed pool units right fits all n long at info i.op h.0.0,
      subst
          (λ (o : Option ℕ). IfSome o (λ m. m < 2 ^ 16)) (sym h.0.1)
          (line_fits lines at low),
    ),
    ins_formed all lines n long low infos ins (at + length (info_bytes info)) h.1,
  )

  some_ins : (infos : List Info) (n : ℕ) → length infos ≡ n → 0 < length (flat_map info_bytes infos) → 0 < n
  some_ins [] n e h = absurd (omega (arith, h))
  some_ins (info ∷ infos) n e h = omega (arith, e)

  pub code_formed : (first : List VType) (raw : CodeInfo) (code : Code) (left_out : Option LeftKind)
      → AllByRecursion (IsTypeOf code.ins) first → IsCode pool first raw code left_out → IsFormedCode code
  code_formed first raw code left_out typed c =
      let n = length code.ins in
      let infos_many : length c.infos
      ≡ n = stand_long (IsIns pool (starts_of c.infos) c.lines) c.infos code.ins 0 c.instructions in
      let long : length (starts_of c.infos) ≡ n = starts_long c.infos 0 ∙ infos_many in
      let low = tables_fit (named pool (codes "LineNumberTable") raw.attributes) c.lines c.line_tables in
      let formed = ins_formed (starts_of c.infos) c.lines n long low c.infos code.ins 0 c.instructions in
      let frames =
      frames_formed pool c.infos code long raw.max_stack raw.max_locals c.max_stack c.max_locals c.rows code.frames
      first None typed c.frames in
      let size : length raw.code ≡ length (flat_map info_bytes c.infos) = ap length c.is in
      record {
        good = record {
          some = some_ins c.infos n infos_many (omega (arith, size, c.sizes.length_from));
          instructions = all_weaker (Formed n) (λ (i : Ins). IsGoodOp n i.op) (λ i k. k.0.good) code.ins formed;
          lines = lines_go_on pool (starts_of c.infos) c.lines c.infos code.ins c.instructions;
          handlers = handlers_formed pool c.infos code long
              (length raw.code) raw.exception_table code.handlers size c.handlers;
          frames = all_weaker (λ (f : FrameAt). IsGoodFrame code f × IsFrameValue f) (IsGoodFrame code)
              (λ f k. k.0) code.frames frames;
          ascending = frames_ascend pool c.infos code long raw.max_stack raw.max_locals c.rows code.frames first None
              c.frames;
        };
        value = record {
          max_stack = omega (arith, c.max_stack, c.sizes.max_stack_fits);
          max_locals = omega (arith, c.max_locals, c.sizes.max_locals_fits);
          ins = all_weaker (Formed n) IsInsValue
              (λ i k. record { op = k.0.value; pushed = k.0.pushed; line = k.1 }) code.ins formed;
          frames = all_weaker (λ (f : FrameAt). IsGoodFrame code f × IsFrameValue f) IsFrameValue
              (λ f k. k.1) code.frames frames;
        };
        words = all_weaker (Formed n) (λ (i : Ins). HasFewWords i.op) (λ i k. k.0.words) code.ins formed;
      }
