-- A row of a StackMapTable stands for a frame exactly where the frame is computed from it (JVMS 4.7.4).
use Rattle.std.proofs.Common.{◌≡◌, ℕ, ◌-◌, ◌^◌, ◌<◌, ◌≤◌, Bool, true, false, cond, ◌&&◌, eqb, leb, List, [], ◌∷◌, ◌++◌}
use Rattle.std.proofs.Common.{length, map, take, Option, Some, None, pos, refl, sym, ap, subst, ◌∙◌, arith}
use Rattle.std.specs.Prelude.{slice_get, option_map, position, nat_eq}
use Rattle.std.specs.List.{AllZip}
use Rattle.std.proofs.lemmas.Bool.{leb-true, leb-false, le-leb, ne_eqb, and_parts}
use Rattle.std.proofs.lemmas.Option.{slice_get-map, same_Some}
use Rattle.jv_base.proofs.Options.{mapped, both_there}
use Rattle.format_reading.specs.declared.fault.FormatKind.TheVariants as bad
use Rattle.class_model.specs.declared.pool.Entry.{Entry}
use Rattle.class_model.specs.declared.code.Ins.{Ins}
use Rattle.class_model.specs.declared.op.Op.{Op}
use Rattle.class_model.specs.declared.op.Op.TheVariants as op
use Rattle.class_model.specs.declared.frame.VType.{VType}
use Rattle.class_model.specs.declared.frame.VType.TheVariants as vtype
use Rattle.class_model.specs.declared.frame.FrameAt.{FrameAt}
use Rattle.class_model.specs.InstructionStructure.{Info, starts_of}
use Rattle.class_model.specs.Frames.{VerificationTypeInfo, TagInfo, ObjectInfo, UninitializedInfo, StackMapFrame}
use Rattle.class_model.specs.Frames.{SameFrame, SameLocalsOneStackItem, SameLocalsOneStackItemExtended, ChopFrame}
use Rattle.class_model.specs.Frames.{SameFrameExtended, AppendFrame, FullFrame, words_of_types, offset_behind, IsNew}
use Rattle.class_model.specs.Frames.{IsVType, IsFrame, IsFrameAt, AreFrames}
use Rattle.class_model.specs.Lookups.{due, type_at}
use Rattle.class_model.specs.ReadingFrames.{Before, Written, is_new, only_new, type_of, types_of, written, written_by}
use Rattle.class_model.specs.ReadingFrames.{fits, frame_at, frame_of, row_stands}
use Rattle.class_model.proofs.NameLaw.{HaveUnits, due_is}
use Rattle.class_model.proofs.LookupLaw.{type_found, type_only}
use Rattle.class_model.proofs.CodeLaw.{op_in, begins_found, begins_only}
use Rattle.class_model.proofs.RowLaw.{FitsType, FitTypes, FitsRow}
use Rattle.class_laws.proofs.FrameLaw.{AreRows}

module _ (pool : List Entry) (units : HaveUnits pool) (infos : List Info) (ins : List Ins) where
  -- where the instructions begin, and what they are
  abbrev starts : List ℕ
  starts = starts_of infos

  abbrev ops : List Op
  ops = map op_in ins

  -- ---- places

  -- the number of the instruction at an offset
  place_found : (offset n : ℕ) → position (nat_eq offset) starts ≡ Some n → slice_get starts n ≡ Some offset
  place_found offset n h =
      let b = begins_found starts (pos offset) n (ap (due bad.BadTarget) h) in
      let same : b.0 ≡ offset = (let e : pos offset ≡ pos b.0 = b.1 in cc) in
      b.2 ∙ ap (λ (k : ℕ). Some k) same

  place_only : (offset n : ℕ) → slice_get starts n ≡ Some offset → position (nat_eq offset) starts ≡ Some n
  place_only offset n h = due_is bad.BadTarget (position (nat_eq offset) starts) n
      (begins_only infos (pos offset) n (offset, refl, h))

  -- ---- types

  -- an instruction that is a new
  new_found : (n : ℕ) (o : Option Ins) → slice_get ins n ≡ o → is_new pool starts ops (option_map op_in o) ≡ true
      → IsNew pool starts ins n
  new_found n None at h = absurd cc
  new_found n (Some i) at h = by i.op refl h
    where
      by : (o : Op) → i.op ≡ o → is_new pool starts ops (Some o) ≡ true → IsNew pool starts ins n
      by (op.New name) e g = record { at = i; there = at; name = name; new = e }
      by op.Nop e g = absurd cc
      by op.PushNull e g = absurd cc
      by (op.PushInt k) e g = absurd cc
      by (op.PushLong k) e g = absurd cc
      by (op.PushText t) e g = absurd cc
      by (op.Load k s) e g = absurd cc
      by (op.Store k s) e g = absurd cc
      by (op.Inc s d) e g = absurd cc
      by (op.ALoad k) e g = absurd cc
      by (op.AStore k) e g = absurd cc
      by op.Pop e g = absurd cc
      by op.Pop2 e g = absurd cc
      by op.Dup e g = absurd cc
      by op.DupX1 e g = absurd cc
      by op.DupX2 e g = absurd cc
      by op.Dup2 e g = absurd cc
      by op.Dup2X1 e g = absurd cc
      by op.Dup2X2 e g = absurd cc
      by op.Swap e g = absurd cc
      by (op.Arith a k) e g = absurd cc
      by (op.Neg k) e g = absurd cc
      by (op.Shift s k) e g = absurd cc
      by (op.Logic l k) e g = absurd cc
      by (op.Conv c) e g = absurd cc
      by op.LCmp e g = absurd cc
      by (op.IfZero c to) e g = absurd cc
      by (op.IfCmp c to) e g = absurd cc
      by (op.IfRef c to) e g = absurd cc
      by (op.IfNull c to) e g = absurd cc
      by (op.Goto to) e g = absurd cc
      by (op.TableSwitch low other cases) e g = absurd cc
      by (op.LookupSwitch other cases) e g = absurd cc
      by (op.Return k) e g = absurd cc
      by (op.GetStatic r) e g = absurd cc
      by (op.PutStatic r) e g = absurd cc
      by (op.GetField r) e g = absurd cc
      by (op.PutField r) e g = absurd cc
      by (op.InvokeVirtual r) e g = absurd cc
      by (op.InvokeSpecial r) e g = absurd cc
      by (op.InvokeStatic r) e g = absurd cc
      by (op.InvokeInterface r) e g = absurd cc
      by (op.NewArray b) e g = absurd cc
      by (op.ANewArray ty) e g = absurd cc
      by op.ArrayLength e g = absurd cc
      by op.Throw e g = absurd cc
      by (op.CheckCast ty) e g = absurd cc
      by (op.InstanceOf ty) e g = absurd cc
      by (op.MultiNewArray ty d) e g = absurd cc

  new_only : (n : ℕ) → IsNew pool starts ins n → is_new pool starts ops (slice_get ops n) ≡ true
  new_only n h = rw (slice_get-map op_in ins n, h.there) (ap (λ (o : Op). is_new pool starts ops (Some o)) h.new)

  uninit_found : (n : ℕ) (ty : VType) → only_new pool starts ops n ≡ Some ty
      → IsNew pool starts ins n × (ty ≡ vtype.Uninit n)
  uninit_found n ty h = by (is_new pool starts ops (slice_get ops n)) refl h
    where
      by : (b : Bool) → is_new pool starts ops (slice_get ops n) ≡ b → cond b (Some (vtype.Uninit n)) None ≡ Some ty
          → IsNew pool starts ins n × (ty ≡ vtype.Uninit n)
      by true e g = (
        new_found n (slice_get ins n) refl (ap (is_new pool starts ops) (sym (slice_get-map op_in ins n))
            ∙ e),
        sym (same_Some (vtype.Uninit n) ty g),
      )
      by false e g = absurd cc

  -- the type that is written
  vtype_found : (info : VerificationTypeInfo) (ty : VType) → FitsType info → type_of pool starts ops info ≡ Some ty
      → IsVType pool starts ins info ty
  vtype_found (TagInfo tag) ty fit h = h
  vtype_found (ObjectInfo i) ty fit h =
      let m = mapped (λ class. vtype.Object class) (type_at pool i) ty h in
      (fit, m.0, type_found pool i m.0 units m.1, sym m.2)
  vtype_found (UninitializedInfo offset) ty fit h =
      let a = both_there (only_new pool starts ops) (position (nat_eq offset) starts) ty h in
      let u = uninit_found a.0 ty a.2 in
      (fit, a.0, place_found offset a.0 a.1, u.0, u.1)

  vtype_only : (info : VerificationTypeInfo) (ty : VType) → IsVType pool starts ins info ty
      → type_of pool starts ops info ≡ Some ty
  vtype_only (TagInfo tag) ty h = h
  vtype_only (ObjectInfo i) ty h = ap (option_map (λ class. vtype.Object class)) (type_only pool i h.1 h.2)
      ∙ ap (λ (t : VType). Some t) (sym h.3)
  vtype_only (UninitializedInfo offset) ty h = rw (place_only offset h.1 h.2, new_only h.1 h.3)
      (ap (λ (t : VType). Some t) (sym h.4))

  -- the types that are written
  vtypes_found : (is : List VerificationTypeInfo) (types : List VType) → FitTypes is
      → types_of pool starts ops is ≡ Some types → AllZip (IsVType pool starts ins) is types
  vtypes_found [] types fit h = subst (λ (ts : List VType). AllZip (IsVType pool starts ins) [] ts)
      (same_Some [] types h) tt
  vtypes_found (i ∷ is) types fit h =
      let a = both_there (λ ty. option_map (λ types. ty ∷ types) (types_of pool starts ops is))
      (type_of pool starts ops i) types h in
      let b = mapped (λ types. a.0 ∷ types) (types_of pool starts ops is) types a.2 in
      subst (λ (ts : List VType). AllZip (IsVType pool starts ins) (i ∷ is) ts) b.2
      (vtype_found i a.0 fit.0 a.1, vtypes_found is b.0 fit.1 b.1)

  vtypes_only : (is : List VerificationTypeInfo) (types : List VType) → AllZip (IsVType pool starts ins) is types
      → types_of pool starts ops is ≡ Some types
  vtypes_only [] [] h = refl
  vtypes_only [] (t ∷ ts) h = absurd h
  vtypes_only (i ∷ is) [] h = absurd h
  vtypes_only (i ∷ is) (t ∷ ts) h = rw (vtype_only i t h.0, vtypes_only is ts h.1) refl

  -- ---- rows

  -- what a row writes is what it stands for
  written_found : (before : List VType) (row : StackMapFrame) (w : Written) → FitsRow row
      → written_by pool starts ops before row ≡ Some w → IsFrame pool starts ins before row w.delta w.locals w.stack
  written_found before (SameFrame t) w fit h = let is = same_Some (written pool starts ops t before []) w h in (
    fit,
    sym (ap (λ (v : Written). v.delta) is),
    sym (ap (λ (v : Written). v.locals) is),
    sym
        (ap (λ (v : Written). v.stack) is),
  )
  written_found before (SameLocalsOneStackItem t item) w fit h =
      let m = mapped (λ stack. written pool starts ops (t - 64) before stack)
      (types_of pool starts ops (item ∷ [])) w h in (
        rw (le-leb 64 t fit.0, le-leb t 127 fit.1) refl,
        sym (ap (λ (v : Written). v.delta) m.2),
        sym (ap (λ (v : Written). v.locals) m.2),
        subst (λ (s : List VType). AllZip (IsVType pool starts ins) (item ∷ []) s) (ap (λ (v : Written). v.stack) m.2)
            (vtypes_found (item ∷ []) m.0 (fit.2, tt) m.1),
      )
  written_found before (SameLocalsOneStackItemExtended delta item) w fit h =
      let m = mapped (λ stack. written pool starts ops delta before stack)
      (types_of pool starts ops (item ∷ [])) w h in (
        fit.0,
        sym (ap (λ (v : Written). v.delta) m.2),
        sym (ap (λ (v : Written). v.locals) m.2),
        subst (λ (s : List VType). AllZip (IsVType pool starts ins) (item ∷ []) s) (ap (λ (v : Written). v.stack) m.2)
            (vtypes_found (item ∷ []) m.0 (fit.1, tt) m.1),
      )
  written_found before (ChopFrame t delta) w fit h = by (leb (251 - t) (length before)) refl h
    where
      by : (b : Bool) → leb (251 - t) (length before) ≡ b
          → cond b (Some (written pool starts ops delta (take (length before - (251 - t)) before) [])) None ≡ Some w
          → IsFrame pool starts ins before (ChopFrame t delta) w.delta w.locals w.stack
      by true e g =
          let is = same_Some (written pool starts ops delta (take (length before - (251 - t)) before) []) w g in (
            rw (le-leb 248 t fit.0, le-leb t 250 fit.1) refl,
            fit.2,
            sym (ap (λ (v : Written). v.delta) is),
            leb-true
                (251 - t) (length before) e,
            sym (ap (λ (v : Written). v.locals) is),
            sym
                (ap (λ (v : Written). v.stack) is),
          )
      by false e g = absurd cc
  written_found before (SameFrameExtended delta) w fit h = let is = same_Some
      (written pool starts ops delta before []) w h in (
        fit,
        sym (ap (λ (v : Written). v.delta) is),
        sym (ap (λ (v : Written). v.locals) is),
        sym
            (ap (λ (v : Written). v.stack) is),
      )
  written_found before (AppendFrame t delta locals) w fit h =
      let m = mapped (λ types. written pool starts ops delta (before ++ types) [])
      (types_of pool starts ops locals) w h in
      let few : length locals < 2 ^ 16 = omega (arith, fit.1, fit.3) in (
        rw (le-leb 252 t fit.0, le-leb t 254 fit.1) refl,
        fit.2,
        sym (ap (λ (v : Written). v.delta) m.2),
        fit.3,
        m.0,
        (few, vtypes_found locals m.0 fit.4 m.1),
        sym (ap (λ (v : Written). v.locals) m.2),
        sym (ap (λ (v : Written). v.stack) m.2),
      )
  written_found before (FullFrame delta locals stack) w fit h =
      let a = both_there (λ ls. option_map (λ ss. written pool starts ops delta ls ss) (types_of pool starts ops stack))
      (types_of pool starts ops locals) w h in
      let m = mapped (λ ss. written pool starts ops delta a.0 ss) (types_of pool starts ops stack) w a.2 in (
        fit.0,
        sym (ap (λ (v : Written). v.delta) m.2),
        (
          fit.1,
          subst (λ (l : List VType). AllZip (IsVType pool starts ins) locals l)
              (ap (λ (v : Written). v.locals) m.2) (vtypes_found locals a.0 fit.2 a.1),
        ),
        (
          fit.3,
          subst (λ (s : List VType). AllZip (IsVType pool starts ins) stack s) (ap (λ (v : Written). v.stack) m.2)
              (vtypes_found stack m.0 fit.4 m.1),
        ),
      )

  -- a row with these parts
  parts_are : (w : Written) (delta : ℕ) (locals stack : List VType) → w.delta ≡ delta → w.locals ≡ locals
      → w.stack ≡ stack → written pool starts ops delta locals stack ≡ w
  parts_are w delta locals stack d l s = λ i. record { delta = (sym d) i; locals = (sym l) i; stack = (sym s) i }

  some_parts : (w : Written) (delta : ℕ) (locals stack : List VType) → w.delta ≡ delta → w.locals ≡ locals
      → w.stack ≡ stack → (let o : Option Written = Some (written pool starts ops delta locals stack) in o) ≡ Some w
  some_parts w delta locals stack d l s = ap (λ (v : Written). Some v) (parts_are w delta locals stack d l s)

  -- what a row stands for is what it writes
  written_only : (before : List VType) (row : StackMapFrame) (w : Written)
      → IsFrame pool starts ins before row w.delta w.locals w.stack → written_by pool starts ops before row ≡ Some w
  written_only before (SameFrame t) w h = some_parts w t before [] h.1 h.2 h.3
  written_only before (SameLocalsOneStackItem t item) w h = rw (vtypes_only (item ∷ []) w.stack h.3)
      (some_parts w (t - 64) before w.stack h.1 h.2 refl)
  written_only before (SameLocalsOneStackItemExtended delta item) w h = rw (vtypes_only (item ∷ []) w.stack h.3)
      (some_parts w delta before w.stack h.1 h.2 refl)
  written_only before (ChopFrame t delta) w h = rw (le-leb (251 - t) (length before) h.3)
      (some_parts w delta (take (length before - (251 - t)) before) [] h.2 h.4 h.5)
  written_only before (SameFrameExtended delta) w h = some_parts w delta before [] h.1 h.2 h.3
  written_only before (AppendFrame t delta locals) w h = rw (vtypes_only locals h.4 h.5.1)
      (some_parts w delta (before ++ h.4) [] h.2 h.6 h.7)
  written_only before (FullFrame delta locals stack) w h = rw
      (vtypes_only locals w.locals h.2.1, vtypes_only stack w.stack h.3.1)
      (some_parts w delta w.locals w.stack h.1 refl refl)

  -- the numbers of a type that is written fit their bytes
  tag_fits : (tag : ℕ) (ty : VType) → IsVType pool starts ins (TagInfo tag) ty → tag ≤ 6
  tag_fits tag ty h = by (leb tag 6) refl
    where
      by : (b : Bool) → leb tag 6 ≡ b → tag ≤ 6
      by true e = leb-true tag 6 e
      by false e = let k : 6 < tag = leb-false tag 6 e in absurd (above k)
        where
          above : 6 < tag → ⊥
          above k =
              let n0 : eqb tag 0 ≡ false = ne_eqb tag 0 (λ e. absurd (omega (arith, e, k))) in
              let n1 : eqb tag 1 ≡ false = ne_eqb tag 1 (λ e. absurd (omega (arith, e, k))) in
              let n2 : eqb tag 2 ≡ false = ne_eqb tag 2 (λ e. absurd (omega (arith, e, k))) in
              let n3 : eqb tag 3 ≡ false = ne_eqb tag 3 (λ e. absurd (omega (arith, e, k))) in
              let n4 : eqb tag 4 ≡ false = ne_eqb tag 4 (λ e. absurd (omega (arith, e, k))) in
              let n5 : eqb tag 5 ≡ false = ne_eqb tag 5 (λ e. absurd (omega (arith, e, k))) in
              let n6 : eqb tag 6 ≡ false = ne_eqb tag 6 (λ e. absurd (omega (arith, e, k))) in
              let none : None ≡ Some ty = rw (n0, n1, n2, n3, n4, n5, n6) at h in
              cc

  vtype_fits : (info : VerificationTypeInfo) (ty : VType) → IsVType pool starts ins info ty → FitsType info
  vtype_fits (TagInfo tag) ty h = tag_fits tag ty h
  vtype_fits (ObjectInfo i) ty h = h.0
  vtype_fits (UninitializedInfo offset) ty h = h.0

  vtypes_fit : (is : List VerificationTypeInfo) (types : List VType) → AllZip (IsVType pool starts ins) is types
      → FitTypes is
  vtypes_fit [] types h = tt
  vtypes_fit (i ∷ is) [] h = absurd h
  vtypes_fit (i ∷ is) (t ∷ ts) h = (vtype_fits i t h.0, vtypes_fit is ts h.1)

  -- one type on the stack
  item_fits : (item : VerificationTypeInfo) (stack : List VType) → AllZip (IsVType pool starts ins) (item ∷ []) stack
      → FitsType item
  item_fits item [] h = absurd h
  item_fits item (t ∷ ts) h = vtype_fits item t h.0

  -- the numbers of a row that stands for something fit its form
  row_fits : (before : List VType) (row : StackMapFrame) (delta : ℕ) (locals stack : List VType)
      → IsFrame pool starts ins before row delta locals stack → FitsRow row
  row_fits before (SameFrame t) delta locals stack h = h.0
  row_fits before (SameLocalsOneStackItem t item) delta locals stack h = let b = and_parts _ _ h.0 in
      (leb-true 64 t b.0, leb-true t 127 b.1, item_fits item stack h.3)
  row_fits before (SameLocalsOneStackItemExtended d item) delta locals stack h = (h.0, item_fits item stack h.3)
  row_fits before (ChopFrame t d) delta locals stack h = let b = and_parts _ _ h.0 in
      (leb-true 248 t b.0, leb-true t 250 b.1, h.1)
  row_fits before (SameFrameExtended d) delta locals stack h = h.0
  row_fits before (AppendFrame t d is) delta locals stack h = let b = and_parts _ _ h.0 in
      (leb-true 252 t b.0, leb-true t 254 b.1, h.1, h.3, vtypes_fit is h.4 h.5.1)
  row_fits before (FullFrame d is ss) delta locals stack h =
      (h.0, h.2.0, vtypes_fit is locals h.2.1, h.3.0, vtypes_fit ss stack h.3.1)

  -- ---- frames

  module _ (max_stack max_locals : ℕ) where
    -- the frame at an instruction, and what stands before the next row
    abbrev placed : Written → ℕ → ℕ → FrameAt × Before
    placed w offset n =
        (frame_at pool starts ops max_stack max_locals w n, record { locals = w.locals; offset = Some offset })

    -- a frame that is computed from a row is the one that the row stands for
    frame_found : (before : Before) (row : StackMapFrame) (frame : FrameAt) (next : Before) → FitsRow row
        → row_stands pool starts ops max_stack max_locals before row ≡ Some (frame, next)
        → (offset : ℕ)
        × IsFrameAt pool starts ins max_stack max_locals before.locals before.offset row frame next.locals offset
        × (next.offset ≡ Some offset)
    frame_found before row frame next fit h =
        let a = both_there (λ (w : Written). frame_of pool starts ops max_stack max_locals
        (offset_behind before.offset w.delta) w) (written_by pool starts ops before.locals row) (frame, next) h in
        let w : Written = a.0 in
        by w (written_found before.locals row w fit a.1) (leb (words_of_types w.locals) max_locals)
        (leb (words_of_types w.stack) max_stack) refl refl a.2
      where
        by : (w : Written) → IsFrame pool starts ins before.locals row w.delta w.locals w.stack → (a b : Bool)
            → leb (words_of_types w.locals) max_locals ≡ a → leb (words_of_types w.stack) max_stack ≡ b
            → cond (a && b) (option_map (placed w (offset_behind before.offset w.delta))
            (position (nat_eq (offset_behind before.offset w.delta)) starts)) None ≡ Some (frame, next)
            → (offset : ℕ)
            × IsFrameAt pool starts ins max_stack max_locals before.locals before.offset row frame next.locals offset
            × (next.offset ≡ Some offset)
        by w stands true true ea eb g =
            let offset = offset_behind before.offset w.delta in
            let m = mapped (placed w offset) (position (nat_eq offset) starts) (frame, next) g in
            let is : IsFrameAt pool starts ins max_stack max_locals before.locals before.offset row
            (frame_at pool starts ops max_stack max_locals w m.0) w.locals offset = record {
              delta = w.delta;
              stands = stands;
              offset_is = refl;
              index = place_found offset m.0 m.1;
              cut = refl;
              locals_fit = leb-true _ _ ea;
              stack_fits = leb-true _ _ eb;
            } in
            let both_are = subst
            (λ (z : FrameAt
            × Before). IsFrameAt pool starts ins max_stack max_locals before.locals before.offset row z.0 z.1.locals
            offset × (z.1.offset ≡ Some offset)) m.2 (is, refl) in
            (offset, both_are.0, both_are.1)
        by w stands true false ea eb g = absurd cc
        by w stands false b ea eb g = absurd cc

    -- the frame that a row stands for is computed from it
    frame_only : (locals : List VType) (previous : Option ℕ) (row : StackMapFrame) (frame : FrameAt)
        (after : List VType) (offset : ℕ)
        → IsFrameAt pool starts ins max_stack max_locals locals previous row frame after offset
        → row_stands pool starts ops max_stack max_locals (record { locals = locals; offset = previous }) row
        ≡ Some (frame, record { locals = after; offset = Some offset })
    frame_only locals previous row frame after offset h =
        let w : Written = record { delta = h.delta; locals = after; stack = frame.frame.stack } in
        let fit : fits pool starts ops max_stack max_locals w
        ≡ true = rw (le-leb _ _ h.locals_fit, le-leb _ _ h.stack_fits) refl in
        let at : position (nat_eq (offset_behind previous h.delta)) starts
        ≡ Some frame.index = ap (λ (k : ℕ). position (nat_eq k) starts) (sym h.offset_is)
        ∙ place_only offset frame.index h.index in
        rw (written_only locals row w h.stands, fit, at)
        (λ i. Some (
          record {
            index = frame.index;
            frame = record {
              locals =
                  (sym h.cut) i;
              stack = frame.frame.stack;
            };
          },
          record {
            locals = after;
            offset = Some
                ((sym h.offset_is) i);
          },
        ))

    -- rows stand for the frames that are computed from them
    pub rows_found : (before : Before) (rows : List StackMapFrame) (frames : List FrameAt)
        → AreRows pool starts ops max_stack max_locals before rows frames
        → AreFrames pool starts ins max_stack max_locals before.locals before.offset rows frames
    rows_found before [] frames h = subst
        (λ (fs : List FrameAt). AreFrames pool starts ins max_stack max_locals before.locals before.offset [] fs)
        (sym h) tt
    rows_found before (row ∷ rows) frames h =
        let f = frame_found before row h.0 h.1 h.2 h.3 in
        let o = rows_found h.1 rows h.4.0 h.4.2 in
        subst (λ (fs : List FrameAt). AreFrames pool starts ins max_stack max_locals before.locals before.offset
        (row ∷ rows) fs) (sym h.4.1) (
          h.1.locals,
          f.0,
          f.1,
          subst
              (λ (p : Option ℕ). AreFrames pool starts ins max_stack max_locals h.1.locals p rows h.4.0) f.2 o,
        )

    pub rows_only : (locals : List VType) (previous : Option ℕ) (rows : List StackMapFrame) (frames : List FrameAt)
        → AreFrames pool starts ins max_stack max_locals locals previous rows frames
        → AreRows pool starts ops max_stack max_locals (record { locals = locals; offset = previous }) rows frames
    rows_only locals previous [] [] h = refl
    rows_only locals previous [] (frame ∷ frames) h = absurd h
    rows_only locals previous (row ∷ rows) [] h = absurd h
    rows_only locals previous (row ∷ rows) (frame ∷ frames) h = (
      frame,
      record { locals = h.0; offset = Some h.1 },
      row_fits locals row h.2.delta h.0 frame.frame.stack h.2.stands,
      frame_only locals previous row frame h.0 h.1 h.2,
      (frames, refl, rows_only h.0 (Some h.1) rows frames h.3),
    )
