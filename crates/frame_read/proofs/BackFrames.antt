-- Canonical rows are read as their frames (JVMS 4.7.4).
use Rattle.std.proofs.Common.{◌≡◌, ℕ, zero, suc, ◌+◌, ◌-◌, ◌^◌, ◌<◌, ◌≤◌, Bool, true, false, ◌||◌, cond, leb, eqb, List}
use Rattle.std.proofs.Common.{[], ◌∷◌, ◌++◌, length, take, drop, Option, Some, None, Result, Ok, refl, sym, ap, subst}
use Rattle.std.proofs.Common.{◌∙◌, arith}
use Rattle.std.specs.Prelude.{option_and_then, slice_index}
use Rattle.std.specs.Int.{w16, to_be_bytes}
use Rattle.std.specs.List.{AllByRecursion, flat_map}
use Rattle.std.proofs.lemmas.Bool.{le-leb, leb-true, eq-eqb, and_parts}
use Rattle.std.proofs.lemmas.List.{take-append-drop, length-drop}
use Rattle.jv_base.specs.Place.{Place, start, after}
use Rattle.format_reading.specs.Reader.{u2, bind, give, here, settle}
use Rattle.format_reading.specs.declared.fault.FormatFault.{FormatFault}
use Rattle.format_reading.specs.declared.fault.FormatKind.{FormatKind}
use Rattle.format_reading.specs.declared.fault.FormatKind.TheVariants as bad
use Rattle.format_reading.proofs.Exact.{bind_is}
use Rattle.class_model.specs.Lookups.{due}
use Rattle.class_model.specs.declared.pool.Entry.{Entry}
use Rattle.class_model.specs.declared.op.Op.{Op}
use Rattle.class_model.specs.declared.constant.PoolConstant.{PoolConstant}
use Rattle.class_model.specs.declared.frame.VType.{VType}
use Rattle.class_model.specs.declared.frame.FrameAt.{FrameAt}
use Rattle.class_model.specs.CanonicalFrames as canonical
use Rattle.class_model.specs.CanonicalFrames.{Form, type_info, row, rows, form_of, is_chop, is_append, same_types}
use Rattle.class_model.specs.CanonicalFrames.{delta_to}
use Rattle.class_model.specs.Frames.{StackMapFrame, stack_map_frame, stack_map_table, names_float, words_of_types}
use Rattle.class_model.specs.Frames.{offset_behind}
use Rattle.class_model.specs.ReadingFrames.{Before, Written, written, frame_of, row_stands, read_row, read_frame}
use Rattle.class_model.specs.ReadingFrames.{read_frames_behind, read_frames}
use Rattle.frame_read.specs.ReadBack.{IsKnownType, IsKnownFrame, IsBehind, Follow, FramesAreReadBack}
use Rattle.frame_read.specs.Table.{whole}
use Rattle.class_laws.proofs.Sameness.{same_types_are}
use Rattle.class_laws.proofs.FrameRows.{rows_counted}
use Rattle.frame_read.proofs.BackRows.{row_is_read}
use Rattle.frame_read.proofs.BackForms.{Stands, same_stands, item_stands, chop_stands, append_stands, full_stands}
use Rattle.class_model.proofs.BackRead.{give_is, here_is, takes_all}
use Rattle.class_model.proofs.BackReaders.{Gets, gets_give, gets_bind, gets_map, gets_u2}

-- a delta leads back to its offset
offset_back : (constants : List PoolConstant) (starts : List ℕ) (previous : Option ℕ) (offset : ℕ)
    → ((n : ℕ) → previous ≡ Some n
    → n < offset) → offset_behind previous (delta_to constants starts previous offset) ≡ offset
offset_back constants starts None offset behind = refl
offset_back constants starts (Some n) offset behind = let lt = behind n refl in omega (arith, lt)

delta_short : (constants : List PoolConstant) (starts : List ℕ) (previous : Option ℕ) (offset : ℕ) → offset < 2 ^ 16
    → delta_to constants starts previous offset < 2 ^ 16
delta_short constants starts None offset lt = lt
delta_short constants starts (Some n) offset lt = omega (arith, lt)

module _ (entries : List Entry) (constants : List PoolConstant) (starts : List ℕ) (ops : List Op) where
  abbrev Known : VType → Type 0
  Known ty = IsKnownType entries constants starts ops ty

  -- ---- the first form that fits

  known_behind : (n : ℕ) (types : List VType) → AllByRecursion Known types → AllByRecursion Known (drop n types)
  known_behind zero types known = known
  known_behind (suc n) [] known = tt
  known_behind (suc n) (ty ∷ types) known = known_behind n types known.1

  empty_by : (before locals : List VType) (delta : ℕ) (same chops appends : Bool) → same_types before locals ≡ same
      → is_chop before locals ≡ chops → is_append before locals ≡ appends
      → delta < 2 ^ 16 → length locals < 2 ^ 16 → AllByRecursion Known locals
      → Stands entries constants starts ops before delta
      (cond same canonical.same
      (cond chops (canonical.chop (length before - length locals)) (cond appends (canonical.append (drop
      (length before) locals)) (canonical.full locals [])))) locals []
  empty_by before locals delta true chops appends same c a lt short known = same_stands entries constants starts ops
      before locals delta
      (same_types_are before locals same) lt
  empty_by before locals delta false true appends s chops a lt short known =
      let parts = and_parts _ _ chops in
      let range = and_parts _ _ parts.0 in
      let least : 1 ≤ length before - length locals = leb-true _ _ range.0 in
      let most : length before - length locals ≤ 3 = leb-true _ _ range.1 in
      let left : length before - (length before - length locals) ≡ length locals = omega (arith, least) in
      let there : length before - length locals ≤ length before = omega arith in
      chop_stands entries constants starts ops before locals delta (length before - length locals) least most there
      (ap (λ (k : ℕ). take k before) left ∙ sym (same_types_are locals (take (length locals) before) parts.1)) lt
  empty_by before locals delta false false true s c appends lt short known =
      let parts = and_parts _ _ appends in
      let range = and_parts _ _ parts.0 in
      let least : 1 ≤ length locals - length before = leb-true _ _ range.0 in
      let most : length locals - length before ≤ 3 = leb-true _ _ range.1 in
      let size = length-drop (length before) locals in
      let whole_list : before ++ drop (length before) locals ≡ locals =
      ap (λ (front : List VType). front ++ drop (length before) locals)
      (same_types_are before (take (length before) locals) parts.1)
      ∙ take-append-drop (length before) locals in
      append_stands entries constants starts ops before locals (drop (length before) locals) delta
      (omega (arith, size, least)) (omega
      (arith, size, most)) whole_list lt
      (known_behind (length before) locals known)
  empty_by before locals delta false false false s c a lt short known = full_stands entries constants starts ops before
      locals [] delta lt
      short (omega arith) known tt

  item_by : (before locals : List VType) (delta : ℕ) (item : VType) (same : Bool) → same_types before locals ≡ same
      → delta < 2 ^ 16
      → length locals < 2 ^ 16 → AllByRecursion Known locals → Known item
      → Stands entries constants starts ops before delta
      (cond same (canonical.same_with_item item) (canonical.full locals
      (item ∷ []))) locals (item ∷ [])
  item_by before locals delta item true same lt short known known_item = item_stands entries constants starts ops
      before locals delta item
      (same_types_are before locals same) lt known_item
  item_by before locals delta item false same lt short known known_item = full_stands entries constants starts ops
      before locals
      (item ∷ []) delta lt short (omega arith) known (known_item, tt)

  form_stands : (before locals stack : List VType) (delta : ℕ) → delta < 2 ^ 16 → length locals < 2 ^ 16
      → length stack < 2 ^ 16
      → AllByRecursion Known locals → AllByRecursion Known stack
      → Stands entries constants starts ops before delta (form_of before locals stack) locals stack
  form_stands before locals [] delta lt short stack_short known known_stack =
      empty_by before locals delta (same_types before locals) (is_chop before locals)
      (is_append before locals) refl refl refl lt short known
  form_stands before locals (item ∷ []) delta lt short stack_short known known_stack =
      item_by before locals delta item (same_types before locals) refl lt short known known_stack.0
  form_stands before locals (item ∷ next ∷ stack) delta lt short stack_short known known_stack =
      full_stands entries constants starts ops before locals
      (item ∷ next ∷ stack) delta lt short stack_short known known_stack

  module _ (max_stack max_locals : ℕ) where
    abbrev KnownFrame : FrameAt → Type 0
    KnownFrame frame = IsKnownFrame entries constants starts ops max_stack max_locals frame

    -- ---- rows

    -- the frame as the one before the next
    abbrev as_before : FrameAt → Before
    as_before frame = record { locals = frame.frame.locals; offset = Some (slice_index starts frame.index) }

    -- the canonical row of a frame
    abbrev row_for : Before → FrameAt → StackMapFrame
    row_for before frame = row constants starts
        (delta_to constants starts before.offset (slice_index starts frame.index))
        (form_of before.locals frame.frame.locals frame.frame.stack)

    behind_is : (previous : Option ℕ) (offset : ℕ) → IsBehind entries constants starts ops previous offset → (n : ℕ)
        → previous ≡ Some n
        → n < offset
    behind_is None offset behind n is = absurd cc
    behind_is (Some m) offset behind n is = let e : m ≡ n = cc in subst (λ (k : ℕ). k < offset) e behind

    frame_found : (offset : ℕ) (delta : ℕ) (frame : FrameAt) → offset ≡ slice_index starts frame.index
        → KnownFrame frame
        → frame_of entries starts ops max_stack max_locals offset
        (written entries starts ops delta frame.frame.locals frame.frame.stack) ≡ Some (frame, as_before frame)
    frame_found offset delta frame is known =
        let locals_fit : leb (words_of_types frame.frame.locals) max_locals ≡ true = le-leb _ _ known.locals_fit in
        let stack_fits : leb (words_of_types frame.frame.stack) max_stack ≡ true = le-leb _ _ known.stack_fits in
        let number = known.place.number in
        rw (is, locals_fit, stack_fits, number, known.cut) refl

    stands_back : (before : Before) (frame : FrameAt) → KnownFrame frame
        → IsBehind entries constants starts ops before.offset (slice_index starts frame.index)
        → Stands entries constants starts ops before.locals
        (delta_to constants starts before.offset (slice_index starts frame.index))
        (form_of before.locals frame.frame.locals frame.frame.stack) frame.frame.locals frame.frame.stack
        → row_stands entries starts ops max_stack max_locals before (row_for before frame)
        ≡ Some (frame, as_before frame)
    stands_back before frame known behind stands =
        let delta = delta_to constants starts before.offset (slice_index starts frame.index) in
        ap (option_and_then (λ (w : Written). frame_of entries starts ops max_stack max_locals
        (offset_behind before.offset w.delta) w)) stands.writes
        ∙ frame_found (offset_behind before.offset delta) delta frame (offset_back constants starts before.offset
        (slice_index starts frame.index) (behind_is before.offset (slice_index starts frame.index) behind)) known

    settle_is : {A : Type 0} (at : ℕ) (x : A) (p : Place)
        → settle at (let R : Result A FormatKind = Ok x in R) p ≡ Ok (x, p)
    unfolding settle
    settle_is at x p = refl

    frame_back : (before : Before) (frame : FrameAt) → KnownFrame frame
        → IsBehind entries constants starts ops before.offset (slice_index starts frame.index)
        → Gets (read_frame entries starts ops max_stack max_locals before) (stack_map_frame (row_for before frame))
        (false, frame, as_before frame)
    unfolding read_frame
    frame_back before frame known behind p q taken =
        let offset = slice_index starts frame.index in
        let delta = delta_to constants starts before.offset offset in
        let stands = form_stands before.locals frame.frame.locals frame.frame.stack delta
        (delta_short constants starts before.offset offset known.place.offset) known.locals_short known.stack_short
        known.locals
        known.stack in
        let r = row_for before frame in
        let found : due bad.BadFrame (row_stands entries starts ops max_stack max_locals before r)
        ≡ Ok (frame, as_before frame) = ap (due bad.BadFrame) (stands_back before frame known behind stands) in
        bind_is here _ p p p.at (here_is p)
        ∙ bind_is read_row _ p q r (row_is_read r stands.is_read p q taken)
        ∙ ap (λ (d : Result (FrameAt × Before) FormatKind). bind (settle p.at d) (λ (f : FrameAt
        × Before). give (names_float r, f.0, f.1)) q) found
        ∙ bind_is (settle p.at (Ok (frame, as_before frame))) (λ (f : FrameAt
        × Before). give (names_float r, f.0, f.1)) q q (frame, as_before frame)
        (settle_is p.at (frame, as_before frame) q)
        ∙ give_is (names_float r, frame, as_before frame) q
        ∙ ap (λ (b : Bool). let R : Result ((Bool × FrameAt × Before)
        × Place) FormatFault = Ok ((b, frame, as_before frame), q) in R) stands.floats

    frames_back : (frames : List FrameAt) (before : Before) → AllByRecursion KnownFrame frames
        → Follow entries constants starts ops before.offset frames
        → Gets (read_frames_behind entries starts ops max_stack max_locals (length frames) before)
        (flat_map stack_map_frame
        (rows constants starts before.locals before.offset frames)) (false, frames)
    unfolding read_frames_behind
    frames_back [] before known follow = gets_give (false, [])
    frames_back (frame ∷ frames) before known follow =
        let others = frames_back frames (as_before frame) known.1 follow.1 in
        gets_bind (read_frame entries starts ops max_stack max_locals before)
        (λ (first : Bool × FrameAt × Before). bind
        (read_frames_behind entries starts ops max_stack max_locals (length frames) first.2)
        (λ (rest : Bool × List FrameAt). give (first.0 || rest.0, first.1 ∷ rest.1)))
        (stack_map_frame (row_for before frame))
        (flat_map stack_map_frame (rows constants starts frame.frame.locals (Some
        (slice_index starts frame.index)) frames)) (false, frame, as_before frame) (false, frame ∷ frames)
        (frame_back before frame known.0 follow.0)
        (gets_map (read_frames_behind entries starts ops max_stack max_locals (length frames) (as_before frame))
        (λ (rest : Bool
        × List FrameAt). (let P : Bool × List FrameAt = (false || rest.0, frame ∷ rest.1) in P)) _
        (false, frames) others)

    -- the contents of a StackMapTable
    table_back : (first : List VType) (frames : List FrameAt) → length frames < 2 ^ 16
        → AllByRecursion KnownFrame frames
        → Follow entries constants starts ops None frames
        → Gets (read_frames entries starts ops max_stack max_locals first)
        (stack_map_table (rows constants starts first None frames))
        (false, frames)
    unfolding read_frames
    table_back first frames short known follow =
        let rs = rows constants starts first None frames in
        let n : length rs ≡ length frames = rows_counted constants starts first None frames in
        let before : Before = record { locals = first; offset = None } in
        gets_bind u2 (λ k. read_frames_behind entries starts ops max_stack max_locals k before)
        (to_be_bytes w16 (length rs))
        (flat_map stack_map_frame rs) (length rs) (false, frames)
        (gets_u2 (length rs) (subst (λ (k : ℕ). k < 2 ^ 16) (sym n) short))
        (subst (λ (k : ℕ). Gets (read_frames_behind entries starts ops max_stack max_locals k before)
        (flat_map stack_map_frame rs)
        (let P : Bool × List FrameAt = (false, frames) in P)) (sym n) (frames_back frames before known follow))

at_end : (text : List ℕ) → eqb (0 + length text) (length text) ≡ true
at_end text = eq-eqb _ _ (omega arith)

-- the canonical rows of frames are read as these frames
pub frames_read_back : FramesAreReadBack
frames_read_back entries constants starts ops max_stack max_locals first frames short known follow =
    let text = stack_map_table (rows constants starts first None frames) in
    let given = table_back entries constants starts ops max_stack max_locals first frames short known follow
    (start text) (after
    (length text) (start text)) (takes_all text) in
    ap whole given ∙ rw (at_end text) refl
