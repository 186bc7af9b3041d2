-- Reading rows one behind the other, as a loop does.
use Rattle.std.proofs.Common.{◌≡◌, ℕ, suc, ◌-◌, ◌+◌, ◌≤◌, ◌<◌, Bool, false, ◌||◌, List, [], ◌∷◌, ◌++◌, Result, Ok}
use Rattle.std.proofs.Common.{Err, Option, Some, None, refl, sym, ap, ◌∙◌, append_assoc, arith}
use Rattle.std.proofs.lemmas.List.{append-nil}
use Rattle.jv_base.specs.Place.{Place}
use Rattle.jv_base.specs.declared.outcome.Or.{Or}
use Rattle.jv_base.specs.declared.outcome.Or.TheVariants.{Fault, OutOfMemory}
use Rattle.format_reading.specs.declared.fault.FormatFault.{FormatFault}
use Rattle.format_reading.specs.Reader.{ReadsAsOr, after_read, bind, give, here, settle}
use Rattle.class_model.specs.declared.pool.Entry.{Entry}
use Rattle.class_model.specs.declared.op.Op.{Op}
use Rattle.class_model.specs.declared.frame.FrameAt.{FrameAt}
use Rattle.class_model.specs.ReadingFrames.{Before, read_frame, read_frames_behind, read_row, row_stands}
use Rattle.class_model.specs.Frames.{StackMapFrame, names_float}
use Rattle.class_model.specs.FrameLists.{Built}
use Rattle.frame_read.specs.bodies.Before.{built_of, onto, read_onto, row_read}
use Rattle.std.proofs.Math.Bool.{or-false, or_assoc}

-- rows with their frames: whether one names a float or a double, and the frames
abbrev pub Rows : Type 0
Rows = Result ((Bool × List FrameAt) × Place) FormatFault

-- what is read, behind what was read before
abbrev pub joined : Bool → List FrameAt → Rows → Rows
joined floats front (Ok x) = Ok ((floats || x.0.0, front ++ x.0.1), x.1)
joined floats front (Err f) = Err f

-- before anything was read
pub joined_nothing : (read : Rows) → joined false [] read ≡ read
joined_nothing (Ok x) = refl
joined_nothing (Err f) = refl

-- ---- a row whose frame is appended

-- a row that is read
abbrev pub Row : Type 0
Row = Result ((Bool × FrameAt × Before) × Place) FormatFault

-- its frame is the one behind the others
pub onto_is : (front frames : List FrameAt) (read : Row) (floats : Bool) (before : Before) (after : Place)
    → read_onto front read ≡ Ok ((floats, frames, before), after)
    → (frame : FrameAt) × (read ≡ Ok ((floats, frame, before), after)) × (frames ≡ front ++ frame ∷ [])
onto_is front frames (Ok x) floats before after h =
    let e : ((x.0.0, front ++ x.0.1 ∷ [], x.0.2), x.1) ≡ ((floats, frames, before), after) = cc in
    let float : x.0.0 ≡ floats = ap (λ (r : (Bool × List FrameAt × Before) × Place). r.0.0) e in
    let list : front ++ x.0.1 ∷ [] ≡ frames = ap (λ (r : (Bool × List FrameAt × Before) × Place). r.0.1) e in
    let next : x.0.2 ≡ before = ap (λ (r : (Bool × List FrameAt × Before) × Place). r.0.2) e in
    let behind : x.1 ≡ after = ap (λ (r : (Bool × List FrameAt × Before) × Place). r.1) e in
    (x.0.1, rw (← float, ← next, ← behind) refl, sym list)
onto_is front frames (Err f) floats before after h = absurd cc

pub onto_fault : (front : List FrameAt) (read : Row) (f : FormatFault) → read_onto front read ≡ Err f → read ≡ Err f
onto_fault front (Ok x) f h = absurd cc
onto_fault front (Err g) f h = let e : g ≡ f = cc in ap (λ (x : FormatFault). let R : Row = Err x in R) e

-- the frame of a row that stands is the one behind the others
pub stands_onto : (front : List FrameAt) (built : Built) (at : ℕ) (next : Option (FrameAt × Before))
    → Some (built_of built at) ≡ onto front next
    → (n : FrameAt × Before) × (next ≡ Some n) × ((front ++ n.0 ∷ [], n.1) ≡ built_of built at)
stands_onto front built at (Some n) h = (n, refl, cc)
stands_onto front built at None h = absurd cc

-- ---- rows

regroup : (floats : Bool) (front : List FrameAt) (float : Bool) (frame : FrameAt) (read : Rows)
    → joined floats front (joined float (frame ∷ []) read) ≡ joined (floats || float) (front ++ frame ∷ []) read
regroup floats front float frame (Ok x) =
    let frames : front ++ (frame ∷ x.0.1) ≡ (front ++ frame ∷ []) ++ x.0.1 = simp append_assoc refl in
    ap (λ (fs : List FrameAt). let R : Rows = Ok ((floats || (float || x.0.0), fs), x.1) in R) frames
    ∙ ap (λ (b : Bool). let R : Rows = Ok ((b, (front ++ frame ∷ []) ++ x.0.1), x.1) in R)
    (sym (or_assoc floats float x.0.0))
regroup floats front float frame (Err f) = refl

first_read : (at : ℕ) (row : Bool × FrameAt × Before) (read : Rows)
    → after_read at (λ (others : Bool × List FrameAt). Ok (give (row.0 || others.0, row.1 ∷ others.1))) read
    ≡ joined row.0 (row.1 ∷ []) read
unfolding give
first_read at row (Ok x) = refl
first_read at row (Err f) = refl

module _ (pool : List Entry) (starts : List ℕ) (ops : List Op) (max_stack max_locals : ℕ) where
  -- so many rows behind a frame
  abbrev pub rows_behind : ℕ → Before → Place → Rows
  rows_behind n before p = read_frames_behind pool starts ops max_stack max_locals n before p

  -- a row that stands is read
  stands_read : (before : Before) (p q : Place) (row : StackMapFrame) (n : FrameAt × Before) → read_row p ≡ Ok (row, q)
      → row_stands pool starts ops max_stack max_locals before row ≡ Some n
      → read_frame pool starts ops max_stack max_locals before p ≡ Ok ((names_float row, n.0, n.1), q)
  unfolding read_frame bind here settle give
  stands_read before p q row n h k = rw (h, k) refl

  -- with the frames before
  pub row_appended : (front : List FrameAt) (built : Built) (at : ℕ) (before : Before) (p q : Place)
      (row : StackMapFrame)
      → read_row p ≡ Ok (row, q)
      → Some (built_of built at) ≡ onto front (row_stands pool starts ops max_stack max_locals before row)
      → read_onto front (read_frame pool starts ops max_stack max_locals before p)
      ≡ Ok (row_read built (names_float row, at), q)
  row_appended front built at before p q row h k =
      let s = stands_onto front built at (row_stands pool starts ops max_stack max_locals before row) k in
      ap (read_onto front) (stands_read before p q row s.0 h s.1)
      ∙ ap (λ (x : List FrameAt × Before). let R : Result ((Bool × List FrameAt × Before) × Place) FormatFault
      = Ok ((names_float row, x.0, x.1), q) in R) s.2

  next_is : (n : ℕ) (before : Before) (p after : Place) (row : Bool × FrameAt × Before)
      → read_frame pool starts ops max_stack max_locals before p ≡ Ok (row, after)
      → rows_behind (suc n) before p ≡ joined row.0 (row.1 ∷ []) (rows_behind n row.2 after)
  unfolding read_frames_behind bind
  next_is n before p after row h = rw h (first_read after.at row (rows_behind n row.2 after))

  -- one more row was read
  pub rows_go_on : (floats : Bool) (front : List FrameAt) (count i : ℕ) (before : Before) (p after : Place)
      (row : Bool × FrameAt
      × Before) (total : Rows) → i < count
      → read_frame pool starts ops max_stack max_locals before p ≡ Ok (row, after)
      → joined floats front (rows_behind (count - i) before p) ≡ total
      → joined (floats || row.0) (front ++ row.1 ∷ []) (rows_behind (count - (i + 1)) row.2 after) ≡ total
  rows_go_on floats front count i before p after row total lt h so_far =
      let k : count - i ≡ suc (count - (i + 1)) = omega arith in
      let one : rows_behind (count - i) before p
      ≡ joined row.0 (row.1 ∷ []) (rows_behind (count - (i + 1)) row.2 after) = ap
      (λ j. rows_behind j before p) k ∙ next_is (count - (i + 1)) before p after row h in
      sym (ap (joined floats front) one ∙ regroup floats front row.0 row.1 (rows_behind (count - (i + 1)) row.2 after))
      ∙ so_far

  -- at a fault the whole is that fault
  pub rows_stop : {T U : Type 0} (seen : T → Bool × List FrameAt × Before) (view : U → Bool × List FrameAt)
      (e : Or FormatFault) (new q : Place) (floats : Bool) (front : List FrameAt) (count i : ℕ) (before : Before)
      (p : Place)
      (total : Rows) → i < count
      → ReadsAsOr seen (Err e) new (read_onto front (read_frame pool starts ops max_stack max_locals before p))
      → joined floats front (rows_behind (count - i) before p) ≡ total → ReadsAsOr view (Err e) q total
  unfolding read_frames_behind bind
  rows_stop seen view OutOfMemory new q floats front count i before p total lt h so_far = tt
  rows_stop seen view (Fault f) new q floats front count i before p total lt h so_far =
      let k : count - i ≡ suc (count - (i + 1)) = omega arith in
      let fault = onto_fault front (read_frame pool starts ops max_stack max_locals before p) f h in
      let one : rows_behind (count - i) before p ≡ Err f = rw (k, fault) refl in
      sym so_far ∙ ap (joined floats front) one

  -- after the last row the whole is what was read
  pub rows_done : (floats : Bool) (front : List FrameAt) (count i : ℕ) (before : Before) (p : Place) (total : Rows)
      → count ≤ i
      → joined floats front (rows_behind (count - i) before p) ≡ total
      → total ≡ Ok ((floats, front), p)
  unfolding read_frames_behind give
  rows_done floats front count i before p total le so_far =
      let k : count - i ≡ 0 = omega arith in
      let one : rows_behind (count - i) before p ≡ Ok ((false, []), p) = rw k refl in
      sym so_far ∙ ap (joined floats front) one
      ∙ ap (λ (fs : List FrameAt). let R : Rows = Ok ((floats || false, fs), p) in R)
      (append-nil front)
      ∙ ap (λ (b : Bool). let R : Rows = Ok ((b, front), p) in R) (or-false floats)
