-- The frames of a StackMapTable are read exactly where its rows stand for them (JVMS 4.7.4).
use Rattle.std.proofs.Common.{◌≡◌, ℕ, zero, suc, ◌^◌, ◌<◌, Bool, false, ◌||◌, List, [], ◌∷◌, ◌++◌, length, Option, Some}
use Rattle.std.proofs.Common.{None, Ok, refl, sym, ap, subst, ◌∙◌, arith}
use Rattle.std.specs.Int.{w16, to_be_bytes}
use Rattle.std.specs.List.{flat_map, list_any}
use Rattle.std.proofs.lemmas.List.{append-nil}
use Rattle.std.proofs.lemmas.List.Concat.{flat_map-cons}
use Rattle.format_reading.specs.declared.fault.FormatKind.TheVariants as bad
use Rattle.format_reading.specs.Reader.{bind, give, settle}
use Rattle.format_reading.specs.Spelling.{Spells}
use Rattle.format_reading.proofs.Exact.{Exact, as_raw, bind_exact, map_exact, give_exact, here_exact, settle_exact}
use Rattle.format_reading.proofs.Exact.{u2_exact}
use Rattle.class_model.specs.declared.pool.Entry.{Entry}
use Rattle.class_model.specs.declared.op.Op.{Op}
use Rattle.class_model.specs.declared.frame.VType.{VType}
use Rattle.class_model.specs.declared.frame.FrameAt.{FrameAt}
use Rattle.class_model.specs.Frames.{StackMapFrame, SameFrame, stack_map_frame, stack_map_table, names_float}
use Rattle.class_model.specs.Lookups.{due}
use Rattle.class_model.specs.ReadingFrames.{Before, row_stands, read_row, read_frame, read_frames_behind, read_frames}
use Rattle.class_model.proofs.RowLaw.{FitsRow, row_exact}
use Rattle.class_model.proofs.NameLaw.{due_is}

-- ---- what is read of rows

module _ (pool : List Entry) (starts : List ℕ) (ops : List Op) (max_stack max_locals : ℕ) where
  -- a frame, whether its row names a float or a double, and the frame before the next row
  abbrev FrameRead : Type 0
  FrameRead = Bool × FrameAt × Before

  -- a row stands for a frame
  abbrev IsRow : Before → StackMapFrame → FrameRead → Type 0
  IsRow before row y = FitsRow row × (row_stands pool starts ops max_stack max_locals before row ≡ Some (y.1, y.2))
      × (y.0 ≡ names_float row)

  frame_exact : (before : Before)
      → Exact (read_frame pool starts ops max_stack max_locals before)
      (Spells stack_map_frame (λ _ row y. IsRow before row y))
  unfolding read_frame
  frame_exact before = as_raw stack_map_frame _ (λ w. w.1.0) (λ row. (tt, (row, tt)))
      (λ at w y h.
      let row-is : h.2.0 ≡ w.1.0 = h.2.1.1 in
      let made : y ≡ (names_float h.2.0, h.2.2.0.0, h.2.2.0.1) = h.2.2.2 in (
        append-nil (stack_map_frame w.1.0),
        (
          h.2.1.0,
          ap (row_stands pool starts ops max_stack max_locals before) (sym row-is)
              ∙ due_is bad.BadFrame (row_stands pool starts ops max_stack max_locals before h.2.0) h.2.2.0 h.2.2.1
              ∙ ap (λ (z : FrameRead). let o : Option (FrameAt × Before) = Some (z.1, z.2) in o) (sym made),
          ap (λ (z : FrameRead). z.0) made ∙ ap names_float row-is,
        ),
      ))
      (λ at row y h. (
        sym (append-nil (stack_map_frame row)),
        (at, refl, (row, (h.0, refl), ((y.1, y.2), ap (due bad.BadFrame) h.1, λ i. (h.2 i, y.1, y.2)))),
      ))
      (bind_exact (λ at. bind read_row (λ row. bind (settle at
      (due bad.BadFrame (row_stands pool starts ops max_stack max_locals before row)))
      (λ frame. give (names_float row, frame.0, frame.1))))
      (λ (v : StackMapFrame × Unit {0}). stack_map_frame v.0 ++ [])
      (λ at _ v y. (row : StackMapFrame) × (FitsRow v.0 × (row ≡ v.0))
      × ((frame : FrameAt × Before)
      × (due bad.BadFrame (row_stands pool starts ops max_stack max_locals before row) ≡ Ok frame)
      × (y ≡ (names_float row, frame.0, frame.1))))
      here_exact
      (λ at. bind_exact (λ row. bind (settle at (due bad.BadFrame
      (row_stands pool starts ops max_stack max_locals before row)))
      (λ frame. give (names_float row, frame.0, frame.1))) (λ (u : Unit {0}). [])
      (λ row _ u y. (frame : FrameAt × Before)
      × (due bad.BadFrame (row_stands pool starts ops max_stack max_locals before row) ≡ Ok frame)
      × (y ≡ (names_float row, frame.0, frame.1)))
      row_exact
      (λ row. map_exact (λ (frame : FrameAt × Before). let z : FrameRead = (names_float row, frame.0, frame.1) in z)
      (settle_exact at (due bad.BadFrame (row_stands pool starts ops max_stack max_locals before row))))))

  -- rows stand for frames, each behind the one before
  abbrev pub AreRows : Before → List StackMapFrame → List FrameAt → Type 0
  AreRows before [] frames = frames ≡ []
  AreRows before (row ∷ rows) frames = (frame : FrameAt) × (next : Before) × FitsRow row
      × (row_stands pool starts ops max_stack max_locals before row ≡ Some (frame, next))
      × ((others : List FrameAt) × (frames ≡ frame ∷ others) × AreRows next rows others)

  -- the frames, and whether a row names a float or a double
  abbrev Frames : Type 0
  Frames = Bool × List FrameAt

  abbrev AreRead : ℕ → Before → List StackMapFrame → Frames → Type 0
  AreRead n before rows y = (length rows ≡ n) × AreRows before rows y.1 × (y.0 ≡ list_any names_float rows)

  behind_exact : (n : ℕ) (before : Before)
      → Exact (read_frames_behind pool starts ops max_stack max_locals n before)
      (Spells (flat_map stack_map_frame) (λ _ rows y. AreRead n before rows y))
  unfolding read_frames_behind
  behind_exact zero before = as_raw (flat_map stack_map_frame) _ (λ u. []) (λ rows. tt)
      (λ at u y h. (refl, (refl, ap (λ (z : Frames). z.1) h, ap (λ (z : Frames). z.0) h)))
      (λ at rows y h. none rows y h.0 h.1 h.2)
      (give_exact (false, []))
    where
      none : (rows : List StackMapFrame) (y : Frames) → length rows ≡ 0 → AreRows before rows y.1
          → y.0 ≡ list_any names_float rows → (flat_map stack_map_frame rows ≡ []) × (y ≡ (false, []))
      none [] y len a f = (refl, λ i. (f i, a i))
      none (row ∷ rows) y len a f = absurd (omega (arith, len))
  behind_exact (suc n) before = as_raw (flat_map stack_map_frame) _ (λ w. w.0 ∷ w.1)
      (λ rows. (head_of rows, tail_of rows))
      (λ at w y h.
      let first : FrameRead = h.0 in
      let o = h.2.1 in
      let is : y ≡ (first.0 || h.2.0.0, first.1 ∷ h.2.0.1) = h.2.2 in (
        sym (flat_map-cons stack_map_frame w.0 w.1),
        (
          ap suc o.0,
          (first.1, first.2, h.1.0, h.1.1, (h.2.0.1, ap (λ (z : Frames). z.1) is, o.1)),
          ap (λ (z : Frames). z.0) is ∙ ap (λ (b : Bool). b || h.2.0.0) h.1.2
              ∙ ap (λ (b : Bool). names_float w.0 || b) o.2,
        ),
      ))
      (λ at rows y h. some rows y h.0 h.1 h.2)
      (bind_exact (λ (first : FrameRead). bind (read_frames_behind pool starts ops max_stack max_locals n first.2)
      (λ others. give (first.0 || others.0, first.1 ∷ others.1))) (flat_map stack_map_frame)
      (λ (first : FrameRead) _ rows y. (others : Frames) × AreRead n first.2 rows others
      × (y ≡ (first.0 || others.0, first.1 ∷ others.1)))
      (frame_exact before)
      (λ (first : FrameRead). map_exact
      (λ (others : Frames). let z : Frames = (first.0 || others.0, first.1 ∷ others.1) in z)
      (behind_exact n first.2)))
    where
      head_of : List StackMapFrame → StackMapFrame
      head_of [] = SameFrame 0
      head_of (row ∷ rows) = row

      tail_of : List StackMapFrame → List StackMapFrame
      tail_of [] = []
      tail_of (row ∷ rows) = rows

      some : (rows : List StackMapFrame) (y : Frames) → length rows ≡ suc n → AreRows before rows y.1
          → y.0 ≡ list_any names_float rows
          → (flat_map stack_map_frame rows ≡ stack_map_frame (head_of rows) ++ flat_map stack_map_frame (tail_of rows))
          × ((first : FrameRead) × IsRow before (head_of rows) first
          × ((others : Frames) × AreRead n first.2 (tail_of rows) others
          × (y ≡ (first.0 || others.0, first.1 ∷ others.1))))
      some [] y len a f = absurd (omega (arith, len))
      some (row ∷ rows) y len a f = (
        flat_map-cons stack_map_frame row rows,
        (
          (names_float row, a.0, a.1),
          (a.2, a.3, refl),
          ((list_any names_float rows, a.4.0), (omega (arith, len), a.4.2, refl), λ i. (f i, a.4.1 i)),
        ),
      )

  -- the contents of the attribute
  pub frames_exact : (first : List VType)
      → Exact (read_frames pool starts ops max_stack max_locals first)
      (Spells stack_map_table
      (λ _ rows y. (length rows < 2 ^ 16) × AreRows (record { locals = first; offset = None }) rows y.1
      × (y.0 ≡ list_any names_float rows)))
  unfolding read_frames
  frames_exact first = as_raw stack_map_table _ (λ w. w.1) (λ rows. (length rows, rows))
      (λ at w y h.
      let n : length w.1 ≡ w.0 = h.2.0 ∙ h.1.1 in (
        ap (λ (m : ℕ). to_be_bytes w16 m ++ flat_map stack_map_frame w.1) (sym n),
        (subst (λ (m : ℕ). m < 2 ^ 16) (sym n) h.1.0, h.2.1, h.2.2),
      ))
      (λ at rows y h. (refl, (length rows, (h.0, refl), (refl, h.1, h.2))))
      (bind_exact (λ n. read_frames_behind pool starts ops max_stack max_locals n
      (record { locals = first; offset = None })) (flat_map stack_map_frame)
      (λ n _ rows y. AreRead n (record { locals = first; offset = None }) rows y) u2_exact
      (λ n. behind_exact n (record { locals = first; offset = None })))
