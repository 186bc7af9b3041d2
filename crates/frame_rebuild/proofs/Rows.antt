-- Frames one after another.
use Rattle.std.proofs.Common.{◌≡◌, ℕ, zero, suc, ◌+◌, ◌<◌, Bool, true, false, cond, List, [], ◌∷◌, ◌++◌}
use Rattle.std.proofs.Common.{length, drop, refl, sym, ap, ◌∙◌, arith, append_assoc, ◌≤◌, ◌&&◌, not}
use Rattle.std.specs.Prelude.{◌==◌}
use mathlib.Core.List.{reverse}
use Rattle.std.proofs.lemmas.List.{drop_all, drop_more, reverse-append}
use Rattle.std.specs.List.{AllByRecursion}
use Rattle.class_model.specs.FrameLists.{frame_numbered, no_frame}
use Rattle.class_model.specs.declared.frame.FrameAt.{FrameAt}
use Rattle.code_edit.specs.Rewriting.{place}
use Rattle.edit_tables.specs.Marks.{has}
use Rattle.frame_rebuild.specs.Carried.{carried, counts, is_carried, moved_frame, next_place}
use Rattle.frame_rebuild.specs.bodies.Ends.{locals_before}
use Rattle.frame_rebuild.specs.bodies.Marks.{marks_of}

-- the frames from a number on are that of the number, and the rest
pub frames_from : (frames : List FrameAt) (n : ℕ) → n < length frames
    → drop n frames ≡ frame_numbered frames n ∷ drop (n + 1) frames
frames_from frames n lt = drop_more frames n no_frame lt

-- the locals before the next frame are those of this one
pub before_next : (frames : List FrameAt) (n : ℕ)
    → (frame_numbered frames n).frame.locals ≡ locals_before frames (n + 1)
before_next frames n = let next : suc n ≡ n + 1 = omega arith in ap (locals_before frames) next

-- what holds of all frames holds of that of a number
pub numbered_has : (P : FrameAt → Type 0) (frames : List FrameAt) (n : ℕ)
    → AllByRecursion P frames → n < length frames → P (frame_numbered frames n)
numbered_has P [] n h lt = absurd (omega (arith, lt))
numbered_has P (f ∷ fs) zero h lt = h.0
numbered_has P (f ∷ fs) (suc n) h lt = numbered_has P fs n h.1 (omega (arith, lt))

module _ (lives is_led : ℕ → Bool) (end : ℕ) where
  -- the mark of a frame
  pub has_mark : (frames : List FrameAt) (n : ℕ) → n < length frames
      → has (marks_of lives is_led end frames) n
      ≡ is_carried lives is_led end (frame_numbered frames n) (drop (n + 1) frames)
  unfolding marks_of
  has_mark [] n lt = absurd (omega (arith, lt))
  has_mark (f ∷ fs) zero lt = refl
  has_mark (f ∷ fs) (suc n) lt =
      let next : suc (n + 1) ≡ suc n + 1 = omega arith in
      has_mark fs n (omega (arith, lt))
      ∙ ap (λ (k : ℕ). is_carried lives is_led end (frame_numbered fs n) (drop k (f ∷ fs))) next

  -- ---- from the last one on

  pub next_none : (frames : List FrameAt) (n : ℕ) → length frames ≤ n
      → end ≡ next_place lives is_led end (drop n frames)
  unfolding next_place
  next_none frames n le = ap (next_place lives is_led end) (sym (drop_all n frames le))

  pub marks_none : (frames : List FrameAt) (n : ℕ) → length frames ≤ n
      → [] ≡ reverse (marks_of lives is_led end (drop n frames))
  unfolding marks_of
  marks_none frames n le =
      ap (λ (fs : List FrameAt). reverse (marks_of lives is_led end fs)) (sym (drop_all n frames le))

  module _ (frames : List FrameAt) (k left : ℕ) (step : k + 1 ≡ left) (lt : k < length frames) where
    abbrev this : FrameAt
    this = frame_numbered frames k

    from_this : drop k frames ≡ this ∷ drop left frames
    from_this = frames_from frames k lt
        ∙ ap (λ (n : ℕ). this ∷ drop n frames) step

    pub next_before : (counted : Bool) (to next : ℕ) → counted ≡ counts lives is_led this
        → to ≡ place lives this.index → next ≡ next_place lives is_led end (drop left frames)
        → cond counted to next ≡ next_place lives is_led end (drop k frames)
    unfolding next_place
    next_before counted to next counted_is to_is next_is =
        (λ i. cond (counted_is i) (to_is i) (next_is i))
        ∙ ap (next_place lives is_led end) (sym from_this)

    pub mark_before : (counted : Bool) (to next : ℕ) → counted ≡ counts lives is_led this
        → to ≡ place lives this.index → next ≡ next_place lives is_led end (drop left frames)
        → (mark : Bool) → mark ≡ (counted && not (to == next)) → (marks : List Bool)
        → marks ≡ reverse (marks_of lives is_led end (drop left frames))
        → marks ++ mark ∷ [] ≡ reverse (marks_of lives is_led end (drop k frames))
    unfolding marks_of
    mark_before counted to next counted_is to_is next_is mark mark_is marks marks_are =
        let here : mark ≡ is_carried lives is_led end this (drop left frames) =
        mark_is ∙ (λ i. counted_is i && not (to_is i == next_is i)) in
        (λ i. marks_are i ++ here i ∷ [])
        ∙ sym (reverse-append (is_carried lives is_led end this (drop left frames) ∷ [])
        (marks_of lives is_led end (drop left frames)))
        ∙ ap (λ (fs : List FrameAt). reverse (marks_of lives is_led end fs)) (sym from_this)

  module _ (cut : ℕ → Bool) where
    -- a frame that is put, if it stays, and what is carried of those behind it
    pub carried_from : (done frames : List FrameAt) (n : ℕ) → n < length frames → (mark : Bool)
        → mark ≡ is_carried lives is_led end (frame_numbered frames n) (drop (n + 1) frames)
        → (done ++ cond mark (moved_frame lives cut (frame_numbered frames n) ∷ []) [])
        ++ carried lives is_led cut end (drop (n + 1) frames)
        ≡ done ++ carried lives is_led cut end (drop n frames)
    unfolding carried
    carried_from done frames n lt mark is =
        let f = frame_numbered frames n in
        let fs = drop (n + 1) frames in
        append_assoc done (cond mark (moved_frame lives cut f ∷ []) []) (carried lives is_led cut end fs)
        ∙ ap (λ (l : List FrameAt). done ++ l) (by mark
        ∙ ap (λ (b : Bool). cond b (moved_frame lives cut f ∷ carried lives is_led cut end fs)
        (carried lives is_led cut end fs)) is)
        ∙ ap (λ (l : List FrameAt). done ++ carried lives is_led cut end l) (sym (frames_from frames n lt))
      where
        by : (b : Bool) → cond b (moved_frame lives cut (frame_numbered frames n) ∷ []) []
            ++ carried lives is_led cut end (drop (n + 1) frames)
            ≡ cond b (moved_frame lives cut (frame_numbered frames n)
            ∷ carried lives is_led cut end (drop (n + 1) frames))
            (carried lives is_led cut end (drop (n + 1) frames))
        by true = refl
        by false = refl
