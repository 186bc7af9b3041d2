-- What is wrong with the types of frames, each of which stands behind the one before.
use Rattle.std.proofs.Common.{◌≡◌, ℕ, zero, suc, ◌+◌, ◌<◌, List, [], ◌∷◌, ◌++◌, length, take, drop, refl, sym}
use Rattle.std.proofs.Common.{ap}
use Rattle.std.proofs.Common.{◌∙◌, arith}
use Rattle.std.specs.List.{flat_map}
use Rattle.std.proofs.lemmas.List.{take_more, append-nil, take-append-drop}
use Rattle.std.proofs.lemmas.List.Concat.{flat_map-append}
use Rattle.class_model.specs.declared.frame.FrameAt.{FrameAt}
use Rattle.class_model.specs.declared.frame.VType.{VType}
use Rattle.class_model.specs.FrameLists.{no_frame, frame_numbered}
use Rattle.link_check.specs.declared.fault.ProfileKind.{ProfileKind}
use Rattle.link_check.specs.Profile.{least}
use Rattle.link_check.proofs.Least.{least_again}

module _ (kinds : VType → List ProfileKind) where
  -- the kinds of types
  abbrev of : List VType → List ProfileKind
  of types = flat_map kinds types

  -- the kinds of a frame
  abbrev of_frame : FrameAt → List ProfileKind
  of_frame f = of (f.frame.locals ++ f.frame.stack)

  one_more : (frames : List FrameAt) (at : ℕ) → at < length frames
      → flat_map of_frame (take (at + 1) frames)
      ≡ flat_map of_frame (take at frames)
      ++ (of (frame_numbered frames at).frame.locals ++ of (frame_numbered frames at).frame.stack)
  one_more frames at lt =
      ap (flat_map of_frame) (take_more frames at no_frame lt)
      ∙ flat_map-append of_frame (take at frames) (frame_numbered frames at ∷ [])
      ∙ ap (λ (ks : List ProfileKind). flat_map of_frame (take at frames) ++ ks)
      (append-nil (of_frame (frame_numbered frames at))
      ∙ flat_map-append kinds (frame_numbered frames at).frame.locals (frame_numbered frames at).frame.stack)

  parted : (shared : ℕ) (types : List VType) → of types ≡ of (take shared types) ++ of (drop shared types)
  parted shared types =
      sym (ap of (take-append-drop shared types)) ∙ flat_map-append kinds (take shared types) (drop shared types)

  -- but for the locals that are shared with the frame before
  pub new_kinds : (frames : List FrameAt) (at shared : ℕ) → at < length frames → (at ≡ 0 → shared ≡ 0)
      → ((before : ℕ) → at ≡ before + 1
      → take shared (frame_numbered frames at).frame.locals ≡ take shared (frame_numbered frames before).frame.locals)
      → least (flat_map of_frame (take at frames)
      ++ (of (drop shared (frame_numbered frames at).frame.locals) ++ of (frame_numbered frames at).frame.stack))
      ≡ least (flat_map of_frame (take (at + 1) frames))
  new_kinds frames zero shared lt first same =
      let none = first refl in
      rw none (ap least (sym (one_more frames zero lt)))
  new_kinds frames (suc before) shared lt first same =
      let at = suc before in
      let last = frame_numbered frames before in
      let next = frame_numbered frames at in
      let front = flat_map of_frame (take before frames) in
      let is : flat_map of_frame (take at frames)
      ≡ front ++ ((of (take shared next.frame.locals) ++ of (drop shared last.frame.locals)) ++ of last.frame.stack)
      = ap (λ (n : ℕ). flat_map of_frame (take n frames)) (let e : suc before ≡ before + 1 = omega arith in e)
      ∙ one_more frames before (omega arith)
      ∙ ap (λ (ks : List ProfileKind). front ++ (ks ++ of last.frame.stack)) (parted shared last.frame.locals
      ∙ ap (λ (types : List VType). of types ++ of (drop shared last.frame.locals))
      (sym (same before (omega arith)))) in
      ap (λ (ks : List ProfileKind). least (ks ++ (of (drop shared next.frame.locals) ++ of next.frame.stack))) is
      ∙ least_again front (of (take shared next.frame.locals)) (of (drop shared last.frame.locals))
      (of last.frame.stack)
      (of (drop shared next.frame.locals)) (of next.frame.stack)
      ∙ ap (λ (ks : List ProfileKind). least (ks ++ ((of (take shared next.frame.locals)
      ++ of (drop shared next.frame.locals)) ++ of next.frame.stack))) (sym is)
      ∙ ap (λ (ks : List ProfileKind). least (flat_map of_frame (take at frames) ++ (ks ++ of next.frame.stack)))
      (sym (parted shared next.frame.locals))
      ∙ ap least (sym (one_more frames at lt))
