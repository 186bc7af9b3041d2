-- Which frames stay, as marks (the project's own; only the proof of the walk needs it).
use Rattle.std.specs.Prelude.{ℕ, Bool, List, [], ◌∷◌}
use Rattle.class_model.specs.declared.frame.FrameAt.{FrameAt}
use Rattle.frame_rebuild.specs.Carried.{is_carried}

unfoldable pub marks_of : (lives is_led : ℕ → Bool) (end : ℕ) → List FrameAt → List Bool
marks_of lives is_led end [] = []
marks_of lives is_led end (f ∷ fs) =
    is_carried lives is_led end f fs ∷ marks_of lives is_led end fs
