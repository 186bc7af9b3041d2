-- What a FrameBuilder holds (only the proof of it needs this).
use Rattle.std.specs.Prelude.{◌≡◌, All}
use Rattle.class_model.specs.declared.frame_builder.FrameBuilder.TheInside.{Inside}
use Rattle.class_model.specs.Frames.{cut_tops, words_of_types}
use Rattle.class_model.specs.bodies.TypeLists.{types_in, IsHeld}
use Rattle.class_model.specs.bodies.HeldFrames.{IsRowHeld}

-- its frames and its locals lie in its types, with the locals without the Tops at their end and the words that they
-- take
pub record IsBuilt (b : Inside) : Type 0 where
  pub rows : All (IsRowHeld b.lists) b.rows.items
  pub locals : IsHeld b.lists b.locals
  pub cut_held : IsHeld b.lists b.cut
  pub cut : types_in b.lists b.cut ≡ cut_tops (types_in b.lists b.locals)
  pub words : b.words ≡ words_of_types (types_in b.lists b.locals)
