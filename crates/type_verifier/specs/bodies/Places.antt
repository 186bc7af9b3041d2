-- The table of what is declared at instructions, which are entered or begin to be covered, and which handlers are asked
-- about what changes (only the proof of the walk needs it).
use Rattle.std.specs.Prelude.{length}
use Rattle.class_model.specs.declared.code.Code.{Code}
use Rattle.type_verifier.specs.bodies.Asked.{AreAsked}
use Rattle.type_verifier.specs.bodies.Chained.{IsChain}
use Rattle.type_verifier.specs.bodies.Marks.{AreKept, AreNumbers, IsEntered}
use Rattle.type_verifier.specs.declared.places.Places.{Places}

-- the table is that of the code
pub record ArePlaces (code : Code) (places : Places) : Type 0 where
  pub frames : AreNumbers code.frames (length code.ins) places.frames.items
  pub entered : IsEntered code places.entered.items
  pub covered : IsChain code.handlers (length code.ins) places.covered
  pub kept : AreKept code places.kept.items
  pub asked : AreAsked code places.asked.items
