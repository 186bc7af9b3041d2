-- Tables of what stays after the acts of a step (the project's own; only the code's contracts need
-- it).
use Rattle.std.specs.Prelude.{◌≡◌, ◌<◌, ℕ, List, length}
use Rattle.class_model.specs.declared.code.Code.{Code}
use Rattle.code_edit.specs.declared.act.Act.{Act}
use Rattle.code_edit.specs.declared.act.Pass.{Pass}
use Rattle.code_edit.specs.Applied.{lives_of}
use Rattle.code_edit.specs.Flow.{is_target}
use Rattle.frame_rebuild.specs.Rebuilt.{is_slot_cut}
use Rattle.frame_rebuild.specs.bodies.Fitting.{IsMoved, is_gone, is_led, stays}
use Rattle.frame_rebuild.specs.declared.moves.Moves.{Moves}

pub record TellsMoves (pass : Pass) (acts : List Act) (code : Code) (m : Moves) : Type 0 where
  pub long : length m.lives.items ≡ length code.ins
  pub lives : (at : ℕ) → at < length code.ins → stays m at ≡ lives_of pass acts code at
  pub targets : (at : ℕ) → at < length code.ins → is_led m at ≡ is_target code at
  pub cut : (slot : ℕ) → is_gone m slot ≡ is_slot_cut acts code slot
  pub moved : IsMoved m
