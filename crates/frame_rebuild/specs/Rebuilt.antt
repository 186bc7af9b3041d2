-- A code after the acts of a step, with its frames (the project's own).
use Rattle.std.specs.Prelude.{ℕ, Bool, false, List, [], ◌∷◌, length, nat_eq}
use Rattle.std.specs.List.{list_any}
use Rattle.class_model.specs.declared.code.Code.{Code}
use Rattle.class_model.specs.declared.frame.FrameAt.{FrameAt}
use Rattle.class_model.specs.declared.op.Op.{Op}
use Rattle.class_model.specs.declared.op.Op.TheVariants as op
use Rattle.code_edit.specs.declared.act.Act.{Act}
use Rattle.code_edit.specs.declared.act.Act.TheVariants as act
use Rattle.code_edit.specs.declared.act.Pass.{Pass}
use Rattle.code_edit.specs.Applied.{applied, lives_of}
use Rattle.code_edit.specs.Flow.{is_target, of_ins}
use Rattle.code_edit.specs.Rewriting.{place}
use Rattle.frame_rebuild.specs.Carried.{carried}

-- the local variables that an operation stores to or adds to
abbrev pub written : Op → List ℕ
written (op.Store kind slot) = slot ∷ []
written (op.Inc slot by) = slot ∷ []
written o = []

-- the act cuts an instruction that stores to the local variable or adds to it
abbrev pub cuts_slot : Code → ℕ → Act → Bool
cuts_slot code slot (act.Cut at) = of_ins (λ o. list_any (nat_eq slot) (written o)) code at
cuts_slot code slot a = false

-- so does some act
abbrev pub is_slot_cut : List Act → Code → ℕ → Bool
is_slot_cut acts code slot = list_any (cuts_slot code slot) acts

-- the frames of the code after the acts of a pass
abbrev pub frames_after : Pass → List Act → Code → List FrameAt
frames_after pass acts code =
    carried (lives_of pass acts code) (is_target code) (is_slot_cut acts code)
    (place (lives_of pass acts code) (length code.ins)) code.frames

-- the code after the acts of a pass, with its frames
abbrev pub rebuilt : Pass → List Act → Code → Code
rebuilt pass acts code = record (applied pass acts code) { frames = frames_after pass acts code }
