-- What the passes find is legal.
use Rattle.std.proofs.Common.{List, sym, subst}
use Rattle.class_model.specs.declared.code.Code.{Code}
use Rattle.code_edit.specs.declared.act.Act.{Act}
use Rattle.code_edit.specs.declared.act.Pass.{Pass}
use Rattle.code_edit.specs.declared.act.Pass.TheVariants.{Reach, Const, Slots, Jumps}
use Rattle.code_edit.specs.Legal.{AreLegal}
use Rattle.code_edit.specs.Passes.{IsFound}
use Rattle.code_edit.specs.SoundCode.{IsSound}
use Rattle.edit_laws.proofs.FoundConst.{const_legal}
use Rattle.edit_laws.proofs.FoundJumps.{jumps_legal}
use Rattle.edit_laws.proofs.FoundReach.{reach_legal}
use Rattle.edit_laws.proofs.FoundSlots.{slots_legal}

pub found_legal : (p : Pass) (acts : List Act) (code : Code) → IsFound p code acts → IsSound code
    → AreLegal p acts code
found_legal Reach acts code f sound =
    subst (λ (xs : List Act). AreLegal Reach xs code) (sym f.2)
    (reach_legal code sound f.0 f.1)
found_legal Slots acts code f sound =
    subst (λ (xs : List Act). AreLegal Slots xs code) (sym f) (slots_legal code sound)
found_legal Jumps acts code f sound =
    subst (λ (xs : List Act). AreLegal Jumps xs code) (sym f.2)
    (jumps_legal code sound f.0 f.1)
found_legal Const acts code f sound = const_legal code acts sound f
