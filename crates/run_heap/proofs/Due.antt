-- Answers that are due, by what else is due.
use Rattle.std.proofs.Common.{◌≡◌, ◌∙◌, ℕ, List, Some, ap, sym}
use Rattle.jvm_model.specs.Answers.{Answer as Due, of_some}
use Rattle.jvm_model.specs.Calls.{acted, all_seen, called}
use Rattle.jvm_model.specs.Heap.{Init, World as Whole}
use Rattle.jvm_model.specs.Library.{Row as Method, Seen as Operand, act}
use Rattle.jvm_model.specs.Program.{Library}
use Rattle.jvm_model.specs.Value.{Value}
use Rattle.run_heap.specs.Answers.{Changes}
use Rattle.run_heap.specs.Worlds.{world_of}
use Rattle.run_heap.specs.declared.answer.Answer.{Answer}
use Rattle.run_heap.specs.declared.world.World.{World}
use Rattle.run_library.specs.Acts.{done_of}
use Rattle.run_library.specs.declared.seen.Act.{Act}

-- the same is due
pub as_due : (a : Answer) (before after : World) (d e : Whole → Due)
    → ((inits : List ℕ → Init) → d (world_of inits before) ≡ e (world_of inits before))
    → Changes a before after d → Changes a before after e
as_due a before after d e same h = (λ inits. h.0 inits ∙ same inits, h.1)

-- a method of the library, with what it sees of its operands
pub of_library : (w : Whole) (m : Method) (vs : List Value) (told : List Operand) (a : Act)
    → all_seen w vs ≡ Some told → done_of told a ≡ act m told → acted w (done_of told a) ≡ called w vs (Library m)
of_library w m vs told a s e = ap (acted w) e
    ∙ sym (ap (of_some (λ operands. acted w (act m operands))) s)
