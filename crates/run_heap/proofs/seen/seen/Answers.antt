-- Answers of `seen`: what its calls ask for, and what it promises.
use Rattle.std.proofs.Common.{◌∙◌, ap, sym}
use Rattle.jvm_model.specs.Calls.{seen_operand}
use Rattle.jvm_model.specs.Value.{Value}
use Rattle.run_heap.specs.Worlds.{world_of}
use Rattle.run_heap.proofs.Pointing.{is_reference}
use Rattle.run_heap.proofs.seen.seen.Goals as goal

pub returns-in-Some-as_number : goal.returns-in-Some-as_number
returns-in-Some-as_number c = λ inits. c.seen_at.ensures inits
    ∙ ap (λ (v : Value). seen_operand (world_of inits c.args.world.now) v)
    (sym (is_reference c.args.operand.now c.in-Some-as_number.number (sym c.in-Some-as_number.ensures)))
