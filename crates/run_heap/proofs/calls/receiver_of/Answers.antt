-- Answers of `receiver_of`: what its calls ask for, and what it promises.
use Rattle.std.proofs.Common.{◌∙◌, refl, sym}
use Rattle.run_heap.specs.Worlds.{world_of}
use Rattle.run_heap.proofs.Receiving.{no_object, no_receiver, null_receiver, object_receiver, on_text, text_receiver}
use Rattle.run_heap.proofs.calls.receiver_of.Goals as goal

pub returns-in-Null : goal.returns-in-Null
returns-in-Null c = λ vs inits f. null_receiver (world_of inits c.args.world.now) c.args.first.now vs f
    c.in-Null.ensures

pub returns-in-Some : goal.returns-in-Some
returns-in-Some c = λ vs inits f. object_receiver (world_of inits c.args.world.now)
    c.args.world.now.heap.items c.in-Object.number c.in-Some.object.now c.args.first.now vs f refl
    (sym c.in-Some.ensures) c.in-Object.ensures

pub returns-in-None : goal.returns-in-None
returns-in-None c = λ vs inits f. no_object (world_of inits c.args.world.now)
    c.args.world.now.heap.items c.in-Object.number c.args.first.now vs f refl (sym c.in-None.ensures)
    c.in-Object.ensures

pub returns-then-is_reference : goal.returns-then-is_reference
returns-then-is_reference c = λ vs.
    let is = text_receiver c.args.first.now c.in-Other.ensures (sym c.is_reference.ensures ∙ c.if-is_reference.true) in
    (is.0, λ inits f. on_text (world_of inits c.args.world.now) is.0 c.args.first.now vs f is.1)

pub returns-else-is_reference : goal.returns-else-is_reference
returns-else-is_reference c = λ vs inits f. no_receiver (world_of inits c.args.world.now) c.args.first.now vs f
    c.in-Other.ensures (sym c.is_reference.ensures ∙ c.if-is_reference.false)
