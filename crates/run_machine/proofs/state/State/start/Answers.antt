-- Answers of `State::start`: what its calls ask for, and what it promises.
use Rattle.std.proofs.Common.{◌∙◌, List, ◌∷◌, ap, map}
use Rattle.run_heap.specs.Worlds.{object_of}
use Rattle.run_machine.specs.declared.state.Wait.{Wait}
use Rattle.run_machine.specs.declared.state.Wait.TheVariants as wait
use Rattle.run_machine.proofs.Starting.{started}
use Rattle.run_machine.proofs.state.State.start.Goals as goal

pub returns : goal.returns
returns c = λ v. started v c.args.entry c.in_ok-class.class c.new.result c.push.new.self c.in_ok-world.world
    (map object_of c.args.heap.items) c.args.arguments c.new.ensures (c.in_ok-class.ensures.cases ∙ c.class.ensures)
    (c.in_ok-push.ensures
    ∙ ap (λ (ws : List Wait). wait.ToEntry c.args.entry c.args.arguments ∷ ws) c.new-waits.ensures)
    (c.in_ok-world.ensures v.shape)
