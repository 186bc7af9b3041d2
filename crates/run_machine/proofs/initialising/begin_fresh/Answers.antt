-- Answers of `begin_fresh`: what its calls ask for, and what it promises.
use Rattle.std.proofs.Common.{◌∙◌, ℕ, List, ap}
use Rattle.jvm_model.specs.Heap.{Begun, Init}
use Rattle.jvm_model.specs.Initialisation.{state, with_constants}
use Rattle.jvm_model.specs.State.{Prepares}
use Rattle.jvm_model.specs.Value.{Key, Value, set_class}
use Rattle.run_heap.specs.Held.{held}
use Rattle.run_machine.specs.Inits.{init_at}
use Rattle.run_machine.specs.States.{waits_of, whole}
use Rattle.run_machine.proofs.initialising.begin_fresh.Goals as goal

pub returns : goal.returns
returns g c =
    ap (λ (f : List ℕ → Init). state (record (whole (g.S.Shapes.shape c.args.shapes.now) c.args.rest.now) {
      statics = held c.set_constants.new.statics;
      inits = f;
    }) (Prepares c.args.class c.of-firsts.result) (waits_of c.args.rest.now.waits))
    (c.in_ok-mark.ensures (g.S.Shapes.shape c.args.shapes.now))
    ∙ ap (λ (n : List ℕ). state (record (whole (g.S.Shapes.shape c.args.shapes.now) c.args.rest.now) {
      statics = held c.set_constants.new.statics;
      inits = set_class (init_at (g.S.Shapes.shape c.args.shapes.now) c.args.rest.now.marks) n Begun;
    }) (Prepares c.args.class c.of-firsts.result) (waits_of c.args.rest.now.waits)) c.in_ok-marked.ensures.cases
    ∙ ap (λ (f : Key → Value). state (record (whole (g.S.Shapes.shape c.args.shapes.now) c.args.rest.now) {
      statics = f;
      inits = set_class (init_at (g.S.Shapes.shape c.args.shapes.now) c.args.rest.now.marks) c.args.class Begun;
    }) (Prepares c.args.class c.of-firsts.result) (waits_of c.args.rest.now.waits)) c.in_ok-set_constants.ensures
    ∙ ap (λ (fs : List (List ℕ)). state (record (whole (g.S.Shapes.shape c.args.shapes.now) c.args.rest.now) {
      statics = with_constants (g.S.Shapes.shape c.args.shapes.now) c.args.class (held c.args.rest.now.world.statics);
      inits = set_class (init_at (g.S.Shapes.shape c.args.shapes.now) c.args.rest.now.marks) c.args.class Begun;
    }) (Prepares c.args.class fs) (waits_of c.args.rest.now.waits)) (c.of-firsts.ensures ∙ c.in_ok-firsts.ensures)
