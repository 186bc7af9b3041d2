-- Answers of `init_of`: what its calls ask for, and what it promises.
use Rattle.std.proofs.Common.{◌∙◌, ℕ, Bool, List, ap, sym}
use Rattle.std.specs.Prelude.{if◌then◌else◌}
use Rattle.jvm_model.specs.Heap.{Fresh, Ready}
use Rattle.run_machine.specs.Inits.{init_at}
use Rattle.run_machine.specs.declared.inits.Init.{Init}
use Rattle.run_machine.proofs.Marking.{init_marked, init_unmarked}
use Rattle.run_machine.proofs.inits.init_of.Goals as goal

pub returns-in-Some : goal.returns-in-Some
returns-in-Some g c =
    init_marked (g.S.Shapes.shape c.args.shapes.now) c.marks.inside.inits.entries c.args.class.now c.in-Some.init.now
    c.in-Some.ensures.value
    ∙ ap (λ (ms : List (List ℕ × Init)). init_at (g.S.Shapes.shape c.args.shapes.now) ms c.args.class.now)
    c.marks.view_is

pub returns-then-is_library : goal.returns-then-is_library
returns-then-is_library g c =
    ap (λ (b : Bool). if b then Ready else Fresh) (sym c.if-is_library.true ∙ c.is_library.ensures)
    ∙ init_unmarked (g.S.Shapes.shape c.args.shapes.now) c.marks.inside.inits.entries c.args.class.now
    c.in-None.ensures.value
    ∙ ap (λ (ms : List (List ℕ × Init)). init_at (g.S.Shapes.shape c.args.shapes.now) ms c.args.class.now)
    c.marks.view_is

pub returns-else-is_library : goal.returns-else-is_library
returns-else-is_library g c =
    ap (λ (b : Bool). if b then Ready else Fresh) (sym c.if-is_library.false ∙ c.is_library.ensures)
    ∙ init_unmarked (g.S.Shapes.shape c.args.shapes.now) c.marks.inside.inits.entries c.args.class.now
    c.in-None.ensures.value
    ∙ ap (λ (ms : List (List ℕ × Init)). init_at (g.S.Shapes.shape c.args.shapes.now) ms c.args.class.now)
    c.marks.view_is
