-- Answers of `cells_of`: what its calls ask for, and what it promises.
use Rattle.std.proofs.Common.{rules, ◌∙◌, ap, List, Option, ◌++◌, [], ◌∷◌}
use Rattle.jvm_model.specs.Value.{Value}
use Rattle.run_values.specs.bodies.Cells.{cells}
use Rattle.run_values.proofs.Cells.{cells_more}
use Rattle.run_values.proofs.locals.cells_of.Goals as goal

pub loop-argument-preserved : goal.loop-argument-preserved
loop-argument-preserved c = c.in_ok-push_cells.ensures
    ∙ ap (λ (s : List (Option Value)). s ++ cells (c.in_ok-clone.field-0 ∷ [])) c.loop-argument.invariant
    ∙ cells_more _ _ _ (search rules) (rw c.in_ok-clone.ensures.cases c.argument-item.is)
