-- Answers of `edited_sets_keep_same`: what its calls ask for, and what it promises.
use Rattle.std.proofs.Common.{inl, refl}
use Rattle.edit_premises.specs.Steps.{IsAfter, IsEdited}
use Rattle.edit_premises.proofs.Steps.{edited_same, step_same}
use Rattle.set_view.specs.ViewOf.{view_of}
use Rattle.shape_laws.proofs.BareSets.{same_shape, views_are}
use Rattle.edit_laws.proofs.sets.edited_sets_keep_same.Goals as goal

pub returns-clause-step : goal.returns-clause-step
returns-clause-step c = λ p a b like are.
    step_same p (view_of a) (view_of b) (same_shape a b like)
    (views_are (IsAfter p) (inl refl) a b like are)

pub returns-clause-steps : goal.returns-clause-steps
returns-clause-steps c = λ a b like are.
    edited_same (view_of a) (view_of b) (same_shape a b like)
    (views_are IsEdited (inl refl) a b like are)
