-- Exactly one thing is due of told files.
use Rattle.std.proofs.Common.{◌≡◌, ℕ, List, [], ◌∷◌, Ok, Err, refl, sym, ap, ◌∙◌}
use Rattle.std.specs.FinMap.{keys}
use Rattle.tree_io.specs.Below.{paths_below}
use Rattle.tree_io.specs.Files.{Files}
use Rattle.command_frame.proofs.OneStep.{IsOne, IsSome, one_value, some_value, then_one, then_some}
use Rattle.gen_command.specs.Due.{IsEmptied, not_empty, plan_for}
use Rattle.gen_command.specs.OneDue.{IsOneDue, IsSomeDue}

one_emptied : (files : Files) (directory : List ℕ) → IsOne (IsEmptied files directory)
one_emptied files directory (Ok one) (Ok other) h k = refl
one_emptied files directory (Ok one) (Err refusal) h k = absurd (k.1 h)
one_emptied files directory (Err refusal) (Ok other) h k = absurd (h.1 k)
one_emptied files directory (Err refusal) (Err other) h k = ap Err (h.0 ∙ sym k.0)

emptied_by : (files : Files) (directory : List ℕ) (paths : List (List ℕ)) → paths_below directory (keys files) ≡ paths
    → IsSome (IsEmptied files directory)
emptied_by files directory [] e = (Ok tt, e)
emptied_by files directory (p ∷ paths) e =
    (Err (not_empty directory), (refl, λ empty. (let f : p ∷ paths ≡ [] = sym e ∙ empty in absurd cc)))

pub one_due : IsOneDue
one_due files named =
    then_one (IsEmptied files named.directory) (λ empty due. due ≡ Ok (plan_for named))
    (one_emptied files named.directory) (λ empty. one_value (Ok (plan_for named)))

pub some_due : IsSomeDue
some_due files named =
    then_some (IsEmptied files named.directory) (λ empty due. due ≡ Ok (plan_for named))
    (emptied_by files named.directory (paths_below named.directory (keys files)) refl)
    (λ empty told. some_value (Ok (plan_for named)))
