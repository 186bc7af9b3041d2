-- Answers of `first_part`: what its calls ask for, and what it promises.
use Rattle.std.proofs.Common.{◌+◌, ◌++◌, List, ℕ, sym, ap, ◌∙◌, take, Option, Some, None}
use Rattle.std.specs.Prelude.{IfNone}
use Rattle.std.proofs.lemmas.List.{take_rest}
use Rattle.retrace_core.specs.Retraced.{ended_retraced, retraced}
use Rattle.retrace_core.proofs.LineParts.{first_retraced, last_retraced}
use Rattle.retrace_core.proofs.trace.first_part.Goals as goal

pub returns-clause-some : goal.returns-clause-some
returns-clause-some c = λ m. first_retraced m c.args.text.now c.in_ok-end.end (sym c.in_ok-end.ensures.is)
    ∙ ap (λ (xs : List ℕ). ended_retraced m (take c.in_ok-end.end c.args.text.now) ++ retraced m xs)
    (sym (take_rest c.args.text.now (c.in_ok-end.end + 1)))

-- what holds is told where nothing is answered
told : {X P : Type 0} (r : Option X) → P → IfNone r P
told None p = p
told (Some x) p = tt

pub returns-in_err-end-clause-none : goal.returns-in_err-end-clause-none
returns-in_err-end-clause-none c = told c.from_residual.result
    (λ m. last_retraced m c.args.text.now (sym c.in_err-end.ensures.is))
