-- Answers of `thrown`: what its calls ask for, and what it promises.
use Rattle.std.proofs.Common.{ℕ, List, ap, ◌∙◌}
use Rattle.class_run.specs.declared.ended.End.TheVariants as end
use Rattle.run_entry.proofs.ending.thrown.Goals as goal

pub returns : goal.returns
returns c p =
    ap (λ (name : List ℕ). end.Threw name c.args.number) (c.in_ok-class.ensures ∙ c.class_of.ensures p)
