-- Answers of `note`: what its calls ask for, and what it promises.
use Rattle.std.proofs.Common.{refl, ap, ◌∙◌, set}
use Rattle.std.proofs.lemmas.List.{get_or_default}
use Rattle.why_kept.specs.bodies.Noting.{note_if}
use Rattle.why_kept.specs.declared.reasons.By.{By}
use Rattle.why_kept.specs.declared.reasons.By.TheVariants.{Seed}
use Rattle.why_kept.proofs.NotedItems.{noted_item}
use Rattle.why_kept.proofs.sources.note.Goals as goal

pub returns : goal.returns
returns c =
    noted_item _ c.args.item c.args.test c.args.by c.args.sources.now.items _ refl c.requires
    (ap (λ (b : By). set c.args.sources.now.items c.args.item b)
    (c.noted.ensures ∙ ap (note_if c.args.test c.args.by)
    (c.index.ensures ∙ get_or_default c.args.sources.now.items c.args.item _ Seed c.requires)))
