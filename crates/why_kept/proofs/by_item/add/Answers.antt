-- Answers of `add`: what its calls ask for, and what it promises.
use Rattle.std.proofs.Common.{◌≡◌, ◌∷◌, ◌++◌, [], List, ◌∙◌, ap, set}
use Rattle.std.proofs.lemmas.List.{get_or_default}
use Rattle.mark_core.specs.declared.system.Pair.{Pair}
use Rattle.why_kept.specs.bodies.ByItem.{pairs_at}
use Rattle.why_kept.proofs.Listing.{adds_at, there_at}
use Rattle.why_kept.proofs.by_item.add.Goals as goal

pushed : (c : goal.In_ok-push) → c.push.new.self ≡ pairs_at c.args.lists.now.items c.args.item ++ c.args.pair ∷ []
pushed c =
    c.in_ok-push.ensures
    ∙ ap (λ (l : List Pair). l ++ c.args.pair ∷ []) (c.index_mut.ensures.value
    ∙ get_or_default c.args.lists.now.items c.args.item _ [] c.requires.item)

pub returns-clause-adds : goal.returns-clause-adds
returns-clause-adds c =
    adds_at c.args.pair c.args.item c.args.lists.now.items _ c.requires.item c.requires.has
    (ap (λ (l : List Pair). set c.args.lists.now.items c.args.item l) (pushed c))

pub returns-clause-there : goal.returns-clause-there
returns-clause-there c =
    there_at c.args.pair c.args.item c.args.lists.now.items _ c.requires.item c.requires.has
    (ap (λ (l : List Pair). set c.args.lists.now.items c.args.item l) (pushed c))
