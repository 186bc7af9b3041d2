-- Answers of `add_pair`: what its calls ask for, and what it promises.
use Rattle.why_kept.proofs.Listing.{adds_trans}
use Rattle.why_kept.proofs.by_item.add_pair.Goals as goal

pub returns-clause-adds : goal.returns-clause-adds
returns-clause-adds c =
    adds_trans c.args.pair c.args.lists.now.items c.add.new.lists.items c.add-2.new.lists.items c.in_ok-add.ensures.adds
    c.in_ok-add-2.ensures.adds
