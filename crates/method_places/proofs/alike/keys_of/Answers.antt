-- Answers of `keys_of`: what its calls ask for, and what it promises.
use Rattle.item_numbers.proofs.SortedNeeds.{once_sorted}
use Rattle.method_places.proofs.alike.keys_of.Goals as goal

pub returns : goal.returns
returns c =
    once_sorted c.sort_unstable.new.self.items c.dedup.new.self.items c.sort_unstable.ensures.sorted
    c.dedup.ensures.filtered
