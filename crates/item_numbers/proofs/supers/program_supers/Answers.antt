-- Answers of `program_supers`: what its calls ask for, and what it promises.
use Rattle.std.proofs.Common.{ap, ◌∙◌}
use Rattle.std.specs.Prelude.{nat_eq}
use Rattle.std.proofs.lemmas.List.Filters.{dedup_is}
use Rattle.require_sys.specs.Requires.{ascending}
use Rattle.item_numbers.proofs.Meeting.{chain_there}
use Rattle.item_numbers.proofs.SortedNeeds.{sorted_once}
use Rattle.item_numbers.proofs.SupersLaw.{supers_are, supers_there}
use Rattle.item_numbers.proofs.supers.program_supers.Goals as goal

pub others_met-requires : goal.others_met-requires
others_met-requires c = chain_there c.args.set.now c.args.number c.args.chain.now c.requires.there
    c.requires.chain

pub returns-clause-are : goal.returns-clause-are
returns-clause-are c =
    supers_are c.args.set.now c.args.number c.args.chain.now c.dedup.new.self.items c.requires.there
    c.requires.chain
    (sorted_once c.in_ok-numbers.numbers.items c.sort_unstable.new.self.items c.dedup.new.self.items
    c.sort_unstable.ensures.permutation c.sort_unstable.ensures.sorted
    (dedup_is nat_eq c.sort_unstable.new.self.items c.dedup.new.self.items c.dedup.ensures.filtered)
    ∙ ap ascending c.in_ok-numbers.ensures)

pub returns-clause-there : goal.returns-clause-there
returns-clause-there c =
    supers_there c.args.set.now c.args.number c.args.chain.now c.dedup.new.self.items c.requires.there
    c.requires.chain
    (sorted_once c.in_ok-numbers.numbers.items c.sort_unstable.new.self.items c.dedup.new.self.items
    c.sort_unstable.ensures.permutation c.sort_unstable.ensures.sorted
    (dedup_is nat_eq c.sort_unstable.new.self.items c.dedup.new.self.items c.dedup.ensures.filtered)
    ∙ ap ascending c.in_ok-numbers.ensures)
