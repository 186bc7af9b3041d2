-- Answers of `ascending`: what its calls ask for, and what it promises.
use Rattle.std.specs.Cmp.Lexicographic.{nat_list_cmp_total, texts_ties}
use Rattle.std.proofs.lemmas.List.Filters.{dedup_is}
use Rattle.std.proofs.lemmas.List.Kept.{IsStrictlySortedBy-dedup}
use Rattle.tree_io.proofs.listing.ascending.Goals as goal

pub returns : goal.returns
returns c = rw (dedup_is _ _ _ c.dedup.ensures.filtered)
    (IsStrictlySortedBy-dedup nat_list_cmp_total texts_ties _ c.in_ok-sort.ensures.sorted)
