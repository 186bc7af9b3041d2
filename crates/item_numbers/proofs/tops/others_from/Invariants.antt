use Rattle.std.proofs.Common.{All, ◌<◌, length}
use Rattle.item_numbers.proofs.tops.others_from.Given as goal

abbrev pub invariant-loop : goal.invariant-loop
invariant-loop l = record {
  there : l.next < length l.set;
  numbers : All (λ n. n < length l.set) l.numbers.items;
}
