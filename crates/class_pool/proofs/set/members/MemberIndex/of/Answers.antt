-- Answers of `MemberIndex::of`: what its calls ask for, and what it promises.
use Rattle.std.proofs.Common.{◌+◌, length}
use Rattle.class_pool.proofs.Sorting.{moved_keys}
use Rattle.class_pool.proofs.set.members.MemberIndex.of.Goals as goal

pub returns : goal.returns
returns c = record {
  keys =
      moved_keys c.args.class.now (length c.args.class.now.fields + length c.args.class.now.methods)
      c.in_ok-keys.keys.items c.sort.new.self.items c.sort.ensures.permutation c.in_ok-keys.ensures;
  sorted = c.in_ok-sort.ensures.sorted;
}
