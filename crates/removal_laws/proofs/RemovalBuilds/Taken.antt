-- What is left is taken again.
use Rattle.std.proofs.Common.{sym, subst}
use Rattle.class_model.specs.WellFormed.{IsWellFormed}
use Rattle.class_pool.specs.Items.{class_item}
use Rattle.removal_laws.proofs.RemovalLinks.Left.{links_left, stays}
use Rattle.removal_laws.specs.RemovalBuilds.FilesLeft.{files_left}
use Rattle.removal_laws.specs.RemovalBuilds.Laws.{RemovalKeepsTaken}
use Rattle.removal_laws.proofs.RemovalBuilds.Again.{few_left, is_built}
use Rattle.removal_laws.proofs.RemovalBuilds.Formed.{formed_left}
use Rattle.removal_laws.proofs.RemovalBuilds.RanksLeft.{ranks_left}
use Rattle.removal_laws.proofs.RemovalBuilds.Rounds.{ascend_left}

pub taken_again : RemovalKeepsTaken
taken_again classes rules marks taken closed exceptions = record {
  files = files_left taken.files marks;
  ascend = ascend_left taken.files marks taken.ascend;
  built = is_built classes rules marks closed taken;
  few = few_left classes rules marks closed taken;
  ranks = ranks_left classes rules marks closed taken;
  formed = λ j d at.
      let s = stays classes rules marks closed taken j d at in
      subst IsWellFormed (sym s.is)
      (formed_left marks (class_item classes s.n) s.class (taken.formed s.n s.class s.there));
  linked = links_left classes rules marks taken closed exceptions;
}
