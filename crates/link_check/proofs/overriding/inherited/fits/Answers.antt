-- Answers of `fits`: what its calls ask for, and what it promises.
use Rattle.link_check.proofs.Inheriting.{fits_if}
use Rattle.link_check.proofs.overriding.inherited.fits.Goals as goal

pub returns-then-not-contains : goal.returns-then-not-contains
returns-then-not-contains c none =
    fits_if c.args.set.now c.args.number c.running_kind.result c.is_none.result c.running_kind.ensures
    c.is_none.ensures none
