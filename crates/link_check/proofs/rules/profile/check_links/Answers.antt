-- Answers of `check_links`: what its calls ask for, and what it promises.
use Rattle.std.proofs.Common.{◌∙◌, sym}
use Rattle.link_check.proofs.FaultPlace.{first_place}
use Rattle.link_check.proofs.rules.profile.check_links.Goals as goal

pub returns-in-Some-clause-place : goal.returns-in-Some-clause-place
returns-in-Some-clause-place c = first_place c.args.set.now c.in-Some.fault (sym c.in_ok-fault.ensures ∙ c.in-Some.is)
