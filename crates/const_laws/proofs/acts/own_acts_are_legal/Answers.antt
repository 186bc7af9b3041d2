-- Answers of `own_acts_are_legal`: what its calls ask for, and what it promises.
use Rattle.const_laws.proofs.Once.{own_acts_once}
use Rattle.const_laws.proofs.Own.{own_acts_legal}
use Rattle.const_laws.proofs.acts.own_acts_are_legal.Goals as goal

pub returns-clause-legal : goal.returns-clause-legal
returns-clause-legal c = own_acts_legal

pub returns-clause-once : goal.returns-clause-once
returns-clause-once c = own_acts_once
