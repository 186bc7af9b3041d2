-- Answers of `names_beside`: what its calls ask for, and what it promises.
use Rattle.std.proofs.Common.{subst}
use Rattle.class_rename.specs.Names.{names_in}
use Rattle.class_rename.proofs.Known.{if_ok}
use Rattle.rename_map.specs.Names.{AreFixed}
use Rattle.rename_map.proofs.Beside.{named_none, named_some}
use Rattle.rename_map.proofs.naming.names_beside.Goals as goal

pub returns-in-Some : goal.returns-in-Some
returns-in-Some c = λ rules input fixed.
    let so = subst (AreFixed rules input) c.in-Some.is fixed in
    if_ok c.given_names.result
    (λ names is. named_some c.in-Some.taken c.args.kept.now rules input (names_in names) c.args.old.now is so.0 so.1)
    c.given_names.ensures

pub returns-in-None : goal.returns-in-None
returns-in-None c = λ rules input fixed.
    named_none c.args.kept.now rules input (names_in c.same_names.result) c.args.old.now c.same_names.ensures
    (subst (AreFixed rules input) c.in-None.is fixed)
