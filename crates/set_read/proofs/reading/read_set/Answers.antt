-- Answers of `read_set`: what its calls ask for, and what it promises.
use Rattle.set_read.proofs.Few.{ascending_kept, few_items}
use Rattle.set_read.proofs.Sets.{judged, writable}
use Rattle.set_read.proofs.reading.read_set.Goals as goal

pub accepted_set-requires-clause-ascend : goal.accepted_set-requires-clause-ascend
accepted_set-requires-clause-ascend c = ascending_kept c.args.files c.in_ok-classes.classes
    c.in_ok-classes.ensures.exact c.requires.ascending

pub accepted_set-requires-clause-few : goal.accepted_set-requires-clause-few
accepted_set-requires-clause-few c = few_items c.args.files c.in_ok-classes.classes 4294967295
    c.in_ok-classes.ensures.exact c.requires.short

pub returns-clause-exact : goal.returns-clause-exact
returns-clause-exact c = judged c.args.files c.in_ok-classes.classes c.accepted_set.result c.in_ok-classes.ensures.exact
    c.accepted_set.ensures.exact

pub returns-clause-writable : goal.returns-clause-writable
returns-clause-writable c =
    writable c.args.files c.accepted_set.result
    (judged c.args.files c.in_ok-classes.classes c.accepted_set.result c.in_ok-classes.ensures.exact
    c.accepted_set.ensures.exact)
