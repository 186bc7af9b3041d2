-- Answers of `keep`: what its calls ask for, and what it promises.
use Rattle.retrace_core.proofs.Telling.{put_found}
use Rattle.retrace_core.proofs.old_names.keep.Goals as goal

pub returns : goal.returns
returns c = λ name. rw c.in_ok-insert.ensures.entries (put_found (λ k. k.items) c.args.new c.args.kept
    c.args.table.now.entries name)
