-- Answers of `put_place`: what its calls ask for, and what it promises.
use Rattle.std.proofs.Common.{◌∙◌, ℕ, List, Some, ap, cond}
use Rattle.jv_base.specs.Names.{is_text}
use Rattle.retrace_core.specs.bodies.Linked.{kept_in}
use Rattle.retrace_core.proofs.Telling.{put_found}
use Rattle.retrace_core.proofs.tables.put_place.Goals as goal

pub returns-clause-firsts : goal.returns-clause-firsts
returns-clause-firsts c = λ name. rw c.in_ok-insert.ensures.entries
    (put_found (λ k. k.now) c.as_bytes-name.result c.args.place c.args.firsts.now.entries name
    ∙ ap (λ (t : List ℕ). cond (is_text t name) (Some c.args.place)
    (kept_in (λ k. k.now) c.args.firsts.now.entries name)) c.as_bytes-name.ensures)
