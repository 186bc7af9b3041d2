-- Answers of `push_lines`: what its calls ask for, and what it promises.
use Rattle.retrace_core.proofs.LineParts.{put_first}
use Rattle.retrace_core.proofs.trace.push_lines.Goals as goal

pub loop-part-preserved : goal.loop-part-preserved
loop-part-preserved c = λ m told.
    put_first m c.loop-part.out.items c.push_ended.new.out.items _ c.loop-part.rest.now c.in-Some.part.now
    c.in-Some.behind.now
    (c.in-Some.ensures.some m) (c.in_ok-push_ended.ensures m told) (c.loop-part.invariant m told)
