-- Answers of `read_marks`: what its calls ask for, and what it promises.
use Rattle.std.specs.Mem.Slots.{slots_items}
use Rattle.mark_words.proofs.Closing.{marks_more}
use Rattle.mark_words.proofs.close.read_marks.Goals as goal

pub loop-x-preserved : goal.loop-x-preserved
loop-x-preserved c = marks_more c.loop-x.marks.items c.push.new.self.items (slots_items c.args.closed.now.words)
    c.loop-x.x c.word-word.result c.loop-x.invariant.0 c.loop-x.invariant.1 c.word-word.ensures
    c.in_ok-push.ensures.items
