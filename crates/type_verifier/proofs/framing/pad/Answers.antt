-- Answers of `pad`: what its calls ask for, and what it promises.
use Rattle.std.proofs.Common.{arith}
use Rattle.type_verifier.specs.Frames.{padded}
use Rattle.type_verifier.proofs.Padding.{pad_more}
use Rattle.type_verifier.proofs.framing.pad.Goals as goal

pub loop-words-preserved : goal.loop-words-preserved
loop-words-preserved c =
    pad_more c.args.max_locals c.loop-words.words.items c.push.new.self.items
    (padded c.args.max_locals c.args.words.now.items)
    (omega (arith, c.loop-words-test.true, c.len.ensures)) c.in_ok-push.ensures.items c.loop-words.invariant
