-- Answers of `count_byte`: what its calls ask for, and what it promises.
use Rattle.std.proofs.Common.{sym, ◌∙◌}
use Rattle.std.specs.Int.{w8}
use Rattle.std.proofs.Math.Facts.{Fits-of_lt}
use Rattle.code_write.proofs.Counts.{count_fits}
use Rattle.code_write.proofs.writing.count_byte.Goals as goal

pub overflow_cast-result : goal.overflow_cast-result
overflow_cast-result c = Fits-of_lt {w = w8}
    (count_fits c.args.method.now c.in-Some.count c.requires (sym c.in_ok-count.ensures ∙ c.in-Some.is))
