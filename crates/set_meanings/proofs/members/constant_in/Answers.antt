-- Answers of `constant_in`: what its calls ask for, and what it promises.
use Rattle.std.proofs.Common.{sym, ap, arith}
use Rattle.std.specs.Option.{option_map}
use Rattle.set_view.specs.ViewOf.{value_of}
use Rattle.set_meanings.proofs.Numbered.{no_constant_told}
use Rattle.set_meanings.proofs.members.constant_in.Goals as goal

pub returns-else-index-len : goal.returns-else-index-len
returns-else-index-len c =
    sym (ap (option_map value_of) (no_constant_told c.args.class.now.fields c.args.class.now.methods c.args.index
    (omega (arith, c.if-index-len.false, c.len.ensures))))
