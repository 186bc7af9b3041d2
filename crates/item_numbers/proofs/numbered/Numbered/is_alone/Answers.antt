-- Answers of `Numbered::is_alone`: what its calls ask for, and what it promises.
use Rattle.std.proofs.Common.{refl, sym, ◌∙◌}
use Rattle.item_numbers.proofs.AloneLaw.{alone_found}
use Rattle.item_numbers.proofs.numbered.Numbered.is_alone.Goals as goal

pub returns-then-is_same_class : goal.returns-then-is_same_class
returns-then-is_same_class c said =
    alone_found c.args.self.now.set.now c.args.self.now.object c.args.self.now.declared.now
    c.args.self.now.declared.now
    c.in-Some.object c.args.member.now c.args.self.now.alone c.in-Some.is
    (sym c.is_same_class.ensures ∙ c.if-is_same_class.true) refl (c.is_false.ensures said)
