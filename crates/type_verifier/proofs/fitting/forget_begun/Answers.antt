-- Answers of `forget_begun`: what its calls ask for, and what it promises.
use Rattle.std.proofs.Common.{sym, ◌+◌, ◌∙◌}
use Rattle.type_verifier.specs.bodies.Seen.{environment_of}
use Rattle.type_verifier.proofs.Telling.{none_noted, noted_still}
use Rattle.type_verifier.proofs.fitting.forget_begun.Goals as goal

pub returns-else-is_first_covered : goal.returns-else-is_first_covered
returns-else-is_first_covered c =
    noted_still (environment_of c.args.env.now) c.args.at c.args.noted.now.items c.requires.noted
    (sym (c.requires.places.covered.marked c.args.at c.requires.instruction) ∙ sym c.is_first_covered.ensures
    ∙ c.if-is_first_covered.false)

pub returns-then-is_first_covered : goal.returns-then-is_first_covered
returns-then-is_first_covered c =
    none_noted (environment_of c.args.env.now) (c.args.at + 1) c.clear.new.self.items c.clear.ensures.items
