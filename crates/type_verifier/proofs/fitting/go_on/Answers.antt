-- Answers of `go_on`: what its calls ask for, and what it promises.
use Rattle.std.proofs.Common.{ℕ, ap, subst, List, Option, Some, refl, length}
use Rattle.class_model.specs.declared.frame.VType.{VType}
use Rattle.type_verifier.specs.bodies.Noting.{Notes}
use Rattle.type_verifier.specs.bodies.Seen.{environment_of}
use Rattle.type_verifier.proofs.Telling.{went_on}
use Rattle.type_verifier.proofs.fitting.go_on.Goals as goal

pub returns : goal.returns
returns c =
    went_on (environment_of c.args.env.now) c.args.at c.args.frame.now c.forget_begun.new.noted.items
    c.note_many.new.noted.items
    (record { count = Some (length c.as_slice-types.result.now); noted = c.note_many.new.noted }) c.requires.satisfies
    c.forget_begun.ensures
    (subst (λ (types : List VType). Notes c.forget_begun.new.noted.items c.note_many.new.noted.items types)
    c.as_slice-types.ensures c.in_ok-note_many.ensures)
    (ap (λ (n : ℕ). let o : Option ℕ = Some n in o) (ap length c.as_slice-types.ensures)) refl
