-- Answers of `Entries::entry`: what its calls ask for, and what it promises.
use Rattle.std.proofs.Common.{◌∙◌, ap}
use Rattle.std.specs.Borrow.{Bor}
use Rattle.std.specs.List.{find}
use Rattle.std.specs.Option.{option_map}
use Rattle.witness_file.specs.Witnesses.{is_method}
use Rattle.witness_file.specs.declared.witness.MethodWitness.{MethodWitness}
use Rattle.pair_edits.proofs.entries.Entries.entry.Goals as goal

pub returns : goal.returns
returns c = ap (option_map (λ (e : Bor MethodWitness). e.now)) (c.copied.ensures ∙ c.get.ensures)
    ∙ c.self.invariant (c.in_ok-clone.field-0, (c.in_ok-clone-2.field-0, c.in_ok-ty.ty))
    ∙ (λ i. find (is_method (c.in_ok-clone.ensures.cases i) (c.in_ok-clone-2.ensures.cases i) (c.in_ok-ty.ensures.written i))
    (c.self.view_is i))
