-- Answers of `Texts::number_of_units`: what its calls ask for, and what it promises.
use Rattle.std.proofs.Common.{◌≡◌, ℕ, List, subst, ◌∙◌}
use Rattle.constant_table.specs.bodies.Keys.{number_of}
use Rattle.constant_table.specs.bodies.Texts.{HasNumber}
use Rattle.constant_table.proofs.Numbering.{number_behind, number_is}
use Rattle.constant_table.proofs.texts.Texts.number_of_units.Goals as goal

pub returns-in-Some : goal.returns-in-Some
returns-in-Some c =
    let h : HasNumber c.self.inside.units c.in-Some.number c.args.units.now =
    number_is c.self.inside.units c.args.units.now c.in-Some.number c.in-Some.ensures.found in
    subst (λ (ts : List (List ℕ)). c.in-Some.number ≡ number_of ts c.args.units.now) c.self.view_is h.is

pub returns-in-None : goal.returns-in-None
returns-in-None c = subst (λ (ts : List (List ℕ)). c.len.result ≡ number_of ts c.args.units.now) c.self.view_is
    (c.len.ensures ∙ number_behind c.self.inside.units c.args.units.now c.in-None.ensures.found)
