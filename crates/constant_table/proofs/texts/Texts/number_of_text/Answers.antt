-- Answers of `Texts::number_of_text`: what its calls ask for, and what it promises.
use Rattle.std.proofs.Common.{◌≡◌, ℕ, List, sym, subst, ◌∙◌}
use Rattle.jv_base.specs.Utf16.{units_of}
use Rattle.constant_table.specs.bodies.Keys.{number_of}
use Rattle.constant_table.specs.bodies.Texts.{HasNumber}
use Rattle.constant_table.proofs.Numbering.{number_told}
use Rattle.constant_table.proofs.texts.Texts.number_of_text.Goals as goal

pub returns-in-Some : goal.returns-in-Some
returns-in-Some c =
    let h : HasNumber c.self.inside.units c.in-Some.number (units_of c.args.text.now) =
    number_told c.self.inside.units c.self.inside.numbers c.args.text.now c.in-Some.number c.self.invariant
    (sym c.in-Some.is ∙ c.number_kept.ensures) in
    subst (λ (ts : List (List ℕ)). c.in-Some.number ≡ number_of ts (units_of c.args.text.now)) c.self.view_is h.is
