-- Answers of `place_of`: what its calls ask for, and what it promises.
use Rattle.std.proofs.Common.{sym, subst}
use Rattle.std.specs.Prelude.{IfOk}
use Rattle.pair_checker.specs.Clauses.{Finds}
use Rattle.pair_checker.specs.declared.answer.Clause.{Clause}
use Rattle.pair_checker.proofs.Clausal.{found_fixed, found_illegal, found_stray}
use Rattle.pair_checker.proofs.matching.place_of.Goals as goal

pub returns-in-FixedName : goal.returns-in-FixedName
returns-in-FixedName c = λ rules is.
    let pair = c.args.pair.now in
    subst (λ (k : Clause). IfOk c.fixed_fault.result (Finds pair.input.now pair.output.now pair.mapping.now rules
    pair.witness.now k))
    (sym c.in-FixedName.is) (found_fixed pair rules is c.fixed_fault.result c.fixed_fault.ensures)

pub returns-in-WitnessStray : goal.returns-in-WitnessStray
returns-in-WitnessStray c = λ rules is.
    let pair = c.args.pair.now in
    subst (λ (k : Clause). IfOk c.stray_entry.result (Finds pair.input.now pair.output.now pair.mapping.now rules
    pair.witness.now k))
    (sym c.in-WitnessStray.is) (found_stray pair rules is c.stray_entry.result c.stray_entry.ensures)

pub returns-in-EditIllegal : goal.returns-in-EditIllegal
returns-in-EditIllegal c = λ rules is.
    let pair = c.args.pair.now in
    subst (λ (k : Clause). IfOk c.illegal_edit.result (Finds pair.input.now pair.output.now pair.mapping.now rules
    pair.witness.now k))
    (sym c.in-EditIllegal.is) (found_illegal pair rules is c.illegal_edit.result c.illegal_edit.ensures)
