-- Answers of `op_aimed`: what its calls ask for, and what it promises.
use Rattle.std.proofs.Common.{ℕ, List, subst}
use Rattle.jv_base.specs.Outcome.{IsDue}
use Rattle.code_read.specs.declared.unaimed.Match.{Match}
use Rattle.code_read.specs.Targets.{table_aimed, lookup_aimed}
use Rattle.code_read.specs.bodies.Targets.{aim_in}
use Rattle.code_read.proofs.targets.op_aimed.Goals as goal

pub returns-in-TableSwitch : goal.returns-in-TableSwitch
returns-in-TableSwitch c =
    let s = c.in-TableSwitch in
    rw s.is (subst (λ (offsets : List ℕ). IsDue c.table_aimed.result
    (table_aimed
    (aim_in c.args.table.now) c.args.at s.default s.low offsets)) c.as_slice.ensures c.table_aimed.ensures)

pub returns-in-LookupSwitch : goal.returns-in-LookupSwitch
returns-in-LookupSwitch c =
    let s = c.in-LookupSwitch in
    rw s.is (subst (λ (matches : List Match). IsDue c.lookup_aimed.result
    (lookup_aimed
    (aim_in c.args.table.now) c.args.at s.default matches)) c.as_slice-in-LookupSwitch.ensures c.lookup_aimed.ensures)
