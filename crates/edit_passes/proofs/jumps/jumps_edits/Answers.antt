-- Answers of `jumps_edits`: what its calls ask for, and what it promises.
use Rattle.std.proofs.Common.{◌∙◌, ◌++◌}
use Rattle.code_edit.specs.Passes.{aims_from, skips_from}
use Rattle.edit_passes.specs.Chains.{ends_in}
use Rattle.edit_passes.proofs.Aiming.{jumps_are}
use Rattle.edit_passes.proofs.jumps.jumps_edits.Goals as goal

pub returns-clause-acts : goal.returns-clause-acts
returns-clause-acts c =
    let table = c.in_ok-table.ensures in
    let ins = c.args.code.now.ins in
    let aims =
    c.in_ok-aim_all.ensures
    ∙ (λ i. c.new-acts.ensures i ++ aims_from
    (ends_in (c.deref.ensures.value i) c.args.code.now) 0 ins) in
    jumps_are c.args.code.now c.in_ok-table.table.items table.0 c.skip_all.new.acts
    c.requires.sound table.1 table.2
    (c.in_ok-skip_all.ensures
    ∙ (λ i. aims i ++ skips_from (ends_in (c.deref-2.ensures.value i) c.args.code.now) 0 ins))
