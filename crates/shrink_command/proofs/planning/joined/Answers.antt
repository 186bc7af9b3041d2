-- Answers of `joined`: what its calls ask for, and what it promises.
use Rattle.std.proofs.Common.{◌≡◌, List, Result, Err, ap, refl, sym, ◌∙◌}
use Rattle.tree_io.specs.declared.file_at.FileAt.{FileAt}
use Rattle.command_frame.proofs.Steps.{then_makes}
use Rattle.command_frame.specs.Refusal.{absent_by}
use Rattle.command_frame.specs.Steps.{stops}
use Rattle.command_frame.specs.declared.refusal.Refusal.{Refusal}
use Rattle.set_shrink.specs.Texts.{texts_beside}
use Rattle.shrink_command.specs.Due.{IsPlan, or_long}
use Rattle.shrink_command.proofs.planning.joined.Goals as goal

pub returns-in-Ok : goal.returns-in-Ok
returns-in-Ok c = λ due is.
    let told = texts_beside c.args.shrunk.mapping c.args.edits.now due c.args.rules.now c.args.witness.now in
    then_makes (λ (z : Result (List FileAt) Refusal). z ≡ or_long told) (IsPlan c.args.shrunk c.args.edits.now c.args.fallback)
    c.in-Ok.texts c.with_summary.result (sym (ap or_long (c.in-Ok.ensures due is))) c.with_summary.ensures

pub returns-in-Err-Fault : goal.returns-in-Err-Fault
returns-in-Err-Fault c = λ due is.
    let refused : Refusal → Result (List FileAt) Refusal = λ refusal. Err refusal in
    let told = texts_beside c.args.shrunk.mapping c.args.edits.now due c.args.rules.now c.args.witness.now in
    let long : told ≡ Err c.in-Err-Fault.field-0-0 = rw c.in-Err-Fault.field-0-is at (c.in-Err-Fault.ensures due is) in
    let same = c.in_ok-passed-in-Err-Fault.ensures in (
      ap absent_by same,
      stops c.in_ok-passed-in-Err-Fault.field-0 (ap refused same ∙ sym (ap or_long long)) refl,
    )
