-- Answers of `read_output`: what its calls ask for, and what it promises.
use Rattle.std.proofs.Common.{List, inl, inr, subst, ap, ◌∙◌}
use Rattle.tree_io.specs.declared.file_at.FileAt.{FileAt}
use Rattle.set_read.specs.Accepted.{IsAccepted}
use Rattle.pair_checker.proofs.Reading.{fault_of, profile_no}
use Rattle.pair_checker.proofs.checking.read_output.Goals as goal

pub returns-in-Ok : goal.returns-in-Ok
returns-in-Ok c =
    subst (λ (fs : List FileAt). IsAccepted fs c.in-Ok.set) (c.in_ok-files.ensures ∙ c.as_slice.ensures)
    c.in-Ok.ensures.exact

pub returns-in-Err-Fault-Format : goal.returns-in-Err-Fault-Format
returns-in-Err-Fault-Format c =
    let w = c.in-Err-Fault-Format in
    inl (
      (
        w.field-0-0-0,
        w.field-0-0-1,
        fault_of c.args.files.now c.in_ok-files.files w.field-0 w.field-0-0 _
            (c.in_ok-files.ensures ∙ c.as_slice.ensures) w.field-0-is w.field-0-0-is w.ensures.exact,
      ),
      c.no_class_file.ensures,
    )

pub returns-in-Err-Fault-Rule : goal.returns-in-Err-Fault-Rule
returns-in-Err-Fault-Rule c =
    let w = c.in-Err-Fault-Rule in
    inr (
      w.fault,
      fault_of c.args.files.now c.in_ok-files.files w.field-0 w.field-0-0 _
          (c.in_ok-files.ensures ∙ c.as_slice.ensures) w.field-0-is w.field-0-0-is w.ensures.exact,
      c.no_set.ensures ∙ ap profile_no w.fault-is,
    )
