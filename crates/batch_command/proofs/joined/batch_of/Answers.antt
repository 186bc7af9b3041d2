-- Answers of `batch_of`: what its calls ask for, and what it promises.
use Rattle.std.proofs.Common.{◌≡◌, ◌+◌, ◌++◌, ◌∷◌, ℕ, List, length, sym, ap, arith, ◌∙◌, Result}
use Rattle.std.proofs.lemmas.List.{append_assoc}
use Rattle.std.specs.Vec.Iter.{into_iter_items}
use Rattle.command_frame.specs.declared.command.Plan.{Plan}
use Rattle.command_frame.specs.declared.refusal.Refusal.{Refusal}
use Rattle.batch_command.specs.Batch.{files_in, files_of, first_status, or_else, report, reports, status_of}
use Rattle.batch_command.proofs.Joins.{else_assoc}
use Rattle.batch_command.proofs.joined.batch_of.Goals as goal

pub loop-answer-preserved : goal.loop-answer-preserved
loop-answer-preserved c =
    let inv = c.loop-answer.invariant in
    let answer = c.in-Some.answer in
    let rest : List (Result Plan Refusal) = into_iter_items c.next.new.self in
    let first : into_iter_items c.loop-answer.answer-iterator ≡ answer ∷ rest = c.in-Some.ensures.steps.0 in
    let number : ℕ = c.loop-answer.number + 1 in
    record {
      files = rw c.in_ok-push_files.ensures (append_assoc c.loop-answer.files (files_of answer) (files_in rest)
          ∙ ap (λ (t : List (Result Plan Refusal)). c.loop-answer.files ++ files_in t) (sym first) ∙ inv.files);
      text = rw c.in_ok-push_report.ensures
          (append_assoc c.loop-answer.text.items (report number answer) (reports (number + 1) rest)
          ∙ ap (λ (t : List (Result Plan Refusal)). c.loop-answer.text.items ++ reports number t) (sym first) ∙ inv.text);
      status = rw (c.or_else-status.ensures, c.status_of.ensures)
          (else_assoc c.loop-answer.status (status_of answer) (first_status rest)
          ∙ ap (λ (t : List (Result Plan Refusal)). or_else c.loop-answer.status (first_status t)) (sym first)
          ∙ inv.status);
      counted = omega (arith, inv.counted, ap length first);
      lasts = omega (arith, inv.lasts, c.in-Some.ensures.steps.1, ap length first);
    }
