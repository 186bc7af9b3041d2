-- Answers of `method_info`: what its calls ask for, and what it promises.
use Rattle.std.proofs.Common.{◌||◌, Bool, ℕ, Ok, Result, Option, not, sym, ap, ◌∙◌}
use Rattle.std.proofs.lemmas.Result.{err_from_is_err_and}
use Rattle.jv_base.specs.Place.{Place}
use Rattle.format_reading.specs.declared.fault.FormatFault.{FormatFault}
use Rattle.format_reading.specs.declared.fault.FormatKind.TheVariants.{BadAttribute}
use Rattle.class_model.specs.declared.class.Method.{Method}
use Rattle.class_model.specs.declared.class.LeftKind.{LeftKind}
use Rattle.class_model.specs.Lookups.{test}
use Rattle.class_model.specs.ReadingCodeAttribute.{is_there}
use Rattle.class_model.specs.ReadingMembers.{MethodRead}
use Rattle.class_read.specs.bodies.Entries.{found_at}
use Rattle.class_read.proofs.MethodInfo.{head_ends, attributes_end, code_lacks, is_read, whole}
use Rattle.class_read.proofs.methods.method_info.Goals as goal

pub returns-in_err-begun-clause-read : goal.returns-in_err-begun-clause-read
returns-in_err-begun-clause-read c =
    let p = err_from_is_err_and c.from_residual.result c.from_residual.ensures.1 in
    rw (p.1, p.2)
    (head_ends c.args.pool.now c.args.in_interface c.args.class.now c.args.before.now c.in_err-begun.field-0.0
    c.method_head.new.cursor c.method_head.new.cursor c.args.cursor.now c.in_err-begun.ensures.read)

pub returns-in_err-seen-clause-read : goal.returns-in_err-seen-clause-read
returns-in_err-seen-clause-read c =
    let p = err_from_is_err_and c.from_residual-in_err-seen.result c.from_residual-in_err-seen.ensures.1 in
    rw (p.1, p.2)
    (attributes_end c.args.pool.now c.args.in_interface c.args.class.now c.args.before.now c.in_err-seen.field-0.0
    c.counted.new.cursor c.counted.new.cursor c.args.cursor.now c.method_head.new.cursor c.in_ok-begun.begun
    c.in_ok-begun.ensures.read c.in_err-seen.ensures)

pub returns-in_err-check_body-clause-read : goal.returns-in_err-check_body-clause-read
returns-in_err-check_body-clause-read c =
    let p = err_from_is_err_and c.from_residual-in_err-check_body.result c.from_residual-in_err-check_body.ensures.1 in
    let h = c.in_ok-begun.begun in
    let seen = c.in_ok-seen.seen in
    let found = c.in_err-check_body.ensures
    ∙ ap (λ (b : Bool). found_at c.place-at.result
    (test BadAttribute (not b || is_there seen.body))) c.has_body.ensures
    ∙ ap (λ (at : ℕ). found_at at (whole h.0 seen)) c.place-at.ensures in
    rw (p.1, p.2)
    (code_lacks c.args.pool.now c.args.in_interface c.args.class.now c.args.before.now c.args.cursor.now
    c.method_head.new.cursor c.counted.new.cursor h seen c.in_err-check_body.field-0.0 c.in_ok-begun.ensures.read
    c.in_ok-seen.ensures found)

pub returns-clause-read : goal.returns-clause-read
returns-clause-read c =
    let h = c.in_ok-begun.begun in
    let seen = c.in_ok-seen.seen in
    let q = c.counted.new.cursor in
    let found = c.in_ok-check_body.ensures
    ∙ ap (λ (b : Bool). found_at c.place-at.result
    (test BadAttribute (not b || is_there seen.body))) c.has_body.ensures
    ∙ ap (λ (at : ℕ). found_at at (whole h.0 seen)) c.place-at.ensures in
    is_read c.args.pool.now c.args.in_interface c.args.class.now c.args.before.now c.args.cursor.now
    c.method_head.new.cursor q h seen c.in_ok-begun.ensures.read c.in_ok-seen.ensures found
    ∙ ap (λ (m : Method × Option LeftKind). let R : Result (MethodRead × Place) FormatFault = Ok
    ((m.0, h.1, m.1), q) in R) (sym c.method_of-made.ensures)
