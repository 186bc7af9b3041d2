-- Answers of `behind_instructions`: what its calls ask for, and what it promises.
use Rattle.std.proofs.Common.{◌≡◌, ℕ, List, Ok, Result, sym, ap, ◌∙◌}
use Rattle.std.proofs.lemmas.Result.{err_from_is_err_and}
use Rattle.jv_base.specs.Place.{Place}
use Rattle.format_reading.specs.declared.fault.FormatFault.{FormatFault}
use Rattle.class_model.specs.ReadingCodeAttribute.{Body, read_handlers}
use Rattle.class_read.proofs.CodeParts.{attributes_end, is_read}
use Rattle.class_read.proofs.code_attributes.behind_instructions.Goals as goal

pub returns-in_err-counted : goal.returns-in_err-counted
returns-in_err-counted c =
    let p = err_from_is_err_and c.from_residual-in_err-counted.result c.from_residual-in_err-counted.ensures.1 in
    let pool = c.args.pool.now in
    let starts = c.args.decoded.starts in
    let same : c.in_ok-starts.starts ≡ starts = c.in_ok-starts.ensures ∙ c.as_slice.ensures in
    let table = ap (λ (ss : List ℕ). read_handlers pool ss c.args.end c.args.cursor.now) (sym same)
    ∙ c.in_ok-handlers.ensures in
    let seen = rw same at c.in_err-counted.ensures in
    rw (p.1, p.2)
    (attributes_end pool c.args.first.now.locals c.args.max_stack c.args.max_locals c.args.end starts c.args.decoded.ops
    c.in_err-counted.field-0.0 c.counted.new.cursor c.counted.new.cursor c.args.cursor.now
    c.read_handlers.new.cursor c.in_ok-handlers.handlers table seen)

pub returns : goal.returns
returns c =
    let pool = c.args.pool.now in
    let starts = c.args.decoded.starts in
    let same : c.in_ok-starts.starts ≡ starts = c.in_ok-starts.ensures ∙ c.as_slice.ensures in
    let table = ap (λ (ss : List ℕ). read_handlers pool ss c.args.end c.args.cursor.now) (sym same)
    ∙ c.in_ok-handlers.ensures in
    let seen = rw same at c.in_ok-counted.ensures in
    is_read pool c.args.first.now.locals c.args.max_stack c.args.max_locals c.args.end starts c.args.decoded.ops
    c.args.cursor.now c.read_handlers.new.cursor c.counted.new.cursor c.in_ok-handlers.handlers
    c.in_ok-counted.field-0 table seen
    ∙ ap (λ (body : Body). let R : Result (Body × Place) FormatFault = Ok (body, c.counted.new.cursor) in R)
    (sym c.in_ok-body.ensures)
