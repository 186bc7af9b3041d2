-- Answers of `read_pool`: what its calls ask for, and what it promises.
use Rattle.std.proofs.Common.{ℕ, List, Result, Ok, Err, false, sym, ap, ◌∙◌}
use Rattle.std.proofs.lemmas.Result.{err_from_is_err_and}
use Rattle.format_reading.specs.Reader.{u2, or_cut}
use Rattle.jv_base.specs.Place.{Place}
use Rattle.format_reading.specs.declared.fault.FormatFault.{FormatFault}
use Rattle.class_model.specs.declared.pool.Entry.{Entry}
use Rattle.class_model.specs.ReadingPool.{slots}
use Rattle.class_read.specs.bodies.Entries.{offsets_of}
use Rattle.class_read.proofs.Judging.{pool_is, told_is}
use Rattle.class_read.proofs.entries.read_pool.Goals as goal

pub returns-in_err-all_named_right : goal.returns-in_err-all_named_right
unfolding u2
returns-in_err-all_named_right c =
    let p = err_from_is_err_and c.from_residual-in_err-all_named_right.result
    c.from_residual-in_err-all_named_right.ensures.1 in
    let xs = c.in_ok-slots.slots in
    let f = c.in_err-all_named_right.field-0.0 in
    let count = ap or_cut c.in_ok-count.ensures in
    let read = ap (λ (n : ℕ). slots n false c.u2.new.self) (sym c.saturating_sub.ensures) ∙ c.in_ok-slots.ensures in
    let pool = c.in_ok-pool.ensures ∙ c.in_ok-entries.ensures in
    let offsets = c.in_ok-offsets.ensures ∙ ap offsets_of c.as_slice.ensures in
    rw (p.1, p.2) (pool_is c.args.cursor.now c.u2.new.self c.slots.new.cursor c.in_ok-count.count xs (Err f) count read
    (told_is xs c.in_ok-pool.pool c.in_ok-offsets.offsets (Err f) pool offsets c.in_err-all_named_right.ensures))

pub returns : goal.returns
unfolding u2
returns c =
    let xs = c.in_ok-slots.slots in
    let count = ap or_cut c.in_ok-count.ensures in
    let read = ap (λ (n : ℕ). slots n false c.u2.new.self) (sym c.saturating_sub.ensures) ∙ c.in_ok-slots.ensures in
    let pool = c.in_ok-pool.ensures ∙ c.in_ok-entries.ensures in
    let offsets = c.in_ok-offsets.ensures ∙ ap offsets_of c.as_slice.ensures in
    pool_is c.args.cursor.now c.u2.new.self c.slots.new.cursor c.in_ok-count.count xs (Ok tt) count read
    (told_is xs c.in_ok-pool.pool c.in_ok-offsets.offsets (Ok tt) pool offsets c.in_ok-all_named_right.ensures)
    ∙ ap (λ (es : List Entry). let R : Result (List Entry × Place) FormatFault = Ok (es, c.slots.new.cursor) in R)
    (sym pool)
