-- Answers of `read_mapping`: what its calls ask for, and what it promises.
use Rattle.std.proofs.Common.{◌≡◌, List, ℕ, Result, Ok, Err, sym, ap, ◌∙◌}
use Rattle.std.proofs.lemmas.Result.{err_from_is_err_and}
use Rattle.jv_base.proofs.Due.{due_only}
use Rattle.mapping_file.specs.MapReading.{read_mapping}
use Rattle.mapping_file.proofs.MapLaw.{mapping_read, mapping_refused, read_found, read_only}
use Rattle.mapping_file.proofs.reading.read_mapping.Goals as goal

pub returns-clause-found : goal.returns-clause-found
returns-clause-found c = read_found c.args.bytes.now c.in_ok-mapping_of.field-0
    (mapping_read c.args.bytes.now c.in_ok-read.read c.in_ok-mapping_of.field-0 c.in_ok-read.ensures
    c.in_ok-mapping_of.ensures)

pub returns-clause-only : goal.returns-clause-only
returns-clause-only c = λ map h. sym (read_only c.args.bytes.now map h)
    ∙ mapping_read c.args.bytes.now c.in_ok-read.read c.in_ok-mapping_of.field-0 c.in_ok-read.ensures
    c.in_ok-mapping_of.ensures

pub returns-clause-exact : goal.returns-clause-exact
returns-clause-exact c = mapping_read c.args.bytes.now c.in_ok-read.read c.in_ok-mapping_of.field-0 c.in_ok-read.ensures
    c.in_ok-mapping_of.ensures

pub returns-in_err-read-clause-exact : goal.returns-in_err-read-clause-exact
returns-in_err-read-clause-exact c =
    let p = err_from_is_err_and c.from_residual.result c.from_residual.ensures.1 in
    rw (p.1, p.2) (mapping_refused c.args.bytes.now c.in_err-read.field-0.0 c.in_err-read.ensures)

pub returns-in_err-read-clause-only : goal.returns-in_err-read-clause-only
returns-in_err-read-clause-only c = λ map h.
    let p = err_from_is_err_and c.from_residual.result c.from_residual.ensures.1 in
    due_only c.from_residual.result (read_mapping c.args.bytes.now) map (read_only c.args.bytes.now map h)
    (rw (p.1, p.2) (mapping_refused c.args.bytes.now c.in_err-read.field-0.0 c.in_err-read.ensures))
