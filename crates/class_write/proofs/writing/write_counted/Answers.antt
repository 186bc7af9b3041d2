-- Answers of `write_counted`: what its calls ask for, and what it promises.
use Rattle.std.proofs.Common.{◌≡◌, List, ◌++◌, Ok, sym, ap, subst, ◌∙◌}
use Rattle.std.proofs.lemmas.Result.{err_from_is_err_and}
use Rattle.std.proofs.lemmas.List.Elements.{All-from_recursion, recursion_from_All}
use Rattle.std.proofs.Common.{ℕ}
use Rattle.jv_base.specs.Outcome.{FaultIs}
use Rattle.class_model.specs.declared.class.Method.{Method}
use Rattle.class_model.specs.Flags.{is_interface}
use Rattle.class_model.specs.ClassFile.{class_file}
use Rattle.class_model.specs.CanonicalClass.{class_raw}
use Rattle.class_model.specs.WriteLimits.{first_of, code_fits, tables_fit}
use Rattle.class_write.specs.bodies.Placing.{placed_bodies, bodies_due}
use Rattle.class_write.specs.bodies.Limits.{IsCounted}
use Rattle.constant_table.specs.Limits.{pool_fits}
use Rattle.class_write.specs.bodies.Writing.{HasFitting}
use Rattle.class_write.proofs.Dues.{bound_ok, pool_fault_due, codes_fault_due, tables_fault, bodies_fault_due}
use Rattle.class_write.proofs.Dues.{bytes_due}
use Rattle.class_write.proofs.Fitting.{fitting, tables_ok, writables}
use Rattle.class_write.proofs.writing.write_counted.Goals as goal

pub returns-in_err-check_limits : goal.returns-in_err-check_limits
returns-in_err-check_limits c =
    let class = c.args.class.now in
    let pool = c.in_ok-pool.pool in
    let is = c.in_ok-pool.ensures in
    let p = err_from_is_err_and c.from_residual-in_err-check_limits.result
    c.from_residual-in_err-check_limits.ensures.1 in
    record {
      exact = rw (p.1, p.2)
          (pool_fault_due class pool is c.in_err-check_limits.field-0.0 c.in_err-check_limits.ensures);
    }

pub returns-in_err-placed : goal.returns-in_err-placed
returns-in_err-placed c =
    let class = c.args.class.now in
    let pool = c.in_ok-pool.pool in
    let is = c.in_ok-pool.ensures in
    let fits : pool_fits pool ≡ Ok tt = c.in_ok-check_limits.ensures in
    let p = err_from_is_err_and c.from_residual-in_err-placed.result c.from_residual-in_err-placed.ensures.1 in
    let fault : FaultIs c.in_err-placed.field-0.0 (bodies_due pool class.methods) =
    subst (λ (ms : List Method). FaultIs c.in_err-placed.field-0.0
    (bodies_due pool ms)) c.as_slice.ensures c.in_err-placed.ensures in
    record { exact = rw (p.1, p.2) (codes_fault_due class pool is fits c.in_err-placed.field-0.0 fault) }

pub returns-in-Err : goal.returns-in-Err
returns-in-Err c =
    let class = c.args.class.now in
    let pool = c.in_ok-pool.pool in
    let is = c.in_ok-pool.ensures in
    let fits : pool_fits pool ≡ Ok tt = c.in_ok-check_limits.ensures in
    let due : bodies_due pool class.methods ≡ Ok c.in_ok-placed.placed =
    subst (λ (ms : List Method). bodies_due pool ms
    ≡ Ok c.in_ok-placed.placed) c.as_slice.ensures c.in_ok-placed.ensures in
    let coded = (bound_ok (placed_bodies pool class.methods) (first_of
    (λ (m : Method). code_fits pool m.code) class.methods) c.in_ok-placed.placed due).0 in
    record { exact = tables_fault class pool is fits coded c.in-Err.limit (sym c.in-Err.ensures) }

pub put_class_file-requires-clause-fitting : goal.put_class_file-requires-clause-fitting
put_class_file-requires-clause-fitting c =
    let class = c.args.class.now in
    let pool = c.in_ok-pool.pool in
    let is = c.in_ok-pool.ensures in
    let due : bodies_due pool class.methods ≡ Ok c.in_ok-placed.placed =
    subst (λ (ms : List Method). bodies_due pool ms
    ≡ Ok c.in_ok-placed.placed) c.as_slice.ensures c.in_ok-placed.ensures in
    let coded = (bound_ok (placed_bodies pool class.methods) (first_of
    (λ (m : Method). code_fits pool m.code) class.methods) c.in_ok-placed.placed due).0 in
    let tables : tables_fit class ≡ Ok tt = sym c.in_default.ensures in
    let writable = writables (is_interface class.flags.0) class.methods c.requires.well_formed.methods c.requires.words
    (recursion_from_All (λ (m : Method). IsCounted m.code) class.methods c.requires.counts) in
    All-from_recursion (HasFitting pool) class.methods
    (fitting pool class.name class.methods writable coded (tables_ok class tables).in_methods)

pub returns-in_err-put_class_file : goal.returns-in_err-put_class_file
returns-in_err-put_class_file c =
    let class = c.args.class.now in
    let pool = c.in_ok-pool.pool in
    let is = c.in_ok-pool.ensures in
    let fits : pool_fits pool ≡ Ok tt = c.in_ok-check_limits.ensures in
    let due : bodies_due pool class.methods ≡ Ok c.in_ok-placed.placed =
    subst (λ (ms : List Method). bodies_due pool ms
    ≡ Ok c.in_ok-placed.placed) c.as_slice.ensures c.in_ok-placed.ensures in
    let coded = (bound_ok (placed_bodies pool class.methods) (first_of
    (λ (m : Method). code_fits pool m.code) class.methods) c.in_ok-placed.placed due).0 in
    let tables : tables_fit class ≡ Ok tt = sym c.in_default.ensures in
    let p = err_from_is_err_and c.from_residual-in_err-put_class_file.result
    c.from_residual-in_err-put_class_file.ensures.1 in
    record {
      exact = rw (p.1, p.2) (bodies_fault_due class pool is fits coded tables c.in_err-put_class_file.field-0.0
          c.new-out.result.items c.put_class_file.new.out.items
          (class_file (class_raw pool class)) c.in_err-put_class_file.ensures);
    }

pub returns : goal.returns
returns c =
    let class = c.args.class.now in
    let pool = c.in_ok-pool.pool in
    let is = c.in_ok-pool.ensures in
    let fits : pool_fits pool ≡ Ok tt = c.in_ok-check_limits.ensures in
    let due : bodies_due pool class.methods ≡ Ok c.in_ok-placed.placed =
    subst (λ (ms : List Method). bodies_due pool ms
    ≡ Ok c.in_ok-placed.placed) c.as_slice.ensures c.in_ok-placed.ensures in
    let coded = (bound_ok (placed_bodies pool class.methods) (first_of
    (λ (m : Method). code_fits pool m.code) class.methods) c.in_ok-placed.placed due).0 in
    let tables : tables_fit class ≡ Ok tt = sym c.in_default.ensures in
    let made = c.in_ok-put_class_file.ensures in
    let bytes : c.from_vec.result ≡ class_file (class_raw pool class) =
    c.from_vec.ensures ∙ (made.1 ∙ ap (λ (xs : List ℕ). xs ++ class_file
    (class_raw pool class)) c.new-out.ensures.items) in
    record { exact = bytes_due class pool is fits coded c.from_vec.result tables made.0 bytes }
