-- Answers of `class_of_name`: what its calls ask for, and what it promises.
use Rattle.std.proofs.Common.{◌<◌, ◌∙◌, sym, subst, arith}
use Rattle.lib_table.proofs.Classes.{class_found, class_below}
use Rattle.lib_table.proofs.Computed.{count}
use Rattle.lib_table.proofs.class.class_of_name.Goals as goal

pub overflow_cast-result : goal.overflow_cast-result
overflow_cast-result c =
    let below : c.in_ok-number.number < 32 =
    subst (λ n. c.in_ok-number.number < n) count
    (class_below c.args.name.now c.in_ok-number.number
    (class_found c.classes.result.now c.args.name.now c.classes.ensures ∙ sym c.row_of_name.ensures
    ∙ c.in_ok-number.was)) in
    omega (arith, below)

pub returns-in_err-number : goal.returns-in_err-number
returns-in_err-number c =
    c.from_residual.ensures ∙ sym (class_found c.classes.result.now c.args.name.now c.classes.ensures
    ∙ sym c.row_of_name.ensures ∙ c.in_err-number.was)

pub returns : goal.returns
returns c = sym (class_found c.classes.result.now c.args.name.now c.classes.ensures ∙ sym c.row_of_name.ensures
    ∙ c.in_ok-number.was)
