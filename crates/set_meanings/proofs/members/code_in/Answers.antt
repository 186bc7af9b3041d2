-- Answers of `code_in`: what its calls ask for, and what it promises.
use Rattle.std.proofs.Common.{sym, arith, ◌∙◌}
use Rattle.set_meanings.proofs.Numbered.{code_told, no_code_told}
use Rattle.set_meanings.proofs.members.code_in.Goals as goal

pub returns-then-index-fields : goal.returns-then-index-fields
returns-then-index-fields c =
    sym (no_code_told c.args.class.now.fields c.args.class.now.methods c.args.index
    (omega (arith, c.if-index-fields.true, c.len-fields.ensures)))

pub returns-else-index-fields : goal.returns-else-index-fields
returns-else-index-fields c =
    c.as_ref.ensures.value
    ∙ code_told c.args.class.now.fields c.args.class.now.methods c.args.index c.len-fields.result c.index.result.now
    (sym c.len-fields.ensures) (omega (arith, c.if-index-fields.false)) c.index.ensures
