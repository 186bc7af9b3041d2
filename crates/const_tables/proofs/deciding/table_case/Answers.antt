-- Answers of `table_case`: what its calls ask for, and what it promises.
use Rattle.std.proofs.Common.{◌∙◌, sym, rules}
use Rattle.std.proofs.lemmas.Int.{to_z-of_z}
use mir.Syntax.{w32}
use mir.Val.{SFits}
use Rattle.const_tables.proofs.Cases.{case_at, case_before}
use Rattle.const_tables.proofs.deciding.table_case.Goals as goal

pub returns-in-Some : goal.returns-in-Some
returns-in-Some c =
    let key : SFits w32 c.args.key = search rules in
    let low : SFits w32 c.args.low = search rules in
    let e = rw (to_z-of_z w32 c.args.key key, to_z-of_z w32 c.args.low low)
    at c.in-Some.ensures in
    c.item_or.ensures ∙ sym (case_at c.args.cases.now _ c.in-Some.index c.args.other e)

pub returns-in-None : goal.returns-in-None
returns-in-None c =
    let key : SFits w32 c.args.key = search rules in
    let low : SFits w32 c.args.low = search rules in
    let e = rw (to_z-of_z w32 c.args.key key, to_z-of_z w32 c.args.low low)
    at c.in-None.ensures.1 in
    sym (case_before c.args.cases.now _ c.in-None.ensures.0 c.args.other e)
