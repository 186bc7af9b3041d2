-- Answers of `add_row`: what its calls ask for, and what it promises.
use Rattle.std.proofs.Common.{◌∙◌, Bool, [], Option, ap, not, subst, sym}
use Rattle.std.specs.Prelude.{OnOk, if◌then◌else◌}
use Rattle.std.specs.List.{cons_option}
use Rattle.mark_core.specs.declared.system.Pair.{Pair}
use Rattle.method_places.specs.bodies.Alike.{member_at}
use Rattle.override_pairs.specs.bodies.Counting.{AddsPairs}
use Rattle.item_numbers.specs.bodies.Selecting.{pair_with}
use Rattle.override_pairs.proofs.CountedPairs.{no_pair}
use Rattle.method_places.proofs.InstanceRows.{inheritable_is, listed_row}
use Rattle.override_pairs.proofs.pairs.add_row.Goals as goal

pub returns-then-is_hidden : goal.returns-then-is_hidden
returns-then-is_hidden c =
    let set = c.args.receiver.now.numbered.now.set.now in
    let is = listed_row set c.args.receiver.now.table.now c.requires.receiver.rows c.args.class.now.number
    c.args.row.now
    c.requires.above.there c.requires.row in
    subst (λ (b : Bool). AddsPairs c.args.pairs.now (if b then cons_option
    (pair_with set c.args.class.now.own c.args.receiver.now.class (member_at c.args.row.now)) [] else [])
    c.args.pairs.now)
    (sym (inheritable_is set c.requires.receiver.rows.number c.args.class.now.number c.args.row.now is
    ∙ ap not (sym c.is_hidden.ensures ∙ c.if-is_hidden.true)))
    (no_pair c.args.pairs.now)

pub returns : goal.returns
returns c =
    let set = c.args.receiver.now.numbered.now.set.now in
    let is = listed_row set c.args.receiver.now.table.now c.requires.receiver.rows c.args.class.now.number
    c.args.row.now
    c.requires.above.there c.requires.row in
    subst (λ (b : Bool). OnOk c.add.result (AddsPairs c.args.pairs.now (if b then cons_option
    (pair_with set c.args.class.now.own c.args.receiver.now.class (member_at c.args.row.now)) [] else [])
    c.add.new.self))
    (sym (inheritable_is set c.requires.receiver.rows.number c.args.class.now.number c.args.row.now is
    ∙ ap not (sym c.is_hidden.ensures ∙ c.if-is_hidden.false)))
    (subst (λ (p : Option Pair). OnOk c.add.result (AddsPairs c.args.pairs.now (cons_option p []) c.add.new.self))
    c.pair_with.ensures c.add.ensures)
