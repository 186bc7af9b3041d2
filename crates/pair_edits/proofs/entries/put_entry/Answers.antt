-- Answers of `put_entry`: what its calls ask for, and what it promises.
use Rattle.std.proofs.Common.{◌≡◌, Some, subst}
use Rattle.std.specs.Prelude.{if◌then◌else◌, OnOk}
use Rattle.std.specs.Borrow.{Bor}
use Rattle.std.specs.Map.{lookup}
use Rattle.std.specs.Option.{option_map}
use Rattle.witness_file.specs.declared.witness.MethodWitness.{MethodWitness}
use Rattle.pair_edits.specs.bodies.Tables.{MethodKey, is_same}
use Rattle.pair_edits.proofs.entries.put_entry.Goals as goal

pub returns : goal.returns
returns c = subst
    (λ (own : MethodKey). OnOk c.put_key.result ((key : MethodKey)
    → option_map (λ (e : Bor MethodWitness). e.now) (lookup (is_same key) c.put_key.new.table)
    ≡ (if is_same key own then Some c.args.entry.now
    else option_map (λ (e : Bor MethodWitness). e.now) (lookup (is_same key) c.args.table.now))))
    (λ i. (c.in_ok-clone.ensures.cases i, (c.in_ok-clone-2.ensures.cases i, c.in_ok-clone-3.ensures.cases i)))
    c.put_key.ensures
