-- Answers of `put_key`: what its calls ask for, and what it promises.
use Rattle.std.proofs.Common.{Bool, Some, cond, ap, refl, ◌∙◌}
use Rattle.std.proofs.lemmas.Result.{on_ok_weaker}
use Rattle.std.specs.Borrow.{Bor}
use Rattle.std.specs.Map.{lookup}
use Rattle.std.specs.Option.{option_map}
use Rattle.witness_file.specs.declared.witness.MethodWitness.{MethodWitness}
use Rattle.new_names.proofs.Inserted.{put_found}
use Rattle.new_names.proofs.Telling.{map_cond}
use Rattle.pair_edits.specs.bodies.Tables.{is_same}
use Rattle.pair_edits.proofs.Keyed.{key_Decides, same_back}
use Rattle.pair_edits.proofs.entries.put_key.Goals as goal

pub returns : goal.returns
returns c =
    let found = put_found is_same key_Decides c.insert.result c.args.table.now c.insert.new.self c.args.own c.args.own
    c.args.entry c.args.entry c.insert.ensures refl refl in
    on_ok_weaker c.insert.result
    (λ each key. ap (option_map (λ (e : Bor MethodWitness). e.now)) (each key)
    ∙ map_cond (λ (e : Bor MethodWitness). e.now) _ _ _
    ∙ ap (λ (b : Bool). cond b (Some c.args.entry.now)
    (option_map (λ (e : Bor MethodWitness). e.now) (lookup (is_same key) c.args.table.now)))
    (same_back c.args.own key))
    found
