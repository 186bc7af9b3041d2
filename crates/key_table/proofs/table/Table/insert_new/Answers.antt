-- Answers of `Table::insert_new`: what its calls ask for, and what it promises.
use Rattle.std.proofs.Common.{List, refl, ap, ◌∙◌}
use Rattle.std.specs.List.{position}
use Rattle.std.specs.Map.{keys_of}
use Rattle.key_table.proofs.Found.{is_missing}
use Rattle.key_table.proofs.table.Table.insert_new.Goals as goal

pub push-requires-clause-missing : goal.push-requires-clause-missing
push-requires-clause-missing g c =
    let eq = g.K.PartialEq.eq in
    let es = c.self.inside.entries.items in
    is_missing eq c.args.key c.args.value es (position (eq c.args.key) (keys_of es)) refl
    (ap (λ (xs : List _). position (eq c.args.key) (keys_of xs)) c.self.view_is ∙ c.requires)
