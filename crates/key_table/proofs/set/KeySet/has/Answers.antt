-- Answers of `KeySet::has`: what its calls ask for, and what it promises.
use Rattle.std.proofs.Common.{List, ap, ◌∙◌}
use Rattle.std.specs.List.{list_any}
use Rattle.std.specs.Map.{keys_of}
use Rattle.key_table.proofs.Found.{any_there}
use Rattle.key_table.proofs.set.KeySet.has.Goals as goal

pub returns : goal.returns
returns g c =
    let test = g.K.PartialEq.eq c.args.key.now in
    c.is_some.ensures ∙ any_there test (keys_of c.self.inside.table) c.place.result c.place.ensures.found
    ∙ ap (λ (ks : List _). list_any test ks) c.self.view_is
