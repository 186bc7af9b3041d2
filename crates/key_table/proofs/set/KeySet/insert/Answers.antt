-- Answers of `KeySet::insert`: what its calls ask for, and what it promises.
use Rattle.std.proofs.Common.{◌++◌, ◌∷◌, [], List, ap, sym, not, is_some, ◌∙◌}
use Rattle.std.specs.Map.{keys_of}
use Rattle.key_table.proofs.Found.{any_there, not_again, put_new}
use Rattle.key_table.proofs.Placing.{keys_more}
use Rattle.key_table.proofs.set.KeySet.insert.Goals as goal

pub returns-in-Some-clause-is_new : goal.returns-in-Some-clause-is_new
returns-in-Some-clause-is_new g c =
    ap not (ap is_some (sym c.in-Some.is)
    ∙ any_there (g.K.PartialEq.eq c.args.key) c.args.self.now c.place.result c.place.ensures.found)

pub returns-in-Some-clause-keys : goal.returns-in-Some-clause-keys
returns-in-Some-clause-keys g c =
    not_again (g.K.PartialEq.eq c.args.key) c.args.self.now c.args.key c.in-Some.field-0 c.in-Some.ensures.found

pub returns-in_ok-insert_new-in-None-clause-is_new : goal.returns-in_ok-insert_new-in-None-clause-is_new
returns-in_ok-insert_new-in-None-clause-is_new g c =
    ap not (ap is_some (sym c.in-None.is)
    ∙ any_there (g.K.PartialEq.eq c.args.key) c.args.self.now c.place.result c.place.ensures.found)

pub returns-in_ok-insert_new-in-None-clause-keys : goal.returns-in_ok-insert_new-in-None-clause-keys
returns-in_ok-insert_new-in-None-clause-keys g c =
    let key = c.args.key in
    ap keys_of c.in_ok-insert_new-in-None.ensures ∙ keys_more c.self.inside.table key tt
    ∙ ap (λ (ks : List _). ks ++ key ∷ []) c.self.view_is
    ∙ put_new (g.K.PartialEq.eq key) c.args.self.now key c.in-None.ensures.found
