-- Answers of `KeySet::keep`: what its calls ask for, and what it promises.
use Rattle.std.proofs.Common.{◌++◌, ◌∷◌, [], List, Some, ap, sym, ◌∙◌}
use Rattle.std.specs.List.{position}
use Rattle.std.specs.Map.{keys_of}
use Rattle.key_table.proofs.Found.{found_behind, not_again, put_new}
use Rattle.key_table.proofs.Placing.{keys_more}
use Rattle.key_table.proofs.set.KeySet.keep.Goals as goal

pub returns-in-Some-clause-keys : goal.returns-in-Some-clause-keys
returns-in-Some-clause-keys g c =
    not_again (g.K.PartialEq.eq c.args.key) c.args.self.now c.args.key c.in-Some.place c.in-Some.ensures.found

pub returns-in_ok-insert_new-in-None-clause-keys : goal.returns-in_ok-insert_new-in-None-clause-keys
returns-in_ok-insert_new-in-None-clause-keys g c =
    let key = c.args.key in
    ap keys_of c.in_ok-insert_new-in-None.ensures ∙ keys_more c.self.inside.table key tt
    ∙ ap (λ (ks : List _). ks ++ key ∷ []) c.self.view_is
    ∙ put_new (g.K.PartialEq.eq key) c.args.self.now key c.in-None.ensures.found

pub returns-in_ok-insert_new-in-None-clause-place : goal.returns-in_ok-insert_new-in-None-clause-place
returns-in_ok-insert_new-in-None-clause-place g c =
    let key = c.args.key in
    let test = g.K.PartialEq.eq key in
    ap Some c.len-place.ensures
    ∙ found_behind test c.args.self.now key (g.met.K.Eq.laws.refl key) c.in-None.ensures.found
    ∙ ap (λ (ks : List _). position test (ks ++ key ∷ [])) (sym c.self.view_is)
    ∙ sym (ap (position test) (ap keys_of c.in_ok-insert_new-in-None.ensures ∙ keys_more c.self.inside.table key tt))
