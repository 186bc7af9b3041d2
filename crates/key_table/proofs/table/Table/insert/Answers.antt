-- Answers of `Table::insert`: what its calls ask for, and what it promises.
use Rattle.std.proofs.Common.{List, get_or, sym, ap, subst, ◌∙◌, ◌<◌, length}
use Rattle.std.specs.Prelude.{slice_set, is_ok}
use Rattle.key_table.specs.Tables.{ArePlaced}
use Rattle.key_table.proofs.Found.{at_place, inserted_behind, inserted_there, is_missing, keys_stay}
use Rattle.key_table.proofs.table.Table.insert.Goals as goal

pub invariant_of-self : goal.invariant_of-self
invariant_of-self g c =
    let es = c.self.inside.entries.items in
    let n = c.in-Some.place in
    let within : n < length es = subst (λ (xs : List _). n < length xs) (sym c.self.view_is) c.in-Some.ensures.within in
    subst (λ (ks : List _). ArePlaced g.K.Ord.cmp g.K.PartialEq.eq g.K.Key.mark ks c.self.inside.firsts.entries
    c.self.inside.others.entries)
    (sym (keys_stay g.K.PartialEq.eq c.args.key c.args.value es n c.index_mut.result.now
    (at_place es n c.index_mut.result.now within c.index_mut.ensures.value))) c.self.invariant

pub returns-in-Some : goal.returns-in-Some
returns-in-Some g c =
    let e = c.index_mut.result.now in
    let n = c.in-Some.place in
    ap (λ (es : List _). slice_set es n (e.0, c.args.value)) c.self.view_is
    ∙ inserted_there g.K.PartialEq.eq c.args.key c.args.value c.args.self.now n e c.in-Some.ensures.found
    c.in-Some.ensures.within
    (c.index_mut.ensures.value ∙ ap (λ (es : List _). get_or es n e) c.self.view_is)

pub returns-in-None : goal.returns-in-None
returns-in-None g c =
    let eq = g.K.PartialEq.eq in
    let key = c.args.key in
    c.insert_new.ensures
    ∙ inserted_behind eq key c.args.value c.args.self.now (is_ok c.insert_new.result)
    (is_missing eq key c.args.value c.args.self.now c.place.result c.place.ensures.found c.in-None.is)
