-- Answers of `Table::place`: what its calls ask for, and what it promises.
use Rattle.std.proofs.Common.{ℕ, Option, List, sym, ap, ◌∙◌}
use Rattle.std.specs.List.{position}
use Rattle.std.specs.BTreeMap.{is_at}
use Rattle.std.specs.Map.{keys_of, lookup}
use Rattle.std.specs.Ordering.{nat_cmp}
use Rattle.key_table.specs.Tables.{place_by}
use Rattle.key_table.proofs.Found.{from_zero, if_within}
use Rattle.key_table.proofs.table.Table.place.Goals as goal

pub returns-clause-found : goal.returns-clause-found
returns-clause-found g c =
    let cmp = g.K.Ord.cmp in
    let eq = g.K.PartialEq.eq in
    let key = c.args.key.now in
    c.place_in.ensures
    ∙ ap (λ (es : List _). place_by cmp eq (keys_of es) c.self.inside.others.entries key c.first_place.result)
    c.as_slice.ensures.value
    ∙ ap (λ (o : Option ℕ). place_by cmp eq (keys_of c.self.inside.entries.items) c.self.inside.others.entries key o)
    (c.first_place.ensures ∙ ap (λ m. lookup (is_at (nat_cmp m)) c.self.inside.firsts.entries) c.mark.ensures)
    ∙ c.self.invariant.found key ∙ sym (from_zero (eq key) (keys_of c.self.inside.entries.items))
    ∙ ap (λ (es : List _). position (eq key) (keys_of es)) c.self.view_is

pub returns-clause-within : goal.returns-clause-within
returns-clause-within g c =
    if_within (g.K.PartialEq.eq c.args.key.now) c.args.self.now c.place_in.result (returns-clause-found g c)
