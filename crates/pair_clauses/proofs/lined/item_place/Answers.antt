-- Answers of `item_place`: what its calls ask for, and what it promises.
use Rattle.std.proofs.Common.{◌≡◌, Option, Some, slice_get, sym, ap, subst, ◌∙◌}
use Rattle.std.specs.Prelude.{IfOk}
use Rattle.pair_clauses.specs.Places.{item_places}
use Rattle.pair_clauses.specs.declared.place.Place.{Place}
use Rattle.pair_clauses.proofs.Standing.{place_there}
use Rattle.pair_clauses.proofs.lined.item_place.Goals as goal

pub returns : goal.returns
returns c =
    let standing = c.standing_of-standing.ensures in
    let there = place_there c.args.set.now c.standing_of-standing.result.class c.class.result.now
    c.standing_of-standing.result.member
    c.class.ensures.is (standing.class c.class.result.now c.class.ensures.is) in
    subst (λ (o : Option Place). IfOk c.place_in.result (λ place. o ≡ Some place))
    (sym (ap (slice_get (item_places c.args.set.now)) (sym standing.is) ∙ there)) c.place_in.ensures
