-- Answers of `item_text`: what its calls ask for, and what it promises.
use Rattle.std.proofs.Common.{◌≡◌, ℕ, List, Option, Some, slice_get, sym, ap, subst, ◌∙◌}
use Rattle.std.specs.Prelude.{IfOk}
use Rattle.list_texts.specs.ItemTexts.{item_texts}
use Rattle.list_texts.proofs.Listing.{text_there}
use Rattle.list_texts.proofs.items.item_text.Goals as goal

pub returns : goal.returns
returns c =
    let place = c.place_of-place.ensures in
    let there = text_there c.args.set.now c.place_of-place.result.class c.class.result.now
    c.place_of-place.result.member
    c.class.ensures.is (place.class c.class.result.now c.class.ensures.is) in
    subst (λ (o : Option (List ℕ)). IfOk c.text_at.result (λ text. o ≡ Some text))
    (sym (ap (slice_get (item_texts c.args.set.now)) (sym place.is) ∙ there)) c.text_at.ensures
