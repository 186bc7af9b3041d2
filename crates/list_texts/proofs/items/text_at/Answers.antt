-- Answers of `text_at`: what its calls ask for, and what it promises.
use Rattle.std.proofs.Common.{rules, ◌≡◌, suc, ◌+◌, ◌-◌, ◌<◌, Some, slice_get, get_or, length, [], sym, ap, ◌∙◌, arith}
use Rattle.report_text.specs.Spelled.{member_texts}
use Rattle.list_texts.specs.ItemTexts.{item_texts_of, member_text_of}
use Rattle.list_texts.proofs.Listing.{item_there}
use Rattle.list_texts.proofs.items.text_at.Goals as goal

pub returns : goal.returns
returns c =
    let place : c.args.member ≡ suc (c.args.member - 1) = omega arith in
    let low : c.args.member - 1 < length c.args.class.now.fields + length c.args.class.now.methods = omega arith in
    let whole : c.in_ok-from_string.field-0
    ≡ member_text_of c.args.class.now (get_or (member_texts c.args.class.now) (c.args.member - 1) []) = search rules in
    ap (slice_get (item_texts_of c.args.class.now)) place ∙ item_there c.args.class.now (c.args.member - 1) low
    ∙ ap Some (sym whole)
