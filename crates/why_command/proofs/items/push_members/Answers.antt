-- Answers of `push_members`: what its calls ask for, and what it promises.
use Rattle.std.proofs.Common.{◌≤◌, ◌+◌, ◌<◌, ◌++◌, List, ℕ, length, map, ap, ◌∙◌, arith}
use Rattle.std.proofs.lemmas.List.{take_all}
use Rattle.report_text.specs.Spelled.{member_texts}
use Rattle.list_texts.specs.ItemTexts.{member_text_of}
use Rattle.list_texts.proofs.Listing.{members_counted}
use Rattle.why_command.proofs.AllTexts.{members_more}
use Rattle.why_command.proofs.items.push_members.Goals as goal

pub loop-member-preserved : goal.loop-member-preserved
loop-member-preserved c =
    let class = c.args.class.now in
    let low : c.loop-member.member < length class.fields + length class.methods =
    omega (arith, c.loop-member-test.true, c.len.ensures, c.len-2.ensures) in
    members_more class c.loop-member.member c.args.texts.now c.loop-member.texts c.push.new.self
    c.in_ok-member_item.field-0 low c.loop-member.invariant c.in_ok-member_item.ensures c.in_ok-push.ensures

pub returns : goal.returns
returns c =
    let class = c.args.class.now in
    let long : length (member_texts class) ≤ c.loop-member.member =
    omega (arith, members_counted class, c.loop-member-test.false, c.len.ensures, c.len-2.ensures) in
    c.loop-member.invariant
    ∙ ap (λ (t : List (List ℕ)). c.args.texts.now ++ map (member_text_of class) t)
    (take_all c.loop-member.member (member_texts class) long)
