-- Answers of `push_members`: what its calls ask for, and what it promises.
use Rattle.std.proofs.Common.{◌≤◌, ◌+◌, ◌<◌, ◌++◌, List, ℕ, [], length, map, get_or, Err, ap, subst, ◌∙◌, arith}
use Rattle.std.proofs.lemmas.Result.{err_from_is_err_and}
use Rattle.list_texts.specs.bodies.Appends.{IsShort}
use Rattle.list_texts.proofs.Limits.{front_within, stops}
use Rattle.std.specs.Prelude.{string_bytes}
use Rattle.std.specs.List.{enumerate_from, flat_map}
use Rattle.std.proofs.lemmas.List.{length-map, take_all}
use Rattle.std.proofs.lemmas.List.FromFn.{length-enumerate_from}
use Rattle.mark_core.specs.Marks.{set_of}
use Rattle.report_text.specs.Spelled.{member_texts}
use Rattle.list_texts.specs.ItemTexts.{line_if, member_text_of}
use Rattle.list_texts.proofs.Listing.{item_there, members_counted}
use Rattle.list_texts.proofs.Numbered.{numbered_more}
use Rattle.list_texts.proofs.seeds.push_members.Goals as goal

pub returns-in_err-check_length : goal.returns-in_err-check_length
returns-in_err-check_length c =
    let class = c.args.class.now in
    let lines : ℕ × List ℕ → List ℕ = line_if (set_of c.args.marks.now) in
    let texts : List (List ℕ) = map (member_text_of class) (member_texts class) in
    let old : List ℕ = string_bytes c.args.out.now in
    let front : List ℕ = string_bytes c.push_member_line.new.out in
    let low : c.loop-member.member < length class.fields + length class.methods =
    omega (arith, c.loop-member-test.true, c.len.ensures, c.len-2.ensures) in
    let made = numbered_more lines c.args.first texts c.loop-member.member
    (member_text_of class (get_or (member_texts class) c.loop-member.member [])) old (string_bytes c.loop-member.out)
    front (item_there class c.loop-member.member low) c.loop-member.invariant c.in_ok-push_member_line.ensures in
    let e = c.in_err-check_length.field-0.0 in
    let long = subst (λ (t : List ℕ). IsShort (Err e) c.args.limit t) c.as_str.ensures.value
    c.in_err-check_length.ensures in
    let p = err_from_is_err_and c.from_residual-in_err-check_length.result
    c.from_residual-in_err-check_length.ensures.1 in
    rw (p.1, p.2) (stops e c.args.limit front old (flat_map lines (enumerate_from c.args.first texts)) front
    (front_within lines (enumerate_from c.args.first texts) (c.loop-member.member + 1) old front made) long)

pub loop-member-preserved : goal.loop-member-preserved
loop-member-preserved c =
    let class = c.args.class.now in
    let low : c.loop-member.member < length class.fields + length class.methods =
    omega (arith, c.loop-member-test.true, c.len.ensures, c.len-2.ensures) in
    numbered_more (line_if (set_of c.args.marks.now)) c.args.first (map (member_text_of class) (member_texts class))
    c.loop-member.member (member_text_of class (get_or (member_texts class) c.loop-member.member []))
    (string_bytes c.args.out.now) (string_bytes c.loop-member.out) (string_bytes c.push_member_line.new.out)
    (item_there class c.loop-member.member low) c.loop-member.invariant c.in_ok-push_member_line.ensures

pub returns : goal.returns
returns c =
    let class = c.args.class.now in
    let texts : List (List ℕ) = map (member_text_of class) (member_texts class) in
    let numbered = length-enumerate_from c.args.first texts in
    let mapped = length-map (member_texts class) (member_text_of class) in
    let long : length (enumerate_from c.args.first texts) ≤ c.loop-member.member =
    omega (arith, numbered, mapped, members_counted class, c.loop-member-test.false, c.len.ensures, c.len-2.ensures) in
    c.loop-member.invariant
    ∙ ap (λ t. string_bytes c.args.out.now ++ flat_map (line_if (set_of c.args.marks.now)) t)
    (take_all c.loop-member.member (enumerate_from c.args.first texts) long)
