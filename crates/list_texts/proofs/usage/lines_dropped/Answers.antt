-- Answers of `lines_dropped`: what its calls ask for, and what it promises.
use Rattle.std.proofs.Common.{◌≡◌, ◌≤◌, ◌+◌, ◌<◌, ◌++◌, List, ℕ, [], length, get_or, Err, sym, ap, subst, ◌∙◌, arith}
use Rattle.std.specs.Prelude.{string_bytes}
use Rattle.std.specs.List.{enumerate_from, flat_map}
use Rattle.std.proofs.lemmas.List.{take_all}
use Rattle.std.proofs.lemmas.List.FromFn.{length-enumerate_from}
use Rattle.std.proofs.lemmas.Result.{err_from_is_err_and}
use Rattle.report_text.specs.Spelled.{member_texts}
use Rattle.list_texts.specs.ItemTexts.{dropped_line, dropped_lines, up_to}
use Rattle.list_texts.specs.bodies.Appends.{IsShort}
use Rattle.list_texts.proofs.Limits.{front_within, not_made, short_enough}
use Rattle.list_texts.proofs.Listing.{member_there, members_counted}
use Rattle.list_texts.proofs.Numbered.{numbered_more}
use Rattle.list_texts.proofs.usage.lines_dropped.Goals as goal

pub loop-member-preserved : goal.loop-member-preserved
loop-member-preserved c =
    let class = c.args.class.now in
    let low : c.loop-member.member < length class.fields + length class.methods =
    omega (arith, c.loop-member-test.true, c.len.ensures, c.len-2.ensures) in
    record {
      lines = numbered_more (dropped_line c.args.marks.now) c.args.first (member_texts class) c.loop-member.member
          (get_or (member_texts class) c.loop-member.member []) []
          (string_bytes c.loop-member.lines) (string_bytes c.push_dropped_line.new.out)
          (member_there class c.loop-member.member low) c.loop-member.invariant.lines
          c.in_ok-push_dropped_line.ensures;
      short = subst (λ (t : List ℕ). length t ≤ c.args.limit) c.as_str.ensures.value c.in_ok-check_length.ensures;
    }

pub returns-in_err-check_length : goal.returns-in_err-check_length
returns-in_err-check_length c =
    let class = c.args.class.now in
    let low : c.loop-member.member < length class.fields + length class.methods =
    omega (arith, c.loop-member-test.true, c.len.ensures, c.len-2.ensures) in
    let front : List ℕ = string_bytes c.push_dropped_line.new.out in
    let made = numbered_more (dropped_line c.args.marks.now) c.args.first (member_texts class) c.loop-member.member
    (get_or (member_texts class) c.loop-member.member []) [] (string_bytes c.loop-member.lines) front
    (member_there class c.loop-member.member low) c.loop-member.invariant.lines c.in_ok-push_dropped_line.ensures in
    let e = c.in_err-check_length.field-0.0 in
    let long = subst (λ (t : List ℕ). IsShort (Err e) c.args.limit t) c.as_str.ensures.value
    c.in_err-check_length.ensures in
    let p = err_from_is_err_and c.from_residual-in_err-check_length.result
    c.from_residual-in_err-check_length.ensures.1 in
    rw (p.1, p.2) (not_made e c.args.limit front (dropped_lines c.args.marks.now c.args.first class)
    (front_within (dropped_line c.args.marks.now) (enumerate_from c.args.first (member_texts class))
    (c.loop-member.member + 1) [] front made) long)

pub returns : goal.returns
returns c =
    let class = c.args.class.now in
    let numbered = length-enumerate_from c.args.first (member_texts class) in
    let long : length (enumerate_from c.args.first (member_texts class)) ≤ c.loop-member.member =
    omega (arith, numbered, members_counted class, c.loop-member-test.false, c.len.ensures, c.len-2.ensures) in
    let is : string_bytes c.loop-member.lines ≡ dropped_lines c.args.marks.now c.args.first class =
    c.loop-member.invariant.lines ∙ ap (λ t. flat_map (dropped_line c.args.marks.now) t)
    (take_all c.loop-member.member (enumerate_from c.args.first (member_texts class)) long) in
    ap (up_to c.args.limit) (sym is)
    ∙ short_enough c.args.limit (string_bytes c.loop-member.lines) c.loop-member.invariant.short
