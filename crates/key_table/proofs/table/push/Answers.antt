-- Answers of `push`: what its calls ask for, and what it promises.
use Rattle.std.proofs.Common.{rules, ◌≡◌, ℕ, length, List, Some, cond, ap, subst, sym, ◌∙◌}
use Rattle.std.specs.Prelude.{OnOk, take, is_ok}
use Rattle.std.specs.BTreeMap.{is_at}
use Rattle.std.specs.Map.{lookup}
use Rattle.std.specs.Ordering.{nat_cmp}
use Rattle.key_table.proofs.Placing.{placed_with_first, placed_with_other}
use Rattle.key_table.proofs.table.push.Goals as goal

pub returns-in_ok-push-in-None-clause-placed : goal.returns-in_ok-push-in-None-clause-placed
returns-in_ok-push-in-None-clause-placed g c =
    let len : c.len-place.result ≡ length c.args.entries.now.items = search rules in
    placed_with_first g.K.Ord.cmp g.K.PartialEq.eq g.K.Key.mark g.met.K.Eq.laws g.met.K.Ord.matches_eq
    g.met.K.Key.one_mark c.args.entries.now.items c.args.firsts.now.entries c.args.others.now.entries c.requires.placed
    c.args.key c.args.value c.requires.missing c.len-place.result len c.put.result
    c.put.new.places.entries c.keep_or_drop.new.entries.items
    (ap (λ m. lookup (is_at (nat_cmp m)) c.args.firsts.now.entries) (sym c.mark-mark.ensures) ∙ sym c.in-None.ensures)
    (subst (λ m. OnOk c.put.result ((q : ℕ) → lookup (is_at (nat_cmp q)) c.put.new.places.entries
    ≡ cond (is_at (nat_cmp m) q) (Some c.len-place.result) (lookup (is_at (nat_cmp q)) c.args.firsts.now.entries)))
    c.mark-mark.ensures c.put.ensures.put)
    c.put.ensures.unchanged
    (c.keep_or_drop.ensures.entries
    ∙ ap (λ (es : List _). cond (is_ok c.put.result) es (take c.len-place.result es))
    c.in_ok-push-in-None.ensures.items)

pub returns-in_ok-push-in-Some-clause-placed : goal.returns-in_ok-push-in-Some-clause-placed
returns-in_ok-push-in-Some-clause-placed g c =
    let len : c.len-place.result ≡ length c.args.entries.now.items = search rules in
    let cmp = g.K.Ord.cmp in
    let copied = g.met.K.Key.copies c.args.key c.in_ok-copy-in-Some.copy c.in_ok-copy-in-Some.ensures.cases in
    placed_with_other cmp g.K.PartialEq.eq g.K.Key.mark g.met.K.Eq.laws g.met.K.Ord.matches_eq
    g.met.K.Key.one_mark c.args.entries.now.items c.args.firsts.now.entries c.args.others.now.entries c.requires.placed
    c.args.key c.args.value c.requires.missing c.len-place.result len c.put-in-Some.result
    c.put-in-Some.new.places.entries c.keep_or_drop-in-Some.new.entries.items c.in-Some.field-0
    (ap (λ m. lookup (is_at (nat_cmp m)) c.args.firsts.now.entries) (sym c.mark-mark.ensures) ∙ sym c.in-Some.ensures)
    (subst (λ (k : g.row.K.Denot). OnOk c.put-in-Some.result ((q : g.row.K.Denot)
    → lookup (is_at (cmp q)) c.put-in-Some.new.places.entries
    ≡ cond (is_at (cmp k) q) (Some c.len-place.result) (lookup (is_at (cmp q)) c.args.others.now.entries)))
    copied c.put-in-Some.ensures.put)
    c.put-in-Some.ensures.unchanged
    (c.keep_or_drop-in-Some.ensures.entries
    ∙ ap (λ (es : List _). cond (is_ok c.put-in-Some.result) es (take c.len-place.result es))
    c.in_ok-push-in-Some.ensures.items)
