-- Answers of `note_pair`: what its calls ask for, and what it promises.
use Rattle.std.proofs.Common.{◌≡◌, ◌<◌, max, sym, subst, ap, ◌∙◌, get_or, arith, rules}
use Rattle.std.proofs.lemmas.Grind.{common_steps}
use Rattle.std.proofs.lemmas.List.{get_or_default}
use Rattle.why_kept.specs.Levels.{level_of_pair}
use Rattle.why_kept.proofs.NotedItems.{pair_noted}
use Rattle.why_kept.proofs.sources.note_pair.Goals as goal

pub returns : goal.returns
returns c =
    let sys = c.args.sys.now in
    let levels = c.args.levels.now in
    let p = c.args.pair in
    let one = get_or_default levels p.one 0 sys.n (subst (λ n. p.one < n) (sym c.requires.count) c.requires.pair.0) in
    let two = get_or_default levels p.two 0 sys.n (subst (λ n. p.two < n) (sym c.requires.count) c.requires.pair.1) in
    let derived = get_or_default levels p.derived 0 sys.n
    (subst (λ n. p.derived < n) (sym c.requires.count) c.requires.pair.2) in
    let top : c.max.result ≡ max (get_or levels p.one 0) (get_or levels p.two 0) =
    first_of (search rules, grind (arith, common_steps)) in
    let greater : c.from-level.result ≡ level_of_pair sys levels p =
    c.from-level.ensures ∙ (top ∙ (ap (λ k. max k (get_or levels p.two 0)) one ∙ ap (max (get_or levels p.one sys.n)) two)) in
    pair_noted sys levels p sys.n c.from.result c.from-level.result c.args.sources.now.items c.note.new.sources.items
    c.requires.sources (c.from.ensures ∙ derived) greater c.note.ensures
