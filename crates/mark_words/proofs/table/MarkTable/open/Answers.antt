-- Answers of `MarkTable::open`: what its calls ask for, and what it promises.
use Rattle.std.proofs.Common.{◌<◌, ◌≡◌, ◌+◌, ◌*◌, ◌/◌, ℕ, [], subst, sym, ap, ◌∙◌, List, replicate}
use Rattle.std.proofs.Common.{set, ◌∷◌}
use Rattle.atomic_table.specs.Table.{opening}
use Rattle.mark_core.specs.declared.system.System.{System}
use Rattle.mark_core.specs.Valid.{Valid}
use Rattle.mark_words.specs.declared.rule.Plan.{Plan}
use Rattle.mark_words.specs.Rule.{Ruled, first_view}
use Rattle.mark_words.specs.Words.{word_count}
use Rattle.mark_words.proofs.Seating.{starts, opened_words}
use Rattle.mark_words.proofs.table.MarkTable.open.Goals as goal

pub of_words-requires : goal.of_words-requires
of_words-requires c =
    let p : Plan = record { system = c.of.result; seats = c.args.seats } in
    let k : ℕ = 2 * ((c.args.n + 63) / 64) in
    let items : c.in_ok-words.words.items ≡ replicate {A = ℕ} (k + 1) 0 =
    c.in_ok-words.ensures.items_if_clones_equal (λ y e. e) in
    let same : p.system.value ≡ c.args.sys.now = c.of.ensures in
    let n_is : c.args.n ≡ p.system.value.n = c.requires.items ∙ ap (λ (t : System). t.n) (sym same) in
    let words : c.as_slice.result.now ≡ 1 ∷ replicate {A = ℕ} k 0 = c.as_slice.ensures.value
    ∙ (ap (λ (l : List ℕ). set l 0 1) items ∙ opened_words (k + 1) k (λ i. k + 1)) in
    let wide : k + 1 ≡ word_count p.system.value.n = ap word_count n_is in
    let narrow : c.args.n < 4294967296 = c.ranges.n.fits in
    subst (λ (ws : List ℕ). Ruled p (opening ws [] (first_view p))) (sym words)
    (starts p k (subst Valid (sym same) c.requires.valid) (subst (λ j. j < 4294967296) n_is narrow)
    c.requires.seats.0 c.requires.seats.1 wide)
