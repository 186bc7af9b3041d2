-- Answers of `none_rises`: what its calls ask for, and what it promises.
use Rattle.std.proofs.Common.{◌≡◌, ◌<◌, ◌≤◌, ℕ, List, [], length, sym, ap, subst, ◌∙◌}
use Rattle.std.specs.Prelude.{slice_index_or}
use Rattle.std.specs.List.{All}
use Rattle.std.proofs.lemmas.Option.{get_or_from_slice_get, slice_get-get_or}
use Rattle.mark_core.specs.Ranks.{rank_of}
use Rattle.mark_core.proofs.ranks.none_rises.Goals as goal

-- what is asked of a list of needs, told of the list and the bound that were read
same_needs : (ranks items : List ℕ) (needs : List (List ℕ)) (n bound : ℕ) → items ≡ slice_index_or needs n []
    → bound ≡ rank_of ranks n → All (λ m. rank_of ranks m ≤ rank_of ranks n) (slice_index_or needs n [])
    → All (λ m. rank_of ranks m ≤ bound) items
same_needs ranks items needs n bound same is all =
    subst (λ (b : ℕ). All (λ m. rank_of ranks m ≤ b) items) (sym is)
    (subst (λ (xs : List ℕ). All (λ m. rank_of ranks m ≤ rank_of ranks n) xs) (sym same) all)

pub returns-then-not-none_higher : goal.returns-then-not-none_higher
returns-then-not-none_higher c = (
  λ is. absurd cc,
  λ rises.
      let at : c.loop-list.number ≡ c.loop-list.list-index = c.loop-list.invariant.0 in
      let needs : List (List ℕ) = c.args.needs.now in
      let there = get_or_from_slice_get needs c.loop-list.list-index _ []
      (slice_get-get_or needs c.loop-list.list-index c.list-item.result c.loop-list-test.true) in
      let right = c.none_higher.ensures.1
      (same_needs c.args.ranks.now c.as_slice.result.now needs c.loop-list.number c.rank.result
      (c.as_slice.ensures ∙ c.list-item.is ∙ sym there ∙ ap (λ (i : ℕ). slice_index_or needs i []) (sym at))
      c.rank.ensures (rises c.loop-list.number (subst (λ (i : ℕ). i < length needs) (sym at) c.loop-list-test.true))) in
      sym c.if-not-none_higher.true ∙ right,
)
