-- Walks over bytes, as a loop makes them.
use Rattle.std.proofs.Common.{◌≡◌, ℕ, ◌+◌, ◌<◌, ◌≤◌, List, get_or, drop, length, Option, Some, None, Result, Err, refl}
use Rattle.std.proofs.Common.{sym, ap, ◌∙◌, arith}
use Rattle.std.proofs.lemmas.List.{drop_more, drop_all}
use Rattle.jv_base.specs.Walk.{walk, walk_from, or_fault}

module _ {S V : Type 0} (step : S → ℕ → Option S) (end : S → Option V) where
  -- the walk from the byte with this index on
  abbrev pub from_index : List ℕ → ℕ → S → Result V ℕ
  from_index bytes i s = walk step end s i (drop i bytes)

  pub at_byte : (bytes : List ℕ) (i : ℕ) (s : S) → i < length bytes
      → from_index bytes i s ≡ walk_from i (step s (get_or bytes i 0)) (λ t. from_index bytes (i + 1) t)
  unfolding walk
  at_byte bytes i s lt = rw (drop_more bytes i 0 lt) refl

  pub goes_on : (bytes : List ℕ) (i : ℕ) (s t : S) (total : Result V ℕ) → i < length bytes
      → step s (get_or bytes i 0) ≡ Some t
      → from_index bytes i s ≡ total → from_index bytes (i + 1) t ≡ total
  goes_on bytes i s t total lt h so_far =
      sym (at_byte bytes i s lt ∙ ap (λ (o : Option S). walk_from i o (λ u. from_index bytes (i + 1) u)) h) ∙ so_far

  pub stops : (bytes : List ℕ) (i : ℕ) (s : S) (total : Result V ℕ) → i < length bytes
      → step s (get_or bytes i 0) ≡ None
      → from_index bytes i s ≡ total → total ≡ Err i
  stops bytes i s total lt h so_far =
      sym so_far ∙ at_byte bytes i s lt ∙ ap (λ (o : Option S). walk_from i o (λ u. from_index bytes (i + 1) u)) h

  pub is_done : (bytes : List ℕ) (i : ℕ) (s : S) (total : Result V ℕ) → i ≤ length bytes → length bytes ≤ i
      → from_index bytes i s ≡ total → total ≡ or_fault (length bytes) (end s)
  unfolding walk
  is_done bytes i s total within le so_far =
      let here : i ≡ length bytes = omega arith in
      sym so_far ∙ rw (drop_all i bytes le) (ap (λ (n : ℕ). or_fault n (end s)) here)
