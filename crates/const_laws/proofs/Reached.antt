-- Control may come to each index of a code of which reach drops none.
use Rattle.std.proofs.Common.{ℕ, zero, suc, ◌<◌, ◌≤◌, List, [], ◌∷◌, Some, None}
use Rattle.std.proofs.Common.{Bool}
use Rattle.std.proofs.Common.{true, false, IsTrue, ◌≡◌, ◌⊎◌, inl, inr, refl, sym, ap, ◌∙◌, subst}
use Rattle.std.proofs.Common.{arith}
use Rattle.std.specs.Prelude.{length, nat_le, nat_lt, slice_get, slice_index_or, ◌&&◌}
use Rattle.std.specs.List.{All, Contains}
use Rattle.std.proofs.lemmas.Bool.Decides.{leb_tells}
use Rattle.std.proofs.lemmas.List.Elements.{All-contains}
use Rattle.std.proofs.lemmas.Option.{get_or_from_slice_get, slice_get_within}
use Rattle.class_model.specs.declared.code.Code.{Code}
use Rattle.class_model.specs.declared.code.Handler.{Handler}
use Rattle.code_edit.specs.Facts.{HoldsReached, IsAllReached}
use Rattle.code_edit.specs.Flow.{successors_by, successors_of}
use Rattle.code_edit.specs.Passes.{IsReachEdits, IsReached, entered, first, led_to}
use Rattle.code_edit.specs.Passes.{runs}

-- ---- no run is dropped

open_drops : (at from : ℕ) (marks : List Bool) → runs at (Some from) marks ≡ [] → ⊥
open_drops at from [] e = cc
open_drops at from (true ∷ marks) e = cc
open_drops at from (false ∷ marks) e = open_drops (suc at) from marks e

all_marked : (at : ℕ) (marks : List Bool) → runs at None marks ≡ [] → (k : ℕ) → k < length marks
    → slice_index_or marks k false ≡ true
all_marked at [] e k lt = absurd (omega (arith, lt))
all_marked at (true ∷ marks) e zero lt = refl
all_marked at (true ∷ marks) e (suc k) lt = all_marked (suc at) marks e k (omega (arith, lt))
all_marked at (false ∷ marks) e k lt = absurd (open_drops (suc at) at marks e)

-- ---- what is reached is in each set that holds what is reached

it_has : (xs : List ℕ) (n u : ℕ) → slice_get xs n ≡ Some u → Contains xs u
it_has xs n u e = (n, slice_get_within xs n u e, get_or_from_slice_get xs n u u e)

handler_has : (xs : List Handler) (n : ℕ) (h : Handler) → slice_get xs n ≡ Some h → Contains xs h
handler_has xs n h e = (n, slice_get_within xs n h e, get_or_from_slice_get xs n h h e)

both : (a b : Bool) → (a && b) ≡ true → (a ≡ true) × (b ≡ true)
both true b e = (refl, e)
both false b e = absurd cc

below : (a b : ℕ) → nat_le a b ≡ true → a ≤ b
below a b e = by (leb_tells a b)
  where
    by : ((nat_le a b ≡ true) × (a ≤ b)) ⊎ ((nat_le a b ≡ false) × (b < a)) → a ≤ b
    by (inl q) = q.1
    by (inr q) = absurd (let x : true ≡ false = sym e ∙ q.0 in cc)

module _ (code : Code) (set : ℕ → Bool) (holds : HoldsReached code set) where
  pub in_set : (at : ℕ) → IsReached code at → IsTrue (set at)
  in_set at (first e) = subst (λ n. IsTrue (set n)) (sym e) holds.first
  in_set at (led_to from k i r here e) =
      holds.next from at (slice_get_within code.ins from i here) (in_set from r)
      (subst (λ l. Contains l at) (sym (ap (successors_by (length code.ins) from) here))
      (it_has (successors_of (length code.ins) from i.op) k at e))
  in_set at (entered from k h r lt here c e) =
      let q = both (nat_le h.from from) (nat_lt from h.to) c in
      subst (λ n. IsTrue (set n)) (sym e)
      (All-contains (λ (h : Handler). (p : ℕ) → IsTrue (set p) → h.from ≤ p → p < h.to
      → IsTrue (set h.entry)) code.handlers h holds.handlers (handler_has code.handlers k h here)
      from (in_set from r) (below h.from from q.0) (below (suc from) h.to q.1))

pub all_reached : (code : Code) → IsReachEdits code [] → IsAllReached code
all_reached code (marks, tells, none) at lt set holds =
    in_set code set holds at
    (tells.only at
    (all_marked 0 marks (sym none) at (subst (λ n. at < n) (sym tells.long) lt)))
