-- The branches of a code, one behind the other.
use Rattle.std.proofs.Common.{◌≡◌, ℕ, suc, ◌+◌, ◌<◌, Bool, true, false, cond, List, [], ◌∷◌, length, drop, get_or}
use Rattle.std.proofs.Common.{Option, Some, None, Result, Ok, Err, refl, sym, ap, subst, ◌∙◌, arith, drop-cons}
use Rattle.std.specs.Prelude.{pos, negsuc, ◌-ℤ◌, slice_index}
use Rattle.jv_base.specs.Outcome.{◌>>=◌}
use Rattle.class_model.specs.declared.limit.WriteLimit.{WriteLimit}
use Rattle.class_model.specs.declared.limit.WriteLimit.TheVariants.{BranchTooFar}
use Rattle.class_model.specs.declared.code.Ins.{Ins}
use Rattle.class_model.specs.declared.op.Op.{Op}
use Rattle.class_model.specs.Between.{int_between}
use Rattle.class_model.specs.CanonicalCode.{distance}
use Rattle.class_model.specs.WriteLimits.{branch_to, branch_fits, branches_fit}
use Rattle.code_write.specs.Coded.{IsNear}

abbrev Fits : Type 0
Fits = Result (Unit {0}) WriteLimit

both_fit : (one : Fits) (others : Fits) → one >>= (λ this. others) ≡ Ok tt → (one ≡ Ok tt) × (others ≡ Ok tt)
both_fit (Ok u) others h = (refl, h)
both_fit (Err e) others h = absurd cc

first_fits : (one others total : Fits) → one ≡ Ok tt → one >>= (λ this. others) ≡ total → others ≡ total
first_fits one others total e h = subst (λ (r : Fits). r >>= (λ this. others) ≡ total) e h

first_fails : (one others total : Fits) (limit : WriteLimit) → one ≡ Err limit → one >>= (λ this. others) ≡ total
    → total ≡ Err limit
first_fails one others total limit e h = sym (subst (λ (r : Fits). r >>= (λ this. others) ≡ total) e h)

module _ (all : List ℕ) (ins : List Ins) (n : ℕ) (d : Ins) where
  abbrev this_op : Op
  this_op = (get_or ins n d).op

  branches_here : n < length ins
      → branches_fit all n (drop n ins)
      ≡ (branch_fits all n (branch_to this_op) >>= (λ this. branches_fit all (n + 1) (drop (n + 1) ins)))
  branches_here lt =
      let e : drop (suc n) ins ≡ drop (n + 1) ins = ap (λ k. drop k ins) (let k : suc n ≡ n + 1 = omega arith in k) in
      let one : branches_fit all n (drop n ins)
      ≡ branches_fit all n (get_or ins n d ∷ drop (suc n) ins) = ap (branches_fit all n) (drop-cons ins n d lt) in
      let two : branches_fit all n (get_or ins n d ∷ drop (suc n) ins)
      ≡ branches_fit all n (get_or ins n d ∷ drop (n + 1) ins) = ap
      (λ (rest : List Ins). branches_fit all n (get_or ins n d ∷ rest)) e in
      one ∙ two

  pub branch_next : (total : Fits) → n < length ins → branch_fits all n (branch_to this_op) ≡ Ok tt
      → branches_fit all n (drop n ins) ≡ total → branches_fit all (n + 1) (drop (n + 1) ins) ≡ total
  branch_next total lt e so_far = first_fits (branch_fits all n (branch_to this_op))
      (branches_fit all (n + 1) (drop (n + 1) ins)) total e (sym (branches_here lt) ∙ so_far)

  pub branch_fault : (total : Fits) (limit : WriteLimit) → n < length ins
      → branch_fits all n (branch_to this_op) ≡ Err limit → branches_fit all n (drop n ins) ≡ total → total ≡ Err limit
  branch_fault total limit lt e so_far = first_fails (branch_fits all n (branch_to this_op))
      (branches_fit all (n + 1) (drop (n + 1) ins)) total limit e (sym (branches_here lt) ∙ so_far)

  pub branch_fits_here : n < length ins → branches_fit all n (drop n ins) ≡ Ok tt
      → (branch_fits all n (branch_to this_op) ≡ Ok tt) × (branches_fit all (n + 1) (drop (n + 1) ins) ≡ Ok tt)
  branch_fits_here lt h = both_fit (branch_fits all n (branch_to this_op)) (branches_fit all (n + 1) (drop (n + 1) ins))
      (sym (branches_here lt) ∙ h)

near_by : (b : Bool) (limit : WriteLimit) → (let R : Fits = cond b (Ok tt) (Err limit) in R) ≡ Ok tt → b ≡ true
near_by true limit h = refl
near_by false limit h = absurd cc

-- a branch whose distance fits is near
pub is_near : (all : List ℕ) (n at : ℕ) (to : Option ℕ) → slice_index all n ≡ at → branch_fits all n to ≡ Ok tt
    → IsNear (distance [] (slice_index all) at) to
is_near all n at (Some to) e h =
    subst (λ k. int_between (negsuc 32767) (pos 32767) (pos (slice_index all to) -ℤ pos k) ≡ true) e
    (near_by (int_between (negsuc 32767) (pos 32767) (pos (slice_index all to) -ℤ pos (slice_index all n)))
    (BranchTooFar n (pos (slice_index all to) -ℤ pos (slice_index all n))) h)
is_near all n at None e h = tt
