-- Reading n values one behind the other, as a loop over a count does: its invariant is that what was
-- read, before what is still to be read, is the whole.
use Rattle.std.proofs.Common.{◌≡◌, ℕ, suc, ◌-◌, ◌+◌, ◌≤◌, ◌<◌, List, [], ◌∷◌, ◌++◌, Result, Ok, Err, refl, sym, ap, ◌∙◌}
use Rattle.std.proofs.Common.{append_assoc, arith}
use Rattle.std.proofs.lemmas.List.{append-nil}
use Rattle.jv_base.specs.Place.{Place}
use Rattle.jv_base.specs.declared.outcome.Or.{Or}
use Rattle.jv_base.specs.declared.outcome.Or.TheVariants.{Fault, OutOfMemory}
use Rattle.format_reading.specs.Reader.{Reader, ReadsOr, on_read, bind, give, many, behind}

-- what is read behind two lists is read behind both
regroup : {A X : Type 0} (front : List A) (n : A) (read : Result (List A × Place) X)
    → behind front (behind (n ∷ []) read) ≡ behind (front ++ n ∷ []) read
regroup {X = X} front n (Ok x) = ap (λ (ns : List _). let R : Result (List _ × Place) X = Ok (ns, x.1) in R)
    (simp append_assoc)
regroup front n (Err f) = refl

-- a value before a list, read one behind the other
joined : {A X : Type 0} (n : A) (read : Result (List A × Place) X)
    → on_read (λ others. give (n ∷ others)) read ≡ behind (n ∷ []) read
unfolding give
joined n (Ok x) = refl
joined n (Err f) = refl

-- a value that was read is the first
next_is : {A X : Type 0} (r : Reader A X) (k : ℕ) (p after : Place) (n : A) → r p ≡ Ok (n, after)
    → many (suc k) r p ≡ behind (n ∷ []) (many k r after)
unfolding many bind
next_is r k p after n h = rw h (joined n (many k r after))

-- the invariant after a value that was read
pub goes_on : {A X : Type 0} (r : Reader A X) (front : List A) (count i : ℕ) (p after : Place) (n : A)
    (total : Result (List A × Place) X) → i < count → r p ≡ Ok (n, after)
    → behind front (many (count - i) r p) ≡ total → behind (front ++ n ∷ []) (many (count - (i + 1)) r after) ≡ total
goes_on r front count i p after n total lt h so_far =
    let k : count - i ≡ suc (count - (i + 1)) = omega arith in
    let one : many (count - i) r p ≡ behind (n ∷ []) (many (count - (i + 1)) r after) = ap (λ j. many j r p) k
    ∙ next_is r (count - (i + 1)) p after n h in
    sym (ap (behind front) one ∙ regroup front n (many (count - (i + 1)) r after)) ∙ so_far

-- at a fault the whole is that fault
pub ends : {A X : Type 0} (r : Reader A X) (e : Or X) (new q : Place) (front : List A) (count i : ℕ) (p : Place)
    (total : Result (List A × Place) X) → i < count → ReadsOr {T = A} (Err e) new (r p)
    → behind front (many (count - i) r p) ≡ total → ReadsOr {T = List A} (Err e) q total
unfolding many bind
ends r OutOfMemory new q front count i p total lt h so_far = tt
ends r (Fault f) new q front count i p total lt h so_far =
    let k : count - i ≡ suc (count - (i + 1)) = omega arith in
    let one : many (count - i) r p ≡ Err f = rw (k, h) refl in
    sym so_far ∙ ap (behind front) one

-- after the last value the whole is what was read
pub is_done : {A X : Type 0} (r : Reader A X) (front : List A) (count i : ℕ) (p : Place)
    (total : Result (List A × Place) X) → count ≤ i → behind front (many (count - i) r p) ≡ total
    → total ≡ Ok (front, p)
unfolding many give
is_done {X = X} r front count i p total le so_far =
    let k : count - i ≡ 0 = omega arith in
    let one : many (count - i) r p ≡ Ok ([], p) = rw k refl in
    sym so_far ∙ ap (behind front) one
    ∙ ap (λ (ns : List _). let R : Result (List _ × Place) X = Ok (ns, p) in R) (append-nil front)
