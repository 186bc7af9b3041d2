-- Reading instructions up to the end, as a loop does.
use Rattle.std.proofs.Common.{◌≡◌, ◌⊎◌, inl, inr, ℕ, zero, suc, ◌-◌, ◌+◌, ◌<◌, Bool, true, false, eqb, List, [], ◌∷◌}
use Rattle.std.proofs.Common.{◌++◌, length, Result, Ok, Err, refl, sym, ap, ◌∙◌, append_assoc, arith}
use Rattle.std.proofs.lemmas.List.{append-nil}
use Rattle.jv_base.specs.Place.{Place}
use Rattle.jv_base.specs.Outcome.{FaultIs}
use Rattle.jv_base.specs.declared.outcome.Or.{Or}
use Rattle.jv_base.specs.declared.outcome.Or.TheVariants.{Fault, OutOfMemory}
use Rattle.format_reading.specs.Reader.{ReadsOr}
use Rattle.class_model.specs.declared.pool.Entry.{Entry}
use Rattle.code_read.specs.declared.fault.CodeFault.{CodeFault}
use Rattle.code_read.specs.declared.unaimed.Placed.{Placed}
use Rattle.code_read.specs.Decoding.{placed_at, placed_to_end, in_front}

pub in_front_of : {A : Type 0} (front : List A) (n : A) (read : Result (List A) CodeFault)
    → in_front front (in_front (n ∷ []) read) ≡ in_front (front ++ n ∷ []) read
in_front_of front n (Ok x) = ap (λ (ns : List _). let R : Result (List _) CodeFault = Ok ns in R) (simp append_assoc)
in_front_of front n (Err f) = refl

abbrev is_end : Place → Bool
is_end p = eqb p.at (length p.bytes)

pub goes_on : (front : List Placed) (count i : ℕ) (pool : List Entry) (p after : Place) (n : Placed)
    (total : Result (List Placed) CodeFault) → i < count → is_end p ≡ false → placed_at pool p ≡ Ok (n, after)
    → in_front front (placed_to_end (count - i) pool p) ≡ total
    → in_front (front ++ n ∷ []) (placed_to_end (count - (i + 1)) pool after) ≡ total
unfolding placed_to_end
goes_on front count i pool p after n total lt inside h so_far =
    let k : count - i ≡ suc (count - (i + 1)) = omega arith in
    let one : placed_to_end (count - i) pool p
    ≡ in_front (n ∷ []) (placed_to_end (count - (i + 1)) pool after) = rw (k, inside, h) refl in
    sym (ap (in_front front) one ∙ in_front_of front n (placed_to_end (count - (i + 1)) pool after)) ∙ so_far

pub ends : (e : Or CodeFault) (new : Place) (front : List Placed) (count i : ℕ) (pool : List Entry) (p : Place)
    (total : Result (List Placed) CodeFault) → i < count → is_end p ≡ false
    → ReadsOr {T = Placed} (Err e) new (placed_at pool p)
    → in_front front (placed_to_end (count - i) pool p) ≡ total → FaultIs e total
unfolding placed_to_end
ends OutOfMemory new front count i pool p total lt inside h so_far = tt
ends (Fault f) new front count i pool p total lt inside h so_far =
    let k : count - i ≡ suc (count - (i + 1)) = omega arith in
    let one : placed_to_end (count - i) pool p ≡ Err f = rw (k, inside, h) refl in
    sym so_far ∙ ap (in_front front) one

none_more : (n : ℕ) (pool : List Entry) (p : Place) → (n ≡ 0) ⊎ (is_end p ≡ true) → placed_to_end n pool p ≡ Ok []
unfolding placed_to_end
none_more n pool p (inl none) = rw none refl
none_more zero pool p (inr ended) = refl
none_more (suc n) pool p (inr ended) = rw ended refl

pub is_done : (front : List Placed) (n : ℕ) (pool : List Entry) (p : Place) (total : Result (List Placed) CodeFault)
    → (n ≡ 0) ⊎ (is_end p ≡ true) → in_front front (placed_to_end n pool p) ≡ total → total ≡ Ok front
is_done front n pool p total end so_far =
    sym so_far ∙ ap (in_front front) (none_more n pool p end)
    ∙ ap (λ (ns : List Placed). let R : Result (List Placed) CodeFault = Ok ns in R) (append-nil front)
