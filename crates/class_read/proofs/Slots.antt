-- Reading the indices of a pool one behind the other, as a loop over their count does.
use Rattle.std.proofs.Common.{◌≡◌, ℕ, suc, ◌-◌, ◌+◌, ◌≤◌, ◌<◌, Bool, List, [], ◌∷◌, ◌++◌, Result, Ok, Err, refl, sym}
use Rattle.std.proofs.Common.{ap, ◌∙◌, append_assoc, arith}
use Rattle.std.specs.Prelude.{nat_lt}
use Rattle.std.proofs.lemmas.List.{append-nil}
use Rattle.jv_base.specs.Place.{Place}
use Rattle.jv_base.specs.declared.outcome.Or.{Or}
use Rattle.jv_base.specs.declared.outcome.Or.TheVariants.{Fault, OutOfMemory}
use Rattle.format_reading.specs.declared.fault.FormatFault.{FormatFault}
use Rattle.format_reading.specs.Reader.{ReadsOr, after_read, bind, give, behind}
use Rattle.class_model.specs.ConstantPool.{takes_two}
use Rattle.class_model.specs.ReadingPool.{Slot, slot, slots}

regroup : (front : List Slot) (n : Slot) (read : Result (List Slot × Place) FormatFault)
    → behind front (behind (n ∷ []) read) ≡ behind (front ++ n ∷ []) read
regroup front n (Ok x) = ap (λ (ns : List Slot). let R : Result (List Slot × Place) FormatFault = Ok (ns, x.1) in R)
    (simp append_assoc)
regroup front n (Err f) = refl

joined : (at : ℕ) (n : Slot) (read : Result (List Slot × Place) FormatFault)
    → after_read at (λ others. Ok (give (n ∷ others))) read ≡ behind (n ∷ []) read
unfolding give
joined at n (Ok x) = refl
joined at n (Err f) = refl

next_is : (k : ℕ) (second : Bool) (p after : Place) (n : Slot) → slot second (nat_lt 0 k) p ≡ Ok (n, after)
    → slots (suc k) second p ≡ behind (n ∷ []) (slots k (takes_two n.entry) after)
unfolding slots bind
next_is k second p after n h = rw h (joined after.at n (slots k (takes_two n.entry) after))

room_is : (count i : ℕ) → nat_lt 0 (count - (i + 1)) ≡ nat_lt (i + 1) count
room_is count i = grind arith

-- the invariant after an index that was read
pub goes_on : (front : List Slot) (count i : ℕ) (second : Bool) (p after : Place) (n : Slot)
    (total : Result (List Slot × Place) FormatFault) → i < count → slot second (nat_lt (i + 1) count) p ≡ Ok (n, after)
    → behind front (slots (count - i) second p) ≡ total
    → behind (front ++ n ∷ []) (slots (count - (i + 1)) (takes_two n.entry) after) ≡ total
goes_on front count i second p after n total lt h so_far =
    let k : count - i ≡ suc (count - (i + 1)) = omega arith in
    let room = ap (λ (r : Bool). slot second r p) (room_is count i) in
    let one : slots (count - i) second p
    ≡ behind (n ∷ []) (slots (count - (i + 1)) (takes_two n.entry) after) = ap (λ j. slots j second p) k
    ∙ next_is (count - (i + 1)) second p after n (room ∙ h) in
    sym (ap (behind front) one ∙ regroup front n (slots (count - (i + 1)) (takes_two n.entry) after)) ∙ so_far

-- at a fault the whole is that fault
pub ends : (e : Or FormatFault) (new q : Place) (front : List Slot) (count i : ℕ) (second : Bool) (p : Place)
    (total : Result (List Slot × Place) FormatFault) → i < count
    → ReadsOr {T = Slot} (Err e) new (slot second (nat_lt (i + 1) count) p)
    → behind front (slots (count - i) second p) ≡ total → ReadsOr {T = List Slot} (Err e) q total
unfolding slots bind
ends OutOfMemory new q front count i second p total lt h so_far = tt
ends (Fault f) new q front count i second p total lt h so_far =
    let k : count - i ≡ suc (count - (i + 1)) = omega arith in
    let room = ap (λ (r : Bool). slot second r p) (room_is count i) in
    let fails : slot second (nat_lt 0 (count - (i + 1))) p ≡ Err f = room ∙ h in
    let one : slots (count - i) second p ≡ Err f = rw (k, fails) refl in
    sym so_far ∙ ap (behind front) one

-- after the last index the whole is what was read
pub is_done : (front : List Slot) (count i : ℕ) (second : Bool) (p : Place)
    (total : Result (List Slot × Place) FormatFault) → count ≤ i → behind front (slots (count - i) second p) ≡ total
    → total ≡ Ok (front, p)
unfolding slots give
is_done front count i second p total le so_far =
    let k : count - i ≡ 0 = omega arith in
    let one : slots (count - i) second p ≡ Ok ([], p) = rw k refl in
    sym so_far ∙ ap (behind front) one
    ∙ ap (λ (ns : List Slot). let R : Result (List Slot × Place) FormatFault = Ok (ns, p) in R) (append-nil front)
