-- Reading several operands one behind the other, as a loop does.
use Rattle.std.proofs.Common.{◌≡◌, ℕ, zero, suc, ◌-◌, ◌+◌, ◌≤◌, ◌<◌, List, [], ◌∷◌, ◌++◌, map, Option, Some, None}
use Rattle.std.proofs.Common.{Result, Ok, Err, refl, sym, ap, subst, ◌∙◌, append_assoc, arith}
use Rattle.std.proofs.lemmas.List.{append-nil}
use Rattle.jv_base.specs.Place.{Place}
use Rattle.jv_base.specs.declared.outcome.Or.{Or}
use Rattle.jv_base.specs.declared.outcome.Or.TheVariants.{Fault, OutOfMemory}
use Rattle.format_reading.specs.declared.fault.FormatFault.{FormatFault}
use Rattle.format_reading.specs.Reader.{ReadsOr, FormatReader, u4, bytes, item, lead, after_read, bind, give, many}
use Rattle.format_reading.specs.Reader.{behind}
use Rattle.format_reading.proofs.Exact.{bind_is}
use Rattle.class_model.specs.declared.pool.Entry.{Entry}
use Rattle.class_model.specs.InstructionStructure.{MatchOffset, LookupSwitch, pad_length}
use Rattle.class_model.specs.ReadingCode.{instruction, lookup_key, lookup_count, lookup_switch, match_offsets}
use Rattle.code_read.specs.declared.fault.Wrong.{Wrong}
use Rattle.code_read.specs.declared.unaimed.Match.{Match}
use Rattle.code_read.specs.declared.unaimed.Unaimed.{Unaimed}
use Rattle.code_read.specs.declared.unaimed.Unaimed.TheVariants as unaimed
use Rattle.code_read.specs.Fault.{wrong_of}
use Rattle.code_read.specs.bodies.Fault.{with_wrong}
use Rattle.code_read.specs.Meaning.{match_of, meaning_of_read}
use Rattle.code_read.specs.bodies.Meaning.{match_read, matches_from, matches_behind}

-- what was read was no fault
pub told_ok : {A : Type 0} (r : Result A FormatFault) (x : A) → with_wrong r ≡ Ok x → r ≡ Ok x
told_ok (Ok y) x h = let e : y ≡ x = cc in ap (λ (v : _). let R : Result _ FormatFault = Ok v in R) e
told_ok (Err f) x h = absurd cc

-- where a part's fault is that of the whole, it comes for the whole
pub stops : {A B : Type 0} (part : Result (A × Place) FormatFault) (total : Result (B × Place) FormatFault)
    (e : Or Wrong) (new q : Place)
    → ((f : FormatFault) → part ≡ Err f → total ≡ Err f) → ReadsOr {T = A} (Err e) new (with_wrong part)
    → ReadsOr {T = B} (Err e) q (with_wrong total)
stops part total OutOfMemory new q same h = tt
stops (Ok x) total (Fault w) new q same h = absurd cc
stops (Err f) total (Fault w) new q same h =
    let e : wrong_of f.kind ≡ w = cc in
    ap with_wrong (same f refl) ∙ ap (λ (v : Wrong). let R : Result (_ × Place) Wrong = Err v in R) e

-- a fault of one of many is that of all
pub many_fault : {A : Type 0} (r : FormatReader A) (front : List A) (count i : ℕ) (p : Place) (f : FormatFault)
    (total : Result (List A × Place) FormatFault) → i < count
    → behind front (many (count - i) r p) ≡ total → r p ≡ Err f → total ≡ Err f
unfolding many bind
many_fault r front count i p f total lt so_far h =
    let k : count - i ≡ suc (count - (i + 1)) = omega arith in
    let one : many (count - i) r p ≡ Err f = rw (k, h) refl in
    sym so_far ∙ ap (behind front) one

-- ---- the keys of a lookupswitch with their offsets

regroup : (front : List Match) (n : Match) (read : Result (List Match × Place) FormatFault)
    → behind front (behind (n ∷ []) read) ≡ behind (front ++ n ∷ []) read
regroup front n (Ok x) = ap (λ (ns : List Match). let R : Result (List Match × Place) FormatFault = Ok (ns, x.1) in R)
    (simp append_assoc)
regroup front n (Err f) = refl

joined : (at : ℕ) (n : Match) (read : Result (List Match × Place) FormatFault)
    → after_read at (λ others. Ok (give (n ∷ others))) read ≡ behind (n ∷ []) read
unfolding give
joined at n (Ok x) = refl
joined at n (Err f) = refl

next_is : (k : ℕ) (previous : Option ℕ) (p after : Place) (n : Match) → match_read previous p ≡ Ok (n, after)
    → matches_from (suc k) previous p ≡ behind (n ∷ []) (matches_from k (Some n.key) after)
unfolding matches_from bind
next_is k previous p after n h = rw h (joined after.at n (matches_from k (Some n.key) after))

pub matches_go_on : (front : List Match) (count i : ℕ) (previous : Option ℕ) (p after : Place) (n : Match)
    (total : Result (List Match × Place) FormatFault) → i < count → match_read previous p ≡ Ok (n, after)
    → behind front (matches_from (count - i) previous p) ≡ total
    → behind (front ++ n ∷ []) (matches_from (count - (i + 1)) (Some n.key) after) ≡ total
matches_go_on front count i previous p after n total lt h so_far =
    let k : count - i ≡ suc (count - (i + 1)) = omega arith in
    let one : matches_from (count - i) previous p
    ≡ behind (n ∷ []) (matches_from (count - (i + 1)) (Some n.key) after) = ap (λ j. matches_from j previous p) k
    ∙ next_is (count - (i + 1)) previous p after n h in
    sym (ap (behind front) one ∙ regroup front n (matches_from (count - (i + 1)) (Some n.key) after)) ∙ so_far

pub matches_fault : (front : List Match) (count i : ℕ) (previous : Option ℕ) (p : Place) (f : FormatFault)
    (total : Result (List Match × Place) FormatFault) → i < count
    → behind front (matches_from (count - i) previous p) ≡ total → match_read previous p ≡ Err f → total ≡ Err f
unfolding matches_from bind
matches_fault front count i previous p f total lt so_far h =
    let k : count - i ≡ suc (count - (i + 1)) = omega arith in
    let one : matches_from (count - i) previous p ≡ Err f = rw (k, h) refl in
    sym so_far ∙ ap (behind front) one

pub matches_done : (front : List Match) (count i : ℕ) (previous : Option ℕ) (p : Place)
    (total : Result (List Match × Place) FormatFault) → count ≤ i
    → behind front (matches_from (count - i) previous p) ≡ total → total ≡ Ok (front, p)
unfolding matches_from give
matches_done front count i previous p total le so_far =
    let k : count - i ≡ 0 = omega arith in
    let one : matches_from (count - i) previous p ≡ Ok ([], p) = rw k refl in
    sym so_far ∙ ap (behind front) one
    ∙ ap (λ (ns : List Match). let R : Result (List Match × Place) FormatFault = Ok (ns, p) in R) (append-nil front)

-- ---- they are the pairs of the standard

abbrev pub mapped : Result (List MatchOffset × Place) FormatFault → Result (List Match × Place) FormatFault
mapped (Ok x) = Ok (map match_of x.0, x.1)
mapped (Err f) = Err f

abbrev Same : ℕ → Type 0
Same n = (previous : Option ℕ) (p : Place) → matches_from n previous p ≡ mapped (match_offsets n previous p)

behind_pair : (a b : ℕ) (pair : MatchOffset) (one : Result (List Match × Place) FormatFault)
    (other : Result (List MatchOffset × Place) FormatFault) → one ≡ mapped other
    → after_read a (λ others. Ok (give (match_of pair ∷ others))) one
    ≡ mapped (after_read b (λ others. Ok (give (pair ∷ others))) other)
unfolding give
behind_pair a b pair one (Ok x) h = rw h refl
behind_pair a b pair one (Err f) h = rw h refl

behind_offset : (n key a b c : ℕ) (d : Result (ℕ × Place) FormatFault) → Same n
    → after_read a (λ (first : Match). Ok (bind (matches_from n (Some first.key)) (λ others. give (first ∷ others))))
    (after_read b (λ offset. Ok (give (let M : Match = record { key = key; offset = offset } in M))) d)
    ≡ mapped (after_read c (λ offset. Ok (bind (match_offsets n (Some key))
    (λ others. give ((let M : MatchOffset = record { key = key; offset = offset } in M) ∷ others)))) d)
unfolding bind give
behind_offset n key a b c (Ok x) same = behind_pair x.1.at x.1.at (record { key = key; offset = x.0 })
    (matches_from n (Some key) x.1) (match_offsets n (Some key) x.1) (same (Some key) x.1)
behind_offset n key a b c (Err f) same = refl

behind_key : (n a b c : ℕ) (d : Result (ℕ × Place) FormatFault) → Same n
    → after_read a (λ (first : Match). Ok (bind (matches_from n (Some first.key)) (λ others. give (first ∷ others))))
    (after_read b
    (λ key. Ok (bind u4 (λ offset. give (let M : Match = record { key = key; offset = offset } in M)))) d)
    ≡ mapped (after_read c (λ key. Ok (bind u4 (λ offset. bind (match_offsets n (Some key))
    (λ others. give ((let M : MatchOffset = record { key = key; offset = offset } in M) ∷ others))))) d)
unfolding bind
behind_key n a b c (Ok x) same = behind_offset n x.0 a x.1.at x.1.at (u4 x.1) same
behind_key n a b c (Err f) same = refl

pub matches_are : (n : ℕ) → Same n
unfolding matches_from match_offsets match_read bind give
matches_are zero previous p = refl
matches_are (suc n) previous p = behind_key n p.at p.at p.at (item u4 (lookup_key previous) p) (matches_are n)

lookup_done_of : (pool : List Entry) (pad : List ℕ) (default at : ℕ) (r : Result (List MatchOffset × Place) FormatFault)
    (q : Place) (ms : List Match) → with_wrong (mapped r) ≡ Ok (ms, q)
    → meaning_of_read pool (after_read at (λ pairs. Ok (give (instruction (LookupSwitch pad default pairs)))) r)
    ≡ Ok (unaimed.LookupSwitch default ms, q)
unfolding give
lookup_done_of pool pad default at (Ok x) q ms h =
    let e : (let W : List Match × Place = (map match_of x.0, x.1) in W) ≡ (ms, q) = cc in
    ap (λ (w : List Match × Place). let R : Result (Unaimed × Place) Wrong = Ok
    (unaimed.LookupSwitch default w.0, w.1) in R) e
lookup_done_of pool pad default at (Err f) q ms h = absurd cc

lookup_stops_of : (pool : List Entry) (pad : List ℕ) (default at : ℕ)
    (r : Result (List MatchOffset × Place) FormatFault) (e : Or Wrong) (new q : Place)
    → ReadsOr {T = List Match} (Err e) new (with_wrong (mapped r))
    → ReadsOr {T = Unaimed} (Err e) q
    (meaning_of_read pool (after_read at (λ pairs. Ok (give (instruction (LookupSwitch pad default pairs)))) r))
lookup_stops_of pool pad default at r OutOfMemory new q h = tt
lookup_stops_of pool pad default at (Ok x) (Fault w) new q h = absurd cc
lookup_stops_of pool pad default at (Err f) (Fault w) new q h =
    let e : wrong_of f.kind ≡ w = cc in
    ap (λ (v : Wrong). let R : Result (Unaimed × Place) Wrong = Err v in R) e

-- a lookupswitch whose pairs were read
pub lookup_done : (pool : List Entry) (pad : List ℕ) (default n : ℕ) (p q : Place) (ms : List Match)
    → with_wrong (matches_from n None p) ≡ Ok (ms, q)
    → meaning_of_read pool (matches_behind pad default n p) ≡ Ok (unaimed.LookupSwitch default ms, q)
unfolding bind give
lookup_done pool pad default n p q ms h = lookup_done_of pool pad default p.at (match_offsets n None p) q ms
    (sym (ap with_wrong (matches_are n None p)) ∙ h)

-- or not
pub lookup_stops : (pool : List Entry) (pad : List ℕ) (default n : ℕ) (p : Place) (e : Or Wrong) (new q : Place)
    → ReadsOr {T = List Match} (Err e) new (with_wrong (matches_from n None p))
    → ReadsOr {T = Unaimed} (Err e) q (meaning_of_read pool (matches_behind pad default n p))
unfolding bind give
lookup_stops pool pad default n p e new q h = lookup_stops_of pool pad default p.at (match_offsets n None p) e new q
    (subst (λ r. ReadsOr {T = List Match} (Err e) new (with_wrong r)) (matches_are n None p) h)

item_is : (n : ℕ) (p q : Place) → u4 p ≡ Ok (n, q) → lookup_count n ≡ Ok n → item u4 lookup_count p ≡ Ok (n, q)
unfolding lead give
item_is n p q h k = rw (h, k) refl

-- a lookupswitch up to its count
pub lookup_switch_is : (at default n : ℕ) (pad : List ℕ) (p q r s : Place) → bytes (pad_length at) p ≡ Ok (pad, q)
    → u4 q ≡ Ok (default, r) → u4 r ≡ Ok (n, s) → lookup_count n ≡ Ok n
    → lookup_switch at p ≡ matches_behind pad default n s
lookup_switch_is at default n pad p q r s h k l m =
    bind_is (bytes (pad_length at))
    (λ x. bind u4 (λ y. bind (item u4 lookup_count) (λ z. matches_behind x y z))) p q pad h
    ∙ bind_is u4 (λ y. bind (item u4 lookup_count) (λ z. matches_behind pad y z)) q r default k
    ∙ bind_is (item u4 lookup_count) (λ z. matches_behind pad default z) r s n (item_is n r s l m)
