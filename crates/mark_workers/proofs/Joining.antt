-- Seats that come together, and how the seeding ends.
use Rattle.std.proofs.Common.{◌≡◌, ℕ, ◌+◌, ◌<◌, Bool, true, false, if◌then◌else◌, List, [], ◌∷◌, ◌++◌, subst}
use Rattle.std.proofs.Common.{sym, ◌∙◌, ap, refl, arith}
use Rattle.std.proofs.Common.{⊎_elim, length, replicate, slice_index_or, take}
use Rattle.std.proofs.Math.Seq.{take-append_seam}
use Rattle.std.specs.List.{All, Contains, remove}
use Rattle.std.proofs.lemmas.List.{get_or_append_left, length_push}
use Rattle.std.proofs.lemmas.List.Elements.{All-contains, Contains-append_cases, Contains-push}
use Rattle.mark_machine.specs.declared.machine.View.{View}
use Rattle.mark_machine.specs.declared.machine.Event.{Event}
use Rattle.mark_machine.specs.declared.machine.Event.TheVariants.{GiveBack, SeeIdle}
use Rattle.mark_machine.specs.Machine.{joined, view_after}
use Rattle.mark_machine.specs.Machine.{first_of}
use Rattle.mark_core.specs.declared.system.System.{System}
use Rattle.mark_words.specs.declared.marking.Marking.{Marking}
use Rattle.mark_words.specs.declared.table.MarkTable.{MarkTable}
use Rattle.mark_words.specs.Seats.{MarkSeat, view, system_of, Becomes, IsNewcomer, IsSeatOf, Starts}
use Rattle.mark_words.proofs.Steps.{same_seats}
use Rattle.mark_workers.specs.declared.crew.Member.{Member}
use Rattle.mark_workers.specs.Ready.{Hired, IsFree, IsSeeding, SameSeats}
use Rattle.mark_workers.specs.Sweep.{Rests}
use Rattle.mark_workers.specs.Work.{Kept, Knows}
use Rattle.mark_workers.proofs.Known.{knows_none}

pub joined_free : (n : ℕ) (v w : View) → IsFree n v → IsFree n w → IsFree n (joined v w)
joined_free n v w a b = (a.0, a.1, a.2, λ x h. ⊎_elim (a.3 x) (b.3 x) (Contains-append_cases v.seen w.seen x h))

-- the standing reservation is given back
pub seeded : (n : ℕ) (v w u : View) → IsSeeding n v → Kept n v w → u ≡ view_after w GiveBack false
    → IsFree n u × SameSeats v u
seeded n v w u s k e =
    let reserved : w.reserved ≡ false = k.reserved ∙ s.1 in
    subst (λ (t : View). IsFree n t × SameSeats v t) (sym e)
    (subst (λ (b : Bool). IsFree n (record (if b then record w { reserved = false } else record w
    { standing = false }) { log = (view_after w GiveBack false).log })
    × SameSeats v (record (if b then record w { reserved = false } else record w { standing = false })
    { log = (view_after w GiveBack false).log }))
    (sym reserved)
    ((k.hand ∙ s.0, reserved, refl, k.below s.3), (k.seats, k.all)))

-- what holds of each element holds of those before the last one, and of it
module _ {X : Type 0} (P : X → Type 0) (xs : List X) (x : X) (h : All P (xs ++ x ∷ [])) where
  pub all_but_last : All P xs
  all_but_last k d lt =
      let more : length (xs ++ x ∷ []) ≡ length xs + 1 = length_push xs x in
      subst P (get_or_append_left xs (x ∷ []) d k lt) (h k d (omega (arith, lt, more)))

  pub of_last : P x
  of_last = All-contains P (xs ++ x ∷ []) x h (Contains-push xs x)

none : {X : Type 0} (x : X) → Contains [] x → ⊥
none x (k, lt, e) = omega (arith, lt)

pub hired : (t : MarkTable) (seats : ℕ) (seat : MarkSeat) (member : Member) → member.seat ≡ seat
    → member.tasks.known.items ≡ replicate (system_of t).n false
    → IsNewcomer t seats seat → Hired t seats member
hired t seats seat member is known new =
    let free : IsFree (system_of t).n (view seat) = subst (IsFree (system_of t).n) (sym new.1)
    (refl, refl, refl, λ x c. absurd (none x c)) in
    subst (λ (s : MarkSeat). (IsSeatOf t s × IsFree (system_of t).n (view s)
    × Knows (system_of t).n (view s) member.tasks.known.items)
    × ((view s).seats ≡ 1) × ((view s).all ≡ seats))
    (sym is) (
      (
        new.0,
        free,
        subst (Knows (system_of t).n (view seat)) (sym known) (knows_none (system_of t).n (view seat)),
      ),
      ap (λ (v : View). v.seats) new.1,
      ap (λ (v : View). v.all) new.1,
    )

-- a seat after an event of its own
pub seat_after : (t : MarkTable) (old new : MarkSeat) (e : Event) (found : Bool) → IsSeatOf t old
    → Becomes old new (view_after (view old) e found) → IsSeatOf t new
seat_after t old new e found s b = (
  b.0 ∙ s.0,
  subst (λ (v : View). 0 < v.seats) (sym b.1) (subst (λ k. 0 < k) (sym (same_seats (view old) e found).0) s.1),
  b.2 ∙ s.2,
)

pub seat_joined : (t : MarkTable) (old new : MarkSeat) (w : View) → IsSeatOf t old
    → Becomes old new (joined (view old) w)
    → IsSeatOf t new
seat_joined t old new w s b = (
  b.0 ∙ s.0,
  subst (λ (v : View). 0 < v.seats) (sym b.1) (let live : 0 < (view old).seats = s.1 in omega (arith, live)),
  b.2 ∙ s.2,
)

-- one seat more, and one less to come
pub joined_count : (v w u : View) (more rest : ℕ) → u ≡ joined v w → w.seats ≡ 1 → v.seats + more ≡ v.all
    → more ≡ rest + 1
    → u.seats + rest ≡ u.all
joined_count v w u more rest is one sum less = subst (λ (t : View). t.seats + rest ≡ t.all) (sym is)
    (omega (arith, one, sum, less))

-- a seat that looked whether the table is idle
pub free_idle : (n : ℕ) (v w : View) (found : Bool) → IsFree n v → w ≡ view_after v SeeIdle found → IsFree n w
free_idle n v w true free is = subst (IsFree n) (sym is) free
free_idle n v w false free is = subst (IsFree n) (sym is) free

pub ready_idle : (t : MarkTable) (old new : MarkSeat) (found : Bool) → IsSeatOf t old
    → IsFree (system_of t).n (view old)
    → Becomes old new (view_after (view old) SeeIdle found)
    → (IsSeatOf t new × IsFree (system_of t).n (view new)) × SameSeats (view old) (view new)
ready_idle t old new found s free b =
    let same = same_seats (view old) SeeIdle found in (
      (seat_after t old new SeeIdle found s b, free_idle (system_of t).n (view old) (view new) found free b.1),
      (ap (λ (v : View). v.seats) b.1 ∙ same.0, ap (λ (v : View). v.all) b.1 ∙ same.1),
    )

pub rests_idle : (n : ℕ) (v w : View) → Rests n v → w ≡ view_after v SeeIdle false → Rests n w
rests_idle n v w r is = subst (Rests n) (sym is) r

-- what holds of each element of a list holds of each of that part of a longer one
pub all_taken : {X : Type 0} (P : X → Type 0) (xs ys : List X) (n : ℕ) → length xs ≡ n → All P xs
    → All P (take n (xs ++ ys))
all_taken P xs ys n same h = subst (λ (m : ℕ). All P (take m (xs ++ ys))) same
    (subst (All P) (sym (take-append_seam xs ys)) h)

-- a table at its start, of which the first seat was taken out of the list
pub first_out : (sys : System) (seats : ℕ) (made : Marking) (all rest : List MarkSeat) (x : MarkSeat)
    → Starts sys seats made
    → all ≡ made.seats → x ≡ slice_index_or all 0 x → rest ≡ remove all 0
    → All (IsNewcomer made.table seats) rest × (length rest + 1 ≡ seats) × IsSeatOf made.table x
    × (view x ≡ record (first_of seats) { seats = 1 })
first_out sys seats made all rest x (is, (first, others, made_is, count, seat, seen, new)) all_is x_is rest_is =
    let e : all ≡ first ∷ others = all_is ∙ made_is in
    let at : x ≡ first = x_is ∙ ap (λ (l : List MarkSeat). slice_index_or l 0 x) e in
    let left : rest ≡ others = rest_is ∙ ap (λ (l : List MarkSeat). remove l 0) e in (
      subst (All (IsNewcomer made.table seats)) (sym left) new,
      ap (λ (l : List MarkSeat). length l + 1) left ∙ count,
      subst (IsSeatOf made.table) (sym at) seat,
      ap view at ∙ seen,
    )
