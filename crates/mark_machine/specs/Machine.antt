-- The mark machine: its state, its events, where each is allowed and what it changes.
use Rattle.std.specs.Prelude.{◌≡◌, ◌⊎◌, ℕ, ◌+◌, ◌-◌, ◌<◌, Bool, true, false, IsTrue, if◌then◌else◌, ◌==◌, List, []}
use Rattle.std.specs.Prelude.{◌∷◌, ◌++◌, Option, None, Some, slice_set, replicate}
use Rattle.std.specs.List.{All, Contains}
use mathlib.Core.Option.{some}
use lib.ListN.{get_elem?}
use Rattle.mark_core.specs.declared.system.System.{System}
use Rattle.mark_core.specs.declared.system.Pair.{Pair}
use Rattle.mark_machine.specs.declared.machine.View.{View}
use Rattle.mark_machine.specs.declared.machine.Look.{Look}
use Rattle.mark_machine.specs.declared.machine.Event.{Event}
use Rattle.mark_machine.specs.declared.machine.Event.TheVariants.{Reserve, Claim, GiveBack, Take, LookAt, Finish}
use Rattle.mark_machine.specs.declared.machine.Event.TheVariants.{SeeIdle}
use Rattle.mark_machine.specs.declared.machine.Happened.{Happened}
use Rattle.mark_core.specs.Marks.{needs_of}

pub record Machine : Type 0 where
  pub marked : ℕ → Bool
  pub taken : ℕ → Bool
  pub pending : ℕ
  pub views : List View

abbrev pub look : ℕ → ℕ → Look
look x y = record { hand = x; at = y }

abbrev pub adding : (ℕ → Bool) → ℕ → ℕ → Bool
adding set x y = if y == x then true else set y

-- the pair has h as one item, and the view has seen the other
abbrev pub SeenPartner : View → ℕ → Pair → Type 0
SeenPartner v h q = ((q.one ≡ h) × Contains v.seen q.two) ⊎ ((q.two ≡ h) × Contains v.seen q.one)

-- x is due: a seed, a need of the hand, or the consequence of a pair of the hand
abbrev pub May : System → View → ℕ → Type 0
May sys v x =
    (IsTrue v.standing × Contains sys.seeds x)
    ⊎ ((h : ℕ) × (v.hand ≡ Some h) × (Contains (needs_of sys h) x ⊎ ((q : Pair) × Contains sys.pairs q
    × (q.derived ≡ x) × SeenPartner v h q)))

-- for this pair the consequence was seen, or the partner was looked at before it was marked
abbrev pub PairSeen : View → ℕ → Pair → Type 0
PairSeen v h q =
    (q.one ≡ h → Contains v.seen q.derived ⊎ Contains v.looks (look h q.two))
    × (q.two ≡ h → Contains v.seen q.derived ⊎ Contains v.looks (look h q.one))

abbrev pub MayFinish : System → View → ℕ → Type 0
MayFinish sys v h = (v.hand ≡ Some h) × (v.reserved ≡ false) × All (Contains v.seen) (needs_of sys h)
    × All (PairSeen v h) sys.pairs

abbrev pub Allowed : System → View → Event → Type 0
Allowed sys v Reserve = (IsTrue v.standing ⊎ ((h : ℕ) × (v.hand ≡ Some h))) × (v.reserved ≡ false)
Allowed sys v (Claim x) = IsTrue v.reserved × May sys v x
Allowed sys v GiveBack = IsTrue v.reserved ⊎ (IsTrue v.standing × (v.reserved ≡ false)
    × All (Contains v.seen) sys.seeds)
Allowed sys v (Take x) = (v.hand ≡ None) × (v.reserved ≡ false) × Contains v.seen x
Allowed sys v (LookAt y) = y < sys.n
Allowed sys v Finish = (h : ℕ) × MayFinish sys v h
Allowed sys v SeeIdle = Unit {0}

abbrev pub seeing : View → ℕ → View
seeing v x = record v { seen = v.seen ++ x ∷ [] }

abbrev pub looking : View → Option ℕ → ℕ → View
looking v None y = v
looking v (Some x) y = record v { looks = v.looks ++ look x y ∷ [] }

abbrev pub finishing : View → Option ℕ → View
finishing v None = v
finishing v (Some x) = record v { finished = v.finished ++ x ∷ []; hand = None }

-- the view after an event, from what the event found: whether x was marked, whether it was taken, or whether pending
-- was 0
abbrev pub changed : View → Event → Bool → View
changed v Reserve found = record v { reserved = true }
changed v (Claim x) found = if found then seeing v x else record (seeing v x) { reserved = false }
changed v GiveBack found = if v.reserved then record v { reserved = false } else record v { standing = false }
changed v (Take x) found = if found then v else record v { hand = Some x }
changed v (LookAt y) found = if found then seeing v y else looking v v.hand y
changed v Finish found = finishing v v.hand
changed v SeeIdle found = if found then record v { quiet = true } else v

abbrev pub happened : Event → Bool → Happened
happened e found = record { event = e; found = found }

abbrev pub view_after : View → Event → Bool → View
view_after v e found = record (changed v e found) { log = v.log ++ happened e found ∷ [] }

abbrev pub found_by : Machine → Event → Bool
found_by s Reserve = false
found_by s (Claim x) = s.marked x
found_by s GiveBack = false
found_by s (Take x) = s.taken x
found_by s (LookAt y) = s.marked y
found_by s Finish = false
found_by s SeeIdle = s.pending == 0

abbrev pub marked_after : Machine → Event → ℕ → Bool
marked_after s (Claim x) = adding s.marked x
marked_after s _ = s.marked

abbrev pub taken_after : Machine → Event → ℕ → Bool
taken_after s (Take x) = adding s.taken x
taken_after s _ = s.taken

abbrev pub pending_after : Machine → Event → ℕ
pending_after s Reserve = s.pending + 1
pending_after s GiveBack = s.pending - 1
pending_after s Finish = s.pending - 1
pending_after s _ = s.pending

abbrev pub happens : Machine → ℕ → View → Event → Machine
happens s id v e =
    record {
      marked = marked_after s e;
      taken = taken_after s e;
      pending = pending_after s e;
      views = slice_set
          s.views id (view_after v e (found_by s e));
    }

-- one event of the view with this number
abbrev pub Step : System → Machine → ℕ → Event → Machine → Type 0
Step sys s id e t = (v : View) × (get_elem? s.views id ≡ some v) × Allowed sys v e × (t ≡ happens s id v e)

abbrev pub Run : System → Machine → List (ℕ × Event) → Machine → Type 0
Run sys s [] t = t ≡ s
Run sys s (e ∷ es) t = (mid : Machine) × Step sys s e.0 e.1 mid × Run sys mid es t

abbrev pub nobody : View
nobody = record {
  standing = false;
  reserved = false;
  quiet = false;
  hand = None;
  seen = [];
  looks = [];
  finished =
      [];
  log = [];
  seats = 0;
  all = 0;
}

-- the start, with some views beside the first
abbrev pub first_of : ℕ → View
first_of seats = record nobody { standing = true; seats = seats; all = seats }

abbrev pub IsStart : Machine → Type 0
IsStart s = (others seats : ℕ) × (s ≡ record {
  marked = λ _. false;
  taken = λ _. false;
  pending = 1;
  views =
      first_of seats ∷ replicate others nobody;
})

-- ---- how views are cut and made one
abbrev pub either_true : Bool → Bool → Bool
either_true a b = if a then true else b

abbrev pub joined : View → View → View
joined v w =
    record v {
      quiet = either_true v.quiet w.quiet;
      seen = v.seen ++ w.seen;
      looks = v.looks ++ w.looks;
      finished = v.finished ++ w.finished;
      log = v.log ++ w.log;
      seats = v.seats + w.seats;
    }

abbrev pub one_less : View → View
one_less v = record v { seats = v.seats - 1 }

abbrev pub newcomer : View → View
newcomer v = record nobody { seats = 1; all = v.all }
