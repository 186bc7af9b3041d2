-- What the calls of the table keep of a view.
use Rattle.std.proofs.Common.{◌≡◌, ℕ, ◌<◌, Bool, true, false, List, [], ◌∷◌, ◌++◌, inl, inr, ⊎_elim, subst}
use Rattle.std.proofs.Common.{sym}
use Rattle.std.proofs.Common.{◌∙◌, ap, refl, Some, Option}
use Rattle.std.specs.List.{Contains}
use Rattle.std.proofs.lemmas.List.Elements.{Contains-append_left, Contains-push, Contains-push_cases}
use Rattle.mark_core.specs.Valid.{PairBelow}
use Rattle.mark_core.specs.declared.system.System.{System}
use Rattle.mark_core.specs.declared.system.Pair.{Pair}
use Rattle.mark_machine.specs.declared.machine.View.{View}
use Rattle.mark_machine.specs.declared.machine.Event.TheVariants.{LookAt, Finish}
use Rattle.mark_machine.specs.Machine.{look, view_after, May, looking, finishing, PairSeen}
use Rattle.mark_words.specs.declared.table.MarkTable.{MarkTable}
use Rattle.mark_words.specs.declared.table.Claimed.{Claimed}
use Rattle.mark_words.specs.declared.table.Claimed.TheVariants.{New, Already}
use Rattle.mark_words.specs.Seats.{MarkSeat, view, IsSeatOf, Becomes, after_claim}
use Rattle.mark_workers.specs.Work.{IsBusy, Kept, Sides, Looked, Did}

-- a list with one more item below n
pub below_push : (n x : ℕ) (seen : List ℕ) → x < n → ((y : ℕ) → Contains seen y → y < n)
    → (y : ℕ) → Contains (seen ++ x ∷ []) y → y < n
below_push n x seen lt below y has = ⊎_elim (below y) (λ e. subst (λ k. k < n) e lt)
    (Contains-push_cases seen x y has)

pub kept_refl : (n : ℕ) (v : View) → Kept n v v
kept_refl n v = record {
  hand = refl;
  reserved = refl;
  standing = refl;
  quiet = refl;
  seats = refl;
  all = refl;
  finished = refl;
  seen = λ x h. h;
  looks = λ l h. h;
  below = λ h. h;
}

pub kept_trans : (n : ℕ) (u v w : View) → Kept n u v → Kept n v w → Kept n u w
kept_trans n u v w a b = record {
  hand = b.hand ∙ a.hand;
  reserved = b.reserved ∙ a.reserved;
  standing = b.standing ∙ a.standing;
  quiet = b.quiet ∙ a.quiet;
  seats = b.seats ∙ a.seats;
  all = b.all ∙ a.all;
  finished = b.finished ∙ a.finished;
  seen = λ x h. b.seen x (a.seen x h);
  looks = λ l h. b.looks l (a.looks l h);
  below = λ h. b.below (a.below h);
}

pub kept_claim : (n : ℕ) (v : View) (x : ℕ) (r : Claimed) → x < n → v.reserved ≡ false → Kept n v (after_claim v x r)
kept_claim n v x New lt free = record {
  hand = refl;
  reserved = sym free;
  standing = refl;
  quiet = refl;
  seats = refl;
  all = refl;
  finished = refl;
  seen = λ y h. Contains-append_left v.seen (x ∷ []) y h;
  looks = λ l h. h;
  below = below_push n x v.seen lt;
}
kept_claim n v x Already lt free = record {
  hand = refl;
  reserved = sym free;
  standing = refl;
  quiet = refl;
  seats = refl;
  all = refl;
  finished = refl;
  seen = λ y h. Contains-append_left v.seen (x ∷ []) y h;
  looks = λ l h. h;
  below = below_push n x v.seen lt;
}

pub seen_claim : (v : View) (x : ℕ) (r : Claimed) → Contains (after_claim v x r).seen x
seen_claim v x New = Contains-push v.seen x
seen_claim v x Already = Contains-push v.seen x

-- a look, with x in hand
pub kept_look : (n : ℕ) (v : View) (x y : ℕ) (b : Bool) → y < n → v.hand ≡ Some x
    → Kept n v (view_after v (LookAt y) b)
kept_look n v x y true lt hand = record {
  hand = refl;
  reserved = refl;
  standing = refl;
  quiet = refl;
  seats = refl;
  all = refl;
  finished = refl;
  seen = λ z h. Contains-append_left v.seen (y ∷ []) z h;
  looks = λ l h. h;
  below = below_push n y v.seen lt;
}
kept_look n v x y false lt hand = subst
    (λ (o : Option ℕ). Kept n v (record (looking v o y) { log = (view_after v (LookAt y) false).log })) (sym hand)
    (record {
      hand = refl;
      reserved = refl;
      standing = refl;
      quiet = refl;
      seats = refl;
      all = refl;
      finished = refl;
      seen = λ z h. h;
      looks = λ l h. Contains-append_left v.looks (look x y ∷ []) l h;
      below = λ h. h;
    })

pub look_seen : (v : View) (y : ℕ) (b : Bool) → b ≡ true → Contains (view_after v (LookAt y) b).seen y
look_seen v y true e = Contains-push v.seen y
look_seen v y false e = absurd (cc e)

pub look_stands : (v : View) (x y : ℕ) (b : Bool) → v.hand ≡ Some x → b ≡ false
    → Contains (view_after v (LookAt y) b).looks (look x y)
look_stands v x y true e f = absurd (cc f)
look_stands v x y false e f = subst (λ (o : Option ℕ). Contains (looking v o y).looks (look x y)) (sym e)
    (Contains-push v.looks (look x y))

pub seat_kept : (n : ℕ) (t : MarkTable) (old new : MarkSeat) (w : View) → IsSeatOf t old → Becomes old new w
    → Kept n (view old) w → IsSeatOf t new × Kept n (view old) (view new)
seat_kept n t old new w s b k = (
  (
    b.0 ∙ s.0,
    subst (λ (u : View). 0 < u.seats) (sym b.1) (subst (λ m. 0 < m) (sym k.seats) s.1),
    b.2 ∙ s.2,
  ),
  subst (Kept n (view old)) (sym b.1) k,
)

pub may_kept : (n : ℕ) (sys : System) (v w : View) (x : ℕ) (pair : Pair) (partner : ℕ) → IsBusy v x → Kept n v w
    → Contains sys.pairs pair → Sides pair x partner → Contains w.seen partner → May sys w pair.derived
may_kept n sys v w x pair partner busy k listed sides seen = inr (
  x,
  k.hand ∙ busy.0,
  inr (
    pair,
    listed,
    refl,
    ⊎_elim
        (λ a. inl (a.0, subst (Contains w.seen) (sym a.1) seen))
        (λ a. inr (a.0, subst (Contains w.seen) (sym a.1) seen))
        sides,
  ),
)

pub looked_kept : (n : ℕ) (v w : View) (x y : ℕ) (pair : Pair) → Kept n v w → Looked v x y pair → Looked w x y pair
looked_kept n v w x y pair k h = ⊎_elim (λ a. inl (k.seen pair.derived a)) (λ a. inr (k.looks (look x y) a)) h

pub pair_kept : (n : ℕ) (v w : View) (x : ℕ) (pair : Pair) → Kept n v w → PairSeen v x pair → PairSeen w x pair
pair_kept n v w x pair k h = (
  λ e. looked_kept n v w x pair.two pair k (h.0 e),
  λ e. looked_kept n v w x pair.one
      pair k (h.1 e),
)

pub busy_kept : (n : ℕ) (v w : View) (x : ℕ) → Kept n v w → IsBusy v x → IsBusy w x
busy_kept n v w x k busy = (k.hand ∙ busy.0, k.reserved ∙ busy.1)

pub did_all : (n : ℕ) (u v : View) (x : ℕ) → v.hand ≡ Some x → Kept n u v → u.reserved ≡ false
    → Did n u x (view_after v Finish false)
did_all n u v x e k f = subst
    (λ (o : Option ℕ). Did n u x (record (finishing v o) { log = (view_after v Finish false).log })) (sym e)
    (record {
      hand = refl;
      reserved = k.reserved ∙ f;
      standing = k.standing;
      quiet = k.quiet;
      seats = k.seats;
      all = k.all;
      finished = ap (λ l. l ++ x ∷ []) k.finished;
      seen = k.seen;
      below = k.below;
    })

pub sides_below : (n x partner : ℕ) (pair : Pair) → PairBelow n pair → Sides pair x partner → partner < n
sides_below n x partner pair below sides = ⊎_elim
    (λ a. subst (λ k. k < n) a.1 below.1)
    (λ a. subst (λ k. k < n) a.1 below.0)
    sides
