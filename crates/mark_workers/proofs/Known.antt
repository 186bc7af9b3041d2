-- Notes of what a seat has seen.
use Rattle.std.proofs.Common.{◌≡◌, ℕ, zero, suc, ◌<◌, Bool, true, false, List, ◌∷◌, [], set, replicate}
use Rattle.std.proofs.Common.{if◌then◌else◌, None, Some, Option, ⊎_elim, subst, sym, ◌∙◌, refl, length-set}
use Rattle.std.specs.List.{Contains}
use Rattle.std.proofs.lemmas.List.{length-replicate}
use Rattle.std.proofs.lemmas.List.Elements.{Contains-append_left}
use Rattle.mark_core.specs.Marks.{set_of}
use Rattle.mark_core.proofs.Sets.{set_fresh}
use Rattle.mark_machine.specs.declared.machine.View.{View}
use Rattle.mark_machine.specs.declared.machine.Event.TheVariants.{GiveBack, LookAt, SeeIdle, Take}
use Rattle.mark_machine.specs.Machine.{looking, view_after}
use Rattle.mark_workers.specs.Work.{Kept, Knows}
use Rattle.mark_workers.proofs.Kept.{below_push, kept_look}

-- the view has seen more
pub knows_more : (n : ℕ) (v w : View) (known : List Bool) → ((x : ℕ) → Contains v.seen x → Contains w.seen x)
    → Knows n v known → Knows n w known
knows_more n v w known more k = record { count = k.count; seen = λ x h. more x (k.seen x h) }

-- one more item is noted
pub knows_itself : (n : ℕ) (v : View) (known : List Bool) (x : ℕ) → Knows n v known → Contains v.seen x
    → Knows n v (set known x true)
knows_itself n v known x k seen = record {
  count = length-set known x true ∙ k.count;
  seen = λ y h. ⊎_elim (k.seen y) (λ same. subst (Contains v.seen) same seen) (set_fresh known x y h);
}

none_set : (n x : ℕ) → set_of (replicate n false) x ≡ false
none_set zero x = refl
none_set (suc n) zero = refl
none_set (suc n) (suc x) = none_set n x

-- nothing is noted
pub knows_none : (n : ℕ) (v : View) → Knows n v (replicate n false)
knows_none n v = record {
  count = length-replicate n false;
  seen = λ x h. absurd (let e : true ≡ false = sym h ∙ none_set n x in cc);
}

-- a look at an item, whatever the hand holds
kept_unmarked : (n : ℕ) (v : View) (o : Option ℕ) (y : ℕ) → y < n → v.hand ≡ o
    → Kept n v (view_after v (LookAt y) false)
kept_unmarked n v None y lt is = subst
    (λ (o : Option ℕ). Kept n v (record (looking v o y) { log = (view_after v (LookAt y) false).log })) (sym is)
    (record {
      hand = refl;
      reserved = refl;
      standing = refl;
      quiet = refl;
      seats = refl;
      all = refl;
      finished = refl;
      seen = λ x h. h;
      looks = λ l h. h;
      below = λ h. h;
    })
kept_unmarked n v (Some x) y lt is = kept_look n v x y false lt is

kept_marked : (n : ℕ) (v : View) (y : ℕ) → y < n → Kept n v (view_after v (LookAt y) true)
kept_marked n v y lt = record {
  hand = refl;
  reserved = refl;
  standing = refl;
  quiet = refl;
  seats = refl;
  all = refl;
  finished = refl;
  seen = λ z h. Contains-append_left v.seen (y ∷ []) z h;
  looks = λ l h. h;
  below = below_push n y v.seen lt;
}

pub kept_looked : (n : ℕ) (v : View) (y : ℕ) (b : Bool) → y < n → Kept n v (view_after v (LookAt y) b)
kept_looked n v y true lt = kept_marked n v y lt
kept_looked n v y false lt = kept_unmarked n v v.hand y lt refl

-- events that leave what was seen
pub seen_taking : (v : View) (x : ℕ) (b : Bool) (y : ℕ) → Contains v.seen y → Contains (view_after v (Take x) b).seen y
seen_taking v x true y h = h
seen_taking v x false y h = h

pub seen_idle : (v : View) (b : Bool) (y : ℕ) → Contains v.seen y → Contains (view_after v SeeIdle b).seen y
seen_idle v true y h = h
seen_idle v false y h = h

seen_either : (b : Bool) (v : View) (y : ℕ) → Contains v.seen y
    → Contains (if b then record v { reserved = false } else record v { standing = false }).seen y
seen_either true v y h = h
seen_either false v y h = h

pub seen_giving : (v : View) (y : ℕ) → Contains v.seen y → Contains (view_after v GiveBack false).seen y
seen_giving v y h = seen_either v.reserved v y h

-- the same of a view that is the one after the event
pub knows_after : (n : ℕ) (v u w : View) (known : List Bool) → w ≡ u
    → ((x : ℕ) → Contains v.seen x → Contains u.seen x) → Knows n v known → Knows n w known
knows_after n v u w known is more k = subst (λ (t : View). Knows n t known) (sym is) (knows_more n v u known more k)
