-- Inv holds at the start, and after every run.
use Rattle.std.proofs.Common.{◌≡◌, ◌↔◌, ℕ, zero, suc, Bool, true, false, IsTrue, if◌then◌else◌}
use Rattle.std.proofs.Common.{Option, List, [], ◌∷◌, replicate, subst, sym}
use Rattle.std.proofs.Common.{refl, arith, Some, None}
use Rattle.std.specs.List.{Contains}
use mathlib.Core.Option.{some-injective, some-ne-none}
use Rattle.mark_core.specs.declared.system.System.{System}
use Rattle.mark_machine.specs.declared.machine.View.{View}
use Rattle.mark_machine.specs.declared.machine.Event.{Event}
use Rattle.mark_machine.specs.declared.machine.Event.TheVariants.{Reserve, Claim, GiveBack, Take, LookAt, Finish}
use Rattle.mark_machine.specs.declared.machine.Event.TheVariants.{SeeIdle}
use Rattle.mark_core.specs.Valid.{Valid}
use Rattle.mark_core.specs.Marks.{IsMarked}
use Rattle.mark_machine.specs.Counts.{bit, sums, total, EachView}
use Rattle.mark_machine.specs.Machine.{Machine, Run, Step, IsStart, nobody, first_of, looking, finishing, view_after}
use Rattle.mark_machine.specs.Machine.{found_by}
use Rattle.mark_machine.specs.Invariant.{Inv, notes, finishes, holds_of}
use Rattle.mark_machine.specs.Runs.{Reached, IsQuiet}
use Rattle.mark_machine.proofs.Counts.{sums_zero, some_set}
use Rattle.mark_machine.proofs.Events.{step_keeps}

each_nobody : (P : View → Type 0) (n : ℕ) → P nobody → EachView P (replicate n nobody)
each_nobody P zero p id v e = absurd (some-ne-none v (sym e))
each_nobody P (suc n) p zero v e = subst P (some-injective nobody v e) p
each_nobody P (suc n) p (suc id) v e = each_nobody P n p id v e

each_first : (P : View → Type 0) (n seats : ℕ) → P (first_of seats) → P nobody
    → EachView P (first_of seats ∷ replicate n nobody)
each_first P n seats a b zero v e = subst P (some-injective (first_of seats) v e) a
each_first P n seats a b (suc id) v e = each_nobody P n b id v e

total_nobody : (f : View → ℕ) (n : ℕ) → f nobody ≡ 0 → total f (replicate n nobody) ≡ 0
total_nobody f zero z = refl
total_nobody f (suc n) z = let a : total f (replicate n nobody) ≡ 0 = total_nobody f n z in omega (arith, a, z)

none : {X : Type 0} (x : X) → Contains [] x → ⊥
none x (k, lt, e) = omega (arith, lt)

false_not : false ≡ true → ⊥
false_not e = cc

pub start_keeps : (sys : System) (s : Machine) → IsStart s → Inv sys s
start_keeps sys s (n, seats, e) = subst (Inv sys) (sym e) (record {
  within = λ x h. absurd (false_not h);
  taken_marked = λ x h. absurd (false_not h);
  seen_marked = each_first (λ v. (x : ℕ) → Contains v.seen x → false ≡ true) n seats (λ x c. absurd (none x c))
      (λ x c. absurd (none x c));
  marked_seen = λ x h. absurd (false_not h);
  held = λ x. (let a : total (holds_of x) (replicate n nobody) ≡ 0 = total_nobody (holds_of x) n refl in
      omega (arith, a));
  pending =
      let a : total finishes (replicate n nobody) ≡ 0 = total_nobody finishes n refl in
      let b : total notes (replicate n nobody) ≡ 0 = total_nobody notes n refl in
      let c : sums sys.n (λ x. 0) ≡ 0 = sums_zero sys.n in
      omega (arith, a, b, c);
  one_standing = (let a : total (λ v. bit v.standing) (replicate n nobody) ≡ 0 = total_nobody (λ v. bit v.standing)
      n refl in omega (arith, a));
  seeds = λ h. absurd (omega (arith, h));
  look_marked = λ x y h. absurd (each_first (λ v. Contains v.looks (record { hand = x; at = y }) → ⊥) n seats
      (none (record { hand = x; at = y })) (none (record { hand = x; at = y })) h.0 h.1 h.2 h.3);
  look_once = λ x y h k. each_first (λ v. Contains v.looks (record { hand = x; at = y }) → ⊥) n seats
      (none (record { hand = x; at = y })) (none (record { hand = x; at = y })) h.0 h.1 h.2 h.3;
  finished = each_first (λ v. (x : ℕ) → Contains v.finished x → _) n seats (λ x c. absurd (none x c))
      (λ x c. absurd (none x c));
  quiet = each_first (λ v. IsTrue v.quiet → _) n seats (λ h. absurd (false_not h)) (λ h. absurd (false_not h));
})

pub run_keeps : (sys : System) → Valid sys → (events : List (ℕ × Event)) (s t : Machine) → Inv sys s
    → Run sys s events t → Inv sys t
run_keeps sys valid [] s t inv r = subst (Inv sys) (sym r) inv
run_keeps sys valid (e ∷ es) s t inv (mid, step, r) = run_keeps sys valid es mid t (step_keeps sys valid s mid e.0
    e.1 inv step) r

pub reached : (sys : System) (events : List (ℕ × Event)) (t : Machine) → Valid sys → Reached sys events t → Inv sys t
reached sys events t valid (s, start, r) = run_keeps sys valid events s t (start_keeps sys s start) r

pub quiet_marks : (sys : System) (t : Machine) → Inv sys t → IsQuiet t → (x : ℕ) → IsTrue (t.marked x) ↔ IsMarked
    sys x
quiet_marks sys t inv (id, v, at, q) x = ((λ h. (inv.within x h).0), (λ h. h t.marked (inv.quiet id v at q).1))

-- a view that has seen idle keeps that note
quiet_looking : (v : View) (hand : Option ℕ) (y : ℕ) → IsTrue v.quiet → IsTrue (looking v hand y).quiet
quiet_looking v None y q = q
quiet_looking v (Some x) y q = q

quiet_finishing : (v : View) (hand : Option ℕ) → IsTrue v.quiet → IsTrue (finishing v hand).quiet
quiet_finishing v None q = q
quiet_finishing v (Some x) q = q

quiet_given : (v : View) (reserved : Bool) → IsTrue v.quiet
    → IsTrue (if reserved then record v { reserved = false } else record v { standing = false }).quiet
quiet_given v true q = q
quiet_given v false q = q

quiet_kept : (v : View) (e : Event) (found : Bool) → IsTrue v.quiet → IsTrue (view_after v e found).quiet
quiet_kept v Reserve found q = q
quiet_kept v (Claim x) true q = q
quiet_kept v (Claim x) false q = q
quiet_kept v GiveBack found q = quiet_given v v.reserved q
quiet_kept v (Take x) true q = q
quiet_kept v (Take x) false q = q
quiet_kept v (LookAt y) true q = q
quiet_kept v (LookAt y) false q = quiet_looking v v.hand y q
quiet_kept v Finish found q = quiet_finishing v v.hand q
quiet_kept v SeeIdle true q = refl
quiet_kept v SeeIdle false q = q

step_quiet : (sys : System) (s t : Machine) (id : ℕ) (e : Event) → Step sys s id e t → IsQuiet s → IsQuiet t
step_quiet sys s t id e (v, at, allowed, is) quiet = subst IsQuiet (sym is)
    (some_set (λ (u : View). IsTrue u.quiet) s.views id v (view_after v e (found_by s e)) at
    (quiet_kept v e (found_by s e)) quiet)

pub run_quiet : (sys : System) (events : List (ℕ × Event)) (s t : Machine) → Run sys s events t → IsQuiet s
    → IsQuiet t
run_quiet sys [] s t run quiet = subst IsQuiet (sym run) quiet
run_quiet sys (e ∷ es) s t (mid, step, run) quiet = run_quiet sys es mid t run (step_quiet sys s mid e.0 e.1 step
    quiet)
