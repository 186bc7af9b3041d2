-- A change that Moves allows keeps Inv, and what Inv says where pending is 0.
use Rattle.std.proofs.Common.{◌≡◌, ◌⊎◌, ℕ, ◌+◌, ◌<◌, ◌≤◌, Bool, true, false, IsTrue}
use Rattle.std.proofs.Common.{get_or, set, inl, inr, ⊎_elim, sym, ◌∙◌, ap, refl, arith, eqb}
use Rattle.std.proofs.Common.{eq-eqb, Some}
use Rattle.std.specs.List.{All, Contains}
use Rattle.std.proofs.lemmas.List.Elements.{All-weaker, All-contains_itself}
use mathlib.Core.Option.{some}
use lib.ListN.{get_elem?}
use Rattle.mark_core.specs.declared.system.System.{System}
use Rattle.mark_core.specs.declared.system.Pair.{Pair}
use Rattle.mark_machine.specs.declared.machine.View.{View}
use Rattle.mark_core.specs.Marks.{Closed, needs_of}
use Rattle.mark_machine.specs.Counts.{bit, sums, count, times, in_hand, total, SomeView, EachView}
use Rattle.mark_machine.specs.Machine.{Machine, look}
use Rattle.mark_machine.specs.Invariant.{Inv, notes, finishes, holds_of, LookStands, FinishedOk}
use Rattle.mark_machine.specs.Moves.{Moves}
use Rattle.mark_machine.proofs.Counts.{bit_le, bit_true, sums_le, sums_tight, times_from_contains}
use Rattle.mark_machine.proofs.Counts.{contains_from_times, total_set, total_at, total_some, total_le, total_add}
use Rattle.mark_machine.proofs.Counts.{sums_total, some_set, here_set, each_set, some_set_cases}

module _ (sys : System) (s : Machine) (inv : Inv sys s) (id : ℕ) (v w : View) (at : get_elem? s.views id ≡ some v)
    (marked taken : ℕ → Bool) (pending : ℕ) (m : Moves sys s v w marked taken pending) where
  look_kept : (x y : ℕ) → LookStands s.views x y → LookStands (set s.views id w) x y
  look_kept x y = some_set (λ u. Contains u.looks (look x y)) s.views id v w at (m.looks_keep (look x y))

  look_here : (x y : ℕ) → Contains w.looks (look x y) → LookStands (set s.views id w) x y
  look_here x y = here_set (λ u. Contains u.looks (look x y)) s.views id v w at

  -- a look that stands is an old one, or was made now
  look_cases : (x y : ℕ) → LookStands (set s.views id w) x y → LookStands s.views x y
      ⊎ (IsTrue (s.marked x) × (IsTrue (s.marked y) → ⊥))
  look_cases x y h = ⊎_elim inl (λ c. ⊎_elim (λ d. inl (id, v, at, d)) inr (m.looks_new (look x y) c))
      (some_set_cases (λ u. Contains u.looks (look x y)) s.views id w h)

  ok_kept : (x : ℕ) → FinishedOk sys s.marked s.views x → FinishedOk sys marked (set s.views id w) x
  ok_kept x f = (
    All-weaker (λ y. IsTrue (s.marked y)) (λ y. IsTrue (marked y)) m.grows (needs_of sys x) f.0,
    λ k d lt. (
      λ e. ⊎_elim (λ a. inl (m.grows _ a)) (λ a. inr (look_kept x _ a)) ((f.1 k d lt).0 e),
      λ e. ⊎_elim (λ a. inl (m.grows _ a)) (λ a. inr (look_kept x _ a)) ((f.1 k d lt).1 e),
    ),
  )

  ok_here : (x : ℕ) → Contains w.finished x → FinishedOk sys marked (set s.views id w) x
  ok_here x c = ⊎_elim (λ o. ok_kept x (inv.finished id v at x o))
      (λ f. (
        f.0,
        λ k d lt. (
          λ e. ⊎_elim inl (λ a. inr (look_here x _ a)) ((f.1 k d lt).0 e),
          λ e. ⊎_elim inl
              (λ a. inr (look_here x _ a)) ((f.1 k d lt).1 e),
        ),
      ))
      (m.finished x c)

  pub keeps : Inv sys (record { marked = marked; taken = taken; pending = pending; views = set s.views id w })
  keeps = record {
    within = λ x h. ⊎_elim (inv.within x) (λ d. (d.0, d.1)) (m.due x h);
    taken_marked = m.taken_marked;
    seen_marked = each_set (λ u. (x : ℕ) → Contains u.seen x → IsTrue (marked x)) s.views id w
        (λ i u b x c. m.grows x (inv.seen_marked i u b x c)) m.seen_marked;
    marked_seen = λ x h. ⊎_elim
        (λ o. some_set (λ u. Contains u.seen x) s.views id v w at (m.seen_keeps x) (inv.marked_seen x o))
        (λ d. here_set (λ u. Contains u.seen x) s.views id v w at d.2)
        (m.due x h);
    held = λ x.
        let a : total (holds_of x) (set s.views id w) + holds_of x v ≡ total (holds_of x) s.views + holds_of x w =
        total_set (holds_of x) s.views id v w at in
        let b : total (holds_of x) s.views ≡ bit (s.taken x) = inv.held x in
        let d : holds_of x w + bit (s.taken x) ≡ holds_of x v + bit (taken x) = m.held x in
        omega (arith, a, b, d);
    pending =
        let a : total finishes (set s.views id w) + finishes v ≡ total finishes s.views + finishes w = total_set
        finishes s.views id v w at in
        let b : total notes (set s.views id w) + notes v ≡ total notes s.views + notes w = total_set notes s.views
        id v w at in
        let d : s.pending + total finishes s.views ≡ total notes s.views + count sys.n s.marked = inv.pending in
        let e : pending + finishes w + notes v + count sys.n s.marked ≡ s.pending + finishes v + notes w + count
        sys.n marked = m.counted in
        omega (arith, a, b, d, e);
    one_standing =
        let a : total (λ u. bit u.standing) (set s.views id w) + bit v.standing ≡ total (λ u. bit u.standing)
        s.views + bit w.standing = total_set (λ u. bit u.standing) s.views id v w at in
        let b : total (λ u. bit u.standing) s.views ≤ 1 = inv.one_standing in
        ⊎_elim (λ e. omega (arith, a, b, e)) (λ e. (let z : bit w.standing ≡ 0 = e.0 in omega (arith, a, b, z)))
        m.standing;
    seeds = λ h.
        let a : total (λ u. bit u.standing) (set s.views id w) + bit v.standing ≡ total (λ u. bit u.standing)
        s.views + bit w.standing = total_set (λ u. bit u.standing) s.views id v w at in
        ⊎_elim (λ e. All-weaker (λ x. IsTrue (s.marked x)) (λ x. IsTrue (marked x)) m.grows sys.seeds
        (inv.seeds (omega (arith, a, h, e)))) (λ e. e.1) m.standing;
    look_marked = λ x y h. ⊎_elim (λ o. m.grows x (inv.look_marked x y o)) (λ o. m.grows x o.0) (look_cases x y h);
    look_once = λ x y h k. ⊎_elim
        (λ o. ⊎_elim (λ p. inv.look_once x y o p) (λ p. p.1 (inv.look_marked x y o)) (look_cases y x k))
        (λ o. ⊎_elim (λ p. o.1 (inv.look_marked y x p)) (λ p. o.1 p.0) (look_cases y x k))
        (look_cases x y h);
    finished = each_set (λ u. (x : ℕ) → Contains u.finished x → FinishedOk sys marked (set s.views id w) x) s.views
        id w (λ i u b x c. ok_kept x (inv.finished i u b x c)) ok_here;
    quiet = each_set (λ u. IsTrue u.quiet → (pending ≡ 0) × Closed sys marked) s.views id w
        (λ i u b q. let o = inv.quiet i u b q in m.quiet_keeps o.0 o.1)
        (λ q. ⊎_elim (λ o. let p = inv.quiet id v at o in m.quiet_keeps p.0 p.1) (λ o. o) (m.quiet_new q));
  }

-- ---- what Inv says
module _ (sys : System) (s : Machine) (inv : Inv sys s) where
  pub holder_taken : (id : ℕ) (v : View) → get_elem? s.views id ≡ some v → (x : ℕ) → 0 < holds_of x v
      → IsTrue (s.taken x)
  holder_taken id v at x h =
      let a : holds_of x v ≤ total (holds_of x) s.views = total_at (holds_of x) s.views id v at in
      let b : total (holds_of x) s.views ≡ bit (s.taken x) = inv.held x in
      bit_true (s.taken x) (omega (arith, a, b, h))

  pub hand_taken : (id : ℕ) (v : View) → get_elem? s.views id ≡ some v → (h : ℕ) → v.hand ≡ Some h
      → IsTrue (s.taken h)
  hand_taken id v at h e = holder_taken id v at h (let a : in_hand h v.hand ≡ bit (eqb h h) = ap (in_hand h) e in
      let b : bit (eqb h h) ≡ 1 = ap bit (eq-eqb h h refl) in omega (arith, a, b))

  pub finished_taken : (id : ℕ) (v : View) → get_elem? s.views id ≡ some v → (x : ℕ) → Contains v.finished x
      → IsTrue (s.taken x)
  finished_taken id v at x c = holder_taken id v at x (let a : 0 < times x v.finished = times_from_contains x
      v.finished c in omega (arith, a))

  below : EachView (λ v. All (λ x. x < sys.n) v.finished) s.views
  below id v at = All-weaker (Contains v.finished) (λ x. x < sys.n)
      (λ x c. (inv.within x (inv.taken_marked x (finished_taken id v at x c))).1) v.finished
      (All-contains_itself v.finished)

  done : ℕ → ℕ
  done x = total (λ (v : View). times x v.finished) s.views

  done_sum : sums sys.n done ≡ total finishes s.views
  unfolding done
  done_sum = sums_total sys.n (λ (v : View). v.finished) s.views below

  hands : ℕ → ℕ
  hands x = total (λ (v : View). in_hand x v.hand) s.views

  both : (x : ℕ) → hands x + done x ≡ bit (s.taken x)
  unfolding hands done
  both x = sym (total_add (λ (v : View). in_hand x v.hand) (λ (v : View). times x v.finished) s.views) ∙ inv.held x

  taken_le : (x : ℕ) (a b : Bool) → (IsTrue a → IsTrue b) → bit a ≤ bit b
  taken_le x true true h = omega arith
  taken_le x true false h = absurd (cc (h refl))
  taken_le x false b h = omega arith

  done_le : (x : ℕ) → done x ≤ bit (s.marked x)
  done_le x =
      let a : hands x + done x ≡ bit (s.taken x) = both x in
      let b : bit (s.taken x) ≤ bit (s.marked x) = taken_le x (s.taken x) (s.marked x) (inv.taken_marked x) in
      omega (arith, a, b)

  counts : sums sys.n done ≤ count sys.n s.marked
  counts = sums_le sys.n done (λ x. bit (s.marked x)) done_le

  module _ (idle : s.pending ≡ 0) where
    tight : count sys.n s.marked ≤ sums sys.n done
    tight =
        let a : sums sys.n done ≡ total finishes s.views = done_sum in
        let b : s.pending + total finishes s.views ≡ total notes s.views + count sys.n s.marked = inv.pending in
        omega (arith, a, b, idle)

    pub no_notes : total notes s.views ≡ 0
    no_notes =
        let a : sums sys.n done ≡ total finishes s.views = done_sum in
        let b : s.pending + total finishes s.views ≡ total notes s.views + count sys.n s.marked = inv.pending in
        let d : sums sys.n done ≤ count sys.n s.marked = counts in
        omega (arith, a, b, d, idle)

    marked_done : (x : ℕ) → IsTrue (s.marked x) → 1 ≤ done x
    marked_done x h =
        let a : bit (s.marked x) ≤ done x = sums_tight sys.n done (λ y. bit (s.marked y)) done_le tight x
        (inv.within x h).1 in
        let b : bit (s.marked x) ≡ 1 = ap bit h in
        omega (arith, a, b)

    pub is_finished : (x : ℕ) → IsTrue (s.marked x) → SomeView (λ v. Contains v.finished x) s.views
    unfolding done
    is_finished x h = let r = total_some (λ (v : View). times x v.finished) s.views
        (let a : 1 ≤ done x = marked_done x h in omega (arith, a)) in
        (r.0, r.1, r.2, contains_from_times x r.1.finished r.3)

    pub no_hand : (id : ℕ) (v : View) → get_elem? s.views id ≡ some v → (h : ℕ) → v.hand ≡ Some h → ⊥
    unfolding hands
    no_hand id v at h e =
        let t : IsTrue (s.taken h) = hand_taken id v at h e in
        let a : hands h + done h ≡ bit (s.taken h) = both h in
        let b : 1 ≤ done h = marked_done h (inv.taken_marked h t) in
        let d : in_hand h v.hand ≤ hands h = total_at (λ (u : View). in_hand h u.hand) s.views id v at in
        let f : in_hand h v.hand ≡ bit (eqb h h) = ap (in_hand h) e in
        let g : bit (eqb h h) ≡ 1 = ap bit (eq-eqb h h refl) in
        let i : bit (s.taken h) ≤ 1 = bit_le (s.taken h) in
        omega (arith, a, b, d, f, g, i)

    no_standing : total (λ v. bit v.standing) s.views ≡ 0
    no_standing =
        let a : total (λ v. bit v.standing) s.views ≤ total notes s.views = total_le (λ v. bit v.standing) notes
        s.views (λ i u b. omega arith) in
        let b : total notes s.views ≡ 0 = no_notes in
        omega (arith, a, b)

    pub idle_closed : Closed sys s.marked
    idle_closed = record {
      seeds = inv.seeds no_standing;
      needs = λ x h. let r = is_finished x h in (inv.finished r.0 r.1 r.2 x r.3).0;
      pairs = λ k d lt one two.
          let q : Pair = get_or sys.pairs k d in
          let a = is_finished q.one one in
          let b = is_finished q.two two in
          ⊎_elim (λ c. c)
          (λ c. ⊎_elim (λ e. e) (λ e. absurd (inv.look_once q.one q.two c e))
          (((inv.finished b.0 b.1 b.2 q.two b.3).1 k d lt).1 refl))
          (((inv.finished a.0 a.1 a.2 q.one a.3).1 k d lt).0 refl);
    }
