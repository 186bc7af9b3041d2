-- Each event is a change that Moves allows.
use Rattle.std.proofs.Common.{◌≡◌, ◌≢◌, ◌⊎◌, ℕ, ◌+◌, ◌-◌, ◌<◌, ◌≤◌, Bool, true, false, if◌then◌else◌}
use Rattle.std.proofs.Common.{IsTrue, List, [], ◌∷◌, ◌++◌, length, set, inl, inr, ⊎_elim, subst, sym, ◌∙◌, ap}
use Rattle.std.proofs.Common.{refl, arith, eqb, eq-eqb, ne_eqb, Option, Some, None}
use Rattle.std.specs.List.{All, Contains}
use Rattle.std.proofs.lemmas.Bool.{cases_eq, cases_lt}
use Rattle.std.proofs.lemmas.List.{length_push, get_or_past}
use Rattle.std.proofs.lemmas.List.Elements.{All-nil, All-weaker, All-contains, Contains-append_left}
use Rattle.std.proofs.lemmas.List.Elements.{Contains-push, Contains-push_cases}
use mathlib.Core.Option.{some}
use lib.ListN.{get_elem?}
use Rattle.mark_core.specs.declared.system.System.{System}
use Rattle.mark_core.specs.declared.system.Pair.{Pair}
use Rattle.mark_machine.specs.declared.machine.View.{View}
use Rattle.mark_machine.specs.declared.machine.Look.{Look}
use Rattle.mark_machine.specs.declared.machine.Happened.{Happened}
use Rattle.mark_machine.specs.declared.machine.Event.{Event}
use Rattle.mark_machine.specs.declared.machine.Event.TheVariants.{Reserve, Claim, GiveBack, Take, LookAt, Finish}
use Rattle.mark_machine.specs.declared.machine.Event.TheVariants.{SeeIdle}
use Rattle.mark_core.specs.Valid.{Valid, PairBelow}
use Rattle.mark_core.specs.Marks.{IsMarked, needs_of}
use Rattle.mark_machine.specs.Counts.{bit, count, times, in_hand, total}
use Rattle.mark_machine.specs.Machine.{Machine, look, adding, May, SeenPartner, MayFinish, Allowed, seeing}
use Rattle.mark_machine.specs.Machine.{looking, finishing, changed, view_after, happened, found_by, marked_after}
use Rattle.mark_machine.specs.Machine.{taken_after, pending_after, Step}
use Rattle.mark_machine.specs.Invariant.{Inv, notes}
use Rattle.mark_machine.specs.Moves.{Moves}
use Rattle.mark_machine.proofs.Counts.{times_push, count_more, total_at}
use Rattle.mark_machine.proofs.Grow.{derived_due, needs_due}
use Rattle.mark_machine.proofs.Keeps.{keeps, hand_taken, no_notes, no_hand, idle_closed}

-- ---- a set with one more item
pub adding_same : (m : ℕ → Bool) (x : ℕ) → IsTrue (adding m x x)
adding_same m x = ap (λ (b : Bool). if b then true else m x) (eq-eqb x x refl)

pub adding_other : (m : ℕ → Bool) (x y : ℕ) → y ≢ x → adding m x y ≡ m y
adding_other m x y ne = ap (λ (b : Bool). if b then true else m y) (ne_eqb y x ne)

pub adding_keeps : (m : ℕ → Bool) (x y : ℕ) → IsTrue (m y) → IsTrue (adding m x y)
adding_keeps m x y h = ⊎_elim (λ e. subst (λ k. IsTrue (adding m x k)) (sym e) (adding_same m x))
    (λ ne. adding_other m x y ne ∙ h) (cases_eq y x)

pub adding_cases : (m : ℕ → Bool) (x y : ℕ) → IsTrue (adding m x y) → IsTrue (m y) ⊎ (x ≡ y)
adding_cases m x y h = ⊎_elim (λ e. inr (sym e)) (λ ne. inl (sym (adding_other m x y ne) ∙ h)) (cases_eq y x)

adding_known : (m : ℕ → Bool) (x : ℕ) → m x ≡ true → (y : ℕ) → adding m x y ≡ m y
adding_known m x t y = ⊎_elim (λ e. subst (λ k. adding m x k ≡ m k) (sym e) (adding_same m x ∙ sym t))
    (adding_other m x y) (cases_eq y x)

pub adding_is : (m : ℕ → Bool) (x : ℕ) → m x ≡ true → adding m x ≡ m
adding_is m x t = λ i y. adding_known m x t y i

is_zero : (n : ℕ) → eqb n 0 ≡ true → n ≡ 0
is_zero n e = ⊎_elim (λ z. z) (λ ne. (let f : false ≡ true = sym (ne_eqb n 0 ne) ∙ e in absurd (cc f))) (cases_eq n 0)

not_both : (b : Bool) → b ≡ false → IsTrue b → ⊥
not_both b f t = let e : false ≡ true = sym f ∙ t in cc

module _ (sys : System) (s : Machine) (valid : Valid sys) (inv : Inv sys s) (id : ℕ) (v : View)
    (at : get_elem? s.views id ≡ some v) where
  seen : (x : ℕ) → Contains v.seen x → IsTrue (s.marked x)
  seen = inv.seen_marked id v at

  due_of : (h : ℕ) → v.hand ≡ Some h → IsTrue (s.marked h)
  due_of h e = inv.taken_marked h (hand_taken sys s inv id v at h e)

  rows : (k : ℕ) → All (λ x. x < sys.n) (needs_of sys k)
  rows k = ⊎_elim (λ lt. valid.2 k [] lt) (λ ge. subst (λ l. All (λ x. x < sys.n) l)
      (sym (get_or_past sys.needs k [] ge)) (All-nil (λ x. x < sys.n))) (cases_lt k (length sys.needs))

  pub may_due : (x : ℕ) → May sys v x → IsMarked sys x × (x < sys.n)
  may_due x m = ⊎_elim
      (λ a. (seeds_due sys x a.1, All-contains (λ y. y < sys.n) sys.seeds x valid.1 a.1))
      (λ a. let h : ℕ = a.0 in
      let mh : IsMarked sys h = (inv.within h (due_of h a.1)).0 in
      ⊎_elim
      (λ c. (
        All-contains (IsMarked sys) (needs_of sys h) x (needs_due sys h mh) c,
        All-contains (λ y. y < sys.n)
            (needs_of sys h) x (rows h) c,
      ))
      (λ c. let q : Pair = c.0 in
      let e : q.derived ≡ x = c.2 in
      let both = partners q h mh c.3 in (
        subst (IsMarked sys) e (derived_due sys q c.1 both.0 both.1),
        subst (λ y. y < sys.n) e (All-contains (PairBelow sys.n) sys.pairs q valid.3 c.1).2,
      ))
      a.2)
      m
    where
      seeds_due : (t : System) (y : ℕ) → Contains t.seeds y → IsMarked t y
      seeds_due t y c set closed = All-contains (λ z. IsTrue (set z)) t.seeds y closed.seeds c

      partners : (q : Pair) (h : ℕ) → IsMarked sys h → SeenPartner v h q → IsMarked sys q.one × IsMarked sys q.two
      partners q h mh p = ⊎_elim
          (λ a. (subst (IsMarked sys) (sym a.0) mh, (inv.within q.two (seen q.two a.1)).0))
          (λ a. ((inv.within q.one (seen q.one a.1)).0, subst (IsMarked sys) (sym a.0) mh))
          p

  -- where pending is 0, the view has no note and no hand
  note_le : notes v ≤ total notes s.views
  note_le = total_at notes s.views id v at

  idle_note : s.pending ≡ 0 → notes v ≡ 0
  idle_note z = let a : notes v ≤ total notes s.views = note_le in let b : total notes s.views ≡ 0 = no_notes sys s
      inv z in omega (arith, a, b)

  note_pending : 0 < notes v → 0 < s.pending
  note_pending h = ⊎_elim (λ z. (let a : notes v ≡ 0 = idle_note z in absurd (omega (arith, a, h))))
      (λ ne. omega (arith, ne)) (cases_eq s.pending 0)

  hand_pending : (h : ℕ) → v.hand ≡ Some h → 0 < s.pending
  hand_pending h e = ⊎_elim (λ z. absurd (no_hand sys s inv z id v at h e)) (λ ne. omega (arith, ne))
      (cases_eq s.pending 0)

  pub reserve : (found : Bool) → Allowed sys v Reserve → Moves sys s v (changed v Reserve found) s.marked s.taken
      (s.pending + 1)
  reserve found a =
      let unset : bit v.reserved ≡ 0 = ap bit a.1 in
      let pos : 0 < s.pending = ⊎_elim (λ st. note_pending (let b : bit v.standing ≡ 1 = ap bit st in
      omega (arith, b))) (λ h. hand_pending h.0 h.1) a.0 in
      record {
        grows = λ x h. h;
        due = λ x h. inl h;
        taken_marked = inv.taken_marked;
        seen_keeps = λ x h. h;
        seen_marked = seen;
        held = λ x. refl;
        counted = omega (arith, unset);
        standing = inl refl;
        looks_keep = λ l h. h;
        looks_new = λ l h. inl h;
        finished = λ x h. inl h;
        quiet_keeps = λ z c. absurd (omega (arith, z, pos));
        quiet_new = λ h. inl h;
      }

  claim_new : (x : ℕ) → IsTrue v.reserved → May sys v x → s.marked x ≡ false
      → Moves sys s v (record (seeing v x) { reserved = false }) (adding s.marked x) s.taken s.pending
  claim_new x r m f =
      let set_one : bit v.reserved ≡ 1 = ap bit r in
      let d = may_due x m in
      record {
        grows = adding_keeps s.marked x;
        due = λ y h. ⊎_elim inl (λ e. inr (subst (λ k. IsMarked sys k × (k < sys.n) × Contains (v.seen ++ x ∷ []) k)
            e (d.0, d.1, Contains-push v.seen x))) (adding_cases s.marked x y h);
        taken_marked = λ y h. adding_keeps s.marked x y (inv.taken_marked y h);
        seen_keeps = λ y c. Contains-append_left v.seen (x ∷ []) y c;
        seen_marked = λ y c. ⊎_elim (λ o. adding_keeps s.marked x y (seen y o))
            (λ e. subst (λ k. IsTrue (adding s.marked x k)) e (adding_same s.marked x))
            (Contains-push_cases v.seen x y c);
        held = λ y. refl;
        counted = (let c : count sys.n (adding s.marked x) ≡ count sys.n s.marked + 1 = count_more sys.n x s.marked
            (adding s.marked x) (adding_other s.marked x) f (adding_same s.marked x) d.1 in
            omega (arith, c, set_one));
        standing = inl refl;
        looks_keep = λ l h. h;
        looks_new = λ l h. inl h;
        finished = λ y h. inl h;
        quiet_keeps = λ z c. (let a : notes v ≡ 0 = idle_note z in absurd (omega (arith, a, set_one)));
        quiet_new = λ h. inl h;
      }

  -- an item that was marked is seen
  see_old : (x : ℕ) → s.marked x ≡ true → Moves sys s v (seeing v x) s.marked s.taken s.pending
  see_old x t = record {
    grows = λ y h. h;
    due = λ y h. inl h;
    taken_marked = inv.taken_marked;
    seen_keeps = λ y c. Contains-append_left v.seen (x ∷ []) y c;
    seen_marked = λ y c. ⊎_elim (seen y) (λ e. subst (λ k. IsTrue (s.marked k)) e t) (Contains-push_cases v.seen x y
        c);
    held = λ y. refl;
    counted = refl;
    standing = inl refl;
    looks_keep = λ l h. h;
    looks_new = λ l h. inl h;
    finished = λ y h. inl h;
    quiet_keeps = λ z c. (z, c);
    quiet_new = λ h. inl h;
  }

  pub claim : (x : ℕ) (b : Bool) → s.marked x ≡ b → Allowed sys v (Claim x) → Moves sys s v (changed v (Claim x) b)
      (adding s.marked x) s.taken s.pending
  claim x true e a = subst (λ m. Moves sys s v (seeing v x) m s.taken s.pending) (sym (adding_is s.marked x e))
      (see_old x e)
  claim x false e a = claim_new x a.0 a.1 e

  give_note : IsTrue v.reserved → Moves sys s v (record v { reserved = false }) s.marked s.taken (s.pending - 1)
  give_note r =
      let set_one : bit v.reserved ≡ 1 = ap bit r in
      let pos : 0 < s.pending = note_pending (omega (arith, set_one)) in
      record {
        grows = λ x h. h;
        due = λ x h. inl h;
        taken_marked = inv.taken_marked;
        seen_keeps = λ x h. h;
        seen_marked = seen;
        held = λ x. refl;
        counted = omega (arith, set_one, pos);
        standing = inl refl;
        looks_keep = λ l h. h;
        looks_new = λ l h. inl h;
        finished = λ x h. inl h;
        quiet_keeps = λ z c. absurd (omega (arith, z, pos));
        quiet_new = λ h. inl h;
      }

  give_standing : IsTrue v.standing → All (Contains v.seen) sys.seeds
      → Moves sys s v (record v { standing = false }) s.marked s.taken (s.pending - 1)
  give_standing st seeds =
      let set_one : bit v.standing ≡ 1 = ap bit st in
      let pos : 0 < s.pending = note_pending (omega (arith, set_one)) in
      record {
        grows = λ x h. h;
        due = λ x h. inl h;
        taken_marked = inv.taken_marked;
        seen_keeps = λ x h. h;
        seen_marked = seen;
        held = λ x. refl;
        counted = omega (arith, set_one, pos);
        standing = inr (refl, All-weaker (Contains v.seen) (λ x. IsTrue (s.marked x)) seen sys.seeds seeds);
        looks_keep = λ l h. h;
        looks_new = λ l h. inl h;
        finished = λ x h. inl h;
        quiet_keeps = λ z c. absurd (omega (arith, z, pos));
        quiet_new = λ h. inl h;
      }

  pub give_back : (found : Bool) → Allowed sys v GiveBack → Moves sys s v (changed v GiveBack found) s.marked
      s.taken (s.pending - 1)
  give_back found a =
      let to : Bool → View = λ b. if b then record v { reserved = false } else record v { standing = false } in
      ⊎_elim
      (λ r. subst (λ b. Moves sys s v (to b) s.marked s.taken (s.pending - 1)) (sym r) (give_note r))
      (λ t. subst (λ b. Moves sys s v (to b) s.marked s.taken (s.pending - 1)) (sym t.1) (give_standing t.0 t.2))
      a

  nothing_done : Moves sys s v v s.marked s.taken s.pending
  nothing_done = record {
    grows = λ x h. h;
    due = λ x h. inl h;
    taken_marked = inv.taken_marked;
    seen_keeps = λ x h. h;
    seen_marked = seen;
    held = λ x. refl;
    counted = refl;
    standing = inl refl;
    looks_keep = λ l h. h;
    looks_new = λ l h. inl h;
    finished = λ x h. inl h;
    quiet_keeps = λ z c. (z, c);
    quiet_new = λ h. inl h;
  }

  take_new : (x : ℕ) → v.hand ≡ None → Contains v.seen x → s.taken x ≡ false
      → Moves sys s v (record v { hand = Some x }) s.marked (adding s.taken x) s.pending
  take_new x none c f = record {
    grows = λ y h. h;
    due = λ y h. inl h;
    taken_marked = λ y h. ⊎_elim (inv.taken_marked y) (λ e. subst (λ k. IsTrue (s.marked k)) e (seen x c))
        (adding_cases s.taken x y h);
    seen_keeps = λ y h. h;
    seen_marked = seen;
    held = λ y.
        let none_in : in_hand y v.hand ≡ 0 = ap (in_hand y) none in
        ⊎_elim
        (λ e. let a : bit (eqb x y) ≡ 1 = ap bit (eq-eqb x y e) in
        let b : bit (s.taken y) ≡ 0 = ap bit (subst (λ k. s.taken k ≡ false) e f) in
        let d : bit (adding s.taken x y) ≡ 1 = ap bit (subst (λ k. IsTrue (adding s.taken x k)) e
        (adding_same s.taken x)) in
        omega (arith, none_in, a, b, d))
        (λ ne. let a : bit (eqb x y) ≡ 0 = ap bit (ne_eqb x y ne) in
        let d : bit (adding s.taken x y) ≡ bit (s.taken y) = ap bit (adding_other s.taken x y (λ e. ne (sym e))) in
        omega (arith, none_in, a, d))
        (cases_eq x y);
    counted = refl;
    standing = inl refl;
    looks_keep = λ l h. h;
    looks_new = λ l h. inl h;
    finished = λ y h. inl h;
    quiet_keeps = λ z c. (z, c);
    quiet_new = λ h. inl h;
  }

  pub take : (x : ℕ) (b : Bool) → s.taken x ≡ b → Allowed sys v (Take x) → Moves sys s v (changed v (Take x) b)
      s.marked (adding s.taken x) s.pending
  take x true e a = subst (λ t. Moves sys s v v s.marked t s.pending) (sym (adding_is s.taken x e)) nothing_done
  take x false e a = take_new x a.0 a.2 e

  look_new : (x y : ℕ) → v.hand ≡ Some x → s.marked y ≡ false
      → Moves sys s v (record v { looks = v.looks ++ look x y ∷ [] }) s.marked s.taken s.pending
  look_new x y e f = record {
    grows = λ z h. h;
    due = λ z h. inl h;
    taken_marked = inv.taken_marked;
    seen_keeps = λ z h. h;
    seen_marked = seen;
    held = λ z. refl;
    counted = refl;
    standing = inl refl;
    looks_keep = λ l h. Contains-append_left v.looks (look x y ∷ []) l h;
    looks_new = λ l h. ⊎_elim inl
        (λ p. inr (subst (λ (k : Look). IsTrue (s.marked k.hand) × (IsTrue (s.marked k.at) → ⊥)) p
        (due_of x e, not_both (s.marked y) f)))
        (Contains-push_cases v.looks (look x y) l h);
    finished = λ z h. inl h;
    quiet_keeps = λ z c. (z, c);
    quiet_new = λ h. inl h;
  }

  looks : (y : ℕ) (o : Option ℕ) → v.hand ≡ o → s.marked y ≡ false → Moves sys s v (looking v o y) s.marked s.taken
      s.pending
  looks y None e f = nothing_done
  looks y (Some x) e f = look_new x y e f

  pub look_at : (y : ℕ) (b : Bool) → s.marked y ≡ b → Moves sys s v (changed v (LookAt y) b) s.marked s.taken
      s.pending
  look_at y true e = see_old y e
  look_at y false e = looks y v.hand refl e

  finish_new : (h : ℕ) → MayFinish sys v h → Moves sys s v (finishing v (Some h)) s.marked s.taken (s.pending - 1)
  finish_new h a =
      let pos : 0 < s.pending = hand_pending h a.0 in
      record {
        grows = λ x t. t;
        due = λ x t. inl t;
        taken_marked = inv.taken_marked;
        seen_keeps = λ x t. t;
        seen_marked = seen;
        held = λ x.
            let p : times x (v.finished ++ h ∷ []) ≡ times x v.finished + bit (eqb h x) = times_push x h v.finished in
            let q : in_hand x v.hand ≡ bit (eqb h x) = ap (in_hand x) a.0 in
            omega (arith, p, q);
        counted = (let l : length (v.finished ++ h ∷ []) ≡ length v.finished + 1 = length_push v.finished h in
            omega (arith, l, pos));
        standing = inl refl;
        looks_keep = λ l t. t;
        looks_new = λ l t. inl t;
        finished = λ x c. ⊎_elim inl
            (λ e. inr (subst (λ k. All (λ y. IsTrue (s.marked y)) (needs_of sys k)
            × All (λ q. (q.one ≡ k → IsTrue (s.marked q.derived) ⊎ Contains v.looks (look k q.two))
            × (q.two ≡ k → IsTrue (s.marked q.derived) ⊎ Contains v.looks (look k q.one))) sys.pairs) e (
              All-weaker (Contains v.seen) (λ y. IsTrue (s.marked y)) seen (needs_of sys h) a.2,
              λ k d lt. (
                λ t. ⊎_elim (λ w. inl (seen _ w)) inr ((a.3 k d lt).0 t),
                λ t. ⊎_elim (λ w. inl (seen _ w))
                    inr ((a.3 k d lt).1 t),
              ),
            )))
            (Contains-push_cases v.finished h x c);
        quiet_keeps = λ z c. absurd (omega (arith, z, pos));
        quiet_new = λ t. inl t;
      }

  pub finish : (found : Bool) (h : ℕ) → MayFinish sys v h → Moves sys s v (changed v Finish found) s.marked s.taken
      (s.pending - 1)
  finish found h a = subst (λ o. Moves sys s v (finishing v o) s.marked s.taken (s.pending - 1)) (sym a.0)
      (finish_new h a)

  idle_new : s.pending ≡ 0 → Moves sys s v (record v { quiet = true }) s.marked s.taken s.pending
  idle_new z = record {
    grows = λ x h. h;
    due = λ x h. inl h;
    taken_marked = inv.taken_marked;
    seen_keeps = λ x h. h;
    seen_marked = seen;
    held = λ x. refl;
    counted = refl;
    standing = inl refl;
    looks_keep = λ l h. h;
    looks_new = λ l h. inl h;
    finished = λ x h. inl h;
    quiet_keeps = λ y c. (y, c);
    quiet_new = λ h. inr (z, idle_closed sys s inv z);
  }

  pub see_idle : (b : Bool) → eqb s.pending 0 ≡ b → Moves sys s v (changed v SeeIdle b) s.marked s.taken s.pending
  see_idle true e = idle_new (is_zero s.pending e)
  see_idle false e = nothing_done

  -- the log says nothing to Moves
  logged : (w : View) (l : List Happened) (marked taken : ℕ → Bool) (pending : ℕ) → Moves sys s v w marked taken
      pending → Moves sys s v (record w { log = l }) marked taken pending
  logged w l marked taken pending m = record {
    grows = m.grows;
    due = m.due;
    taken_marked = m.taken_marked;
    seen_keeps = m.seen_keeps;
    seen_marked = m.seen_marked;
    held = m.held;
    counted = m.counted;
    standing = m.standing;
    looks_keep = m.looks_keep;
    looks_new = m.looks_new;
    finished = m.finished;
    quiet_keeps = m.quiet_keeps;
    quiet_new = m.quiet_new;
  }

  -- nor do the seats
  pub reseated : (k : ℕ) → Moves sys s v (record v { seats = k }) s.marked s.taken s.pending
  reseated k = let m = nothing_done in record {
    grows = m.grows;
    due = m.due;
    taken_marked = m.taken_marked;
    seen_keeps = m.seen_keeps;
    seen_marked = m.seen_marked;
    held = m.held;
    counted = m.counted;
    standing = m.standing;
    looks_keep = m.looks_keep;
    looks_new = m.looks_new;
    finished = m.finished;
    quiet_keeps = m.quiet_keeps;
    quiet_new = m.quiet_new;
  }

  one : (e : Event) → Allowed sys v e → Moves sys s v (changed v e (found_by s e)) (marked_after s e)
      (taken_after s e) (pending_after s e)
  one Reserve a = reserve false a
  one (Claim x) a = claim x (s.marked x) refl a
  one GiveBack a = give_back false a
  one (Take x) a = take x (s.taken x) refl a
  one (LookAt y) a = look_at y (s.marked y) refl
  one Finish a = finish false a.0 a.1
  one SeeIdle a = see_idle (eqb s.pending 0) refl

  pub event : (e : Event) → Allowed sys v e → Moves sys s v (view_after v e (found_by s e)) (marked_after s e)
      (taken_after s e) (pending_after s e)
  event e a = logged (changed v e (found_by s e)) (v.log ++ happened e (found_by s e) ∷ []) (marked_after s e)
      (taken_after s e) (pending_after s e) (one e a)

  -- the events that take from pending find it above 0
  pub gives_pending : Allowed sys v GiveBack → 0 < s.pending
  gives_pending a = ⊎_elim (λ r. note_pending (let b : bit v.reserved ≡ 1 = ap bit r in omega (arith, b)))
      (λ t. note_pending (let b : bit v.standing ≡ 1 = ap bit t.0 in omega (arith, b))) a

  pub finish_pending : Allowed sys v Finish → 0 < s.pending
  finish_pending a = hand_pending a.0 a.1.0

-- every event keeps Inv
pub step_keeps : (sys : System) → Valid sys → (s t : Machine) (id : ℕ) (e : Event) → Inv sys s → Step sys s id e t
    → Inv sys t
step_keeps sys valid s t id e inv step =
    let v : View = step.0 in
    subst (Inv sys) (sym step.3)
    (keeps sys s inv id v (view_after v e (found_by s e)) step.1 (marked_after s e) (taken_after s e)
    (pending_after s e) (event sys s valid inv id v step.1 e step.2))
