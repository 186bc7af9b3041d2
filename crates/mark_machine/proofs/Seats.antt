-- Inv where a view is cut in two, and where two views are made one.
use Rattle.std.proofs.Common.{◌≡◌, ◌≢◌, ◌⊎◌, ℕ, zero, suc, ◌+◌, ◌≤◌, Bool, true, false, IsTrue, List, []}
use Rattle.std.proofs.Common.{◌∷◌, ◌++◌, length, set, inl, inr, ⊎_elim, subst, sym, ◌∙◌, ap, refl, arith}
use Rattle.std.proofs.Common.{None, length-append}
use Rattle.std.specs.List.{Contains}
use Rattle.std.proofs.lemmas.Bool.{cases_eq}
use Rattle.std.proofs.lemmas.List.Elements.{Contains-append_left, Contains-append_right}
use Rattle.std.proofs.lemmas.List.Elements.{Contains-append_cases}
use mathlib.Core.Option.{some, some-injective, some-ne-none}
use lib.ListN.{get_elem?}
use Rattle.mark_core.specs.declared.system.System.{System}
use Rattle.mark_machine.specs.declared.machine.View.{View}
use Rattle.mark_core.specs.Marks.{Closed}
use Rattle.mark_machine.specs.Counts.{bit, count, times, in_hand, total, SomeView, EachView}
use Rattle.mark_machine.specs.Machine.{Machine, look, joined, either_true, nobody}
use Rattle.mark_machine.specs.Invariant.{Inv, notes, finishes, holds_of, LookStands, FinishedOk}
use Rattle.mark_machine.proofs.Counts.{total_set, total_push, each_set, here_set, some_set}

-- ---- lists of views
module _ {V : Type 0} where
  pub some_push : (P : V → Type 0) (vs : List V) (u : V) → SomeView P vs → SomeView P (vs ++ u ∷ [])
  some_push P [] u (j, x, at, p) = absurd (some-ne-none x (sym at))
  some_push P (y ∷ ys) u (zero, x, at, p) = (0, x, at, p)
  some_push P (y ∷ ys) u (suc j, x, at, p) = let r = some_push P ys u (j, x, at, p) in (suc r.0, r.1, r.2, r.3)

  pub some_push_cases : (P : V → Type 0) (vs : List V) (u : V) → SomeView P (vs ++ u ∷ []) → SomeView P vs ⊎ P u
  some_push_cases P [] u (zero, x, at, p) = inr (subst P (sym (some-injective u x at)) p)
  some_push_cases P [] u (suc j, x, at, p) = absurd (some-ne-none x (sym at))
  some_push_cases P (y ∷ ys) u (zero, x, at, p) = inl (0, x, at, p)
  some_push_cases P (y ∷ ys) u (suc j, x, at, p) = ⊎_elim (λ r. inl (suc r.0, r.1, r.2, r.3)) inr
      (some_push_cases P ys u (j, x, at, p))

  pub each_push : (P : V → Type 0) (vs : List V) (u : V) → EachView P vs → P u → EachView P (vs ++ u ∷ [])
  each_push P [] u h p zero x at = subst P (some-injective u x at) p
  each_push P [] u h p (suc j) x at = absurd (some-ne-none x (sym at))
  each_push P (y ∷ ys) u h p zero x at = h 0 x at
  each_push P (y ∷ ys) u h p (suc j) x at = each_push P ys u (λ i z b. h (suc i) z b) p j x at

  -- what one of two views had, the view made of them has, at the first one's place
  pub some_two : (P : V → Type 0) (vs : List V) (id other : ℕ) (v w both spent : V) → get_elem? vs id ≡ some v
      → other ≢ id → get_elem? vs other ≡ some w → (P v → P both) → (P w → P both)
      → SomeView P vs → SomeView P (set (set vs id both) other spent)
  some_two P [] id other v w both spent a ne b f g (j, x, at, p) = absurd (some-ne-none x (sym at))
  some_two P (y ∷ ys) zero zero v w both spent a ne b f g s = absurd (ne refl)
  some_two P (y ∷ ys) zero (suc o) v w both spent a ne b f g (zero, x, at, p) =
      (0, both, refl, f (subst P (sym (some-injective y x at) ∙ some-injective y v a) p))
  some_two P (y ∷ ys) zero (suc o) v w both spent a ne b f g (suc j, x, at, p) = ⊎_elim
      (λ e. (0, both, refl, g (subst P (some-injective x w (sym at ∙ (ap (get_elem? ys) e ∙ b))) p)))
      (λ n. (suc j, x, other_place ys o j spent n ∙ at, p))
      (cases_eq j o)
    where
      other_place : (l : List V) (o j : ℕ) (u : V) → j ≢ o → get_elem? (set l o u) j ≡ get_elem? l j
      other_place [] o j u n = refl
      other_place (z ∷ zs) zero zero u n = absurd (n refl)
      other_place (z ∷ zs) zero (suc j) u n = refl
      other_place (z ∷ zs) (suc o) zero u n = refl
      other_place (z ∷ zs) (suc o) (suc j) u n = other_place zs o j u (λ e. n (ap suc e))
  some_two P (y ∷ ys) (suc i) zero v w both spent a ne b f g (zero, x, at, p) = let r = here_set P ys i v both a
      (g (subst P (sym (some-injective y x at) ∙ some-injective y w b) p)) in (suc r.0, r.1, r.2, r.3)
  some_two P (y ∷ ys) (suc i) zero v w both spent a ne b f g (suc j, x, at, p) = let r = some_one P ys i v both a f
      (j, x, at, p) in (suc r.0, r.1, r.2, r.3)
    where
      some_one : (Q : V → Type 0) (l : List V) (i : ℕ) (v w : V) → get_elem? l i ≡ some v → (Q v → Q w)
          → SomeView Q l → SomeView Q (set l i w)
      some_one Q l i v w e h s = some_set Q l i v w e h s
  some_two P (y ∷ ys) (suc i) (suc o) v w both spent a ne b f g (zero, x, at, p) = (0, x, at, p)
  some_two P (y ∷ ys) (suc i) (suc o) v w both spent a ne b f g (suc j, x, at, p) = let r = some_two P ys i o v w
      both spent a (λ e. ne (ap suc e)) b f g (j, x, at, p) in (suc r.0, r.1, r.2, r.3)

  pub total_two : (f : V → ℕ) (vs : List V) (id other : ℕ) (v w both spent : V) → get_elem? vs id ≡ some v
      → get_elem? (set vs id both) other ≡ some w
      → total f (set (set vs id both) other spent) + f v + f w ≡ total f vs + f both + f spent
  total_two f vs id other v w both spent a b =
      let p : total f (set vs id both) + f v ≡ total f vs + f both = total_set f vs id v both a in
      let q : total f (set (set vs id both) other spent) + f w ≡ total f (set vs id both) + f spent = total_set f
      (set vs id both) other w spent b in
      omega (arith, p, q)

none : {X : Type 0} (x : X) → Contains [] x → ⊥
none x (k, lt, e) = omega (arith, lt)

false_not : false ≡ true → ⊥
false_not e = cc

-- ---- one more view, which has nothing but seats
module _ (sys : System) (s : Machine) (inv : Inv sys s) (seats all : ℕ) where
  pub push_keeps : Inv sys (record {
    marked = s.marked;
    taken = s.taken;
    pending = s.pending;
    views =
        s.views ++ record nobody { seats = seats; all = all } ∷ [];
  })
  push_keeps =
      let u : View = record nobody { seats = seats; all = all } in
      let kept : (x : ℕ) → FinishedOk sys s.marked s.views x → FinishedOk sys s.marked (s.views ++ u ∷ []) x = λ x f. (
        f.0,
        λ k d lt. (
          λ e. ⊎_elim inl (λ a. inr (some_push _ s.views u a)) ((f.1 k d lt).0 e),
          λ e. ⊎_elim inl
              (λ a. inr (some_push _ s.views u a)) ((f.1 k d lt).1 e),
        ),
      ) in
      let old : (x y : ℕ) → LookStands (s.views ++ u ∷ []) x y → LookStands s.views x y = λ x y h. ⊎_elim (λ a. a)
      (λ c. absurd (none (look x y) c)) (some_push_cases (λ (t : View). Contains t.looks (look x y)) s.views u
      h) in
      record {
        within = inv.within;
        taken_marked = inv.taken_marked;
        seen_marked = each_push (λ t. (x : ℕ) → Contains t.seen x → IsTrue (s.marked x)) s.views u inv.seen_marked
            (λ x c. absurd (none x c));
        marked_seen = λ x h. some_push (λ t. Contains t.seen x) s.views u (inv.marked_seen x h);
        held = λ x. (let a : total (holds_of x) (s.views ++ u ∷ []) ≡ total (holds_of x) s.views + 0 = total_push
            (holds_of x) s.views u in let b : total (holds_of x) s.views ≡ bit (s.taken x) = inv.held x in
            omega (arith, a, b));
        pending =
            let a : total finishes (s.views ++ u ∷ []) ≡ total finishes s.views + 0 = total_push finishes s.views u in
            let b : total notes (s.views ++ u ∷ []) ≡ total notes s.views + 0 = total_push notes s.views u in
            let d : s.pending + total finishes s.views ≡ total notes s.views + count sys.n s.marked = inv.pending in
            omega (arith, a, b, d);
        one_standing = (let a : total (λ t. bit t.standing) (s.views ++ u ∷ []) ≡ total (λ t. bit t.standing)
            s.views + 0 = total_push (λ t. bit t.standing) s.views u in
            let b : total (λ t. bit t.standing) s.views ≤ 1 = inv.one_standing in omega (arith, a, b));
        seeds = λ h. inv.seeds (let a : total (λ t. bit t.standing) (s.views ++ u ∷ [])
            ≡ total (λ t. bit t.standing) s.views + 0 = total_push (λ t. bit t.standing) s.views u in
            omega (arith, a, h));
        look_marked = λ x y h. inv.look_marked x y (old x y h);
        look_once = λ x y h k. inv.look_once x y (old x y h) (old y x k);
        finished = each_push (λ t. (x : ℕ) → Contains t.finished x → FinishedOk sys s.marked (s.views ++ u ∷ []) x)
            s.views u (λ i t b x c. kept x (inv.finished i t b x c)) (λ x c. absurd (none x c));
        quiet = each_push (λ t. IsTrue t.quiet → (s.pending ≡ 0) × Closed sys s.marked) s.views u inv.quiet
            (λ h. absurd (false_not h));
      }

times_append : (x : ℕ) (l m : List ℕ) → times x (l ++ m) ≡ times x l + times x m
times_append x [] m = omega arith
times_append x (y ∷ ys) m = let a : times x (ys ++ m) ≡ times x ys + times x m = times_append x ys m in
    omega (arith, a)

either_cases : (a b : Bool) → IsTrue (either_true a b) → IsTrue a ⊎ IsTrue b
either_cases true b h = inl refl
either_cases false b h = inr h

else_where : {V : Type 0} (l : List V) (o j : ℕ) (u : V) → j ≢ o → get_elem? (set l o u) j ≡ get_elem? l j
else_where [] o j u n = refl
else_where (z ∷ zs) zero zero u n = absurd (n refl)
else_where (z ∷ zs) zero (suc j) u n = refl
else_where (z ∷ zs) (suc o) zero u n = refl
else_where (z ∷ zs) (suc o) (suc j) u n = else_where zs o j u (λ e. n (ap suc e))

-- ---- two views made one
module _ (sys : System) (s : Machine) (inv : Inv sys s) (id other : ℕ) (v w : View) (at : get_elem? s.views id
    ≡ some v) (ne : other ≢ id) (beside : get_elem? (set s.views id (joined v w)) other ≡ some w)
    (no_hand : w.hand ≡ None) (no_note : w.reserved ≡ false) (no_standing : w.standing ≡ false) where
  there : get_elem? s.views other ≡ some w
  there = sym (else_where s.views id other (joined v w) ne) ∙ beside

  pub join_keeps : Inv sys (record {
    marked = s.marked;
    taken = s.taken;
    pending = s.pending;
    views =
        set (set s.views id (joined v w)) other nobody;
  })
  join_keeps =
      let b : View = joined v w in
      let vs : List View = set (set s.views id b) other nobody in
      let each : (P : View → Type 0) → EachView P s.views → P b → P nobody → EachView P vs = λ P h p q. each_set P
      (set s.views id b) other nobody (each_set P s.views id b h p) q in
      let two : (f : View → ℕ) → total f vs + f v + f w ≡ total f s.views + f b + f nobody = λ f. total_two f
      s.views id other v w b nobody at beside in
      let look_on : (x y : ℕ) → LookStands s.views x y → LookStands vs x y = λ x y.
      some_two (λ t. Contains t.looks (look x y)) s.views id other v w b nobody at ne there
      (Contains-append_left v.looks w.looks (look x y)) (Contains-append_right v.looks w.looks (look x y)) in
      let look_was : (x y : ℕ) → LookStands vs x y → LookStands s.views x y = λ x y h.
      each (λ t. Contains t.looks (look x y) → LookStands s.views x y) (λ i t a c. (i, t, a, c))
      (λ c. ⊎_elim (λ d. (id, v, at, d)) (λ d. (other, w, there, d)) (Contains-append_cases v.looks w.looks
      (look x y) c))
      (λ c. absurd (none (look x y) c)) h.0 h.1 h.2 h.3 in
      let kept : (x : ℕ) → FinishedOk sys s.marked s.views x → FinishedOk sys s.marked vs x = λ x f. (
        f.0,
        λ k d lt. (
          λ e. ⊎_elim inl (λ a. inr (look_on x _ a)) ((f.1 k d lt).0 e),
          λ e. ⊎_elim inl
              (λ a. inr (look_on x _ a)) ((f.1 k d lt).1 e),
        ),
      ) in
      let wr : bit w.reserved ≡ 0 = ap bit no_note in
      let ws : bit w.standing ≡ 0 = ap bit no_standing in
      record {
        within = inv.within;
        taken_marked = inv.taken_marked;
        seen_marked = each (λ t. (x : ℕ) → Contains t.seen x → IsTrue (s.marked x)) inv.seen_marked
            (λ x c. ⊎_elim (inv.seen_marked id v at x) (inv.seen_marked other w there x)
            (Contains-append_cases v.seen w.seen x c)) (λ x c. absurd (none x c));
        marked_seen = λ x h. some_two (λ t. Contains t.seen x) s.views id other v w b nobody at ne there
            (Contains-append_left v.seen w.seen x) (Contains-append_right v.seen w.seen x) (inv.marked_seen x h);
        held = λ x.
            let a : total (holds_of x) vs + holds_of x v + holds_of x w ≡ total (holds_of x) s.views + holds_of x
            b + 0 = two (holds_of x) in
            let t : times x (v.finished ++ w.finished) ≡ times x v.finished + times x w.finished = times_append x
            v.finished w.finished in
            let n : in_hand x w.hand ≡ 0 = ap (in_hand x) no_hand in
            let h : total (holds_of x) s.views ≡ bit (s.taken x) = inv.held x in
            omega (arith, a, t, n, h);
        pending =
            let a : total finishes vs + finishes v + finishes w ≡ total finishes s.views + finishes b + 0 =
            two finishes in
            let n : total notes vs + notes v + notes w ≡ total notes s.views + notes b + 0 = two notes in
            let l : length (v.finished ++ w.finished) ≡ length v.finished + length w.finished = length-append
            v.finished w.finished in
            let d : s.pending + total finishes s.views ≡ total notes s.views + count sys.n s.marked = inv.pending in
            omega (arith, a, n, l, d, wr, ws);
        one_standing =
            let a : total (λ t. bit t.standing) vs + bit v.standing + bit w.standing ≡ total (λ t. bit t.standing)
            s.views + bit v.standing + 0 = two (λ t. bit t.standing) in
            let d : total (λ t. bit t.standing) s.views ≤ 1 = inv.one_standing in
            omega (arith, a, d);
        seeds = λ h. inv.seeds
            (let a : total (λ t. bit t.standing) vs + bit v.standing + bit w.standing ≡ total (λ t. bit t.standing)
            s.views + bit v.standing + 0 = two (λ t. bit t.standing) in omega (arith, a, h, ws));
        look_marked = λ x y h. inv.look_marked x y (look_was x y h);
        look_once = λ x y h k. inv.look_once x y (look_was x y h) (look_was y x k);
        finished = each (λ t. (x : ℕ) → Contains t.finished x → FinishedOk sys s.marked vs x)
            (λ i t a x c. kept x (inv.finished i t a x c))
            (λ x c. ⊎_elim (λ d. kept x (inv.finished id v at x d)) (λ d. kept x (inv.finished other w there x d))
            (Contains-append_cases v.finished w.finished x c))
            (λ x c. absurd (none x c));
        quiet = each (λ t. IsTrue t.quiet → (s.pending ≡ 0) × Closed sys s.marked) inv.quiet
            (λ q. ⊎_elim (inv.quiet id v at) (inv.quiet other w there) (either_cases v.quiet w.quiet q))
            (λ h. absurd (false_not h));
      }
