-- Handlers that frames satisfy, by what changed.
use Rattle.std.proofs.Common.{◌≡◌, ◌⊎◌, ◌≤◌, ◌<◌, ◌≢◌, ℕ, zero, suc, ◌-◌, Bool, true, false, not, ◌&&◌, ◌||◌, nat_eq}
use Rattle.std.proofs.Common.{nat_le, nat_lt, IsTrue, List, [], ◌∷◌, ◌++◌, length, get_or, take, drop, Option, Some}
use Rattle.std.proofs.Common.{None, inl, inr, refl, sym, ap, subst, ◌∙◌, arith, ⊎_elim}
use Rattle.std.specs.Cmp.Lexicographic.{pointwise, unequal}
use Rattle.std.specs.List.{list_all, list_any}
use Rattle.std.proofs.lemmas.Bool.{eq-eqb, le-leb, leb-true, lt-ltb, ltb-true, not-true, and_parts, or_parts}
use Rattle.std.proofs.lemmas.Bool.Decides.{eqb_tells}
use Rattle.std.proofs.lemmas.List.{drop_all, take-append-drop}
use Rattle.std.proofs.lemmas.List.Folds.{list_all_at}
use Rattle.std.proofs.Math.Bool.{and_assoc}
use Rattle.class_model.specs.declared.code.Handler.{Handler}
use Rattle.class_model.specs.declared.frame.VType.{VType}
use Rattle.type_verifier.specs.declared.changed.Changed.{Changed}
use Rattle.type_verifier.specs.declared.frame.TypeFrame.{TypeFrame}
use Rattle.type_verifier.specs.Assignable.{is_assignable, is_frame_assignable, is_item_assignable}
use Rattle.type_verifier.specs.Effects.{with_stack}
use Rattle.type_verifier.specs.Environment.{Environment, declared_frame_at}
use Rattle.type_verifier.specs.Rules.{throwable}
use Rattle.type_verifier.specs.Walk.{caught_type, covers, fits_at, fits_declared, satisfies, satisfies_handlers}
use Rattle.type_verifier.specs.bodies.Since.{Agrees, AreElse, IsKnown, IsSame, IsSince}

-- ---- tests that are all passed

all_three : (a b c : Bool) → (a && b && c) ≡ true → (a ≡ true) × (b ≡ true) × (c ≡ true)
all_three true true true h = (refl, refl, refl)
all_three true true false h = absurd cc
all_three true false c h = absurd cc
all_three false b c h = absurd cc

pub is_true : (b : Bool) → IsTrue b → b ≡ true
is_true b h = h

-- ---- lists that are related in part

module _ {X : Type 0} (E : X → X → Bool) where
  as_long : (xs ys : List X) → pointwise E xs ys ≡ true → length xs ≡ length ys
  as_long xs ys h =
      ⊎_elim (λ e. e.1) (λ n. absurd (differs (unequal E xs ys n.1) h)) (eqb_tells (length xs) (length ys))
    where
      differs : (let b : Bool = pointwise E xs ys in b) ≡ false → pointwise E xs ys ≡ true → ⊥
      differs f t = absurd cc

  -- what begins a list, and what is behind
  in_two : (n : ℕ) (xs ys : List X) → length xs ≡ length ys
      → pointwise E xs ys ≡ (pointwise E (take n xs) (take n ys) && pointwise E (drop n xs) (drop n ys))
  in_two zero xs ys h = refl
  in_two (suc n) [] [] h = refl
  in_two (suc n) [] (y ∷ ys) h = absurd (omega (arith, h))
  in_two (suc n) (x ∷ xs) [] h = absurd (omega (arith, h))
  in_two (suc n) (x ∷ xs) (y ∷ ys) h =
      ap (λ (b : Bool). E x y && b) (in_two n xs ys (omega (arith, h)))
      ∙ sym (and_assoc (E x y) (pointwise E (take n xs) (take n ys)) (pointwise E (drop n xs) (drop n ys)))

  in_front : (n : ℕ) (xs ys : List X) → pointwise E xs ys ≡ true → pointwise E (take n xs) (take n ys) ≡ true
  in_front n xs ys h = (and_parts (pointwise E (take n xs) (take n ys)) (pointwise E (drop n xs) (drop n ys))
      (sym (in_two n xs ys (as_long xs ys h)) ∙ h)).0

  in_rest : (n : ℕ) (xs ys : List X) → pointwise E xs ys ≡ true → pointwise E (drop n xs) (drop n ys) ≡ true
  in_rest n xs ys h = (and_parts (pointwise E (take n xs) (take n ys)) (pointwise E (drop n xs) (drop n ys))
      (sym (in_two n xs ys (as_long xs ys h)) ∙ h)).1

  -- what is left from the first place in doubt on
  pub else_begun : (c : Changed) (xs ys : List X) → AreElse E c xs ys
      → pointwise E (drop c.from xs) (drop c.from ys) ≡ pointwise E xs ys
  else_begun c xs ys e = sym (in_two c.from xs ys e.long
      ∙ ap (λ (b : Bool). b && pointwise E (drop c.from xs) (drop c.from ys)) e.front)

  -- behind the last place in doubt
  pub else_all : (c : Changed) (xs ys : List X) (i : ℕ) → AreElse E c xs ys → i ≤ c.to
      → (c.to ≤ i) ⊎ (length xs ≤ i) → pointwise E (drop i xs) (drop i ys) ≡ pointwise E xs ys
      → true ≡ pointwise E xs ys
  else_all c xs ys i e le ends so_far = ⊎_elim
      (λ (h : c.to ≤ i).
      let n : c.to ≡ i = omega (arith, le, h) in
      sym (sym so_far ∙ ap (λ (k : ℕ). pointwise E (drop k xs) (drop k ys)) (sym n) ∙ e.rest))
      (λ (h : length xs ≤ i).
      let l = e.long in
      sym (sym so_far ∙ ap (λ (r : List X). pointwise E r (drop i ys)) (drop_all i xs h)
      ∙ ap (λ (r : List X). pointwise E [] r) (drop_all i ys (omega (arith, l, h)))))
      ends

-- ---- what handlers look at

module _ (env : Environment) where
  -- a handler looks at the locals and the flag
  looks_at : List VType → Bool → Handler → Bool
  looks_at locals marked h = satisfies env (record { locals = locals; stack = []; marked = marked }) h

  pub same_satisfies : (f g : TypeFrame) (h : Handler) → IsSame f g → satisfies env g h ≡ satisfies env f h
  unfolding looks_at
  same_satisfies f g h s =
      ap (λ (locals : List VType). looks_at locals g.marked h) s.0
      ∙ ap (λ (marked : Bool). looks_at f.locals marked h) s.1

  -- the parts of a handler that is satisfied
  pub record Parts (f : TypeFrame) (h : Handler) : Type 0 where
    pub free : f.marked ≡ false
    pub caught : is_assignable env.classes (caught_type h) throwable ≡ true
    pub entry : nat_lt h.entry (length env.code.ins) ≡ true
    pub fits : fits_declared env (with_stack f (caught_type h ∷ [])) (declared_frame_at env h.entry) ≡ true

  pub parts : (f : TypeFrame) (h : Handler) → satisfies env f h ≡ true → Parts f h
  parts f h s =
      let a = all_three (not f.marked) (is_assignable env.classes (caught_type h) throwable)
      (fits_at env (with_stack f (caught_type h ∷ [])) h.entry) s in
      let b = and_parts (nat_lt h.entry (length env.code.ins))
      (fits_declared env (with_stack f (caught_type h ∷ [])) (declared_frame_at env h.entry)) a.2 in
      record { free = not-true f.marked a.0; caught = a.1; entry = b.0; fits = b.1 }

  together : (f : TypeFrame) (h : Handler) (b : Bool) → f.marked ≡ false
      → is_assignable env.classes (caught_type h) throwable ≡ true → nat_lt h.entry (length env.code.ins) ≡ true
      → fits_declared env (with_stack f (caught_type h ∷ [])) (declared_frame_at env h.entry) ≡ b
      → satisfies env f h ≡ b
  together f h b free caught entry fits =
      joined (f.marked) (is_assignable env.classes (caught_type h) throwable) (nat_lt h.entry (length env.code.ins))
      (fits_declared env (with_stack f (caught_type h ∷ [])) (declared_frame_at env h.entry)) free caught entry fits
    where
      joined : (m c e d : Bool) → m ≡ false → c ≡ true → e ≡ true → d ≡ b → (not m && c && (e && d)) ≡ b
      joined m c e d hm hc he hd = rw (hm, hc, he) hd

  -- ---- a handler that was satisfied before some words changed

  -- where no frame is declared
  pub known_free : (h : Handler) (c : Changed) (f : TypeFrame) → IsKnown env h c f
      → declared_frame_at env h.entry ≡ None
      → satisfies env f h ≡ true
  known_free h c f k none =
      let p = parts k.0 h (is_true (satisfies env k.0 h) k.1) in
      together f h true (k.2.marked ∙ p.free) p.caught p.entry
      (ap (λ (d : Option TypeFrame). fits_declared env (with_stack f (caught_type h ∷ [])) d) none)

  -- the locals of the frame before fit, and what is caught does
  pub fits_before : (h : Handler) (b d : TypeFrame) → Parts b h → declared_frame_at env h.entry ≡ Some d
      → (pointwise (is_assignable env.classes) b.locals d.locals ≡ true)
      × (pointwise (is_item_assignable env.classes) (caught_type h ∷ []) d.stack ≡ true)
  fits_before h b d p some =
      let e : is_frame_assignable env.classes (with_stack b (caught_type h ∷ [])) d ≡ true =
      sym (ap (λ (o : Option TypeFrame). fits_declared env (with_stack b (caught_type h ∷ [])) o) some) ∙ p.fits in
      let t = all_three (pointwise (is_assignable env.classes) b.locals d.locals)
      (pointwise (is_item_assignable env.classes) (caught_type h ∷ []) d.stack) (not b.marked || d.marked) e in
      (t.0, t.1)

  pub known_else : (h : Handler) (c : Changed) (f d : TypeFrame) → IsKnown env h c f
      → declared_frame_at env h.entry ≡ Some d
      → AreElse (is_assignable env.classes) c f.locals d.locals
  known_else h c f d k some =
      let p = parts k.0 h (is_true (satisfies env k.0 h) k.1) in
      let fits = (fits_before h k.0 d p some).0 in
      let E : VType → VType → Bool = is_assignable env.classes in
      record {
        ordered = k.2.ordered;
        long = k.2.long ∙ as_long E k.0.locals d.locals fits;
        front = ap (λ (r : List VType). pointwise E r (take c.from d.locals)) k.2.front
            ∙ in_front E c.from k.0.locals d.locals fits;
        rest = ap (λ (r : List VType). pointwise E r (drop c.to d.locals)) k.2.rest
            ∙ in_rest E c.to k.0.locals d.locals fits;
      }

  pub known_fits : (h : Handler) (c : Changed) (f d : TypeFrame) → IsKnown env h c f
      → declared_frame_at env h.entry ≡ Some d
      → satisfies env f h ≡ pointwise (is_assignable env.classes) f.locals d.locals
  known_fits h c f d k some =
      let p = parts k.0 h (is_true (satisfies env k.0 h) k.1) in
      let free : f.marked ≡ false = k.2.marked ∙ p.free in
      let E : VType → VType → Bool = is_assignable env.classes in
      together f h (pointwise E f.locals d.locals) free p.caught p.entry
      (ap (λ (o : Option TypeFrame). fits_declared env (with_stack f (caught_type h ∷ [])) o) some
      ∙ alone (pointwise E f.locals d.locals)
      (pointwise (is_item_assignable env.classes) (caught_type h ∷ []) d.stack) f.marked d.marked
      (fits_before h k.0 d p some).1 free)
    where
      alone : (a b m n : Bool) → b ≡ true → m ≡ false → (a && b && (not m || n)) ≡ a
      alone true b m n hb hm = rw (hb, hm) refl
      alone false b m n hb hm = refl

  -- where the handler begins at no instruction
  pub known_within : (h : Handler) (c : Changed) (f : TypeFrame) → IsKnown env h c f → h.entry < length env.code.ins
  known_within h c f k =
      let p = parts k.0 h (is_true (satisfies env k.0 h) k.1) in
      ltb-true h.entry (length env.code.ins) p.entry

  -- ---- the handlers of an instruction

  -- a handler that covers an instruction but not as the first covers the one before
  covered_before : (at : ℕ) (h : Handler) → 0 < at → covers at h ≡ true → nat_eq at h.from ≡ false
      → covers (at - 1) h ≡ true
  covered_before at h some c n =
      let b = and_parts (nat_le h.from at) (nat_lt at h.to) c in
      let le : h.from ≤ at = leb-true h.from at b.0 in
      let lt : at < h.to = ltb-true at h.to b.1 in
      let ne : h.from ≢ at = λ e. absurd (ne_false at h.from n (sym e)) in
      let one : nat_le h.from (at - 1) ≡ true = le-leb h.from (at - 1) (omega (arith, some, le, ne)) in
      let other : nat_lt (at - 1) h.to ≡ true = lt-ltb (at - 1) h.to (omega (arith, lt)) in
      rw (one, other) refl
    where
      ne_false : (a b : ℕ) → nat_eq a b ≡ false → a ≡ b → ⊥
      ne_false a b f e =
          let t : nat_eq a b ≡ true = eq-eqb a b e in
          absurd cc

  pub implied : (a b : Bool) → (not a || b) ≡ true → a ≡ true → b ≡ true
  implied true b h e = h
  implied false b h e = absurd cc

  pub holds_at : (p : Handler → Bool) (hs : List Handler) (i : ℕ) (d : Handler) → list_all p hs ≡ true → i < length hs
      → p (get_or hs i d) ≡ true
  holds_at p hs i d all lt = told (p (get_or hs i d)) refl
    where
      told : (b : Bool) → p (get_or hs i d) ≡ b → p (get_or hs i d) ≡ true
      told true e = e
      told false e = absurd (no (list_all_at p hs i d lt e) all)
        where
          no : list_all p hs ≡ false → list_all p hs ≡ true → ⊥
          no f t = absurd cc

  -- a handler that covers this instruction: as the first, or the frame before the previous one satisfied it
  pub known_at : (at : ℕ) (c : Changed) (f : TypeFrame) (i : ℕ) (h : Handler) → IsSince env at (Some c) f
      → i < length env.code.handlers → h ≡ get_or env.code.handlers i h → covers at h ≡ true
      → (h.from ≡ at) ⊎ IsKnown env h c f
  known_at at c f i h s lt is cov = ⊎_elim (λ e. inl (sym e.1)) (λ n. inr (known n.0)) (eqb_tells at h.from)
    where
      known : nat_eq at h.from ≡ false → IsKnown env h c f
      known n =
          let all = is_true (satisfies_handlers env (at - 1) s.1) s.2 in
          let here = holds_at (λ x. not (covers (at - 1) x) || satisfies env s.1 x) env.code.handlers i h all lt in
          let mine : (not (covers (at - 1) h) || satisfies env s.1 h) ≡ true =
          subst (λ (x : Handler). (not (covers (at - 1) x) || satisfies env s.1 x) ≡ true) (sym is) here in
          (s.1, implied (covers (at - 1) h) (satisfies env s.1 h) mine (covered_before at h s.0 cov n), s.3)

  -- nothing changed, and no handler covers this instruction as the first

  pub unchanged : (c : Changed) (f g : TypeFrame) → c.from ≡ c.to → Agrees c f g → IsSame f g
  unchanged c f g e a = (
    sym (take-append-drop c.from g.locals)
        ∙ ap (λ (n : ℕ). take c.from g.locals ++ drop n g.locals) e
        ∙ ap (λ (r : List VType). r ++ drop c.to g.locals) a.front
        ∙ ap (λ (r : List VType). take c.from f.locals ++ r) a.rest
        ∙ ap (λ (n : ℕ). take c.from f.locals ++ drop n f.locals) (sym e)
        ∙ take-append-drop c.from f.locals,
    a.marked,
  )

  still : (at : ℕ) (b f : TypeFrame) (h : Handler) → 0 < at → IsSame b f → nat_eq at h.from ≡ false
      → (not (covers (at - 1) h) || satisfies env b h) ≡ true → (not (covers at h) || satisfies env f h) ≡ true
  still at b f h some s n was = by (covers at h) refl
    where
      by : (cov : Bool) → covers at h ≡ cov → (not cov || satisfies env f h) ≡ true
      by false e = refl
      by true e = same_satisfies b f h s
          ∙ implied (covers (at - 1) h) (satisfies env b h) was (covered_before at h some e n)

  all_still : (at : ℕ) (b f : TypeFrame) (hs : List Handler) → 0 < at → IsSame b f
      → list_any (λ (h : Handler). nat_eq at h.from) hs ≡ false
      → list_all (λ h. not (covers (at - 1) h) || satisfies env b h) hs ≡ true
      → list_all (λ h. not (covers at h) || satisfies env f h) hs ≡ true
  all_still at b f [] some s none was = refl
  all_still at b f (h ∷ hs) some s none was =
      let n = or_parts (nat_eq at h.from) (list_any (λ (x : Handler). nat_eq at x.from) hs) none in
      let w = and_parts (not (covers (at - 1) h) || satisfies env b h)
      (list_all (λ x. not (covers (at - 1) x) || satisfies env b x) hs) was in
      rw (still at b f h some s n.0 w.0, all_still at b f hs some s n.1 w.1) refl

  pub nothing_new : (at : ℕ) (c : Changed) (f : TypeFrame) → IsSince env at (Some c) f → c.from ≡ c.to
      → list_any (λ (h : Handler). nat_eq at h.from) env.code.handlers ≡ false → satisfies_handlers env at f ≡ true
  nothing_new at c f s e none =
      all_still at s.1 f env.code.handlers s.0 (unchanged c s.1 f e s.3) none
      (is_true (satisfies_handlers env (at - 1) s.1) s.2)
