-- Handlers that stand for others where locals change.
use Rattle.std.proofs.Common.{◌≡◌, ◌⊎◌, ◌<◌, ℕ, suc, ◌+◌, Bool, true, false, not, ◌&&◌, ◌||◌, ◌==◌, nat_eq, nat_le}
use Rattle.std.proofs.Common.{nat_lt}
use Rattle.std.proofs.Common.{List, [], ◌∷◌, ◌++◌, length, get_or, take, drop, Option, Some, None, inl, inr, refl, sym}
use Rattle.std.proofs.Common.{ap, subst, ◌∙◌, arith, set, ⊎_elim}
use Rattle.std.proofs.Common.{below_more, length-append}
use Rattle.std.proofs.lemmas.Bool.{cases_eq, and_parts, both_ways, or_parts}
use Rattle.std.specs.Prelude.{slice_get, slice_index_or}
use Rattle.std.specs.Cmp.Lexicographic.{pointwise}
use Rattle.std.specs.List.{find, list_all, list_any}
use Rattle.std.specs.Option.{option_and_then, option_map, option_map_or}
use Rattle.std.proofs.lemmas.Bool.{le-leb, leb-true, lt-ltb, ltb-true}
use Rattle.std.proofs.lemmas.Bool.Decides.{eqb_tells, leb_tells}
use Rattle.std.proofs.lemmas.List.{get_or-set_other, get_or-set_same, get_or_append_left, get_or_default, get_or_past}
use Rattle.std.proofs.lemmas.List.{length-set, take-append-drop}
use Rattle.std.proofs.lemmas.List.Folds.{list_all_at}
use Rattle.std.proofs.lemmas.List.Sums.{list_all-from_AllPass}
use Rattle.std.proofs.lemmas.Option.{get_or_from_slice_get, slice_get-get_or, slice_get_within}
use Rattle.std.proofs.Math.Seq.{get_or-append_seam}
use Rattle.std.proofs.Math.Bool.{and-true}
use Rattle.class_model.specs.FrameLists.{frame_numbered, no_frame}
use Rattle.class_model.specs.declared.code.Code.{Code}
use Rattle.class_model.specs.declared.code.Handler.{Handler}
use Rattle.class_model.specs.declared.frame.FrameAt.{FrameAt}
use Rattle.class_model.specs.declared.frame.VType.{VType}
use Rattle.type_verifier.specs.declared.changed.Changed.{Changed}
use Rattle.type_verifier.specs.declared.frame.TypeFrame.{TypeFrame}
use Rattle.type_verifier.specs.Assignable.{is_assignable}
use Rattle.type_verifier.specs.Environment.{Environment, declared_frame_at}
use Rattle.type_verifier.specs.Frames.{declared_frame, expanded}
use Rattle.type_verifier.specs.Walk.{covers, satisfies, satisfies_handlers}
use Rattle.type_verifier.specs.bodies.Asked.{AreAsked, AreAskedBefore, IsStoodFor, StandsFor, StandsForPlace}
use Rattle.type_verifier.specs.bodies.Asked.{covers_behind, covers_first, handler_at, locals_at, no_handler}
use Rattle.type_verifier.specs.bodies.Asked.{satisfies_behind, satisfies_first, IsUncovered, satisfies_if_behind}
use Rattle.type_verifier.specs.bodies.Marks.{AreNumbers}
use Rattle.type_verifier.specs.bodies.Since.{IsKnown, IsSince}
use Rattle.type_verifier.proofs.Handled.{known_at, known_fits, known_free, same_satisfies, unchanged}

-- ---- numbers of handlers

module _ (code : Code) (numbers : List ℕ) (n : ℕ) (h : AreAskedBefore code n numbers) where
  pub asked_same : IsStoodFor code numbers n → AreAskedBefore code (n + 1) numbers
  asked_same stood = record { there = h.there; each = below_more (IsStoodFor code numbers) n h.each stood }

  asked_put : n < length code.handlers → AreAskedBefore code (n + 1) (numbers ++ n ∷ [])
  asked_put within = record {
    there = λ i lt. there i lt (cases_eq i (length numbers));
    each = below_more (IsStoodFor code (numbers ++ n ∷ [])) n (λ k lt. still k (h.each k lt)) last;
  }
    where
      long : length (numbers ++ n ∷ []) ≡ length numbers + 1
      long = length-append numbers (n ∷ [])

      seam : get_or (numbers ++ n ∷ []) (length numbers) 0 ≡ n
      seam = get_or-append_seam numbers n [] 0

      there : (i : ℕ) → i < length (numbers ++ n ∷ []) → (i ≡ length numbers) ⊎ (i ≡ length numbers → ⊥)
          → get_or (numbers ++ n ∷ []) i 0 < length code.handlers
      there i lt (inl e) = let is = ap (λ (k : ℕ). get_or (numbers ++ n ∷ []) k 0) e ∙ seam in omega (arith, is, within)
      there i lt (inr ne) =
          let less : i < length numbers = omega (arith, lt, long, ne) in
          let is = get_or_append_left numbers (n ∷ []) 0 i less in
          let was = h.there i less in
          omega (arith, is, was)

      still : (k : ℕ) → IsStoodFor code numbers k → IsStoodFor code (numbers ++ n ∷ []) k
      still k s = (
        s.0,
        (let less = s.1 in omega (arith, less, long)),
        subst (λ (m : ℕ). StandsFor code (handler_at code m) (handler_at code k))
            (sym (get_or_append_left numbers (n ∷ []) 0 s.0 s.1)) s.2,
      )

      itself : StandsFor code (handler_at code n) (handler_at code n)
      itself = record { from = omega arith; to = omega arith; locals = refl }

      last : IsStoodFor code (numbers ++ n ∷ []) n
      last = (
        length numbers,
        omega (arith, long),
        subst (λ (m : ℕ). StandsFor code (handler_at code m) (handler_at code n)) (sym seam) itself,
      )

  -- one in place of another one that it stands for
  asked_set : n < length code.handlers → (at : ℕ) → at < length numbers
      → StandsFor code (handler_at code n) (handler_at code (get_or numbers at 0))
      → AreAskedBefore code (n + 1) (set numbers at n)
  asked_set within at lt so = record {
    there = λ i less. there i less (cases_eq i at);
    each = below_more (IsStoodFor code (set numbers at n)) n
        (λ k less. still k (h.each k less) (cases_eq (h.each k less).0 at)) last;
  }
    where
      long : length (set numbers at n) ≡ length numbers
      long = length-set numbers at n

      same : get_or (set numbers at n) at 0 ≡ n
      same = get_or-set_same numbers at n 0 lt

      there : (i : ℕ) → i < length (set numbers at n) → (i ≡ at) ⊎ (i ≡ at → ⊥)
          → get_or (set numbers at n) i 0 < length code.handlers
      there i less (inl e) =
          let is = ap (λ (k : ℕ). get_or (set numbers at n) k 0) e ∙ same in omega (arith, is, within)
      there i less (inr ne) =
          let is = get_or-set_other numbers at i n 0 ne in
          let was = h.there i (omega (arith, less, long)) in
          omega (arith, is, was)

      through : (one other third : Handler) → StandsFor code one other → StandsFor code other third
          → StandsFor code one third
      through one other third a b =
          let from = a.from in
          let to = a.to in
          let other_from = b.from in
          let other_to = b.to in
          record {
            from = omega (arith, from, other_from);
            to = omega (arith, to, other_to);
            locals = a.locals ∙ b.locals;
          }

      new : (k : ℕ) → StandsFor code (handler_at code n) (handler_at code k) → IsStoodFor code (set numbers at n) k
      new k s = (
        at,
        omega (arith, lt, long),
        subst (λ (m : ℕ). StandsFor code (handler_at code m) (handler_at code k)) (sym same) s,
      )

      still : (k : ℕ) (s : IsStoodFor code numbers k) → (s.0 ≡ at) ⊎ (s.0 ≡ at → ⊥)
          → IsStoodFor code (set numbers at n) k
      still k s (inl e) =
          new k (through (handler_at code n) (handler_at code (get_or numbers at 0)) (handler_at code k) so
          (subst (λ (i : ℕ). StandsFor code (handler_at code (get_or numbers i 0)) (handler_at code k)) e s.2))
      still k s (inr ne) = (
        s.0,
        (let less = s.1 in omega (arith, less, long)),
        subst (λ (m : ℕ). StandsFor code (handler_at code m) (handler_at code k))
            (sym (get_or-set_other numbers at s.0 n 0 ne)) s.2,
      )

      last : IsStoodFor code (set numbers at n) n
      last = new n (record { from = omega arith; to = omega arith; locals = refl })

  pub asked_instead : (at : ℕ) (new : List ℕ) → n < length code.handlers → StandsForPlace code numbers n at
      → new ≡ set numbers at n → AreAskedBefore code (n + 1) new
  asked_instead at new within so put =
      subst (AreAskedBefore code (n + 1)) (sym put) (asked_set within at so.within so.stands)

  pub asked_more : (new : List ℕ) → n < length code.handlers → new ≡ numbers ++ n ∷ [] → AreAskedBefore code (n + 1) new
  asked_more new within put = subst (AreAskedBefore code (n + 1)) (sym put) (asked_put within)

-- ---- locals that are the same

pub rest_same : (xs ys ls rs : List VType) (n : ℕ) → take n xs ≡ take n ys → ls ≡ drop n xs → rs ≡ drop n ys
    → ls ≡ rs → xs ≡ ys
rest_same xs ys ls rs n front left right same =
    sym (take-append-drop n xs) ∙ ap (λ (r : List VType). r ++ drop n xs) front
    ∙ ap (λ (r : List VType). take n ys ++ r) (sym left ∙ same ∙ right) ∙ take-append-drop n ys

module _ (code : Code) (numbers : List (Option ℕ)) (are : AreNumbers code.frames (length code.ins) numbers) where
  locals_told : (at i : ℕ) → slice_index_or numbers at None ≡ Some i → i < length code.frames
      → locals_at code at ≡ Some (frame_numbered code.frames i).frame.locals
  locals_told at i is lt =
      ap (option_map (λ (f : FrameAt). f.frame.locals))
      (sym (are.first at within) ∙ ap (option_and_then (slice_get code.frames)) is
      ∙ slice_get-get_or code.frames i no_frame lt)
    where
      within : at < length code.ins
      within = ⊎_elim
          (λ t. absurd (past (sym (get_or_past numbers at None (omega (arith, t))) ∙ is)))
          (λ f. let less = f.1 in let long = are.long in omega (arith, less, long))
          (leb_tells (length numbers) at)
        where
          past : (let o : Option ℕ = None in o) ≡ Some i → ⊥
          past e = absurd cc

  pub locals_same : (one other i j : ℕ) → slice_index_or numbers one None ≡ Some i
      → slice_index_or numbers other None ≡ Some j → i < length code.frames → j < length code.frames
      → (frame_numbered code.frames i).frame.locals ≡ (frame_numbered code.frames j).frame.locals
      → locals_at code one ≡ locals_at code other
  locals_same one other i j is-i is-j lt-i lt-j e =
      locals_told one i is-i lt-i ∙ ap (λ (ls : List VType). let o : Option (List VType) = Some ls in o) e
      ∙ sym (locals_told other j is-j lt-j)

-- ---- covering

Cover : Bool → Bool → Bool → Type 0
Cover e l t = ((e ≡ true) × (l ≡ true) × (t ≡ false)) ⊎ ((e ≡ false) × (l ≡ t))

-- an instruction is covered as the first one, or behind it
covers_how : (from at : ℕ) → Cover (nat_eq at from) (nat_le from at) (nat_lt from at)
unfolding Cover
covers_how from at = ⊎_elim
    (λ e. ⊎_elim
    (λ l. ⊎_elim
    (λ t. let is = e.1 in let lt = t.1 in absurd (omega (arith, is, lt)))
    (λ t. inl (e.0, l.0, t.0))
    (leb_tells (suc from) at))
    (λ l. let is = e.1 in let lt = l.1 in absurd (omega (arith, is, lt)))
    (leb_tells from at))
    (λ n. ⊎_elim
    (λ l. ⊎_elim
    (λ t. inr (n.0, l.0 ∙ sym t.0))
    (λ t. let ne = n.1 in let le = l.1 in let ge = t.1 in absurd (omega (arith, ne, le, ge)))
    (leb_tells (suc from) at))
    (λ l. ⊎_elim
    (λ t. let lt = l.1 in let le = t.1 in absurd (omega (arith, lt, le)))
    (λ t. inr (n.0, l.0 ∙ sym t.0))
    (leb_tells (suc from) at))
    (leb_tells from at))
    (eqb_tells at from)

in_two : (e l t u s : Bool) → Cover e l t
    → (not (l && u) || s) ≡ ((not (e && (l && u)) || s) && (not (t && u) || s))
unfolding Cover
in_two e l t u s (inl h) = rw (h.0, h.1, h.2) (whole (not u || s))
  where
    whole : (b : Bool) → b ≡ (b && true)
    whole true = refl
    whole false = refl
in_two e l t u s (inr h) = rw (h.0, h.1) refl

four : (a b c d : Bool) → ((a && b) && (c && d)) ≡ ((a && c) && (b && d))
four true true c d = refl
four true false true d = refl
four true false false d = refl
four false b c d = refl

both_same : (a b c d : Bool) → a ≡ c → b ≡ d → (a && b) ≡ (c && d)
both_same a b c d p q = λ i. p i && q i

module _ (env : Environment) (at : ℕ) (f : TypeFrame) where
  all_parted : (hs : List Handler)
      → list_all (λ h. not (covers at h) || satisfies env f h) hs
      ≡ (list_all (λ h. not (covers_first at h) || satisfies env f h) hs
      && list_all (λ h. not (covers_behind at h) || satisfies env f h) hs)
  all_parted [] = refl
  all_parted (h ∷ hs) =
      let s = satisfies env f h in
      both_same (not (covers at h) || s) (list_all (λ x. not (covers at x) || satisfies env f x) hs)
      ((not (covers_first at h) || s) && (not (covers_behind at h) || s))
      (list_all (λ x. not (covers_first at x) || satisfies env f x) hs
      && list_all (λ x. not (covers_behind at x) || satisfies env f x) hs)
      (in_two (nat_eq at h.from) (nat_le h.from at) (nat_lt h.from at) (nat_lt at h.to) s (covers_how h.from at))
      (all_parted hs)
      ∙ four (not (covers_first at h) || s) (not (covers_behind at h) || s)
      (list_all (λ x. not (covers_first at x) || satisfies env f x) hs)
      (list_all (λ x. not (covers_behind at x) || satisfies env f x) hs)

  parted : satisfies_handlers env at f ≡ (satisfies_first env at f && satisfies_behind env at f)
  parted = all_parted env.code.handlers

  -- what the two kinds of handlers give
  pub first_fails : (b : Bool) → b ≡ satisfies_first env at f → b ≡ false → false ≡ satisfies_handlers env at f
  first_fails b is e = sym (parted ∙ ap (λ (t : Bool). t && satisfies_behind env at f) (sym is ∙ e))

  pub first_holds : (b : Bool) → b ≡ satisfies_first env at f → b ≡ true
      → satisfies_behind env at f ≡ satisfies_handlers env at f
  first_holds b is e = sym (parted ∙ ap (λ (t : Bool). t && satisfies_behind env at f) (sym is ∙ e))

  none_first : (hs : List Handler) → list_any (λ (h : Handler). nat_eq at h.from) hs ≡ false
      → list_all (λ h. not (covers_first at h) || satisfies env f h) hs ≡ true
  none_first [] none = refl
  none_first (h ∷ hs) none =
      let n = or_parts (nat_eq at h.from) (list_any (λ (x : Handler). nat_eq at x.from) hs) none in
      rw (n.0) (none_first hs n.1)

  -- no handler covers it as the first
  pub first_none : list_any (λ (h : Handler). nat_eq at h.from) env.code.handlers ≡ false
      → true ≡ satisfies_first env at f
  first_none none = sym (none_first env.code.handlers none)

  -- where it holds of each that it is asked of, it holds of all
  pub all_behind : ((n : ℕ) → n < length env.code.handlers → covers_behind at (handler_at env.code n) ≡ true
      → satisfies env f (handler_at env.code n) ≡ true) → satisfies_behind env at f ≡ true
  all_behind each = list_all-from_AllPass (λ h. not (covers_behind at h) || satisfies env f h) env.code.handlers
      (λ n d lt. subst (λ (h : Handler). (not (covers_behind at h) || satisfies env f h) ≡ true)
      (get_or_default env.code.handlers n no_handler d lt) (by n lt (covers_behind at (handler_at env.code n)) refl))
    where
      by : (n : ℕ) → n < length env.code.handlers → (b : Bool) → covers_behind at (handler_at env.code n) ≡ b
          → (not (covers_behind at (handler_at env.code n)) || satisfies env f (handler_at env.code n)) ≡ true
      by n lt true e = ap (λ (b : Bool). not b || satisfies env f (handler_at env.code n)) e ∙ each n lt e
      by n lt false e = ap (λ (b : Bool). not b || satisfies env f (handler_at env.code n)) e

  -- where all hold that cover the one before too, those are left that cover it as the first
  pub first_left : satisfies_behind env at f ≡ true → satisfies_first env at f ≡ satisfies_handlers env at f
  first_left behind = sym (parted ∙ ap (λ (t : Bool). satisfies_first env at f && t) behind
      ∙ and-true (satisfies_first env at f))

-- ---- instructions that no handler covers

-- where one is covered, it is by one that stands for all
pub uncovered : (code : Code) (at : ℕ) (numbers : List ℕ) → AreAsked code numbers
    → ((i : ℕ) → i < length numbers → covers at (handler_at code (get_or numbers i 0)) ≡ false) → IsUncovered code at
uncovered code at numbers asked none n lt = by (covers at (handler_at code n)) refl
  where
    by : (b : Bool) → covers at (handler_at code n) ≡ b → covers at (handler_at code n) ≡ false
    by false e = e
    by true e =
        let stood = asked.each n lt in
        let h = handler_at code n in
        let one = handler_at code (get_or numbers stood.0 0) in
        let so = stood.2 in
        let from = so.from in
        let to = so.to in
        let b = and_parts (nat_le h.from at) (nat_lt at h.to) e in
        let begun = leb-true h.from at b.0 in
        let ends = ltb-true at h.to b.1 in
        let le : nat_le one.from at ≡ true = le-leb one.from at (omega (arith, begun, from)) in
        let lt : nat_lt at one.to ≡ true = lt-ltb at one.to (omega (arith, ends, to)) in
        let yes : covers at one ≡ true = rw (le, lt) refl in
        let no = none stood.0 stood.1 in
        absurd (both_ways (covers at one) no yes)

pub uncovered_holds : (env : Environment) (at : ℕ) (f : TypeFrame) → IsUncovered env.code at
    → true ≡ satisfies_handlers env at f
uncovered_holds env at f none = sym (list_all-from_AllPass (λ h. not (covers at h) || satisfies env f h)
    env.code.handlers
    (λ n d lt. subst (λ (h : Handler). (not (covers at h) || satisfies env f h) ≡ true)
    (get_or_default env.code.handlers n no_handler d lt)
    (ap (λ (b : Bool). not b || satisfies env f (handler_at env.code n)) (none n lt))))

-- ---- what is known of a handler that covers the instruction before

module _ (env : Environment) (at : ℕ) (c : Changed) (f : TypeFrame) (s : IsSince env at (Some c) f) where
  known_behind : (i : ℕ) (h : Handler) → i < length env.code.handlers → h ≡ get_or env.code.handlers i h
      → covers_behind at h ≡ true → IsKnown env h c f
  known_behind i h lt is cov =
      let b = and_parts (nat_lt h.from at) (nat_lt at h.to) cov in
      let less = ltb-true h.from at b.0 in
      let le : nat_le h.from at ≡ true = le-leb h.from at (omega (arith, less)) in
      ⊎_elim (λ e. absurd (omega (arith, less, e))) (λ k. k)
      (known_at env at c f i h s lt is (rw (le, b.1) refl))

  pub known_numbered : (n : ℕ) (h : Handler) → slice_get env.code.handlers n ≡ Some h → covers_behind at h ≡ true
      → IsKnown env h c f
  known_numbered n h is cov = known_behind n h (slice_get_within env.code.handlers n h is)
      (sym (get_or_from_slice_get env.code.handlers n h h is)) cov

  pub known_of : (n : ℕ) → n < length env.code.handlers → covers_behind at (handler_at env.code n) ≡ true
      → IsKnown env (handler_at env.code n) c f
  known_of n lt cov = known_behind n (handler_at env.code n) lt
      (get_or_default env.code.handlers n no_handler (handler_at env.code n) lt) cov

  -- nothing changed
  pub behind_still : c.from ≡ c.to → true ≡ satisfies_behind env at f
  behind_still e = sym (all_behind env at f (λ n lt cov.
      let k = known_of n lt cov in
      same_satisfies env k.0 f (handler_at env.code n) (unchanged env c k.0 f e k.2) ∙ k.1))

  -- one fails
  pub behind_fails : (n : ℕ) (b : Bool) → n < length env.code.handlers
      → b ≡ satisfies_if_behind env at f (handler_at env.code n) → b ≡ false → false ≡ satisfies_behind env at f
  behind_fails n b lt tells e =
      sym (list_all_at (satisfies_if_behind env at f) env.code.handlers n no_handler lt (sym tells ∙ e))

  -- one that doesn't cover it, and one that does
  pub not_behind : (n : ℕ) (h : Handler) → slice_get env.code.handlers n ≡ Some h → covers_behind at h ≡ false
      → true ≡ satisfies_if_behind env at f (handler_at env.code n)
  not_behind n h is e =
      sym (ap (satisfies_if_behind env at f) (get_or_from_slice_get env.code.handlers n h no_handler is)
      ∙ ap (λ (b : Bool). not b || satisfies env f h) e)

  pub is_behind : (n : ℕ) (h : Handler) (b : Bool) → slice_get env.code.handlers n ≡ Some h → covers_behind at h ≡ true
      → b ≡ satisfies env f h → b ≡ satisfies_if_behind env at f (handler_at env.code n)
  is_behind n h b is e tells = tells
      ∙ sym (ap (satisfies_if_behind env at f) (get_or_from_slice_get env.code.handlers n h no_handler is)
      ∙ ap (λ (b : Bool). not b || satisfies env f h) e)

  -- ---- one that stands for another

  locals_declared : (o : Option FrameAt)
      → option_map (λ (d : TypeFrame). d.locals)
      (option_map (λ (x : FrameAt). declared_frame env.code.max_locals x.frame) o)
      ≡ option_map (expanded env.code.max_locals) (option_map (λ (x : FrameAt). x.frame.locals) o)
  locals_declared None = refl
  locals_declared (Some x) = refl

  locals_of : (n : ℕ) → option_map (λ (d : TypeFrame). d.locals) (declared_frame_at env n)
      ≡ option_map (expanded env.code.max_locals) (locals_at env.code n)
  locals_of n = locals_declared (find (λ (x : FrameAt). x.index == n) env.code.frames)

  Found : Option TypeFrame → List VType → Type 0
  Found o ls = (d : TypeFrame) × (o ≡ Some d) × (d.locals ≡ ls)

  found : (o : Option TypeFrame) (ls : List VType) → option_map (λ (d : TypeFrame). d.locals) o ≡ Some ls → Found o ls
  unfolding Found
  found None ls h = absurd cc
  found (Some d) ls h = (d, refl, ap (λ (x : Option (List VType)). option_map_or (λ y. y) x ls) h)

  stood_fits : (one other : Handler) → IsKnown env one c f → IsKnown env other c f → StandsFor env.code one other
      → satisfies env f one ≡ true → satisfies env f other ≡ true
  unfolding Found
  stood_fits one other k l so fits = by (declared_frame_at env other.entry) refl
    where
      by : (o : Option TypeFrame) → declared_frame_at env other.entry ≡ o → satisfies env f other ≡ true
      by None e = known_free env other c f l e
      by (Some d) e =
          let r = found (declared_frame_at env one.entry) d.locals
          (locals_of one.entry ∙ ap (option_map (expanded env.code.max_locals)) so.locals ∙ sym (locals_of other.entry)
          ∙ ap (option_map (λ (x : TypeFrame). x.locals)) e) in
          known_fits env other c f d l e
          ∙ ap (pointwise (is_assignable env.classes) f.locals) (sym r.2)
          ∙ sym (known_fits env one c f r.0 k r.1) ∙ fits

  -- all that are asked hold
  pub behind_holds : (numbers : List ℕ) → AreAsked env.code numbers
      → ((i : ℕ) → i < length numbers → satisfies_if_behind env at f (handler_at env.code (get_or numbers i 0)) ≡ true)
      → true ≡ satisfies_behind env at f
  behind_holds numbers asked each = sym (all_behind env at f (λ n lt cov.
      let stood = asked.each n lt in
      let m = get_or numbers stood.0 0 in
      let one = handler_at env.code m in
      let h = handler_at env.code n in
      let so = stood.2 in
      let b = and_parts (nat_lt h.from at) (nat_lt at h.to) cov in
      let begun = ltb-true h.from at b.0 in
      let ends = ltb-true at h.to b.1 in
      let from = so.from in
      let to = so.to in
      let less : nat_lt one.from at ≡ true = lt-ltb one.from at (omega (arith, begun, from)) in
      let more : nat_lt at one.to ≡ true = lt-ltb at one.to (omega (arith, ends, to)) in
      let covered : covers_behind at one ≡ true = rw (less, more) refl in
      stood_fits one h (known_of m (asked.there stood.0 stood.1) covered) (known_of n lt cov) so
      (sym (ap (λ (b : Bool). not b || satisfies env f one) covered) ∙ each stood.0 stood.1)))
