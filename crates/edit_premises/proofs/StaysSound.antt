-- A sound code stays sound without what is left out.
use Rattle.std.proofs.Common.{ℕ, zero, suc, ◌+◌, ◌-◌, ◌<◌, ◌≤◌, List, [], ◌∷◌, Option, Some, None}
use Rattle.std.proofs.Common.{Bool, true, false, ◌≡◌, ◌⊎◌, inl, inr, refl, sym, ap, ◌∙◌, subst}
use Rattle.std.proofs.Common.{arith}
use Rattle.std.specs.Prelude.{length, map, nat_le, nat_lt, slice_get, ◌&&◌, if◌then◌else◌}
use Rattle.std.specs.List.{AllByRecursion, filter}
use Rattle.std.specs.Option.{option_map}
use Rattle.std.proofs.lemmas.Bool.Decides.{leb_tells}
use Rattle.jv_base.proofs.Lists.{all_at, all_from}
use Rattle.class_model.specs.declared.code.Code.{Code}
use Rattle.class_model.specs.declared.code.Handler.{Handler}
use Rattle.class_model.specs.declared.code.Ins.{Ins}
use Rattle.class_model.specs.declared.op.Case.{Case}
use Rattle.class_model.specs.declared.op.Op.{Op}
use Rattle.class_model.specs.declared.op.Op.TheVariants as op
use Rattle.code_edit.specs.Rewriting.{compacted, is_open, living, map_from, moved_handler, place}
use Rattle.code_edit.specs.Rewriting.{retargeted, survivors, with_op}
use Rattle.code_edit.specs.Flow.{covers, goes_elsewhere, targets}
use Rattle.edit_premises.proofs.Places.{map_get, place_le, place_lt, place_next, place_stays}
use Rattle.code_edit.specs.SoundCode.{IsPlaced, IsSound}
use Rattle.edit_premises.specs.LeavesSound.{LeavesSound, LivesFrom}

-- ---- survivors

survivors_long : {A : Type 0} (lives : ℕ → Bool) (i : ℕ) (xs : List A)
    → length (survivors lives i xs) ≡ living lives i (length xs)
survivors_long lives i [] = refl
survivors_long {A} lives i (x ∷ xs) =
    by (lives i) (survivors lives (suc i) xs) (survivors_long lives (suc i) xs)
  where
    by : (b : Bool) (ys : List A) → length ys ≡ living lives (suc i) (length xs)
        → length
        (if b then x ∷ ys else ys) ≡ (if b then suc
        (living lives (suc i) (length xs)) else living lives (suc i) (length xs))
    by true ys e = ap suc e
    by false ys e = e

-- each survivor was at a living index
survivor_from : {A : Type 0} (lives : ℕ → Bool) (i : ℕ) (xs : List A) (j : ℕ) (x : A)
    → slice_get (survivors lives i xs) j ≡ Some x
    → (k : ℕ) × (lives (i + k) ≡ true) × (slice_get xs k ≡ Some x) × (j ≡ living lives i k)
survivor_from lives i [] j x e = absurd cc
survivor_from {A} lives i (y ∷ ys) j x e =
    by (lives i) refl j e (λ m q. survivor_from lives (suc i) ys m x q)
  where
    later : (b : Bool) → lives i ≡ b → (m k : ℕ) → lives (suc i + k) ≡ true
        → slice_get ys k ≡ Some x → m ≡ living lives (suc i) k
        → (k : ℕ) × (lives (i + k) ≡ true) × (slice_get (y ∷ ys) k ≡ Some x)
        × ((if b then suc m else m) ≡ living lives i k)
    later b l m k h e q =
        let s : suc i + k ≡ i + suc k = omega arith in (
          suc k,
          subst (λ n. lives n ≡ true) s h,
          e,
          ap (λ n. if b then suc n else n) q
              ∙ ap (λ c. if c then suc (living lives (suc i) k) else living lives (suc i) k)
              (sym l),
        )

    by : (b : Bool) → lives i ≡ b → (m : ℕ)
        → slice_get (if b then y ∷ survivors lives (suc i) ys else survivors lives (suc i) ys)
        m ≡ Some x
        → ((m : ℕ) → slice_get (survivors lives (suc i) ys) m ≡ Some x → (k : ℕ)
        × (lives (suc i + k) ≡ true) × (slice_get ys k ≡ Some x) × (m ≡ living lives (suc i) k))
        → (k : ℕ) × (lives (i + k) ≡ true) × (slice_get (y ∷ ys) k ≡ Some x)
        × (m ≡ living lives i k)
    by true l zero e rest =
        (0, (let z : i ≡ i + 0 = omega arith in subst (λ n. lives n ≡ true) z l), e, refl)
    by true l (suc m) e rest = let r = rest m e in later true l m r.0 r.1 r.2 r.3
    by false l m e rest = let r = rest m e in later false l m r.0 r.1 r.2 r.3

-- ---- targets

moved_targets : (P : ℕ → Type 0) (p : ℕ → ℕ) (k : ℕ) (ts : List ℕ)
    → AllByRecursion (λ t. P (p t)) ts → AllByRecursion P (map_from (λ which to. p to) k ts)
moved_targets P p k [] h = tt
moved_targets P p k (t ∷ ts) h = (h.0, moved_targets P p (suc k) ts h.1)

moved_cases : (P : ℕ → Type 0) (p : ℕ → ℕ) (k : ℕ) (cs : List Case)
    → AllByRecursion (λ t. P (p t)) (map (λ (c : Case). c.to) cs)
    → AllByRecursion P
    (map (λ (c : Case). c.to) (map_from (λ which (c : Case). record c { to = p c.to }) k cs))
moved_cases P p k [] h = tt
moved_cases P p k (c ∷ cs) h = (h.0, moved_cases P p (suc k) cs h.1)

targets_moved : (P : ℕ → Type 0) (p : ℕ → ℕ) (o : Op) → AllByRecursion (λ t. P (p t)) (targets o)
    → AllByRecursion P (targets (retargeted (λ which to. p to) o))
targets_moved P p (op.TableSwitch low t ts) h = (h.0, moved_targets P p 1 ts h.1)
targets_moved P p (op.LookupSwitch t cs) h = (h.0, moved_cases P p 1 cs h.1)
targets_moved P p (op.IfZero c t) h = h
targets_moved P p (op.IfCmp c t) h = h
targets_moved P p (op.IfRef c t) h = h
targets_moved P p (op.IfNull c t) h = h
targets_moved P p (op.Goto t) h = h
targets_moved P p o h = h

pub ends_moved : (f : ℕ → ℕ → ℕ) (o : Op) → goes_elsewhere (retargeted f o) ≡ goes_elsewhere o
ends_moved f (op.TableSwitch low t ts) = refl
ends_moved f (op.LookupSwitch t cs) = refl
ends_moved f (op.Goto t) = refl
ends_moved f o = refl

module _ (lives : ℕ → Bool) (code : Code) (leaves : LeavesSound lives code)
    (sound : IsSound code) where
  n : ℕ
  n = length code.ins

  abbrev left : List Ins
  left = survivors lives 0 code.ins

  abbrev p : ℕ → ℕ → ℕ
  p which to = place lives to

  long : length (compacted lives code).ins ≡ place lives (length code.ins)
  long = by (with_op (retargeted p)) left ∙ survivors_long lives 0 code.ins
    where
      by : (f : Ins → Ins) (xs : List Ins) → length (map f xs) ≡ length xs
      by f [] = refl
      by f (x ∷ xs) = ap suc (by f xs)

  -- before an index that lives
  below : (at : ℕ) → LivesFrom lives (length code.ins) at
      → place lives at < length (compacted lives code).ins
  below at (to, le, lt, l) =
      subst (λ m. place lives at < m) (sym long)
      (omega (arith, place_le lives at to le, place_lt lives to (length code.ins) l lt))

  -- an instruction that is left
  from : (j : ℕ) (i : Ins) → slice_get (compacted lives code).ins j ≡ Some i
      → (at : ℕ) × (k : Ins) × (lives at ≡ true) × (slice_get code.ins at ≡ Some k)
      × (i ≡ with_op (retargeted p) k) × (j ≡ place lives at)
  from j i e = by (slice_get left j) refl (sym (map_get (with_op (retargeted p)) left j) ∙ e)
    where
      by : (o : Option Ins) → slice_get left j ≡ o → option_map (with_op (retargeted p)) o ≡ Some i
          → (at : ℕ) × (k : Ins) × (lives at ≡ true) × (slice_get code.ins at ≡ Some k)
          × (i ≡ with_op (retargeted p) k) × (j ≡ place lives at)
      by None q h = absurd cc
      by (Some k) q h =
          let r = survivor_from lives 0 code.ins j k q in
          let z : 0 + r.0 ≡ r.0 = omega arith in
          let same : with_op (retargeted p) k ≡ i = cc in
          (r.0, k, subst (λ m. lives m ≡ true) z r.1, r.2, sym same, r.3)

  covered : (h : Handler) → place lives h.from < place lives h.to → (at : ℕ) × (lives at ≡ true)
      × (h.from ≤ at) × (at < h.to)
  covered h lt = climb (h.to - h.from) h.from (by (leb_tells h.from h.to)) lt
    where
      by : ((nat_le h.from h.to ≡ true) × (h.from ≤ h.to))
          ⊎ ((nat_le h.from h.to ≡ false) × (h.to < h.from)) → h.from + (h.to - h.from) ≡ h.to
      by (inl q) = omega (arith, q.1)
      by (inr q) = absurd (omega (arith, lt, q.1, place_le lives h.to h.from (omega (arith, q.1))))

      found : (b : Bool) (m at : ℕ) → lives at ≡ b → at + suc m ≡ h.to
          → (place lives (at + 1) < place lives h.to → (to : ℕ) × (lives to ≡ true) × (at + 1 ≤ to)
          × (to < h.to))
          → place lives at < place lives h.to → (b ≡ false → place lives (at + 1) ≡ place lives at)
          → (to : ℕ) × (lives to ≡ true) × (at ≤ to) × (to < h.to)
      found true m at l e more lt stays = (at, l, omega arith, omega (arith, e))
      found false m at l e more lt stays =
          let r = more (subst (λ q. q < place lives h.to) (sym (stays refl)) lt) in
          (r.0, r.1, omega (arith, r.2), r.3)

      climb : (m at : ℕ) → at + m ≡ h.to → place lives at < place lives h.to → (to : ℕ)
          × (lives to ≡ true) × (at ≤ to) × (to < h.to)
      climb zero at e lt = absurd (let same : at ≡ h.to = omega (arith, e) in
          let q : place lives h.to < place lives h.to =
          subst (λ x. place lives x < place lives h.to) same lt in omega (arith, q))
      climb (suc m) at e lt =
          found (lives at) m at refl e (λ lt'. climb m (at + 1) (omega (arith, e)) lt') lt
          (λ f. place_stays lives at f)

  handlers_placed : (hs : List Handler) → AllByRecursion (IsPlaced (length code.ins)) hs
      → AllByRecursion (λ (h : Handler). (at : ℕ) → at < length code.ins → lives at ≡ true
      → covers h at ≡ true → LivesFrom lives (length code.ins) h.entry) hs
      → AllByRecursion (IsPlaced (length (compacted lives code).ins))
      (filter is_open (map (moved_handler (place lives)) hs))
  handlers_placed [] s e = tt
  handlers_placed (h ∷ hs) s e =
      by (leb_tells (suc (place lives h.from)) (place lives h.to))
      (filter is_open (map (moved_handler (place lives)) hs)) (handlers_placed hs s.1 e.1)
    where
      there : (at : ℕ) → h.from ≤ at → at < h.to → covers h at ≡ true
      there at a b = covers_at (leb_tells h.from at) (leb_tells (suc at) h.to)
        where
          covers_at : ((nat_le h.from at ≡ true) × (h.from ≤ at))
              ⊎ ((nat_le h.from at ≡ false) × (at < h.from))
              → ((nat_lt at h.to ≡ true) × (suc at ≤ h.to))
              ⊎ ((nat_lt at h.to ≡ false) × (h.to < suc at)) → covers h at ≡ true
          covers_at (inl q) (inl r) = ap (λ t. t && nat_lt at h.to) q.0 ∙ r.0
          covers_at (inl q) (inr r) = absurd (omega (arith, r.1, b))
          covers_at (inr q) r = absurd (omega (arith, q.1, a))

      by : ((nat_lt (place lives h.from) (place lives h.to) ≡ true)
          × (suc (place lives h.from) ≤ place lives h.to))
          ⊎ ((nat_lt (place lives h.from) (place lives h.to) ≡ false)
          × (place lives h.to < suc (place lives h.from))) → (ys : List Handler)
          → AllByRecursion (IsPlaced (length (compacted lives code).ins)) ys
          → AllByRecursion (IsPlaced (length (compacted lives code).ins))
          (if nat_lt (place lives h.from) (place lives h.to) then moved_handler
          (place lives) h ∷ ys else ys)
      by (inr q) ys k =
          subst
          (λ t. AllByRecursion (IsPlaced (length (compacted lives code).ins))
          (if t then moved_handler (place lives) h ∷ ys else ys)) (sym q.0) k
      by (inl q) ys k =
          let c = covered h (omega (arith, q.1)) in
          let entry = below h.entry (e.0 c.0 (omega (arith, c.3, s.0.1)) c.1 (there c.0 c.2 c.3)) in
          subst
          (λ t. AllByRecursion (IsPlaced (length (compacted lives code).ins))
          (if t then moved_handler (place lives) h ∷ ys else ys)) (sym q.0) (
            (
              omega (arith, q.1),
              subst (λ m. place lives h.to ≤ m) (sym long)
                  (place_le lives h.to (length code.ins) s.0.1),
              entry,
            ),
            k,
          )

  pub compacted_sound : IsSound (compacted lives code)
  compacted_sound = record {
    some = omega (arith, below 0 leaves.some);
    jump = λ j i e.
        let r = from j i e in
        subst (λ (x : Ins). AllByRecursion (λ t. t < length (compacted lives code).ins)
        (targets x.op)) (sym r.4)
        (targets_moved (λ t. t < length (compacted lives code).ins) (place lives) r.1.op
        (all_from (λ t. place lives t < length (compacted lives code).ins) (targets r.1.op)
        (λ k t x. below t (all_at (λ t. LivesFrom lives (length code.ins) t) (targets r.1.op) k t
        (leaves.jump r.0 r.1 r.3 r.2) x))));
    handlers = handlers_placed code.handlers sound.handlers leaves.entry;
    last = λ j i e end.
        let r = from j i e in
        ap (λ (x : Ins). goes_elsewhere x.op) r.4 ∙ ends_moved p r.1.op
        ∙ leaves.last r.0 r.1 r.3 r.2
        (λ (more : LivesFrom lives (length code.ins) (r.0 + 1)).
        let b = below (r.0 + 1) more in
        omega (arith, end, r.5, place_next lives r.0 r.2, b));
  }
