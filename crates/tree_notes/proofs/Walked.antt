-- How the walk over the nodes notes what is told.
use Rattle.std.proofs.Common.{◌≡◌, ◌≢◌, ◌⊎◌, inl, inr, ⊎_elim, ◌≤◌, ◌<◌, ◌+◌, ◌-◌, ℕ, List, [], ◌∷◌}
use Rattle.std.proofs.Common.{◌++◌, ◌∙◌, length, get_or, set, take, refl, sym, ap, subst, arith, Option, Some, None, slice_get}
use Rattle.std.proofs.Common.{get_or-set_same, get_or-set_other, length-set}
use Rattle.std.specs.Option.{IfSome}
use Rattle.std.specs.List.{All, Contains}
use Rattle.std.specs.List.Sorted.{IsNonDecreasingBy}
use Rattle.std.proofs.lemmas.Bool.{cases_eq, cases_lt}
use Rattle.std.proofs.lemmas.List.{get_or_past, set_past, take_more}
use Rattle.std.proofs.lemmas.List.Elements.{All-nil, All-push, Contains-append_cases, Contains-append_left}
use Rattle.std.proofs.lemmas.List.Elements.{Contains-append_right, Contains-push, Contains-push_cases}
use Rattle.std.proofs.lemmas.Option.{IfSome_then}
use Rattle.std.proofs.lemmas.List.Sorted.{IsNonDecreasingBy-push}
use Rattle.tree_notes.specs.Notes.{HasKey, IsSame, IsVisit, back, both, one, parent, passed}
use Rattle.tree_notes.specs.bodies.Times.{IsUpTo, changes_at, told, told_at}
use Rattle.tree_notes.specs.bodies.Walking.{AreOrdered, ArePut, AreUpTo, IsBelow, IsHere, IsWalk}
use Rattle.tree_notes.specs.declared.nearest.Change.{Change}
use Rattle.tree_notes.specs.declared.nearest.Nearest.{Nearest}
use Rattle.tree_notes.specs.declared.nearest.Up.{Up}
use Rattle.tree_notes.specs.declared.nearest.Up.TheVariants.{Above, At}
use Rattle.tree_notes.specs.declared.nearest.Visit.{Visit}
use Rattle.tree_notes.specs.declared.walk.Here.{Here}
use Rattle.tree_notes.specs.declared.walk.Walk.{Walk}
use Rattle.tree_notes.proofs.Telling.{none_told, told_later, told_now, told_on, too_early}

-- ---- changes that are made at one time

pub put_none : (t : ℕ) (up : ℕ → Up) (xs : List (List Change)) → ArePut t up [] xs xs
put_none t up xs = record {
  count = refl;
  kept = λ key lacks. refl;
  earlier = λ key v less. refl;
  put = λ key v has within now begun. absurd (let none = has.1 in omega (arith, none));
  order = λ late order. order;
  up_to = λ late. late;
}

module _ (t : ℕ) (up : ℕ → Up) (ks : List ℕ) (old new : List (List Change)) (so_far : ArePut t up ks old new) (k : ℕ)
  where
    abbrev change : Change
    change = record { time = t; up = up k }

    abbrev longer : List Change
    longer = changes_at new k ++ change ∷ []

    abbrev then : List (List Change)
    then = set new k longer

    here : k < length new → changes_at then k ≡ longer
    here within = get_or-set_same new k longer [] within

    elsewhere : (key : ℕ) → key ≢ k → changes_at then key ≡ changes_at new key
    elsewhere key other = get_or-set_other new k key longer [] other

    past : length new ≤ k → then ≡ new
    past over = set_past new k longer over

    -- of each key nothing is changed, or it is the one with the change
    which : (key : ℕ) → (changes_at then key ≡ changes_at new key) ⊎ ((key ≡ k) × (changes_at then key ≡ longer))
    which key = ⊎_elim
        (λ same. ⊎_elim
        (λ within. inr (same, subst (λ (n : ℕ). changes_at then n ≡ longer) (sym same) (here within)))
        (λ over. inl (ap (λ l. changes_at l key) (past over)))
        (cases_lt k (length new)))
        (λ other. inl (elsewhere key other))
        (cases_eq key k)

    kept_on : (key : ℕ) → (Contains (ks ++ k ∷ []) key → ⊥) → changes_at then key ≡ changes_at old key
    kept_on key lacks =
        elsewhere key (λ same. lacks (subst (λ (n : ℕ). Contains (ks ++ k ∷ []) n) (sym same) (Contains-push ks k)))
        ∙ so_far.kept key (λ has. lacks (Contains-append_left ks (k ∷ []) key has))

    earlier_on : (key : ℕ) (v : Visit) → v.time < t → told_at v (changes_at then key) ≡ told_at v (changes_at old key)
    earlier_on key v less = ⊎_elim
        (λ is. ap (told_at v) is)
        (λ is. ap (told_at v) is.1 ∙ told_later v (Above v.top) (changes_at new k) change less
        ∙ ap (λ (n : ℕ). told_at v (changes_at new n)) (sym is.0))
        (which key) ∙ so_far.earlier key v less

    put_on : (key : ℕ) (v : Visit) → Contains (ks ++ k ∷ []) key → key < length old → v.time ≡ t → v.start ≤ t
        → told_at v (changes_at then key) ≡ up key
    put_on key v has within now begun = ⊎_elim
        (λ same. subst (λ (n : ℕ). told_at v (changes_at then n) ≡ up n) (sym same)
        (ap (told_at v) (here (let long = so_far.count in omega (arith, long, within, same)))
        ∙ told_now v (Above v.top) (changes_at new k) change begun (omega (arith, now))))
        (λ other. ap (told_at v) (elsewhere key other) ∙ so_far.put key v (before other) within now begun)
        (cases_eq key k)
      where
        before : key ≢ k → Contains ks key
        before other = ⊎_elim (λ had. had) (λ same. absurd (other (sym same))) (Contains-push_cases ks k key has)

    up_to_on : AreUpTo t old → AreUpTo t then
    up_to_on late key = ⊎_elim
        (λ is. subst (IsUpTo t) (sym is) (so_far.up_to late key))
        (λ is. subst (IsUpTo t) (sym is.1)
        (All-push (λ (c : Change). c.time ≤ t) (changes_at new k) change (so_far.up_to late k) (omega arith)))
        (which key)

    order_on : AreUpTo t old → AreOrdered old → AreOrdered then
    order_on late order key = ⊎_elim
        (λ is. subst (IsNonDecreasingBy (λ (c : Change). c.time)) (sym is) (so_far.order late order key))
        (λ is. subst (IsNonDecreasingBy (λ (c : Change). c.time)) (sym is.1)
        (IsNonDecreasingBy-push (λ (c : Change). c.time) (changes_at new k) change (so_far.order late order k)
        (λ d some. so_far.up_to late k (length (changes_at new k) - 1) d (omega (arith, some)))))
        (which key)

    pub put_more : ArePut t up (ks ++ k ∷ []) old then
    put_more = record {
      count = length-set new k longer ∙ so_far.count;
      kept = kept_on;
      earlier = earlier_on;
      put = put_on;
      order = order_on;
      up_to = up_to_on;
    }

pub put_next : (t : ℕ) (up : ℕ → Up) (ks : List ℕ) (i k : ℕ) (leads : Up) (old new then : List (List Change))
    → i < length ks → get_or ks i 0 ≡ k → ArePut t up (take i ks) old new → leads ≡ up k
    → then ≡ set new k (changes_at new k ++ record { time = t; up = leads } ∷ [])
    → ArePut t up (take (i + 1) ks) old then
put_next t up ks i k leads old new then within at so_far same is =
    subst (λ l. ArePut t up l old then) (sym (take_more ks i 0 within))
    (subst (λ (n : ℕ). ArePut t up (take i ks ++ n ∷ []) old then) (sym at)
    (subst (λ l. ArePut t up (take i ks ++ k ∷ []) old l)
    (sym (is ∙ ap (λ (u : Up). set new k (changes_at new k ++ record { time = t; up = u } ∷ [])) same))
    (put_more t up (take i ks) old new so_far k)))

-- ---- the start

pub none_at : (changes : List (List Change)) → All (λ (cs : List Change). cs ≡ []) changes → (key : ℕ)
    → changes_at changes key ≡ []
none_at changes none key = ⊎_elim
    (λ within. none key [] within)
    (λ over. get_or_past changes key [] over)
    (cases_lt key (length changes))

module _ (parents : List (Option ℕ)) (keys : List (List ℕ)) (nearest : Nearest)
    (visits : All (λ (v : Option Visit). v ≡ None) nearest.visits.items)
    (changes : All (λ (cs : List Change). cs ≡ []) nearest.changes.items) where
  not_met : (P : Visit → Type 0) (n : ℕ) → IfSome (get_or nearest.visits.items n None) P
  not_met P n = subst (λ (o : Option Visit). IfSome o P)
      (sym (⊎_elim (λ within. visits n None within) (λ over. get_or_past nearest.visits.items n None over)
      (cases_lt n (length nearest.visits.items)))) tt

  pub begins : IsWalk parents keys (record { nearest = nearest; time = 0; here = None })
  begins = record {
    nearest = record {
      order = λ key. subst (IsNonDecreasingBy (λ (c : Change). c.time))
          (sym (none_at nearest.changes.items changes key))
          (λ i j d upto within. absurd (omega (arith, within)));
      visits = λ n. not_met (IsVisit parents keys nearest.changes.items n) n;
    };
    changes = λ key. subst (IsUpTo 0) (sym (none_at nearest.changes.items changes key)) (All-nil _);
    visits = not_met (λ v. v.time ≤ 0);
    here = tt;
  }

-- ---- one step

has_or : (xs : List ℕ) (k : ℕ) → Contains xs k ⊎ (Contains xs k → ⊥)
has_or [] k = inr (λ has. absurd (let none = has.1 in omega (arith, none)))
has_or (x ∷ xs) k = ⊎_elim
    (λ same. inl (subst (Contains (x ∷ xs)) same (Contains-append_left (x ∷ []) xs x (Contains-push [] x))))
    (λ other. ⊎_elim (λ has. inl (Contains-append_right (x ∷ []) xs k has))
    (λ lacks. inr (λ has. ⊎_elim (λ first. ⊎_elim
    (λ none. absurd (let over = none.1 in omega (arith, over))) other (Contains-push_cases [] x k first)) lacks
    (Contains-append_cases (x ∷ []) xs k has))) (has_or xs k))
    (cases_eq x k)

module _ (parents : List (Option ℕ)) (keys : List (List ℕ)) (walk : Walk) (is : IsWalk parents keys walk)
    (t : ℕ) (next : t ≡ walk.time + 1) (nearest : Nearest) where
  abbrev old : List (List Change)
  old = walk.nearest.changes.items

  abbrev new : List (List Change)
  new = nearest.changes.items

  late : AreUpTo t old
  late key k d within = let before = is.changes key k d within in omega (arith, before, next)

  here_of : (h : Here) → walk.here ≡ Some h → IsHere parents keys old walk.time h
  here_of h at = subst (λ (o : Option Here). IfSome o (IsHere parents keys old walk.time)) at is.here

  -- nothing of what is told where the walk is changes when time goes on
  here_on : (h : Here) → walk.here ≡ Some h → (v : Visit) → h.visit.start ≡ v.start → h.visit.top ≡ v.top
      → v.time ≡ t → (key : ℕ) → told_at v (changes_at old key) ≡ told_at h.visit (changes_at old key)
  here_on h at v start top now key =
      ap (λ (n : ℕ). told v (Above n) (changes_at old key)) (sym top)
      ∙ sym (told_on h.visit v (Above h.visit.top) (changes_at old key) start
      (λ k d within. let before = is.changes key k d within in
      let then = (here_of h at).now in omega (arith, before, then))
      (let then = (here_of h at).now in omega (arith, then, now, next)))

  module _ (up : ℕ → Up) (ks : List ℕ) (puts : ArePut t up ks old new) where
    within_old : (key : ℕ) → key < length new → key < length old
    within_old key within = let long = puts.count in omega (arith, within, long)

    -- what was told of a node that was met is told still
    still : (n : ℕ) (v : Visit) → v.time ≤ walk.time → IsVisit parents keys old n v → IsVisit parents keys new n v
    still n v early was = record {
      leads = λ key within. subst (λ u. IsSame parents keys key (At n) u)
          (sym (puts.earlier key v (omega (arith, early, next)))) (was.leads key (within_old key within));
    }

    still_there : (n : ℕ) → IfSome (get_or walk.nearest.visits.items n None) (IsVisit parents keys new n)
    still_there n = by (get_or walk.nearest.visits.items n None) (is.visits n) (is.nearest.visits n)
      where
        by : (o : Option Visit) → IfSome o (λ v. v.time ≤ walk.time) → IfSome o (IsVisit parents keys old n)
            → IfSome o (IsVisit parents keys new n)
        by (Some v) early was = still n v early was
        by None early was = tt

    early_there : (n : ℕ) → IfSome (get_or walk.nearest.visits.items n None) (λ v. v.time ≤ t)
    early_there n = IfSome_then (get_or walk.nearest.visits.items n None) (is.visits n)
        (λ v early. omega (arith, early, next))

    walked : ((n : ℕ) → IfSome (get_or nearest.visits.items n None) (IsVisit parents keys new n))
        → ((n : ℕ) → IfSome (get_or nearest.visits.items n None) (λ v. v.time ≤ t))
        → (node : ℕ) (v : Visit) → IsVisit parents keys new node v → v.time ≡ t → v.start ≤ t
        → IsWalk parents keys (record { nearest = nearest; time = t; here = Some (record { node = node; visit = v }) })
    walked visits early node v leads now begun = record {
      nearest = record { order = puts.order late is.nearest.order; visits = visits };
      changes = puts.up_to late;
      visits = early;
      here = record { leads = leads; now = now; begun = begun };
    }

  -- ---- to a node

  module _ (node : ℕ) (v : Visit) (puts : ArePut t (λ key. At node) (get_or keys node []) old new)
      (below : IsBelow parents walk.here node t v) where
    now : v.time ≡ t
    now = ⊎_elim (λ b. ap (λ (w : Visit). w.time) b.3) (λ e. ap (λ (w : Visit). w.time) e) below

    begun : v.start ≤ t
    begun = ⊎_elim
        (λ b. let was = (here_of b.0 b.1).begun in
        let same : v.start ≡ b.0.visit.start = ap (λ (w : Visit). w.start) b.3 in omega (arith, was, same, next))
        (λ e. let same : v.start ≡ t = ap (λ (w : Visit). w.start) e in omega (arith, same))
        below

    kept_up : (key : ℕ) → key < length new → (HasKey keys node key → ⊥)
        → IsSame parents keys key (At node) (told_at v (changes_at new key))
    kept_up key within lacks = ⊎_elim
        (λ b. subst (λ u. IsSame parents keys key (At node) u)
        (sym (ap (told_at v) (puts.kept key lacks)
        ∙ here_on b.0 b.1 v (sym (ap (λ (w : Visit). w.start) b.3)) (sym (ap (λ (w : Visit). w.top) b.3)) now key))
        (both (At node) (Above node) _ (passed node lacks refl refl)
        (both (Above node) (At b.0.node) _ (parent node b.0.node b.2 refl refl)
        ((here_of b.0 b.1).leads.leads key (within_old (λ k. At node) (get_or keys node []) puts key within)))))
        (λ e. subst (λ u. IsSame parents keys key (At node) u)
        (sym (ap (told_at v) (puts.kept key lacks) ∙ ap (λ (w : Visit). told_at w (changes_at old key)) e
        ∙ none_told (record { time = t; start = t; top = node }) (Above node) (changes_at old key)
        (λ k d at. too_early (record { time = t; start = t; top = node }) (get_or (changes_at old key) k d)
        (let before = is.changes key k d at in omega (arith, before, next)))))
        (passed node lacks refl refl))
        below

    met : IsVisit parents keys new node v
    met = record {
      leads = λ key within. ⊎_elim
          (λ has. one (sym (puts.put key v has
          (within_old (λ k. At node) (get_or keys node []) puts key within) now begun)))
          (kept_up key within) (has_or (get_or keys node []) key);
    }

    module _ (there : node < length walk.nearest.visits.items)
        (visits : nearest.visits.items ≡ set walk.nearest.visits.items node (Some v)) where
      after : (P : ℕ → Visit → Type 0) → P node v
          → ((n : ℕ) → IfSome (get_or walk.nearest.visits.items n None) (P n))
          → (n : ℕ) → IfSome (get_or nearest.visits.items n None) (P n)
      after P here others n = ⊎_elim
          (λ same. subst (λ (m : ℕ). IfSome (get_or nearest.visits.items m None) (P m)) (sym same)
          (subst (λ (o : Option Visit). IfSome o (P node)) (sym (ap (λ l. get_or l node None) visits
          ∙ get_or-set_same walk.nearest.visits.items node (Some v) None there)) here))
          (λ other. subst (λ (o : Option Visit). IfSome o (P n)) (sym (ap (λ l. get_or l n None) visits
          ∙ get_or-set_other walk.nearest.visits.items node n (Some v) None other)) (others n))
          (cases_eq n node)

      pub entered : IsWalk parents keys
          (record { nearest = nearest; time = t; here = Some (record { node = node; visit = v }) })
      entered = walked (λ k. At node) (get_or keys node []) puts
          (after (IsVisit parents keys new) met (still_there (λ k. At node) (get_or keys node []) puts))
          (after (λ n w. w.time ≤ t) (omega (arith, now))
          (early_there (λ k. At node) (get_or keys node []) puts))
          node v met now begun

  -- ---- back to the parent

  module _ (h : Here) (p : ℕ) (u : Visit) (at : walk.here ≡ Some h)
      (above : slice_get parents h.node ≡ Some (Some p)) (was : get_or walk.nearest.visits.items p None ≡ Some u)
      (start : u.start ≡ h.visit.start) (top : u.top ≡ h.visit.top)
      (puts : ArePut t (λ key. told_at u (changes_at old key)) (get_or keys h.node []) old new) where
    pub before : u.time < t
    before =
        let early = subst (λ (o : Option Visit). IfSome o (λ v. v.time ≤ walk.time)) was (is.visits p) in
        omega (arith, early, next)

    abbrev again : Visit
    again = record { time = t; start = u.start; top = u.top }

    begun_before : u.start ≤ t
    begun_before = let first = (here_of h at).begun in omega (arith, first, start, next)

    back_at : (key : ℕ) → key < length old → IsSame parents keys key (At p) (told_at u (changes_at old key))
    back_at key within =
        (subst (λ (o : Option Visit). IfSome o (IsVisit parents keys old p)) was (is.nearest.visits p)).leads key within

    kept_back : (key : ℕ) → key < length old → (HasKey keys h.node key → ⊥)
        → IsSame parents keys key (At p) (told_at again (changes_at new key))
    kept_back key within lacks =
        subst (λ w. IsSame parents keys key (At p) w)
        (sym (ap (told_at again) (puts.kept key lacks) ∙ here_on h at again (sym start) (sym top) refl key))
        (both (At p) (At h.node) _
        (back (At h.node) (At p)
        (both (At h.node) (Above h.node) (At p) (passed h.node lacks refl refl) (parent h.node p above refl refl)))
        ((here_of h at).leads.leads key within))

    met_again : IsVisit parents keys new p again
    met_again = record {
      leads = λ key in_new.
          let within = within_old (λ k. told_at u (changes_at old k)) (get_or keys h.node []) puts key in_new in
          ⊎_elim
          (λ has. subst (λ w. IsSame parents keys key (At p) w)
          (sym (puts.put key again has within refl begun_before)) (back_at key within))
          (kept_back key within) (has_or (get_or keys h.node []) key);
    }

    pub left : nearest.visits.items ≡ walk.nearest.visits.items
        → IsWalk parents keys (record { nearest = nearest; time = t; here = Some (record { node = p; visit = again }) })
    left visits = walked (λ k. told_at u (changes_at old k)) (get_or keys h.node []) puts
        (λ n. subst (λ l. IfSome (get_or l n None) (IsVisit parents keys new n)) (sym visits)
        (still_there (λ k. told_at u (changes_at old k)) (get_or keys h.node []) puts n))
        (λ n. subst (λ l. IfSome (get_or l n None) (λ w. w.time ≤ t)) (sym visits)
        (early_there (λ k. told_at u (changes_at old k)) (get_or keys h.node []) puts n))
        p again met_again refl begun_before
