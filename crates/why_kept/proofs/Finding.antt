-- The search after one more item has got a level.
use Rattle.std.proofs.Common.{◌≡◌, ◌≢◌, ◌+◌, ◌<◌, ◌≤◌, ◌==◌, cond, ℕ, List, [], ◌∷◌, ◌++◌, Bool, inl, inr, ⊎_elim}
use Rattle.std.proofs.Common.{◌∙◌, sym, subst, ap, arith, length, get_or, set, get_or-set_same, get_or-set_other}
use Rattle.std.proofs.Common.{length-set}
use Rattle.std.specs.List.{All, Contains, sum_by}
use Rattle.std.proofs.lemmas.List.{get_or_default, length_push}
use Rattle.std.proofs.lemmas.List.Elements.{All-push, All-weaker, Contains-append_left, Contains-push}
use Rattle.std.proofs.lemmas.List.Sums.{sum_by-set, get_or-le-sum_by}
use Rattle.std.proofs.lemmas.Bool.{cases_eq, eq-eqb, ne_eqb}
use Rattle.mark_core.specs.declared.system.System.{System}
use Rattle.why_kept.specs.Derivations.{IsDerivedAt}
use Rattle.why_kept.specs.declared.search.Search.{Search}
use Rattle.why_kept.specs.bodies.Searching.{Grows, Has, IsSound, left, level_in}

-- 1 for an item that has no level
abbrev pub none_at : System → ℕ → ℕ
none_at sys level = cond (level == sys.n) 1 0

pub none_is : (sys : System) (level : ℕ) → level ≡ sys.n → none_at sys level ≡ 1
none_is sys level is = ap (λ (b : Bool). cond b 1 0) (eq-eqb level sys.n is)

none_not : (sys : System) (level : ℕ) → level ≢ sys.n → none_at sys level ≡ 0
none_not sys level not = ap (λ (b : Bool). cond b 1 0) (ne_eqb level sys.n not)

-- where an item has no level yet, one is left
pub some_left : (sys : System) (search : Search) (x : ℕ) → x < length search.levels.items
    → level_in sys search x ≡ sys.n → 1 ≤ left sys search
some_left sys search x lt unset =
    let one : none_at sys (level_in sys search x) ≡ 1 = none_is sys (level_in sys search x) unset in
    let le = get_or-le-sum_by (none_at sys) search.levels.items x sys.n lt in
    omega (arith, one, le)

-- what a read of a level tells
pub read_level : (levels : List ℕ) (x n found : ℕ) → x < length levels → found ≡ get_or levels x found
    → found ≡ get_or levels x n
read_level levels x n found lt read = read ∙ get_or_default levels x found n lt

pub read_unset : (sys : System) (search : Search) (level x found : ℕ) → IsSound sys level search → x < sys.n
    → found ≡ get_or search.levels.items x found → found ≡ sys.n → level_in sys search x ≡ sys.n
read_unset sys search level x found sound lt read is =
    sym (read_level search.levels.items x sys.n found (subst (λ k. x < k) (sym sound.count) lt) read) ∙ is

module _ (sys : System) (old new : Search) (level x : ℕ) (sound : IsSound sys level old) (lt : x < sys.n)
    (low : level < sys.n) (unset : level_in sys old x ≡ sys.n)
    (levels : new.levels.items ≡ set old.levels.items x level)
    (found : new.found.items ≡ old.found.items ++ x ∷ []) where
  inside : x < length old.levels.items
  inside = subst (λ k. x < k) (sym sound.count) lt

  here : level_in sys new x ≡ level
  here = ap (λ l. get_or l x sys.n) levels ∙ get_or-set_same old.levels.items x level sys.n inside

  there : (y : ℕ) → y ≢ x → level_in sys new y ≡ level_in sys old y
  there y other = ap (λ l. get_or l y sys.n) levels ∙ get_or-set_other old.levels.items x y level sys.n other

  unlike : (y : ℕ) → Has sys old y → y ≢ x
  unlike y has same =
      let e : level_in sys old y ≡ sys.n = ap (level_in sys old) same ∙ unset in
      omega (arith, e, has)

  itself : Contains new.found.items x
  itself = subst (λ l. Contains l x) (sym found) (Contains-push old.found.items x)

  waits : (y : ℕ) → Contains old.found.items y → Contains new.found.items y
  waits y w = subst (λ l. Contains l y) (sym found) (Contains-append_left old.found.items (x ∷ []) y w)

  -- what holds of the new item, and of the others as before, holds of each
  each : (P : ℕ → ℕ → Type 0) (y : ℕ) → P x level → (y ≢ x → P y (level_in sys old y)) → P y (level_in sys new y)
  each P y first rest =
      ⊎_elim
      (λ same. subst (λ z. P z (level_in sys new z)) (sym same) (subst (P x) (sym here) first))
      (λ other. subst (P y) (sym (there y other)) (rest other))
      (cases_eq y x)

  pub sound_after : IsDerivedAt sys x level → IsSound sys level new
  sound_after due = record {
    count = ap length levels ∙ (length-set old.levels.items x level ∙ sound.count);
    most = λ y. each (λ z l. l ≤ sys.n) y (omega (arith, low)) (λ other. sound.most y);
    up_to = λ y. each (λ z l. l < sys.n → l ≤ level) y (λ has. omega arith) (λ other has. sound.up_to y has);
    last = λ y. each (λ z l. l < sys.n → l ≡ level → Contains new.found.items z) y (λ has is. itself)
        (λ other has is. waits y (sound.last y has is));
    found = subst (λ l. All (λ y. (y < sys.n) × (level_in sys new y ≡ level)) l) (sym found)
        (All-push (λ y. (y < sys.n) × (level_in sys new y ≡ level)) old.found.items x
        (All-weaker (λ y. (y < sys.n) × (level_in sys old y ≡ level)) (λ y. (y < sys.n) × (level_in sys new y ≡ level))
        (λ y is. (is.0, there y (unlike y (subst (λ k. k < sys.n) (sym is.1) low)) ∙ is.1)) old.found.items sound.found)
        (lt, here));
    derived = λ y. each (λ z l. l < sys.n → IsDerivedAt sys z l) y (λ has. due) (λ other has. sound.derived y has);
  }

  pub grows_after : Grows sys old new
  grows_after = record {
    keeps = λ y has. there y (unlike y has);
    lower = λ y. each (λ z l. l ≤ level_in sys old z) y (let e : level_in sys old x ≡ sys.n = unset in omega (arith, e, low))
        (λ other. omega arith);
    waits = waits;
    fresh = λ y has. ⊎_elim (λ same. inr (subst (Contains new.found.items) (sym same) itself))
        (λ other. inl (subst (λ k. k < sys.n) (there y other) has)) (cases_eq y x);
    left =
        let f : ℕ → ℕ = none_at sys in
        let moved : sum_by f (set old.levels.items x level) + f (get_or old.levels.items x sys.n)
        ≡ sum_by f old.levels.items + f level = sum_by-set f old.levels.items x level sys.n inside in
        let sums : sum_by f new.levels.items ≡ sum_by f (set old.levels.items x level) = ap (sum_by f) levels in
        let was : f (get_or old.levels.items x sys.n) ≡ 1 = none_is sys (get_or old.levels.items x sys.n) unset in
        let is : f level ≡ 0 = none_not sys level (λ e. omega (arith, e, low)) in
        let longer : length new.found.items ≡ length old.found.items + 1 = ap length found
        ∙ length_push old.found.items x in
        omega (arith, moved, sums, was, is, longer);
  }

  pub near_after : level_in sys new x ≤ level
  near_after = let e = here in omega (arith, e)
