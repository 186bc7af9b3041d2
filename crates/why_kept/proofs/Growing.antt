-- What stays while the search grows.
use Rattle.std.proofs.Common.{◌≡◌, ◌+◌, ◌<◌, ◌≤◌, ℕ, List, inl, inr, ⊎_elim, ◌∙◌, refl, sym, subst, arith}
use Rattle.std.proofs.lemmas.List.Elements.{All-contains, All-weaker}
use Rattle.mark_core.specs.declared.system.Pair.{Pair}
use Rattle.mark_core.specs.declared.system.System.{System}
use Rattle.why_kept.specs.declared.search.Search.{Search}
use Rattle.why_kept.specs.bodies.Searching.{AreNear, ArePresent, Grows, Has, IsNearBy, IsNext, IsSound, level_in}

module _ (sys : System) where
  pub has_in : (one other : Search) (x : ℕ) → level_in sys other x ≡ level_in sys one x → Has sys one x → Has sys other x
  has_in one other x same has = subst (λ k. k < sys.n) (sym same) has

  pub grows_refl : (search : Search) → Grows sys search search
  grows_refl search = record {
    keeps = λ x has. refl;
    lower = λ x. omega arith;
    waits = λ x w. w;
    fresh = λ x has. inl has;
    left = refl;
  }

  pub grows_trans : (a b c : Search) → Grows sys a b → Grows sys b c → Grows sys a c
  grows_trans a b c first then = record {
    keeps = λ x has. then.keeps x (has_in a b x (first.keeps x has) has) ∙ first.keeps x has;
    lower = λ x. (let one = first.lower x in let two = then.lower x in omega (arith, one, two));
    waits = λ x w. then.waits x (first.waits x w);
    fresh = λ x has. ⊎_elim (λ mid. ⊎_elim inl (λ w. inr (then.waits x w)) (first.fresh x mid)) inr (then.fresh x has);
    left = then.left ∙ first.left;
  }

  pub near_grows : (old new : Search) (level : ℕ) (xs : List ℕ) → Grows sys old new → AreNear sys old level xs
      → AreNear sys new level xs
  near_grows old new level xs grows near =
      All-weaker (λ x. level_in sys old x ≤ level) (λ x. level_in sys new x ≤ level)
      (λ x le. let lower = grows.lower x in omega (arith, lower, le)) xs near

  -- an item below the present level had its level before
  pub had_before : (old new : Search) (level x : ℕ) → Grows sys old new → IsSound sys level new → level ≤ sys.n
      → level_in sys new x < level → Has sys old x
  had_before old new level x grows sound le lt =
      let has : Has sys new x = omega (arith, lt, le) in
      ⊎_elim (λ had. had)
      (λ w. let is = (All-contains (λ y. (y < sys.n) × (level_in sys new y ≡ level)) new.found.items x sound.found w).1 in
      absurd (omega (arith, is, lt)))
      (grows.fresh x has)

  pub near_by_grows : (old new : Search) (level : ℕ) (pair : Pair) → Grows sys old new → IsSound sys level new
      → level ≤ sys.n → IsNearBy sys old level pair → IsNearBy sys new level pair
  near_by_grows old new level pair grows sound le near one two =
      let was_one : level_in sys old pair.one < level =
      subst (λ k. k < level) (grows.keeps pair.one (had_before old new level pair.one grows sound le one)) one in
      let was_two : level_in sys old pair.two < level =
      subst (λ k. k < level) (grows.keeps pair.two (had_before old new level pair.two grows sound le two)) two in
      let derived : level_in sys old pair.derived ≤ level = near was_one was_two in
      let lower = grows.lower pair.derived in
      omega (arith, lower, derived)

  stays_next : (old new : Search) (level x : ℕ) → Grows sys old new → level ≤ sys.n → level_in sys old x + 1 ≡ level
      → level_in sys new x + 1 ≡ level
  stays_next old new level x grows le is =
      let has : Has sys old x = omega (arith, is, le) in
      let same = grows.keeps x has in
      omega (arith, same, is)

  pub next_grows : (old new : Search) (level : ℕ) (pair : Pair) → Grows sys old new → level ≤ sys.n
      → IsNext sys old level pair → IsNext sys new level pair
  next_grows old new level pair grows le next =
      ⊎_elim (λ one. inl (stays_next old new level pair.one grows le one))
      (λ two. inr (stays_next old new level pair.two grows le two)) next

  pub present_grows : (old new : Search) (level : ℕ) (xs : List ℕ) → Grows sys old new → level ≤ sys.n
      → ArePresent sys level xs old → ArePresent sys level xs new
  present_grows old new level xs grows le present =
      All-weaker (λ x. (x < sys.n) × (level_in sys old x + 1 ≡ level))
      (λ x. (x < sys.n) × (level_in sys new x + 1 ≡ level))
      (λ x is. (is.0, stays_next old new level x grows le is.1)) xs present
