-- What is told of a key as its changes grow.
use Rattle.std.proofs.Common.{◌≡◌, ◌⊎◌, inl, inr, ◌≤◌, ◌<◌, ◌+◌, ◌-◌, ℕ, Bool, true, false, List, [], ◌∷◌}
use Rattle.std.proofs.Common.{◌++◌, ◌∙◌, length, get_or, take, drop, refl, sym, ap, subst, arith}
use Rattle.std.specs.Prelude.{◌&&◌, nat_le, if◌then◌else◌}
use Rattle.std.specs.List.{All}
use Rattle.std.specs.List.Sorted.{IsNonDecreasingBy}
use Rattle.std.proofs.lemmas.Bool.{le-leb}
use Rattle.std.proofs.lemmas.Bool.Decides.{leb_tells}
use Rattle.std.proofs.lemmas.List.{get_or-drop, get_or-take, get_or_default, length-drop, length-take, take-append-drop}
use Rattle.std.proofs.lemmas.List.{take_more}
use Rattle.std.proofs.lemmas.List.Elements.{All-head, All-tail}
use Rattle.tree_notes.specs.bodies.Times.{IsPlace, IsUpTo, is_in, told, told_at}
use Rattle.tree_notes.specs.declared.nearest.Change.{Change}
use Rattle.tree_notes.specs.declared.nearest.Up.{Up}
use Rattle.tree_notes.specs.declared.nearest.Up.TheVariants.{Above}
use Rattle.tree_notes.specs.declared.nearest.Visit.{Visit}

not_le : (a b : ℕ) → b < a → nat_le a b ≡ false
not_le a b less = by (leb_tells a b)
  where
    by : ((nat_le a b ≡ true) × (a ≤ b)) ⊎ ((nat_le a b ≡ false) × (b < a)) → nat_le a b ≡ false
    by (inl q) = absurd (omega (arith, q.1, less))
    by (inr q) = q.0

both_or : (a b : Bool) → b ≡ false → (a && b) ≡ false
both_or true b e = e
both_or false b e = refl

-- a change that comes later isn't told
pub too_late : (v : Visit) (c : Change) → v.time < c.time → is_in v c ≡ false
too_late v c late = both_or (nat_le v.start c.time) (nat_le c.time v.time) (not_le c.time v.time late)

-- nor is one of an earlier tree
pub too_early : (v : Visit) (c : Change) → c.time < v.start → is_in v c ≡ false
too_early v c early = ap (λ b. b && nat_le c.time v.time) (not_le v.start c.time early)

pub in_time : (v : Visit) (c : Change) → v.start ≤ c.time → c.time ≤ v.time → is_in v c ≡ true
in_time v c begun now =
    ap (λ b. b && nat_le c.time v.time) (le-leb v.start c.time begun) ∙ le-leb c.time v.time now

pub told_append : (v : Visit) (up : Up) (xs ys : List Change) → told v up (xs ++ ys) ≡ told v (told v up xs) ys
told_append v up [] ys = refl
told_append v up (x ∷ xs) ys = told_append v (if is_in v x then x.up else up) xs ys

-- one more change
pub told_push : (v : Visit) (up : Up) (cs : List Change) (c : Change)
    → told v up (cs ++ c ∷ []) ≡ (if is_in v c then c.up else told v up cs)
told_push v up cs c = told_append v up cs (c ∷ [])

pub told_later : (v : Visit) (up : Up) (cs : List Change) (c : Change) → v.time < c.time
    → told v up (cs ++ c ∷ []) ≡ told v up cs
told_later v up cs c late =
    told_push v up cs c ∙ ap (λ b. if b then c.up else told v up cs) (too_late v c late)

pub told_now : (v : Visit) (up : Up) (cs : List Change) (c : Change) → v.start ≤ c.time → c.time ≤ v.time
    → told v up (cs ++ c ∷ []) ≡ c.up
told_now v up cs c begun now =
    told_push v up cs c ∙ ap (λ b. if b then c.up else told v up cs) (in_time v c begun now)

-- where no change is told
pub none_told : (v : Visit) (up : Up) (cs : List Change) → All (λ (c : Change). is_in v c ≡ false) cs
    → told v up cs ≡ up
none_told v up [] none = refl
none_told v up (c ∷ cs) none =
    ap (λ b. told v (if b then c.up else up) cs) (All-head (λ (c : Change). is_in v c ≡ false) c cs none)
    ∙ none_told v up cs (All-tail (λ (c : Change). is_in v c ≡ false) c cs none)

-- nothing of what is told changes when time goes on
pub told_on : (v w : Visit) (up : Up) (cs : List Change) → v.start ≡ w.start → IsUpTo v.time cs → v.time ≤ w.time
    → told v up cs ≡ told w up cs
told_on v w up [] same early later = refl
told_on v w up (c ∷ cs) same early later =
    ap (λ b. told v (if b then c.up else up) cs) (by (All-head (λ (c : Change). c.time ≤ v.time) c cs early))
    ∙ told_on v w (if is_in w c then c.up else up) cs same
    (All-tail (λ (c : Change). c.time ≤ v.time) c cs early) later
  where
    by : c.time ≤ v.time → is_in v c ≡ is_in w c
    by now =
        ap (λ s. nat_le s c.time && nat_le c.time v.time) same
        ∙ ap (λ b. nat_le w.start c.time && b) (le-leb c.time v.time now ∙ sym (le-leb c.time w.time (omega
        (arith, now, later))))

-- ---- what is found by one search

module _ (v : Visit) (cs : List Change) (place : ℕ) (at : IsPlace cs v.time place) where
  -- nothing that is told changes behind the place
  none_behind : (up : Up) → told v up (drop place cs) ≡ up
  none_behind up = none_told v up (drop place cs)
      (λ k d within. subst (λ (c : Change). is_in v c ≡ false) (sym (get_or-drop place cs k d))
      (too_late v (get_or cs (place + k) d)
      (at.behind (place + k) d (omega arith) (let left = length-drop place cs in omega (arith, within, left)))))

  front : (up : Up) → told v up cs ≡ told v up (take place cs)
  front up = ap (told v up) (sym (take-append-drop place cs)) ∙ told_append v up (take place cs) (drop place cs)
      ∙ none_behind (told v up (take place cs))

  pub none_found : place ≡ 0 → told_at v cs ≡ Above v.top
  none_found none = front (Above v.top) ∙ ap (λ (n : ℕ). told v (Above v.top) (take n cs)) none

  module _ (d : Change) (some : place ≡ 0 → ⊥) where
    abbrev last : Change
    last = get_or cs (place - 1) d

    there : place - 1 < length cs
    there = let within = at.within in omega (arith, within, some)

    is : last ≡ get_or cs (place - 1) last
    is = get_or_default cs (place - 1) d last there

    ends : take place cs ≡ take (place - 1) cs ++ last ∷ []
    ends =
        let one_more : place ≡ (place - 1) + 1 = omega (arith, some) in
        ap (λ (n : ℕ). take n cs) one_more ∙ take_more cs (place - 1) last there
        ∙ ap (λ w. take (place - 1) cs ++ w ∷ []) (sym is)

    now : last.time ≤ v.time
    now = subst (λ (c : Change). c.time ≤ v.time) (sym is) (at.before (place - 1) last (omega (arith, some)))

    -- the last change leads to where it is told
    pub found : v.start ≤ last.time → told_at v cs ≡ last.up
    found begun = front (Above v.top) ∙ ap (told v (Above v.top)) ends
        ∙ told_now v (Above v.top) (take (place - 1) cs) last begun now

    -- it was made in an earlier tree, as all before it
    pub found_early : IsNonDecreasingBy (λ (c : Change). c.time) cs → last.time < v.start → told_at v cs ≡ Above v.top
    found_early order early =
        front (Above v.top) ∙ ap (told v (Above v.top)) ends
        ∙ told_push v (Above v.top) (take (place - 1) cs) last
        ∙ ap (λ b. if b then last.up else told v (Above v.top) (take (place - 1) cs)) (too_early v last early)
        ∙ none_told v (Above v.top) (take (place - 1) cs) earlier
      where
        earlier : All (λ (c : Change). is_in v c ≡ false) (take (place - 1) cs)
        earlier k e within =
            let below : k < place - 1 = (let shorter = length-take (place - 1) cs in omega (arith, within, shorter)) in
            let least : (get_or cs k e).time ≤ (get_or cs (place - 1) e).time =
            order k (place - 1) e (omega (arith, below)) there in
            let same : (get_or cs (place - 1) e).time ≡ last.time =
            ap (λ (c : Change). c.time) (get_or_default cs (place - 1) e d there) in
            subst (λ (c : Change). is_in v c ≡ false) (sym (get_or-take (place - 1) cs k e below))
            (too_early v (get_or cs k e) (omega (arith, least, same, early)))
