-- Frames that are carried ascend and stand at instructions.
use Rattle.std.proofs.Common.{◌≡◌, ◌<◌, ◌≤◌, ℕ, not, ◌&&◌, Bool, true, false, cond, List, [], ◌∷◌}
use Rattle.std.proofs.Common.{refl, sym, ◌∙◌, arith}
use Rattle.std.specs.Prelude.{AllPairs, ◌==◌}
use Rattle.std.specs.List.{AllByRecursion}
use Rattle.std.proofs.lemmas.Bool.{eqb-false}
use Rattle.class_laws.proofs.FormedPlaces.{pairs_more}
use Rattle.class_model.specs.WellFormed.{Ascend}
use Rattle.class_model.specs.declared.frame.FrameAt.{FrameAt}
use Rattle.code_edit.specs.Rewriting.{place}
use Rattle.edit_premises.proofs.Places.{place_le}
use Rattle.frame_rebuild.specs.Carried.{carried, counts, is_carried, moved_frame, next_place}
use Rattle.rebuild_laws.proofs.Ordered.{pairs_of}

module _ (lives is_led cut : ℕ → Bool) (end : ℕ) where
  -- where frames go that come to stand at the end or before it
  abbrev Before : FrameAt → Type 0
  Before f = place lives f.index ≤ end

  -- the next place is the end or before it, and behind all frames before these
  next_le : (n : ℕ) (fs : List FrameAt) → n ≤ end
      → AllByRecursion (λ (f : FrameAt). n ≤ place lives f.index) fs → n ≤ next_place lives is_led end fs
  unfolding next_place
  next_le n [] le h = le
  next_le n (f ∷ fs) le h = by (counts lives is_led f) (next_le n fs le h.1)
    where
      by : (b : Bool) → n ≤ next_place lives is_led end fs
          → n ≤ cond b (place lives f.index) (next_place lives is_led end fs)
      by true r = h.0
      by false r = r

  next_end : (fs : List FrameAt) → AllByRecursion Before fs → next_place lives is_led end fs ≤ end
  unfolding next_place
  next_end [] h = omega arith
  next_end (f ∷ fs) h = by (counts lives is_led f) (next_end fs h.1)
    where
      by : (b : Bool) → next_place lives is_led end fs ≤ end
          → cond b (place lives f.index) (next_place lives is_led end fs) ≤ end
      by true r = h.0
      by false r = r

  behind : (f : FrameAt) (fs : List FrameAt) → AllByRecursion (Ascend f) fs
      → AllByRecursion (λ (g : FrameAt). place lives f.index ≤ place lives g.index) fs
  behind f [] up = tt
  behind f (g ∷ fs) up = (place_le lives f.index g.index (let h = up.0 in omega (arith, h)), behind f fs up.1)

  -- a frame that is carried goes before the next place
  goes_before : (f : FrameAt) (fs : List FrameAt) → AllByRecursion (Ascend f) fs → Before f
      → is_carried lives is_led end f fs ≡ true → place lives f.index < next_place lives is_led end fs
  goes_before f fs up le e =
      let apart : (place lives f.index == next_place lives is_led end fs) ≡ false =
      un_not _ (second (counts lives is_led f) _ e) in
      let other : place lives f.index ≡ next_place lives is_led end fs → ⊥ =
      eqb-false (place lives f.index) (next_place lives is_led end fs) apart in
      let most = next_le (place lives f.index) fs le (behind f fs up) in
      omega (arith, other, most)
    where
      second : (a b : Bool) → (a && b) ≡ true → b ≡ true
      second true b q = q
      second false b q = absurd cc

      un_not : (b : Bool) → not b ≡ true → b ≡ false
      un_not true q = absurd cc
      un_not false q = refl

  -- what is carried stands at the next place or behind it
  carried_behind : (n : ℕ) (fs : List FrameAt) → AllPairs Ascend fs → AllByRecursion Before fs
      → n < next_place lives is_led end fs
      → AllByRecursion (λ (f : FrameAt). n < f.index) (carried lives is_led cut end fs)
  unfolding carried next_place
  carried_behind n [] rise h lt = tt
  carried_behind n (f ∷ fs) rise h lt =
      let p = pairs_of Ascend f fs rise in
      by (is_carried lives is_led end f fs) refl (counts lives is_led f) refl p.0
      (carried_behind n fs p.1 h.1) lt
    where
      low : (c : Bool) → n < cond c (place lives f.index) (next_place lives is_led end fs)
          → AllByRecursion (Ascend f) fs → n < next_place lives is_led end fs
      low true l up =
          let le = next_le (place lives f.index) fs h.0 (behind f fs up) in omega (arith, l, le)
      low false l up = l

      first : (a b : Bool) → (a && b) ≡ true → a ≡ true
      first true b q = refl
      first false b q = absurd cc

      by : (b : Bool) → is_carried lives is_led end f fs ≡ b → (c : Bool) → counts lives is_led f ≡ c
          → AllByRecursion (Ascend f) fs
          → (n < next_place lives is_led end fs
          → AllByRecursion (λ (g : FrameAt). n < g.index) (carried lives is_led cut end fs))
          → n < cond c (place lives f.index) (next_place lives is_led end fs)
          → AllByRecursion (λ (g : FrameAt). n < g.index)
          (cond b (moved_frame lives cut f ∷ carried lives is_led cut end fs) (carried lives is_led cut end fs))
      by true e true s up rest l = (l, rest (low true l up))
      by true e false s up rest l =
          absurd (let t : false ≡ true = sym s ∙ first (counts lives is_led f) _ e in cc)
      by false e c s up rest l = rest (low c l up)

  pub carried_ascend : (fs : List FrameAt) → AllPairs Ascend fs → AllByRecursion Before fs
      → AllPairs Ascend (carried lives is_led cut end fs)
  unfolding carried
  carried_ascend [] rise h = rise
  carried_ascend (f ∷ fs) rise h =
      let p = pairs_of Ascend f fs rise in
      by (is_carried lives is_led end f fs) refl p.0 p.1 (carried_ascend fs p.1 h.1)
    where
      by : (b : Bool) → is_carried lives is_led end f fs ≡ b → AllByRecursion (Ascend f) fs → AllPairs Ascend fs
          → AllPairs Ascend (carried lives is_led cut end fs)
          → AllPairs Ascend
          (cond b (moved_frame lives cut f ∷ carried lives is_led cut end fs) (carried lives is_led cut end fs))
      by true e up rest r =
          pairs_more Ascend (moved_frame lives cut f) (carried lives is_led cut end fs)
          (carried_behind (place lives f.index) fs rest h.1 (goes_before f fs up h.0 e)) r
      by false e up rest r = r

  -- What holds of each frame that comes to stand before the end.
  module _ (Own New : FrameAt → Type 0)
      (moves : (f : FrameAt) → Own f → place lives f.index < end → New (moved_frame lives cut f)) where
    pub carried_has : (fs : List FrameAt) → AllPairs Ascend fs → AllByRecursion Before fs → AllByRecursion Own fs
        → AllByRecursion New (carried lives is_led cut end fs)
    unfolding carried
    carried_has [] rise h own = tt
    carried_has (f ∷ fs) rise h own =
        let p = pairs_of Ascend f fs rise in
        by (is_carried lives is_led end f fs) refl p.0 (carried_has fs p.1 h.1 own.1)
      where
        by : (b : Bool) → is_carried lives is_led end f fs ≡ b → AllByRecursion (Ascend f) fs
            → AllByRecursion New (carried lives is_led cut end fs)
            → AllByRecursion New
            (cond b (moved_frame lives cut f ∷ carried lives is_led cut end fs) (carried lives is_led cut end fs))
        by true e up r =
            let before = goes_before f fs up h.0 e in
            let least = next_end fs h.1 in
            (moves f own.0 (omega (arith, before, least)), r)
        by false e up r = r
