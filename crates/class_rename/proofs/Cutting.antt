-- Locals that end in no Top, and frames one after the other.
use Rattle.std.proofs.Common.{◌≡◌, ℕ, zero, suc, ◌-◌, ◌≤◌, false, List, [], ◌∷◌, ◌++◌, length, map}
use Rattle.std.proofs.Common.{take, drop, slice_get, Some, refl, ap, ◌∙◌, arith}
use Rattle.std.proofs.lemmas.Option.{same_Some}
use Rattle.std.proofs.lemmas.List.{length-map}
use Rattle.class_model.specs.Frames.{before_cut, cut_tops, is_top}
use Rattle.class_model.specs.declared.frame.FrameAt.{FrameAt}
use Rattle.class_model.specs.declared.frame.VType.{VType}
use Rattle.class_model.specs.declared.frame.VType.TheVariants as vtype
use Rattle.class_rename.specs.Names.{Names}
use Rattle.class_rename.specs.Renamed.{renamed_frame, renamed_vtype}
use Rattle.class_rename.specs.bodies.Cut.{IsCut}

before_kept : (ty : VType) (rest : List VType) → is_top ty ≡ false → before_cut ty rest ≡ ty ∷ rest
before_kept vtype.Top rest is = absurd cc
before_kept vtype.Int rest is = refl
before_kept vtype.Long rest is = refl
before_kept vtype.Null rest is = refl
before_kept vtype.UninitThis rest is = refl
before_kept (vtype.Object ty) rest is = refl
before_kept (vtype.Uninit n) rest is = refl

before_more : (ty next : VType) (rest : List VType) → before_cut ty (next ∷ rest) ≡ ty ∷ next ∷ rest
before_more vtype.Top next rest = refl
before_more vtype.Int next rest = refl
before_more vtype.Long next rest = refl
before_more vtype.Null next rest = refl
before_more vtype.UninitThis next rest = refl
before_more (vtype.Object ty) next rest = refl
before_more (vtype.Uninit n) next rest = refl

-- a list whose last type is no Top ends in none
pub cut_whole : (types : List VType) (n : ℕ) (last : VType) → length types ≡ suc n
    → slice_get (drop n types) 0 ≡ Some last
    → is_top last ≡ false → cut_tops types ≡ types
cut_whole [] n last count at is = absurd (omega (arith, count))
cut_whole (ty ∷ []) zero last count at is =
    before_kept ty [] (ap is_top (same_Some ty last at) ∙ is)
cut_whole (ty ∷ []) (suc n) last count at is = absurd (omega (arith, count))
cut_whole (ty ∷ next ∷ types) zero last count at is = absurd (omega (arith, count))
cut_whole (ty ∷ next ∷ types) (suc n) last count at is =
    ap (before_cut ty) (cut_whole (next ∷ types) n last (omega (arith, count)) at is) ∙ before_more ty next types

pub cut_empty : (types : List VType) → length types ≡ 0 → cut_tops types ≡ types
cut_empty [] is = refl
cut_empty (ty ∷ types) is = absurd (omega (arith, is))

module _ (names : Names) where
  -- a Top stays one under new names, and nothing else becomes one
  before_renamed : (ty : VType) (rest : List VType)
      → before_cut (renamed_vtype names ty) (map (renamed_vtype names) rest)
      ≡ map (renamed_vtype names) (before_cut ty rest)
  before_renamed vtype.Top [] = refl
  before_renamed vtype.Top (next ∷ rest) = refl
  before_renamed vtype.Int rest = refl
  before_renamed vtype.Long rest = refl
  before_renamed vtype.Null rest = refl
  before_renamed vtype.UninitThis rest = refl
  before_renamed (vtype.Object ty) rest = refl
  before_renamed (vtype.Uninit n) rest = refl

  pub cut_renamed : (types : List VType)
      → cut_tops (map (renamed_vtype names) types) ≡ map (renamed_vtype names) (cut_tops types)
  cut_renamed [] = refl
  cut_renamed (ty ∷ types) =
      ap (before_cut (renamed_vtype names ty)) (cut_renamed types) ∙ before_renamed ty (cut_tops types)

whole : {A B : Type 0} (f : A → B) (xs : List A) (k : ℕ) → map f (take k xs) ++ map f (drop k xs) ≡ map f xs
whole f [] zero = refl
whole f [] (suc k) = refl
whole f (x ∷ xs) zero = refl
whole f (x ∷ xs) (suc k) = ap (λ l. f x ∷ l) (whole f xs k)

-- lists that agree in a front: that front of one, and the rest of the other
pub goes_on : {A B : Type 0} (f : A → B) (before now : List A) (k : ℕ) → take k before ≡ take k now
    → map f (take k before) ++ map f (drop k now) ≡ map f now
goes_on f before now k same = ap (λ l. map f l ++ map f (drop k now)) same ∙ whole f now k

-- a front of a mapped list
pub front_mapped : {A B : Type 0} (f : A → B) (xs : List A) (k : ℕ) → take k (map f xs) ≡ map f (take k xs)
front_mapped f [] zero = refl
front_mapped f [] (suc k) = refl
front_mapped f (x ∷ xs) zero = refl
front_mapped f (x ∷ xs) (suc k) = ap (λ l. f x ∷ l) (front_mapped f xs k)

-- a frame with new names
pub frame_is : (names : Names) (f : FrameAt) (index : ℕ) (locals stack : List VType) → index ≡ f.index
    → locals ≡ map (renamed_vtype names) f.frame.locals → IsCut f → stack ≡ map (renamed_vtype names) f.frame.stack
    → record { index = index; frame = record { locals = cut_tops locals; stack = stack } } ≡ renamed_frame names f
frame_is names f index locals stack same are cut and =
    let whole = ap cut_tops are ∙ cut_renamed names f.frame.locals ∙ ap (map (renamed_vtype names)) cut in
    λ i. record { index = same i; frame = record { locals = whole i; stack = and i } }

-- what is left of the locals before, and the others
pub locals_are : (names : Names) (before now built more : List VType) (len shared : ℕ)
    → built ≡ map (renamed_vtype names) before → shared ≤ length before → take shared before ≡ take shared now
    → more ≡ map (renamed_vtype names) (drop shared now) → len ≡ length built
    → take (length built - (len - shared)) built ++ more ≡ map (renamed_vtype names) now
locals_are names before now built more len shared is few same rest count =
    let long : length built ≡ length before = ap length is ∙ length-map before (renamed_vtype names) in
    let kept : length built - (len - shared) ≡ shared = omega (arith, long, few, count) in
    (λ i. take (kept i) (is i) ++ rest i)
    ∙ ap (λ l. l ++ map (renamed_vtype names) (drop shared now)) (front_mapped (renamed_vtype names) before shared)
    ∙ goes_on (renamed_vtype names) before now shared same
