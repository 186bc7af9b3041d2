-- The types of a frame that is carried.
use Rattle.std.proofs.Common.{◌≡◌, ◌≤◌, ℕ, ◌+◌, Bool, true, false, cond, List, [], ◌∷◌, ◌++◌, map, refl, ap, arith}
use Rattle.std.specs.List.{AllByRecursion}
use Rattle.std.proofs.lemmas.List.Sums.{sum_by-append, sum_by-cons}
use Rattle.jv_base.proofs.Lists.{all_append}
use Rattle.class_model.specs.Frames.{before_cut, cut_tops, words_of_type, words_of_types}
use Rattle.class_model.specs.declared.frame.VType.{VType}
use Rattle.class_model.specs.declared.frame.VType.TheVariants as vtype
use Rattle.frame_rebuild.specs.Carried.{moved_local, moved_locals, moved_type, tops}

-- ---- Tops at the end

module _ (P : VType → Type 0) where
  before_has : (ty : VType) (tys : List VType) → P ty → AllByRecursion P tys → AllByRecursion P (before_cut ty tys)
  before_has vtype.Top [] h k = tt
  before_has vtype.Top (t ∷ tys) h k = (h, k)
  before_has vtype.Int tys h k = (h, k)
  before_has vtype.Long tys h k = (h, k)
  before_has vtype.Null tys h k = (h, k)
  before_has vtype.UninitThis tys h k = (h, k)
  before_has (vtype.Object ty) tys h k = (h, k)
  before_has (vtype.Uninit n) tys h k = (h, k)

  pub cut_has : (tys : List VType) → AllByRecursion P tys → AllByRecursion P (cut_tops tys)
  cut_has [] h = tt
  cut_has (ty ∷ tys) h = before_has ty (cut_tops tys) h.0 (cut_has tys h.1)

before_words : (ty : VType) (tys : List VType) → words_of_types (before_cut ty tys) ≤ words_of_types (ty ∷ tys)
before_words vtype.Top [] = omega arith
before_words vtype.Top (t ∷ tys) = omega arith
before_words vtype.Int tys = omega arith
before_words vtype.Long tys = omega arith
before_words vtype.Null tys = omega arith
before_words vtype.UninitThis tys = omega arith
before_words (vtype.Object ty) tys = omega arith
before_words (vtype.Uninit n) tys = omega arith

-- cutting takes no words more
pub cut_words : (tys : List VType) → words_of_types (cut_tops tys) ≤ words_of_types tys
cut_words [] = omega arith
cut_words (ty ∷ tys) =
    let here = before_words ty (cut_tops tys) in
    let cut = sum_by-cons words_of_type ty (cut_tops tys) in
    let whole = sum_by-cons words_of_type ty tys in
    let rest = cut_words tys in
    omega (arith, here, cut, whole, rest)

before_twice : (ty : VType) (tys : List VType) → cut_tops tys ≡ tys
    → cut_tops (before_cut ty tys) ≡ before_cut ty tys
before_twice vtype.Top [] e = refl
before_twice vtype.Top (t ∷ tys) e = ap (before_cut vtype.Top) e
before_twice vtype.Int tys e = ap (before_cut vtype.Int) e
before_twice vtype.Long tys e = ap (before_cut vtype.Long) e
before_twice vtype.Null tys e = ap (before_cut vtype.Null) e
before_twice vtype.UninitThis tys e = ap (before_cut vtype.UninitThis) e
before_twice (vtype.Object ty) tys e = ap (before_cut (vtype.Object ty)) e
before_twice (vtype.Uninit n) tys e = ap (before_cut (vtype.Uninit n)) e

-- what was cut has no Tops at its end
pub cut_twice : (tys : List VType) → cut_tops (cut_tops tys) ≡ cut_tops tys
cut_twice [] = refl
cut_twice (ty ∷ tys) = before_twice ty (cut_tops tys) (cut_twice tys)

-- ---- types at their new places

module _ (lives : ℕ → Bool) where
  type_words : (ty : VType) → words_of_type (moved_type lives ty) ≡ words_of_type ty
  type_words (vtype.Uninit k) = by (lives k) _
    where
      by : (b : Bool) (n : ℕ) → words_of_type (cond b (vtype.Uninit n) vtype.Top) ≡ 1
      by true n = refl
      by false n = refl
  type_words vtype.Top = refl
  type_words vtype.Int = refl
  type_words vtype.Long = refl
  type_words vtype.Null = refl
  type_words vtype.UninitThis = refl
  type_words (vtype.Object ty) = refl

  pub stack_words : (tys : List VType) → words_of_types (map (moved_type lives) tys) ≡ words_of_types tys
  stack_words [] = refl
  stack_words (ty ∷ tys) =
      let moved = sum_by-cons words_of_type (moved_type lives ty) (map (moved_type lives) tys) in
      let own = sum_by-cons words_of_type ty tys in
      let here = type_words ty in
      let rest = stack_words tys in
      omega (arith, moved, own, here, rest)

  module _ (cut : ℕ → Bool) where
    tops_words : (ty : VType) → words_of_types (tops ty) ≡ words_of_type ty
    tops_words vtype.Long = refl
    tops_words vtype.Top = refl
    tops_words vtype.Int = refl
    tops_words vtype.Null = refl
    tops_words vtype.UninitThis = refl
    tops_words (vtype.Object ty) = refl
    tops_words (vtype.Uninit k) = refl

    local_words : (slot : ℕ) (ty : VType) → words_of_types (moved_local lives cut slot ty) ≡ words_of_type ty
    local_words slot ty = by (cut slot)
      where
        one : words_of_types (moved_type lives ty ∷ []) ≡ words_of_type ty
        one =
            let sum = sum_by-cons words_of_type (moved_type lives ty) [] in
            let here = type_words ty in
            omega (arith, sum, here)

        by : (b : Bool) → words_of_types (cond b (tops ty) (moved_type lives ty ∷ [])) ≡ words_of_type ty
        by true = tops_words ty
        by false = one

    pub locals_words : (slot : ℕ) (tys : List VType)
        → words_of_types (moved_locals lives cut slot tys) ≡ words_of_types tys
    unfolding moved_locals
    locals_words slot [] = refl
    locals_words slot (ty ∷ tys) =
        let rest = moved_locals lives cut (slot + words_of_type ty) tys in
        let sum : words_of_types (moved_local lives cut slot ty ++ rest)
        ≡ words_of_types (moved_local lives cut slot ty) + words_of_types rest =
        sum_by-append words_of_type (moved_local lives cut slot ty) rest in
        let own = sum_by-cons words_of_type ty tys in
        let here = local_words slot ty in
        let others = locals_words (slot + words_of_type ty) tys in
        omega (arith, sum, own, here, others)

    -- What holds of Top, and of each type at its new place.
    module _ (Own New : VType → Type 0) (top : New vtype.Top)
        (moves : (ty : VType) → Own ty → New (moved_type lives ty)) where
      pub stack_has : (tys : List VType) → AllByRecursion Own tys → AllByRecursion New (map (moved_type lives) tys)
      stack_has [] h = tt
      stack_has (ty ∷ tys) h = (moves ty h.0, stack_has tys h.1)

      tops_have : (ty : VType) → AllByRecursion New (tops ty)
      tops_have vtype.Long = (top, (top, tt))
      tops_have vtype.Top = (top, tt)
      tops_have vtype.Int = (top, tt)
      tops_have vtype.Null = (top, tt)
      tops_have vtype.UninitThis = (top, tt)
      tops_have (vtype.Object ty) = (top, tt)
      tops_have (vtype.Uninit k) = (top, tt)

      pub locals_have : (slot : ℕ) (tys : List VType) → AllByRecursion Own tys
          → AllByRecursion New (moved_locals lives cut slot tys)
      unfolding moved_locals
      locals_have slot [] h = tt
      locals_have slot (ty ∷ tys) h =
          all_append New (moved_local lives cut slot ty) (moved_locals lives cut (slot + words_of_type ty) tys)
          (by (cut slot)) (locals_have (slot + words_of_type ty) tys h.1)
        where
          by : (b : Bool) → AllByRecursion New (cond b (tops ty) (moved_type lives ty ∷ []))
          by true = tops_have ty
          by false = (moves ty h.0, tt)
