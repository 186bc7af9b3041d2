-- Lists and options whose elements are kept or moved.
use Rattle.std.proofs.Common.{◌≡◌, Bool, true, false, cond, ◌||◌, List, [], ◌∷◌, ◌++◌, map, Option, Some, None}
use Rattle.std.proofs.Common.{refl, sym, ap, ◌∙◌}
use Rattle.std.specs.Prelude.{IfSome}
use Rattle.std.specs.List.{AllByRecursion, cons_option, filter, filter_map, find, flat_map, list_any}
use Rattle.std.specs.Option.{option_and_then, option_map, option_map_or, option_or}
use Rattle.std.proofs.lemmas.List.{map-append}
use Rattle.jv_base.proofs.Lists.{all_append}
use Rattle.class_pool.specs.Resolution.{first}
use Rattle.image_laws.specs.SetImage.Image.{if_kept}

-- ---- any lists

pub any_append : {A : Type 0} (test : A → Bool) (xs ys : List A) → list_any test xs ≡ true
    → list_any test (xs ++ ys) ≡ true
any_append test [] ys h = absurd cc
any_append test (x ∷ xs) ys h = by (test x) h (any_append test xs ys)
  where
    by : (t : Bool) → (t || list_any test xs) ≡ true → (list_any test xs ≡ true → list_any test (xs ++ ys) ≡ true)
        → (t || list_any test (xs ++ ys)) ≡ true
    by true h r = refl
    by false h r = r h

pub first_map : {A : Type 0} (f : A → A) (xs : List A) → first (map f xs) ≡ option_map f (first xs)
first_map f [] = refl
first_map f (x ∷ xs) = refl

module _ {A : Type 0} (kept : A → Bool) (moved : A → A) where
  abbrev pub AllKept : List A → Type 0
  AllKept xs = AllByRecursion (λ x. kept x ≡ true) xs

  abbrev pub SomeKept : Option A → Type 0
  SomeKept o = IfSome o (λ x. kept x ≡ true)

  -- ---- moved as a whole

  pub flat_kept : (f : A → List A) (xs : List A) → AllKept xs → ((y : A) → kept y ≡ true → AllKept (f y))
      → AllKept (flat_map f xs)
  flat_kept f [] h each = tt
  flat_kept f (x ∷ xs) h each =
      all_append (λ x. kept x ≡ true) (f x) (flat_map f xs) (each x h.0) (flat_kept f xs h.1 each)

  pub flat_moved : (f g : A → List A) (xs : List A) → AllKept xs
      → ((y : A) → kept y ≡ true → g (moved y) ≡ map moved (f y))
      → flat_map g (map moved xs) ≡ map moved (flat_map f xs)
  flat_moved f g [] h each = refl
  flat_moved f g (x ∷ xs) h each =
      ap (λ (t : List A). t ++ flat_map g (map moved xs)) (each x h.0)
      ∙ ap (λ (t : List A). map moved (f x) ++ t) (flat_moved f g xs h.1 each)
      ∙ sym (map-append moved (f x) (flat_map f xs))

  pub option_flat_kept : (f : A → List A) (o : Option A) → SomeKept o → ((y : A) → kept y ≡ true → AllKept (f y))
      → AllKept (option_map_or f o [])
  option_flat_kept f None h each = tt
  option_flat_kept f (Some x) h each = each x h

  pub option_flat_moved : (f g : A → List A) (o : Option A) → SomeKept o
      → ((y : A) → kept y ≡ true → g (moved y) ≡ map moved (f y))
      → option_map_or g (option_map moved o) [] ≡ map moved (option_map_or f o [])
  option_flat_moved f g None h each = refl
  option_flat_moved f g (Some x) h each = each x h

  pub any_moved : (test over : A → Bool) (xs : List A) → AllKept xs
      → ((y : A) → kept y ≡ true → over (moved y) ≡ test y) → list_any over (map moved xs) ≡ list_any test xs
  any_moved test over [] h each = refl
  any_moved test over (x ∷ xs) h each =
      ap (λ (t : Bool). t || list_any over (map moved xs)) (each x h.0)
      ∙ ap (λ (t : Bool). test x || t) (any_moved test over xs h.1 each)

  -- the first of two that is there
  pub or_moved : (o p o' p' : Option A) → SomeKept (option_or o p) → (SomeKept o → o' ≡ option_map moved o)
      → (SomeKept p → p' ≡ option_map moved p) → option_or o' p' ≡ option_map moved (option_or o p)
  or_moved None p o' p' h f g = ap (λ t. option_or t p') (f tt) ∙ g h
  or_moved (Some x) p o' p' h f g = ap (λ t. option_or t p') (f h)

  -- ---- the kept ones, moved

  abbrev pub all_moved : List A → List A
  all_moved xs = filter_map (if_kept kept moved) xs

  pub moved_kept : (x : A) (xs : List A) → kept x ≡ true → all_moved (x ∷ xs) ≡ moved x ∷ all_moved xs
  moved_kept x xs h = ap (λ (t : Bool). cons_option (cond t (Some (moved x)) None) (all_moved xs)) h

  pub moved_gone : (x : A) (xs : List A) → kept x ≡ false → all_moved (x ∷ xs) ≡ all_moved xs
  moved_gone x xs h = ap (λ (t : Bool). cons_option (cond t (Some (moved x)) None) (all_moved xs)) h

  pub moved_option : (o : Option A) (xs ys : List A) → ys ≡ all_moved xs
      → cons_option (option_and_then (if_kept kept moved) o) ys ≡ all_moved (cons_option o xs)
  moved_option None xs ys h = h
  moved_option (Some x) xs ys h = ap (λ (t : List A). cons_option (if_kept kept moved x) t) h

  pub first_moved : (xs : List A) → SomeKept (first xs) → first (all_moved xs) ≡ option_map moved (first xs)
  first_moved [] h = refl
  first_moved (x ∷ xs) h = ap first (moved_kept x xs h)

  pub option_moved : (o : Option A) → SomeKept o → option_and_then (if_kept kept moved) o ≡ option_map moved o
  option_moved None h = refl
  option_moved (Some x) h = ap (λ (t : Bool). cond t (Some (moved x)) None) h

  module _ (test over : A → Bool) (same : (x : A) → kept x ≡ true → over (moved x) ≡ test x) where
    -- the first that passes, where it is kept
    pub find_moved : (xs : List A) → SomeKept (find test xs)
        → find over (all_moved xs) ≡ option_map moved (find test xs)
    find_moved [] h = refl
    find_moved (x ∷ xs) h = by (kept x) refl (test x) refl h (find_moved xs)
      where
        on : (t : Bool) → kept x ≡ true → test x ≡ t
            → find over (all_moved (x ∷ xs)) ≡ cond t (Some (moved x)) (find over (all_moved xs))
        on t k is = ap (find over) (moved_kept x xs k)
            ∙ ap (λ (c : Bool). cond c (Some (moved x)) (find over (all_moved xs))) (same x k ∙ is)

        by : (k : Bool) → kept x ≡ k → (t : Bool) → test x ≡ t → SomeKept (cond t (Some x) (find test xs))
            → (SomeKept (find test xs) → find over (all_moved xs) ≡ option_map moved (find test xs))
            → find over (all_moved (x ∷ xs)) ≡ option_map moved (cond t (Some x) (find test xs))
        by true k true t h r = on true k t
        by true k false t h r = on false k t ∙ r h
        by false k true t h r = absurd (let e : true ≡ false = sym h ∙ k in cc)
        by false k false t h r = ap (find over) (moved_gone x xs k) ∙ r h

    pub filter_moved : (xs : List A) → filter over (all_moved xs) ≡ all_moved (filter test xs)
    filter_moved [] = refl
    filter_moved (x ∷ xs) = by (kept x) refl (test x) refl (filter_moved xs)
      where
        on : (t : Bool) → kept x ≡ true → test x ≡ t → filter over (all_moved (x ∷ xs))
            ≡ cond t (moved x ∷ filter over (all_moved xs)) (filter over (all_moved xs))
        on t k is = ap (filter over) (moved_kept x xs k)
            ∙ ap (λ (c : Bool). cond c (moved x ∷ filter over (all_moved xs)) (filter over (all_moved xs)))
            (same x k ∙ is)

        by : (k : Bool) → kept x ≡ k → (t : Bool) → test x ≡ t
            → filter over (all_moved xs) ≡ all_moved (filter test xs)
            → filter over (all_moved (x ∷ xs)) ≡ all_moved (cond t (x ∷ filter test xs) (filter test xs))
        by true k true t r =
            on true k t ∙ ap (λ (l : List A). moved x ∷ l) r ∙ sym (moved_kept x (filter test xs) k)
        by true k false t r = on false k t ∙ r
        by false k true t r = ap (filter over) (moved_gone x xs k) ∙ r ∙ sym (moved_gone x (filter test xs) k)
        by false k false t r = ap (filter over) (moved_gone x xs k) ∙ r
