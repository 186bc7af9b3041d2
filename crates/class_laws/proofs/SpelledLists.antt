-- What holds of all items of lists that are put together.
use Rattle.std.proofs.Common.{Bool, true, false, cond, List, [], ◌∷◌, ◌++◌}
use Rattle.std.specs.List.{AllByRecursion, flat_map}
use Rattle.indexmap.specs.IndexSet.{insert_key, insert_all}

module _ {A : Type 0} (P : A → Type 0) where
  pub all_front : (xs ys : List A) → AllByRecursion P (xs ++ ys) → AllByRecursion P xs
  all_front [] ys h = tt
  all_front (x ∷ xs) ys h = (h.0, all_front xs ys h.1)

  pub all_back : (xs ys : List A) → AllByRecursion P (xs ++ ys) → AllByRecursion P ys
  all_back [] ys h = h
  all_back (x ∷ xs) ys h = all_back xs ys h.1

  pub all_both : (xs ys : List A) → AllByRecursion P xs → AllByRecursion P ys → AllByRecursion P (xs ++ ys)
  all_both [] ys h k = k
  all_both (x ∷ xs) ys h k = (h.0, all_both xs ys h.1 k)

pub all_two : {A : Type 0} (P Q R : A → Type 0) → ((x : A) → P x → Q x → R x) → (xs : List A) → AllByRecursion P xs
    → AllByRecursion Q xs → AllByRecursion R xs
all_two P Q R f [] h k = tt
all_two P Q R f (x ∷ xs) h k = (f x h.0 k.0, all_two P Q R f xs h.1 k.1)

pub all_three : {A : Type 0} (P Q R S : A → Type 0) → ((x : A) → P x → Q x → R x → S x) → (xs : List A)
    → AllByRecursion P xs → AllByRecursion Q xs → AllByRecursion R xs → AllByRecursion S xs
all_three P Q R S f [] h k l = tt
all_three P Q R S f (x ∷ xs) h k l = (f x h.0 k.0 l.0, all_three P Q R S f xs h.1 k.1 l.1)

module _ {A B : Type 0} (P : B → Type 0) (f : A → List B) where
  -- of the lists that items make
  pub all_each : (xs : List A) → AllByRecursion P (flat_map f xs) → AllByRecursion (λ x. AllByRecursion P (f x)) xs
  all_each [] h = tt
  all_each (x ∷ xs) h = (all_front P (f x) (flat_map f xs) h, all_each xs (all_back P (f x) (flat_map f xs) h))

  pub all_whole : (xs : List A) → AllByRecursion (λ x. AllByRecursion P (f x)) xs → AllByRecursion P (flat_map f xs)
  all_whole [] h = tt
  all_whole (x ∷ xs) h = all_both P (f x) (flat_map f xs) h.0 (all_whole xs h.1)

-- a choice between lists
pub all_if : {A : Type 0} (P : A → Type 0) (b : Bool) (xs ys : List A) → AllByRecursion P xs → AllByRecursion P ys
    → AllByRecursion P (cond b xs ys)
all_if P true xs ys h k = h
all_if P false xs ys h k = k

-- a set that is filled has what was put
module _ {A : Type 0} (P : A → Type 0) (eq : A → A → Bool) where
  one_put : (b : Bool) (ks : List A) (k : A) → AllByRecursion P ks → P k → AllByRecursion P (cond b ks (ks ++ k ∷ []))
  one_put true ks k h p = h
  one_put false ks k h p = all_both P ks (k ∷ []) h (p, tt)

  pub all_put : (wanted ks : List A) → AllByRecursion P ks → AllByRecursion P wanted
      → AllByRecursion P (insert_all eq ks wanted)
  all_put [] ks h w = h
  all_put (k ∷ wanted) ks h w = all_put wanted (insert_key eq ks k) (one_put _ ks k h w.0) w.1
