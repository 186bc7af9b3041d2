-- What is kept of a set has names of its own, old and new.
use Rattle.std.proofs.Common.{◌≡◌, ◌≢◌, ℕ, suc, ◌+◌, ◌||◌, Bool, true, false, cond, List, [], ◌∷◌}
use Rattle.std.proofs.Common.{map, get_or, refl, sym, ap, subst, ◌∙◌, arith}
use Rattle.std.specs.List.{AllByRecursion, enumerate_from, filter}
use Rattle.std.proofs.lemmas.Option.{get_or_from_slice_get, slice_get_within}
use Rattle.std.proofs.lemmas.Bool.{or_right}
use Rattle.jv_base.specs.Names.{is_text}
use Rattle.jv_base.proofs.Equality.{text_Decides}
use Rattle.jv_base.proofs.Lists.{all_at, all_from}
use Rattle.class_model.specs.declared.class.Class.{Class}
use Rattle.class_pool.specs.Items.{class_item}
use Rattle.class_pool.specs.bodies.Faults.{NamesDiffer}
use Rattle.class_rename.specs.Names.{Names}
use Rattle.class_rename.specs.Renamed.{renamed}
use Rattle.fresh_names.specs.Fresh.{is_taken}
use Rattle.fresh_names.specs.Given.{class_names}
use Rattle.member_shrink.specs.Shrunk.{is_marked, shrunk, with_marked_members}
use Rattle.set_shrink.specs.Order.{AreApart}
use Rattle.pair_laws.proofs.NamedForm.Picked.{all_picked_at, picked}

-- two classes of one name are at one place, so no two that follow one another have one
pub pairs_apart : (classes : List Class) → NamesDiffer classes → AreApart classes
pairs_apart [] differ = tt
pairs_apart (c ∷ classes) differ = (
  all_from (λ (d : Class). c.name ≢ d.name) classes
      (λ k d at.
      let low = slice_get_within classes k d at in
      let is : get_or classes k c ≡ d = get_or_from_slice_get classes k d c at in
      subst (λ (e : Class). c.name ≢ e.name) is (differ 0 (suc k) c (omega arith) (omega (arith, low)))),
  pairs_apart classes (λ i j d less within. differ (suc i) (suc j) d (omega (arith, less)) (omega (arith, within))),
)

module _ (p : ℕ → Bool) (left : ℕ × Class → Class) (same : (e : ℕ × Class) → (left e).name ≡ e.1.name) where
  -- so are those that are picked, where each keeps its name
  pub picked_apart : (s : ℕ) (classes : List Class) → AreApart classes → AreApart (picked p left s classes)
  picked_apart s [] apart = tt
  picked_apart s (c ∷ classes) apart =
      by (p s) refl (picked_apart (s + 1) classes apart.1)
    where
      by : (t : Bool) → p s ≡ t → AreApart (picked p left (s + 1) classes)
          → AreApart (map left (cond t ((s, c) ∷ filter (λ (e : ℕ × Class). p e.0) (enumerate_from (s + 1) classes))
          (filter (λ (e : ℕ × Class). p e.0) (enumerate_from (s + 1) classes))))
      by false is rest = rest
      by true is rest = (
        all_picked_at p left (λ (d : Class). (left (s, c)).name ≢ d.name) (s + 1) classes
            (λ k d at passes e.
            all_at (λ (d : Class). c.name ≢ d.name) classes k d apart.0 at
            (sym (same (s, c)) ∙ e ∙ same (s + 1 + k, d))),
        rest,
      )

pub kept_apart : (classes : List Class) (marks : List Bool) → AreApart classes → AreApart (shrunk classes marks)
kept_apart classes marks apart =
    picked_apart (λ n. is_marked marks (class_item classes n))
    (λ (e : ℕ × Class). with_marked_members marks (class_item classes e.0) e.1) (λ e. refl) 0 classes apart

-- each class of a list has a name of it
each_named : (all : List (List ℕ)) (classes : List Class)
    → ((a : List ℕ) → is_taken (class_names classes) a ≡ true → is_taken all a ≡ true)
    → AllByRecursion (λ (c : Class). is_taken all c.name ≡ true) classes
each_named all [] more = tt
each_named all (c ∷ classes) more = (
  more c.name (ap (λ (b : Bool). b || is_taken (class_names classes) c.name) ((text_Decides c.name c.name).1 refl)),
  each_named all classes (λ a h. more a (or_right (is_text a c.name) (is_taken (class_names classes) a) h)),
)

module _ (names : Names) (all : List (List ℕ)) (one : (a b : List ℕ) → is_taken all a ≡ true → is_taken all b ≡ true
    → names.class a ≡ names.class b → a ≡ b) where
  others_apart : (c : Class) (classes : List Class) → is_taken all c.name ≡ true
      → AllByRecursion (λ (d : Class). is_taken all d.name ≡ true) classes
      → AllByRecursion (λ (d : Class). c.name ≢ d.name) classes
      → AllByRecursion (λ (d : Class). names.class c.name ≢ d.name) (map (renamed names) classes)
  others_apart c [] h more differ = tt
  others_apart c (d ∷ classes) h more differ = (
    λ e. differ.0 (one c.name d.name h more.0 e),
    others_apart c classes h more.1 differ.1,
  )

  list_apart : (classes : List Class) → AllByRecursion (λ (d : Class). is_taken all d.name ≡ true) classes
      → AreApart classes → AreApart (map (renamed names) classes)
  list_apart [] named apart = tt
  list_apart (c ∷ classes) named apart =
      (others_apart c classes named.0 named.1 apart.0, list_apart classes named.1 apart.1)

-- names that tell those of classes apart keep them apart
pub renamed_apart : (names : Names) (classes : List Class)
    → ((a b : List ℕ) → is_taken (class_names classes) a ≡ true → is_taken (class_names classes) b ≡ true
    → names.class a ≡ names.class b → a ≡ b)
    → AreApart classes → AreApart (map (renamed names) classes)
renamed_apart names classes one apart =
    list_apart names (class_names classes) one classes (each_named (class_names classes) classes (λ a h. h)) apart
