-- Of what closed marks hold nothing is lost and nothing lacks, so SeedLost and NotClosed find no place.
use Rattle.std.proofs.Common.{◌≡◌, ℕ, suc, ◌+◌, not, ◌&&◌, Bool, true, false, cond, List, [], ◌∷◌, Some, None}
use Rattle.std.proofs.Common.{slice_get, refl, sym, ap, subst, ◌∙◌, arith}
use Rattle.std.specs.List.{All, AllByRecursion, enumerate_from, filter, find, flat_map}
use Rattle.std.proofs.lemmas.Bool.{and_parts}
use Rattle.std.proofs.lemmas.List.Elements.{recursion_from_All}
use Rattle.std.proofs.lemmas.Option.{get_or_from_slice_get}
use Rattle.jv_base.proofs.Lists.{all_append}
use Rattle.mark_core.specs.Marks.{Closed, set_of}
use Rattle.mark_core.specs.declared.system.Pair.{Pair}
use Rattle.mark_core.specs.declared.system.System.{System}
use Rattle.class_model.specs.declared.class.Class.{Class}
use Rattle.new_names.specs.declared.class_names.ClassNames.{ClassNames}
use Rattle.pair_clauses.specs.Closing.{closed_fault, has_line, lacking, least, lined_items, lost_seed, needed}
use Rattle.pair_clauses.specs.Closing.{needed_by, needed_together, place_of_item, seed_fault}

-- ---- searches that find nothing

none_found : {X : Type 0} (test : X → Bool) (xs : List X) → AllByRecursion (λ x. test x ≡ true) xs
    → find (λ x. not (test x)) xs ≡ None
none_found test [] all = refl
none_found {X} test (x ∷ xs) all =
    ap (λ (b : Bool). cond (not b) (Some x) (find (λ x. not (test x)) xs)) all.0 ∙ none_found test xs all.1

none_left : {X : Type 0} (test : X → Bool) (xs : List X) → AllByRecursion (λ x. test x ≡ true) xs
    → filter (λ x. not (test x)) xs ≡ []
none_left test [] all = refl
none_left {X} test (x ∷ xs) all =
    ap (λ (b : Bool). cond (not b) (x ∷ filter (λ x. not (test x)) xs) (filter (λ x. not (test x)) xs)) all.0
    ∙ none_left test xs all.1

-- ---- what holds of each element

all_if : {X : Type 0} (P : X → Type 0) (b : Bool) (xs : List X) → (b ≡ true → AllByRecursion P xs)
    → AllByRecursion P (cond b xs [])
all_if P true xs all = all refl
all_if P false xs all = tt

-- of what numbered elements give
all_numbered : {X Y : Type 0} (P : Y → Type 0) (g : ℕ × X → List Y) (n : ℕ) (xs : List X)
    → ((k : ℕ) (x : X) → slice_get xs k ≡ Some x → AllByRecursion P (g (n + k, x)))
    → AllByRecursion P (flat_map g (enumerate_from n xs))
all_numbered P g n [] each = tt
all_numbered P g n (x ∷ xs) each =
    let start : n + 0 ≡ n = omega arith in
    all_append P (g (n, x)) (flat_map g (enumerate_from (n + 1) xs))
    (subst (λ (i : ℕ). AllByRecursion P (g (i, x))) start (each 0 x refl))
    (all_numbered P g (n + 1) xs (λ k y at.
    let next : n + suc k ≡ n + 1 + k = omega arith in
    subst (λ (i : ℕ). AllByRecursion P (g (i, y))) next (each (suc k) y at)))

-- ---- closed marks

module _ (sys : System) (marks : List Bool) (closed : Closed sys (set_of marks)) where
  abbrev Marked : ℕ → Type 0
  Marked x = has_line marks x ≡ true

  seeds_marked : AllByRecursion Marked sys.seeds
  seeds_marked = recursion_from_All Marked sys.seeds closed.seeds

  needs_marked : AllByRecursion Marked (flat_map (needed_by marks) (enumerate_from 0 sys.needs))
  needs_marked = all_numbered Marked (needed_by marks) 0 sys.needs
      (λ k xs at.
      let plain : 0 + k ≡ k = omega arith in
      all_if Marked (has_line marks (0 + k)) xs
      (λ h. recursion_from_All Marked xs
      (subst (λ (needs : List ℕ). All Marked needs) (get_or_from_slice_get sys.needs k xs [] at)
      (closed.needs k (ap (has_line marks) (sym plain) ∙ h)))))

  pairs_marked : (pairs : List Pair)
      → AllByRecursion (λ (p : Pair). Marked p.one → Marked p.two → Marked p.derived) pairs
      → AllByRecursion Marked (flat_map (needed_together marks) pairs)
  pairs_marked [] all = tt
  pairs_marked (p ∷ ps) all =
      all_append Marked (needed_together marks p) (flat_map (needed_together marks) ps)
      (all_if Marked (has_line marks p.one && has_line marks p.two) (p.derived ∷ [])
      (λ h. let both = and_parts (has_line marks p.one) (has_line marks p.two) h in (all.0 both.0 both.1, tt)))
      (pairs_marked ps all.1)

  pub none_lost : lost_seed sys marks ≡ None
  none_lost = none_found (has_line marks) sys.seeds seeds_marked

  pub none_lacks : lacking sys marks ≡ None
  none_lacks = ap least (none_left (has_line marks) (needed sys marks)
      (all_append Marked (flat_map (needed_by marks) (enumerate_from 0 sys.needs))
      (flat_map (needed_together marks) sys.pairs) needs_marked
      (pairs_marked sys.pairs (recursion_from_All _ sys.pairs closed.pairs))))

-- so where items have lines that are marked, neither clause finds a place
module _ (input : List Class) (given : List ClassNames) (sys : System) (marks : List Bool)
    (closed : Closed sys (set_of marks)) (told : lined_items given ≡ marks) where
  pub no_seed_lost : None ≡ seed_fault input given sys
  no_seed_lost = sym (ap (λ (l : List Bool). place_of_item input (lost_seed sys l)) told
      ∙ ap (place_of_item input) (none_lost sys marks closed))

  pub no_item_lacks : None ≡ closed_fault input given sys
  no_item_lacks = sym (ap (λ (l : List Bool). place_of_item input (lacking sys l)) told
      ∙ ap (place_of_item input) (none_lacks sys marks closed))
