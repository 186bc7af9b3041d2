-- Ranks of what is left: each class that is left has as many below it as have a lower rank in the set.
use Rattle.std.proofs.Common.{◌≡◌, ◌<◌, ⊎_elim, ℕ, ◌+◌, IsTrue, nat_lt, Bool, true, List, length, map}
use Rattle.std.proofs.Common.{get_or, Option, Some, None, refl, sym, ap, subst, ◌∙◌, arith}
use Rattle.std.specs.Prelude.{IfSome}
use Rattle.std.specs.List.{All, AllByRecursion, cons_option}
use Rattle.std.specs.Option.{option_map, option_map_or}
use Rattle.std.proofs.lemmas.Bool.{le-ltb, lt-ltb, ltb-true}
use Rattle.std.proofs.lemmas.List.Elements.{All-from_recursion, All-map}
use Rattle.std.proofs.lemmas.Option.{slice_get_cases, slice_get_within}
use Rattle.mark_core.specs.Marks.{Closed}
use Rattle.class_model.specs.declared.class.Class.{Class}
use Rattle.class_pool.specs.Found.{name_of}
use Rattle.class_pool.specs.Hierarchy.{class_named, interfaces, superclass}
use Rattle.class_pool.specs.Ranks.{HasRanks}
use Rattle.class_pool.specs.Supertypes.{direct}
use Rattle.class_pool.specs.declared.id.ClassId.{ClassId}
use Rattle.class_pool.specs.declared.id.ClassId.TheVariants.{Prog, Lib}
use Rattle.class_pool.proofs.Ranking.{has_ranks, is_lower}
use Rattle.member_shrink.specs.Shrunk.{is_marked, shrunk}
use Rattle.require_sys.specs.Requires.{requires}
use Rattle.require_sys.specs.declared.kept.KeptByRules.{KeptByRules}
use Rattle.image_laws.specs.ShrunkImage.Keeping.{SupersMarked, class_place, is_class_kept, rank}
use Rattle.image_laws.proofs.ShrunkImage.Classes.{class_at, class_marked, class_there, f, interfaces_kept}
use Rattle.image_laws.proofs.ShrunkImage.Classes.{interfaces_same, name_same, p, super_kept, super_same}
use Rattle.image_laws.specs.TakenSet.TakenSet.{IsTaken}
use Rattle.image_laws.proofs.TakenSet.Names.{class_found}
use Rattle.removal_laws.proofs.RemovalImage.Marked.{supers_marked}
use Rattle.removal_laws.proofs.RemovalLinks.Left.{stays}
use Rattle.removal_laws.proofs.RemovalBuilds.LeftLists.{rank_fewer, rank_most}

module _ (classes : List Class) (rules : KeptByRules) (marks : List Bool)
    (closed : Closed (requires classes rules) (is_marked marks)) (taken : IsTaken classes) where
  abbrev out : List Class
  out = shrunk classes marks

  abbrev Kept : ClassId → Type 0
  Kept y = is_class_kept classes marks y ≡ true

  abbrev moved : ClassId → ClassId
  moved = class_place classes marks

  abbrev place : ℕ → ℕ
  place n = rank (p classes marks) 0 n

  up : SupersMarked classes marks
  up = supers_marked classes rules marks closed

  -- the rank that a class which is left has in the set, where it is found by its name
  abbrev level : ℕ → ℕ
  level j = option_map_or taken.ranks.rank (class_named classes (name_of out (Prog j))) 0

  level_is : (n : ℕ) → Kept (Prog n) → level (place n) ≡ taken.ranks.rank (Prog n)
  level_is n h =
      ap (λ (name : List ℕ). option_map_or taken.ranks.rank (class_named classes name) 0)
      (name_same classes marks (Prog n) h)
      ∙ ap (λ (o : Option ClassId). option_map_or taken.ranks.rank o 0)
      (class_found classes taken (Prog n) (class_there classes marks (Prog n) h))

  abbrev lower : ℕ → ℕ → Bool
  lower j i = nat_lt (level i) (level j)

  -- how many of what is left have a lower rank
  abbrev count : ℕ → ℕ
  count j = rank (lower j) 0 (length out)

  count_less : (i j : ℕ) → i < length out → level i < level j → count i < count j
  count_less i j within less =
      let plain : 0 + i ≡ i = omega arith in
      rank_fewer (lower i) (lower j)
      (λ x h.
      let below = ltb-true (level x) (level i) h in
      lt-ltb (level x) (level j) (omega (arith, below, less)))
      0 (length out) i within
      (ap (lower i) plain ∙ le-ltb (level i) (level i) (omega arith))
      (ap (lower j) plain ∙ lt-ltb (level i) (level j) less)

  place_there : (n : ℕ) → Kept (Prog n) → place n < length out
  place_there n h =
      ⊎_elim
      (λ e. slice_get_within out (place n) (f classes marks n e.0)
      (class_at classes marks n (class_marked classes marks (Prog n) h) ∙ ap (option_map (f classes marks n)) e.2))
      (λ e. let within = class_there classes marks (Prog n) h in absurd (omega (arith, within, e.0)))
      (slice_get_cases classes n).1

  -- ---- direct supertypes

  direct_left : (n : ℕ) → Kept (Prog n) → direct out (Prog (place n)) ≡ map moved (direct classes (Prog n))
  direct_left n h =
      ap (λ (o : Option ClassId). cons_option o (interfaces out (Prog (place n))))
      (super_same classes marks up (Prog n) h)
      ∙ ap (cons_option (option_map moved (superclass classes (Prog n))))
      (interfaces_same classes marks up (Prog n) h)
      ∙ by (superclass classes (Prog n))
    where
      by : (o : Option ClassId) → cons_option (option_map moved o) (map moved (interfaces classes (Prog n)))
          ≡ map moved (cons_option o (interfaces classes (Prog n)))
      by None = refl
      by (Some y) = refl

  direct_kept : (n : ℕ) → Kept (Prog n) → All Kept (direct classes (Prog n))
  direct_kept n h =
      All-from_recursion Kept (direct classes (Prog n))
      (by (superclass classes (Prog n)) (super_kept classes marks up (Prog n) h)
      (interfaces_kept classes marks up (Prog n) h))
    where
      by : (o : Option ClassId) → IfSome o Kept → AllByRecursion Kept (interfaces classes (Prog n))
          → AllByRecursion Kept (cons_option o (interfaces classes (Prog n)))
      by None above beside = beside
      by (Some y) above beside = (above, beside)

  low : (n : ℕ) → Kept (Prog n) → (b : ClassId) → Kept b → taken.ranks.rank b < taken.ranks.rank (Prog n)
      → IsTrue (is_lower count (place n) (moved b))
  low n h (Prog m) k less =
      let here = level_is n h in
      let above = level_is m k in
      lt-ltb (count (place m)) (count (place n))
      (count_less (place m) (place n) (place_there m k) (omega (arith, less, here, above)))
  low n h (Lib id) k less = refl

  all_low : (n : ℕ) → Kept (Prog n)
      → All (λ b. IsTrue (is_lower count (place n) b)) (direct out (Prog (place n)))
  all_low n h =
      subst (All (λ b. IsTrue (is_lower count (place n) b))) (sym (direct_left n h))
      (All-map (λ b. IsTrue (is_lower count (place n) b)) moved (direct classes (Prog n))
      (λ k d within.
      low n h (get_or (direct classes (Prog n)) k d) (direct_kept n h k d within)
      (taken.ranks.falls (Prog n) (class_there classes marks (Prog n) h) k d within)))

  pub ranks_left : HasRanks out
  ranks_left = has_ranks out count (λ j within. rank_most (lower j) 0 (length out)) lows
    where
      lows : (j : ℕ) → j < length out → All (λ b. IsTrue (is_lower count j b)) (direct out (Prog j))
      lows j within =
          ⊎_elim
          (λ e.
          let s = stays classes rules marks closed taken j e.0 e.2 in
          subst (λ (k : ℕ). All (λ b. IsTrue (is_lower count k b)) (direct out (Prog k))) (sym s.place)
          (all_low s.n s.own))
          (λ e. absurd (omega (arith, within, e.0)))
          (slice_get_cases out j).1
