-- Ranks fall among classes under new names: each class has its rank at its place.
use Rattle.std.proofs.Common.{◌≡◌, ◌<◌, ◌≤◌, ⊎_elim, ℕ, ◌+◌, true, List, length, map, get_or, Option, Some}
use Rattle.std.proofs.Common.{None, refl, sym, ap, subst, ◌∙◌, arith}
use Rattle.std.specs.List.{All, cons_option}
use Rattle.std.specs.Option.{option_map}
use Rattle.std.proofs.lemmas.List.Elements.{All-map}
use Rattle.std.proofs.lemmas.Option.{slice_get_cases, slice_get_within}
use Rattle.class_model.specs.declared.class.Class.{Class}
use Rattle.lib_table.specs.Library.{library}
use Rattle.class_pool.specs.Hierarchy.{IsClass, interfaces, superclass}
use Rattle.class_pool.specs.Ranks.{HasRanks}
use Rattle.class_pool.specs.Supertypes.{direct}
use Rattle.class_pool.specs.declared.id.ClassId.{ClassId}
use Rattle.class_pool.specs.declared.id.ClassId.TheVariants.{Prog, Lib}
use Rattle.image_laws.specs.SetImage.Image.{Image}
use Rattle.class_rename.specs.Names.{Names}
use Rattle.pair_laws.specs.RenamedImage.Naming.{is_class_there}
use Rattle.pair_laws.specs.RenamedImage.Renaming.{placed_class}
use Rattle.pair_laws.proofs.RenamedTaken.Placed as placing
use Rattle.pair_laws.proofs.RenamedTaken.Placed.{IsPlaced, class_there, was}

module _ (names : Names) (place back : ℕ → ℕ) (xs ys : List Class) (h : IsPlaced names place back xs ys) where
  abbrev i : Image xs ys
  i = placing.i names place back xs ys h

  direct_moved : (x : ClassId) → is_class_there xs x ≡ true
      → direct ys (placed_class place x) ≡ map (placed_class place) (direct xs x)
  direct_moved x k =
      (λ j. cons_option (i.super_moved x k j) (i.interfaces_moved x k j)) ∙ by (superclass xs x) (interfaces xs x)
    where
      by : (o : Option ClassId) (cs : List ClassId)
          → cons_option (option_map (placed_class place) o) (map (placed_class place) cs)
          ≡ map (placed_class place) (cons_option o cs)
      by None cs = refl
      by (Some c) cs = refl

  returned : (x : ClassId) → placed_class back (placed_class place x) ≡ x
  returned (Prog n) = ap Prog (h.there n)
  returned (Lib id) = refl

  abbrev old : ClassId → ℕ
  old = h.taken.ranks.rank

  falls_at : (x : ClassId) → IsClass xs x
      → All (λ b. old (placed_class back b) < old (placed_class back (placed_class place x)))
      (direct ys (placed_class place x))
  falls_at x there =
      subst (All (λ b. old (placed_class back b) < old (placed_class back (placed_class place x))))
      (sym (direct_moved x (class_there names place back xs ys h x there)))
      (All-map (λ b. old (placed_class back b) < old (placed_class back (placed_class place x))) (placed_class place)
      (direct xs x)
      (λ k d within.
      let less = h.taken.ranks.falls x there k d within in
      let here = ap old (returned x) in
      let above = ap old (returned (get_or (direct xs x) k d)) in
      omega (arith, less, here, above)))

  -- a class of the new set stands at the place of one
  module _ (P : ClassId → Type 0) (each : (x : ClassId) → IsClass xs x → P (placed_class place x)) where
    from_old : (x : ClassId) → IsClass ys x → P x
    from_old (Lib id) there = each (Lib id) there
    from_old (Prog j) there =
        ⊎_elim
        (λ e.
        let w = was names place back xs ys h j e.0 e.2 in
        subst (λ (k : ℕ). P (Prog k)) (sym w.place_is)
        (each (Prog w.n) (slice_get_within xs w.n w.class w.there)))
        (λ e. absurd (omega (arith, there, e.0)))
        (slice_get_cases ys j).1

  pub ranks_new : HasRanks ys
  ranks_new = record {
    rank = λ x. old (placed_class back x);
    falls = from_old (λ x. All (λ b. old (placed_class back b) < old (placed_class back x)) (direct ys x)) falls_at;
    most = from_old (λ x. old (placed_class back x) ≤ length library + length ys) (λ x there.
        let low = h.taken.ranks.most x there in
        let here = ap old (returned x) in
        let long = h.long in
        omega (arith, low, here, long));
  }
