-- What holds of classes holds of them in the order of their paths.
use Rattle.std.proofs.Common.{◌≡◌, ℕ, List, [], ◌∷◌, map}
use Rattle.std.specs.BTreeMap.{insert_entry}
use Rattle.std.specs.Cmp.Lexicographic.{slice_cmp}
use Rattle.std.specs.List.{AllByRecursion}
use Rattle.std.specs.Map.{values_of}
use Rattle.std.specs.Ordering.{match_ordering, nat_cmp}
use Rattle.std.specs.declared.cmp.Ordering.{Ordering}
use Rattle.std.specs.declared.cmp.Ordering.TheVariants.{Less, Equal, Greater}
use Rattle.class_model.specs.declared.class.Class.{Class}
use Rattle.set_shrink.specs.Order.{class_path, in_order, put_at_paths}

module _ (P : Class → Type 0) where
  abbrev Each : List (List ℕ × Class) → Type 0
  Each entries = AllByRecursion P (values_of entries)

  each_inserted : (entries : List (List ℕ × Class)) (path : List ℕ) (c : Class) → Each entries → P c
      → Each (insert_entry (slice_cmp nat_cmp) entries path c)
  each_inserted [] path c all own = (own, tt)
  each_inserted (e ∷ entries) path c all own =
      by (slice_cmp nat_cmp path e.0) (each_inserted entries path c all.1 own)
    where
      by : (o : Ordering) → Each (insert_entry (slice_cmp nat_cmp) entries path c)
          → Each (match_ordering o ((path, c) ∷ e ∷ entries) ((e.0, c) ∷ entries)
          (e ∷ insert_entry (slice_cmp nat_cmp) entries path c))
      by Less rest = (own, all)
      by Equal rest = (own, all.1)
      by Greater rest = (all.0, rest)

  each_placed : (entries : List (List ℕ × Class)) (classes : List Class) → Each entries → AllByRecursion P classes
      → Each (put_at_paths entries classes)
  each_placed entries [] all more = all
  each_placed entries (c ∷ classes) all more =
      each_placed (insert_entry (slice_cmp nat_cmp) entries (class_path c) c) classes
      (each_inserted entries (class_path c) c all more.0) more.1

  pub each_in_order : (classes : List Class) → AllByRecursion P classes → AllByRecursion P (in_order classes)
  each_in_order classes all = each_placed [] classes tt all
