-- Classes with names of their own are all there in the order of their paths, each once.
use Rattle.std.proofs.Common.{◌≡◌, ◌≢◌, ℕ, List, [], ◌∷◌, ◌++◌, codes, refl, sym, subst}
use Rattle.std.specs.Prelude.{IsPermutation}
use Rattle.std.specs.BTreeMap.{insert_entry}
use Rattle.std.specs.Cmp.Lexicographic.{slice_cmp}
use Rattle.std.specs.List.{AllByRecursion}
use Rattle.std.specs.Map.{values_of}
use Rattle.std.specs.Ordering.{match_ordering, nat_cmp}
use Rattle.std.specs.declared.cmp.Ordering.{Ordering}
use Rattle.std.specs.declared.cmp.Ordering.TheVariants.{Less, Equal, Greater}
use Rattle.std.proofs.lemmas.List.{append-nil, append_cancel_right}
use Rattle.std.proofs.lemmas.List.Sorted.{IsPermutation-append_left, IsPermutation-cons, IsPermutation-middle}
use Rattle.std.proofs.lemmas.List.Sorted.{IsPermutation-refl, IsPermutation-sym, IsPermutation-trans}
use Rattle.std.proofs.lemmas.Map.Lookups.{exact_bytes}
use Rattle.class_model.specs.declared.class.Class.{Class}
use Rattle.set_shrink.specs.Order.{AreApart, OrderKeepsAll, class_path, in_order, put_at_paths}

abbrev Entries : Type 0
Entries = List (List ℕ × Class)

abbrev put : Entries → List ℕ → Class → Entries
put entries path c = insert_entry (slice_cmp nat_cmp) entries path c

-- no entry has this path
abbrev IsFree : List ℕ → Entries → Type 0
IsFree path entries = AllByRecursion (λ (e : List ℕ × Class). path ≢ e.0) entries

-- one more, at a path of its own
inserted : (entries : Entries) (path : List ℕ) (c : Class) → IsFree path entries
    → IsPermutation (c ∷ values_of entries) (values_of (put entries path c))
inserted [] path c free = IsPermutation-refl (c ∷ [])
inserted (e ∷ entries) path c free = by (slice_cmp nat_cmp path e.0) refl (inserted entries path c free.1)
  where
    by : (o : Ordering) → slice_cmp nat_cmp path e.0 ≡ o
        → IsPermutation (c ∷ values_of entries) (values_of (put entries path c))
        → IsPermutation (c ∷ (e.1 ∷ values_of entries))
        (values_of (match_ordering o ((path, c) ∷ e ∷ entries) ((e.0, c) ∷ entries) (e ∷ put entries path c)))
    by Less is rest = IsPermutation-refl (c ∷ (e.1 ∷ values_of entries))
    by Equal is rest = absurd (free.0 (exact_bytes path e.0 is))
    by Greater is rest =
        IsPermutation-trans _ _ _ (IsPermutation-sym _ _ (IsPermutation-middle (e.1 ∷ []) c (values_of entries)))
        (IsPermutation-cons e.1 _ _ rest)

-- another path is free as before
still_free : (entries : Entries) (path other : List ℕ) (c : Class) → other ≢ path → IsFree other entries
    → IsFree other (put entries path c)
still_free [] path other c differs free = (differs, tt)
still_free (e ∷ entries) path other c differs free =
    by (slice_cmp nat_cmp path e.0) (still_free entries path other c differs free.1)
  where
    by : (o : Ordering) → IsFree other (put entries path c)
        → IsFree other (match_ordering o ((path, c) ∷ e ∷ entries) ((e.0, c) ∷ entries) (e ∷ put entries path c))
    by Less rest = (differs, free)
    by Equal rest = free
    by Greater rest = (free.0, rest)

other_path : (c d : Class) → c.name ≢ d.name → class_path d ≢ class_path c
other_path c d differs same = differs (sym (append_cancel_right d.name c.name (codes ".class") same))

-- each of the others has a path of its own
abbrev AreFree : List Class → Entries → Type 0
AreFree classes entries = AllByRecursion (λ (c : Class). IsFree (class_path c) entries) classes

all_free : (classes : List Class) (entries : Entries) (c : Class)
    → AllByRecursion (λ (d : Class). c.name ≢ d.name) classes → AreFree classes entries
    → AreFree classes (put entries (class_path c) c)
all_free [] entries c differ free = tt
all_free (d ∷ classes) entries c differ free = (
  still_free entries (class_path c) (class_path d) c (other_path c d differ.0) free.0,
  all_free classes entries c differ.1 free.1,
)

all_placed : (entries : Entries) (classes : List Class) → AreFree classes entries → AreApart classes
    → IsPermutation (values_of entries ++ classes) (values_of (put_at_paths entries classes))
all_placed entries [] free apart =
    subst (λ (cs : List Class). IsPermutation cs (values_of entries)) (sym (append-nil (values_of entries)))
    (IsPermutation-refl (values_of entries))
all_placed entries (c ∷ classes) free apart =
    IsPermutation-trans _ _ _ (IsPermutation-middle (values_of entries) c classes)
    (IsPermutation-trans _ _ _
    (IsPermutation-append_left classes (c ∷ values_of entries) (values_of (put entries (class_path c) c))
    (inserted entries (class_path c) c free.0))
    (all_placed (put entries (class_path c) c) classes (all_free classes entries c apart.0 free.1) apart.1))

none_taken : (classes : List Class) → AreFree classes []
none_taken [] = tt
none_taken (c ∷ classes) = (tt, none_taken classes)

pub order_keeps_all : OrderKeepsAll
order_keeps_all classes apart = all_placed [] classes (none_taken classes) apart
