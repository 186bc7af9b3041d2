-- What is left of a set is what is kept under its new names, and its paths ascend.
use Rattle.std.proofs.Common.{◌≡◌, ℕ, ◌<◌, true, List, [], ◌∷◌, map, length, get_or, refl, sym, ap}
use Rattle.std.proofs.Common.{subst, ◌∙◌, arith}
use Rattle.std.specs.Prelude.{IsPermutation}
use Rattle.std.specs.BTreeMap.{insert_entry}
use Rattle.std.specs.Cmp.Lexicographic.{slice_cmp}
use Rattle.std.specs.List.{AllByRecursion}
use Rattle.std.specs.List.Sorted.{IsStrictlySortedBy}
use Rattle.std.specs.Map.{keys_of, values_of}
use Rattle.std.specs.Ordering.{is_lt, match_ordering, nat_cmp, ordering_reverse}
use Rattle.std.specs.declared.cmp.Ordering.{Ordering}
use Rattle.std.specs.declared.cmp.Ordering.TheVariants.{Less, Equal, Greater}
use Rattle.std.proofs.lemmas.Cmp.{nat_list_cmp_total}
use Rattle.std.proofs.lemmas.List.{get_or-map, length-map}
use Rattle.std.proofs.lemmas.List.Sorted.{IsPermutation-map}
use Rattle.std.proofs.lemmas.Map.Keys.{Less-from_sorted}
use Rattle.std.proofs.lemmas.Map.Lookups.{exact_bytes}
use Rattle.class_model.specs.declared.class.Class.{Class}
use Rattle.class_pool.specs.Faults.{classes_of}
use Rattle.class_pool.specs.declared.fault.NamedClass.{NamedClass}
use Rattle.attribute_filter.specs.Filtered.{filtered}
use Rattle.attribute_filter.specs.KeptAttributes.{filter_of}
use Rattle.attribute_filter.specs.declared.filter.AttributeFilter.{AttributeFilter}
use Rattle.member_shrink.specs.Shrunk.{shrunk}
use Rattle.set_shrink.specs.Order.{class_path, in_order, put_at_paths}
use Rattle.set_shrink.specs.ShrunkSet.{left_of, new_names, renamed_of}
use Rattle.pair_laws.proofs.NamedForm.Written.{all_written}
use Rattle.pair_laws.specs.NamedForm.Laws.{IsLinked}
use Rattle.image_laws.specs.TakenSet.TakenSet.{IsTaken}
use Rattle.pair_laws.specs.OwnNames.Laws.{IsAtItsPath, LeftAscends, LeftIsRenamed}
use Rattle.pair_laws.proofs.OwnNames.Commuting.{classes_commute}

-- ---- all of it

-- a set that is taken was built, and breaks no rule for links
pub linked_of : (classes : List Class) → IsTaken classes → IsLinked classes
linked_of classes taken =
    record { files = taken.files; ascend = taken.ascend; built = taken.built; linked = taken.linked }

pub left_renamed : LeftIsRenamed
left_renamed classes marks rules old taken =
    let names = new_names classes marks rules old in
    let filter = filter_of rules in
    subst (λ (cs : List Class). IsPermutation cs (left_of classes marks rules old))
    (classes_commute names filter (shrunk classes marks))
    (IsPermutation-map (filtered filter) (renamed_of classes marks rules old) (in_order (renamed_of classes marks rules old))
    (all_written classes rules old marks (linked_of classes taken)))

-- ---- in the order of the paths

abbrev Entries : Type 0
Entries = List (List ℕ × Class)

abbrev compare : List ℕ → List ℕ → Ordering
compare = slice_cmp nat_cmp

abbrev put : Entries → List ℕ → Class → Entries
put entries path c = insert_entry compare entries path c

-- a path below the first one is below all that come behind that
all_below : (path first : List ℕ) (rest : List (List ℕ)) → compare path first ≡ Less
    → AllByRecursion (λ (other : List ℕ). compare first other ≡ Less) rest
    → AllByRecursion (λ (other : List ℕ). compare path other ≡ Less) rest
all_below path first [] low all = tt
all_below path first (other ∷ rest) low all =
    (nat_list_cmp_total.trans path first other low all.0, all_below path first rest low all.1)

-- one that is below all entries and below one more is below all of them
put_below : (path : List ℕ) (entries : Entries) (new : List ℕ) (c : Class)
    → AllByRecursion (λ (other : List ℕ). compare path other ≡ Less) (keys_of entries) → compare path new ≡ Less
    → AllByRecursion (λ (other : List ℕ). compare path other ≡ Less) (keys_of (put entries new c))
put_below path [] new c all own = (own, tt)
put_below path (e ∷ entries) new c all own = by (compare new e.0) (put_below path entries new c all.1 own)
  where
    by : (o : Ordering)
        → AllByRecursion (λ (other : List ℕ). compare path other ≡ Less) (keys_of (put entries new c))
        → AllByRecursion (λ (other : List ℕ). compare path other ≡ Less)
        (keys_of (match_ordering o ((new, c) ∷ e ∷ entries) ((e.0, c) ∷ entries) (e ∷ put entries new c)))
    by Less rest = (own, all)
    by Equal rest = all
    by Greater rest = (all.0, rest)

-- one more keeps the order
put_sorted : (entries : Entries) (path : List ℕ) (c : Class) → IsStrictlySortedBy compare (keys_of entries)
    → IsStrictlySortedBy compare (keys_of (put entries path c))
unfolding IsStrictlySortedBy
put_sorted [] path c sorted = (tt, tt)
put_sorted (e ∷ entries) path c sorted = by (compare path e.0) refl (put_sorted entries path c sorted.1)
  where
    by : (o : Ordering) → compare path e.0 ≡ o → IsStrictlySortedBy compare (keys_of (put entries path c))
        → IsStrictlySortedBy compare
        (keys_of (match_ordering o ((path, c) ∷ e ∷ entries) ((e.0, c) ∷ entries) (e ∷ put entries path c)))
    by Less is rest = ((is, all_below path e.0 (keys_of entries) is sorted.0), sorted)
    by Equal is rest = sorted
    by Greater is rest =
        (put_below e.0 entries path c sorted.0 (nat_list_cmp_total.antisymm e.0 path ∙ ap ordering_reverse is), rest)

-- each class stands at its path
abbrev AreAtTheirs : Entries → Type 0
AreAtTheirs entries = AllByRecursion (λ (e : List ℕ × Class). e.0 ≡ class_path e.1) entries

put_at : (entries : Entries) (c : Class) → AreAtTheirs entries → AreAtTheirs (put entries (class_path c) c)
put_at [] c all = (refl, tt)
put_at (e ∷ entries) c all = by (compare (class_path c) e.0) refl (put_at entries c all.1)
  where
    by : (o : Ordering) → compare (class_path c) e.0 ≡ o → AreAtTheirs (put entries (class_path c) c)
        → AreAtTheirs (match_ordering o ((class_path c, c) ∷ e ∷ entries) ((e.0, c) ∷ entries)
        (e ∷ put entries (class_path c) c))
    by Less is rest = (refl, all)
    by Equal is rest = (sym (exact_bytes (class_path c) e.0 is), all.1)
    by Greater is rest = (all.0, rest)

placed_sorted : (entries : Entries) (classes : List Class) → IsStrictlySortedBy compare (keys_of entries)
    → IsStrictlySortedBy compare (keys_of (put_at_paths entries classes))
placed_sorted entries [] sorted = sorted
placed_sorted entries (c ∷ classes) sorted =
    placed_sorted (put entries (class_path c) c) classes (put_sorted entries (class_path c) c sorted)

placed_at : (entries : Entries) (classes : List Class) → AreAtTheirs entries
    → AreAtTheirs (put_at_paths entries classes)
placed_at entries [] all = all
placed_at entries (c ∷ classes) all = placed_at (put entries (class_path c) c) classes (put_at entries c all)

-- the paths of classes, without the attributes that go
paths_are : (filter : AttributeFilter) (entries : Entries) → AreAtTheirs entries
    → map class_path (map (filtered filter) (values_of entries)) ≡ keys_of entries
paths_are filter [] all = refl
paths_are filter (e ∷ entries) all = λ i. sym all.0 i ∷ paths_are filter entries all.1 i

no_entry : IsStrictlySortedBy compare []
unfolding IsStrictlySortedBy
no_entry = tt

-- the paths of files
file_paths : (files : List NamedClass) → AllByRecursion IsAtItsPath files
    → map (λ (f : NamedClass). f.path) files ≡ map class_path (classes_of files)
file_paths [] all = refl
file_paths (f ∷ files) all = λ i. all.0 i ∷ file_paths files all.1 i

pub left_ascends : LeftAscends
left_ascends classes marks rules old files at left = λ i j d before within. apart i j d before within
  where
    entries : Entries
    entries = put_at_paths [] (renamed_of classes marks rules old)

    paths : List (List ℕ)
    paths = map (λ (f : NamedClass). f.path) files

    are : paths ≡ keys_of entries
    are = file_paths files at ∙ ap (map class_path) left
        ∙ paths_are (filter_of rules) entries (placed_at [] (renamed_of classes marks rules old) tt)

    sorted : IsStrictlySortedBy compare paths
    sorted = subst (IsStrictlySortedBy compare) (sym are) (placed_sorted [] (renamed_of classes marks rules old) no_entry)

    apart : (i j : ℕ) (d : NamedClass) → i < j → j < length files
        → is_lt (compare (get_or files i d).path (get_or files j d).path) ≡ true
    apart i j d before within =
        let long = length-map files (λ (f : NamedClass). f.path) in
        let one = get_or-map (λ (f : NamedClass). f.path) files i d d.path (omega (arith, before, within)) in
        let two = get_or-map (λ (f : NamedClass). f.path) files j d d.path within in
        (λ k. is_lt (compare (sym one k) (sym two k)))
        ∙ ap is_lt (Less-from_sorted compare paths i j d.path sorted before (omega (arith, within, long)))
