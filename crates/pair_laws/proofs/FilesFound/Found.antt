-- What was put below a directory is found there.
use Rattle.std.proofs.Common.{◌≡◌, ℕ, Bool, true, false, cond, List, [], ◌∷◌, ◌++◌, length, map, Option, Some, None}
use Rattle.std.proofs.Common.{Ok, Err, nat_lt, ltb-false, ◌≤◌, refl, sym, ap, subst, ◌∙◌}
use Rattle.std.specs.Cmp.Lexicographic.{nat_list_cmp_total}
use Rattle.std.specs.FinMap.{entries, entries_sorted, find, get, get-entries, get-insert, insert, keys}
use Rattle.std.specs.FinMap.Entries.{same_entries}
use Rattle.std.specs.List.{AllByRecursion, filter}
use Rattle.std.specs.List.Sorted.{IsStrictlySortedBy}
use Rattle.std.specs.Option.{option_map_or}
use Rattle.std.specs.Ordering.{eq_by_cmp, is_eq, ordering_reverse}
use Rattle.std.specs.declared.cmp.Ordering.{Ordering}
use Rattle.std.specs.declared.cmp.Ordering.TheVariants.{Less, Equal, Greater}
use Rattle.std.proofs.lemmas.Cmp.{tied_itself}
use Rattle.std.proofs.lemmas.List.Kept.{IsStrictlySortedBy-filter}
use Rattle.std.proofs.lemmas.Map.Lookups.{exact_bytes}
use Rattle.tree_io.specs.Below.{IsAscending, front_of, paths_below}
use Rattle.tree_io.specs.Files.{Files}
use Rattle.tree_io.specs.declared.file_at.FileAt.{FileAt}
use Rattle.tree_io.proofs.Below.{still_ascending}
use Rattle.class_files.specs.Input.{class_paths, files_in, input_due, is_class_path, total}
use Rattle.class_files.specs.Output.{put_all}
use Rattle.class_files.specs.declared.input.InputFault.TheVariants.{TooLong, TooManyClasses, TooManyFiles}
use Rattle.pair_laws.specs.FilesFound.Below.{AreBelow, IsElsewhere}
use Rattle.pair_laws.specs.FilesFound.Laws.{FoundAscend, PutAreFound}
use Rattle.pair_laws.proofs.FilesFound.Entries.{Entry, below_of, found_below, in_front, none_like, order, paths_of}
use Rattle.pair_laws.proofs.FilesFound.Entries.{sorted_from, sorted_to}

abbrev path_and_bytes : FileAt → Entry
path_and_bytes f = (f.path, f.bytes)

abbrev listed : List FileAt → List Entry
listed files = map path_and_bytes files

abbrev Above : List ℕ → List FileAt → Type 0
Above x files = AllByRecursion (λ (y : List ℕ). order x y ≡ Less) (map (λ (f : FileAt). f.path) files)

abbrev or_else : {A : Type 0} → Option A → Option A → Option A
or_else (Some x) other = Some x
or_else None other = other

-- ---- what stands at paths in order

-- what is above a path isn't that path
none_at : (q x : List ℕ) (files : List FileAt) → order q x ≡ Equal → Above x files → find order q (listed files) ≡ None
none_at q x [] same above = refl
none_at q x (f ∷ files) same above =
    let less : order q f.path ≡ Less = nat_list_cmp_total.congr q x f.path same ∙ above.0 in
    ap (λ (o : Ordering). cond (is_eq o) (Some f.bytes) (find order q (listed files))) less
    ∙ none_at q x files same above.1

-- a file stands at its path
abbrev IsIn : List FileAt → FileAt → Type 0
IsIn files f = find order f.path (listed files) ≡ Some f.bytes

later_in : (f : FileAt) (files some : List FileAt) → Above f.path some → AllByRecursion (IsIn files) some
    → AllByRecursion (IsIn (f ∷ files)) some
later_in f files [] above all = tt
later_in f files (g ∷ some) above all =
    let greater : order g.path f.path ≡ Greater =
    nat_list_cmp_total.antisymm g.path f.path ∙ ap ordering_reverse above.0 in (
      ap (λ (o : Ordering). cond (is_eq o) (Some f.bytes) (find order g.path (listed files))) greater ∙ all.0,
      later_in f files some above.1 all.1,
    )

all_in : (files : List FileAt) → IsAscending (map (λ (f : FileAt). f.path) files) → AllByRecursion (IsIn files) files
unfolding IsStrictlySortedBy
all_in [] h = tt
all_in (f ∷ files) h = (
  ap (λ (o : Ordering). cond (is_eq o) (Some f.bytes) (find order f.path (listed files)))
      (tied_itself nat_list_cmp_total f.path),
  later_in f files files h.0 (all_in files h.1),
)

listed_paths : (files : List FileAt) → map (λ (e : Entry). e.0) (listed files) ≡ map (λ (f : FileAt). f.path) files
listed_paths [] = refl
listed_paths (f ∷ files) = ap (λ (t : List (List ℕ)). f.path ∷ t) (listed_paths files)

no_entries : (es : List Entry) → map (λ (e : Entry). e.0) es ≡ [] → es ≡ []
no_entries [] h = refl
no_entries (e ∷ es) h = absurd cc

-- ---- what is put

pub put_both : (m : Files) (files others : List FileAt) → put_all m (files ++ others) ≡ put_all (put_all m files) others
put_both m [] others = refl
put_both m (f ∷ files) others = put_both (insert m f.path f.bytes) files others

module _ (directory : List ℕ) where
  abbrev front : List ℕ
  front = front_of directory

  -- what stands at a path below after files were put there
  put_there : (q : List ℕ) (files there : List FileAt) → AreBelow directory files there
      → IsAscending (map (λ (f : FileAt). f.path) there) → (m : Files)
      → get (put_all m files) (front ++ q) ≡ or_else (find order q (listed there)) (get m (front ++ q))
  unfolding IsStrictlySortedBy
  put_there q [] [] below ascend m = refl
  put_there q [] (w ∷ there) below ascend m = absurd below
  put_there q (f ∷ files) [] below ascend m = absurd below
  put_there q (f ∷ files) (w ∷ there) below ascend m =
      put_there q files there below.1 ascend.1 (insert m f.path f.bytes)
      ∙ ap (or_else (find order q (listed there)))
      (get-insert nat_list_cmp_total m f.path f.bytes (front ++ q)
      ∙ (λ i. cond (eq_by_cmp order (front ++ q) (below.0.0 i)) (Some (sym below.0.1 i)) (get m (front ++ q)))
      ∙ ap (λ (o : Ordering). cond (is_eq o) (Some w.bytes) (get m (front ++ q))) (in_front front q w.path))
      ∙ by (order q w.path) refl
    where
      by : (o : Ordering) → order q w.path ≡ o
          → or_else (find order q (listed there)) (cond (is_eq o) (Some w.bytes) (get m (front ++ q)))
          ≡ or_else (cond (is_eq o) (Some w.bytes) (find order q (listed there))) (get m (front ++ q))
      by Less e = refl
      by Greater e = refl
      by Equal e = ap (λ z. or_else z (Some w.bytes)) (none_at q w.path there e ascend.0)

  -- files elsewhere change nothing there
  pub put_elsewhere : (q : List ℕ) (others : List FileAt) → AllByRecursion (IsElsewhere directory) others → (m : Files)
      → get (put_all m others) (front ++ q) ≡ get m (front ++ q)
  put_elsewhere q [] all m = refl
  put_elsewhere q (f ∷ others) all m =
      put_elsewhere q others all.1 (insert m f.path f.bytes)
      ∙ get-insert nat_list_cmp_total m f.path f.bytes (front ++ q)
      ∙ ap (λ (t : Bool). cond t (Some f.bytes) (get m (front ++ q)))
      (none_like front q f.path all.0 (order (front ++ q) f.path) refl)

  -- where no file lies below, none is found there
  none_below : (q : List ℕ) (m : Files) → paths_below directory (keys m) ≡ [] → get m (front ++ q) ≡ None
  none_below q m empty =
      get-entries m (front ++ q) ∙ found_below front q (entries m)
      ∙ ap (find order q) (no_entries (below_of front (entries m)) (sym (paths_of front (entries m)) ∙ empty))

  -- ---- the files of the directory

  files_at : (m : Files) (files : List FileAt)
      → AllByRecursion (λ (f : FileAt). get m (front ++ f.path) ≡ Some f.bytes) files
      → files_in m directory (map (λ (f : FileAt). f.path) files) ≡ files
  files_at m [] all = refl
  files_at m (f ∷ files) all =
      let first = all.0 in
      let rest = files_at m files all.1 in
      λ i. record { path = f.path; bytes = option_map_or (λ bytes. bytes) (first i) [] } ∷ rest i

  -- what is found within the limits
  within : (m : Files) (found : List FileAt) → input_due m directory ≡ Ok found
      → (found ≡ files_in m directory (class_paths m directory)) × (total found ≤ 67108864)
  within m found = by (nat_lt 65536 (length (paths_below directory (keys m))))
      (nat_lt 20000 (length (class_paths m directory)))
      (nat_lt 67108864 (total (files_in m directory (class_paths m directory))))
      (files_in m directory (class_paths m directory)) refl
    where
      by : (a b c : Bool) (files : List FileAt)
          → nat_lt 67108864 (total files) ≡ c
          → cond a (Err TooManyFiles) (cond b (Err TooManyClasses) (cond c (Err TooLong) (Ok files))) ≡ Ok found
          → (found ≡ files) × (total found ≤ 67108864)
      by true b c files short e = absurd cc
      by false true c files short e = absurd cc
      by false false true files short e = absurd cc
      by false false false files short e =
          let same : files ≡ found = cc in
          (sym same, subst (λ (fs : List FileAt). total fs ≤ 67108864) same (ltb-false 67108864 (total files) short))

  paths_in : (m : Files) (paths : List (List ℕ))
      → map (λ (f : FileAt). f.path) (files_in m directory paths) ≡ paths
  paths_in m [] = refl
  paths_in m (path ∷ paths) = ap (λ (t : List (List ℕ)). path ∷ t) (paths_in m paths)

  below_ascend : (m : Files) → IsAscending (paths_below directory (keys m))
  below_ascend m = still_ascending directory (keys m) (sorted_to (entries m) (entries_sorted m))

  -- it ascends, and is short
  pub found_right : (m : Files) (found : List FileAt) → input_due m directory ≡ Ok found
      → IsAscending (map (λ (f : FileAt). f.path) found) × (total found ≤ 67108864)
  found_right m found due =
      let w = within m found due in (
        subst (λ (fs : List FileAt). IsAscending (map (λ (f : FileAt). f.path) fs)) (sym w.0)
            (subst IsAscending (sym (paths_in m (class_paths m directory)))
            (IsStrictlySortedBy-filter order is_class_path (paths_below directory (keys m)) (below_ascend m))),
        w.1,
      )

  module _ (old : Files) (files others there : List FileAt) (empty : paths_below directory (keys old) ≡ [])
      (below : AreBelow directory files there) (ascend : IsAscending (map (λ (f : FileAt). f.path) there))
      (named : AllByRecursion (λ (f : FileAt). is_class_path f.path ≡ true) there)
      (elsewhere : AllByRecursion (IsElsewhere directory) others) where
    abbrev new : Files
    new = put_all old (files ++ others)

    stands : (q : List ℕ) → get new (front ++ q) ≡ find order q (listed there)
    stands q =
        ap (λ (m : Files). get m (front ++ q)) (put_both old files others)
        ∙ put_elsewhere q others elsewhere (put_all old files) ∙ put_there q files there below ascend old
        ∙ ap (or_else (find order q (listed there))) (none_below q old empty)
        ∙ or_none (find order q (listed there))
      where
        or_none : (o : Option (List ℕ)) → or_else o None ≡ o
        or_none None = refl
        or_none (Some x) = refl

    entries_are : below_of front (entries new) ≡ listed there
    entries_are =
        same_entries order nat_list_cmp_total exact_bytes (below_of front (entries new)) (listed there)
        (sorted_from (below_of front (entries new)) (subst IsAscending (paths_of front (entries new))
        (below_ascend new)))
        (sorted_from (listed there) (subst IsAscending (sym (listed_paths there)) ascend))
        (λ q. sym (found_below front q (entries new)) ∙ sym (get-entries new (front ++ q)) ∙ stands q)

    paths_are : paths_below directory (keys new) ≡ map (λ (f : FileAt). f.path) there
    paths_are =
        paths_of front (entries new) ∙ ap (map (λ (e : Entry). e.0)) entries_are ∙ listed_paths there

    all_classes : (fs : List FileAt) → AllByRecursion (λ (f : FileAt). is_class_path f.path ≡ true) fs
        → filter is_class_path (map (λ (f : FileAt). f.path) fs) ≡ map (λ (f : FileAt). f.path) fs
    all_classes [] all = refl
    all_classes (f ∷ fs) all =
        let rest = all_classes fs all.1 in
        ap (λ (t : Bool). cond t (f.path ∷ filter is_class_path (map (λ (f : FileAt). f.path) fs))
        (filter is_class_path (map (λ (f : FileAt). f.path) fs))) all.0
        ∙ ap (λ (t : List (List ℕ)). f.path ∷ t) rest

    each_stands : (fs : List FileAt) → AllByRecursion (IsIn there) fs
        → AllByRecursion (λ (f : FileAt). get new (front ++ f.path) ≡ Some f.bytes) fs
    each_stands [] all = tt
    each_stands (f ∷ fs) all = (stands f.path ∙ all.0, each_stands fs all.1)

    found_are : (found : List FileAt) → input_due new directory ≡ Ok found → found ≡ there
    found_are found due =
        (within new found due).0
        ∙ ap (files_in new directory) (ap (filter is_class_path) paths_are ∙ all_classes there named)
        ∙ files_at new there (each_stands there (all_in there ascend))

pub ascend_found : FoundAscend
ascend_found files directory found due = found_right directory files found due

pub are_found : PutAreFound
are_found old directory files others there found empty below ascend named elsewhere due =
    found_are directory old files others there empty below ascend named elsewhere found due
