-- What stands at a path, and below a directory, after files were put elsewhere.
use Rattle.std.proofs.Common.{◌≡◌, ◌≢◌, ◌⊎◌, inl, inr, ℕ, Bool, true, false, cond, List, [], ◌∷◌, ◌++◌, length, map}
use Rattle.std.proofs.Common.{Some, Result, Ok, Err, nat_lt, refl, sym, ap, subst, ◌∙◌}
use Rattle.std.specs.Cmp.Lexicographic.{nat_list_cmp_total}
use Rattle.std.specs.FinMap.{entries, entries_sorted, get, get-entries, get-insert, insert, keys}
use Rattle.std.specs.FinMap.Entries.{same_entries}
use Rattle.std.specs.List.{AllByRecursion, filter}
use Rattle.std.specs.Option.{option_map_or}
use Rattle.std.specs.Ordering.{is_eq}
use Rattle.std.specs.declared.cmp.Ordering.{Ordering}
use Rattle.std.specs.declared.cmp.Ordering.TheVariants.{Less, Equal, Greater}
use Rattle.std.proofs.lemmas.Cmp.{tied_itself}
use Rattle.std.proofs.lemmas.Map.Lookups.{exact_bytes}
use Rattle.tree_io.specs.Below.{IsAscending, front_of, paths_below}
use Rattle.tree_io.specs.Files.{Files}
use Rattle.tree_io.specs.declared.file_at.FileAt.{FileAt}
use Rattle.tree_io.proofs.Below.{still_ascending}
use Rattle.class_files.specs.Input.{class_paths, files_in, input_due, is_class_path, limited, total}
use Rattle.class_files.specs.Output.{put_all}
use Rattle.class_files.specs.declared.input.InputFault.{InputFault}
use Rattle.class_files.specs.declared.input.InputFault.TheVariants.{TooLong, TooManyClasses, TooManyFiles}
use Rattle.pair_laws.proofs.FilesFound.Entries.{Entry, below_of, found_below, order, paths_of, sorted_from, sorted_to}
use Rattle.pair_laws.proofs.FilesFound.Found.{put_elsewhere}
use Rattle.pair_laws.specs.OwnChecked.Again.{PassesInputLimit, by_classes, by_files, by_length}
use Rattle.pair_laws.specs.OwnChecked.Laws.{ElsewhereChangesNothing}

-- ---- at a path

other_path : (p q : List ℕ) → p ≢ q → (o : Ordering) → order p q ≡ o → is_eq o ≡ false
other_path p q other Less is = refl
other_path p q other Greater is = refl
other_path p q other Equal is = absurd (other (exact_bytes p q is))

pub stays_at : (path : List ℕ) (others : List FileAt) → AllByRecursion (λ (f : FileAt). path ≢ f.path) others
    → (m : Files) → get (put_all m others) path ≡ get m path
stays_at path [] all m = refl
stays_at path (f ∷ others) all m =
    stays_at path others all.1 (insert m f.path f.bytes)
    ∙ get-insert nat_list_cmp_total m f.path f.bytes path
    ∙ ap (λ (t : Bool). cond t (Some f.bytes) (get m path)) (other_path path f.path all.0 (order path f.path) refl)

pub stands_at : (m : Files) (path bytes : List ℕ) → get (insert m path bytes) path ≡ Some bytes
stands_at m path bytes =
    get-insert nat_list_cmp_total m path bytes path
    ∙ ap (λ (o : Ordering). cond (is_eq o) (Some bytes) (get m path)) (tied_itself nat_list_cmp_total path)

-- ---- below a directory

module _ (directory : List ℕ) where
  abbrev front : List ℕ
  front = front_of directory

  ascend : (m : Files) → IsAscending (map (λ (e : Entry). e.0) (below_of front (entries m)))
  ascend m = subst IsAscending (paths_of front (entries m))
      (still_ascending directory (keys m) (sorted_to (entries m) (entries_sorted m)))

  module _ (m n : Files) (same : (q : List ℕ) → get m (front ++ q) ≡ get n (front ++ q)) where
    entries_same : below_of front (entries m) ≡ below_of front (entries n)
    entries_same =
        same_entries order nat_list_cmp_total exact_bytes (below_of front (entries m)) (below_of front (entries n))
        (sorted_from (below_of front (entries m)) (ascend m)) (sorted_from (below_of front (entries n)) (ascend n))
        (λ q.
        sym (found_below front q (entries m)) ∙ sym (get-entries m (front ++ q)) ∙ same q
        ∙ get-entries n (front ++ q) ∙ found_below front q (entries n))

    paths_same : paths_below directory (keys m) ≡ paths_below directory (keys n)
    paths_same =
        paths_of front (entries m) ∙ ap (map (λ (e : Entry). e.0)) entries_same ∙ sym (paths_of front (entries n))

    files_same : (paths : List (List ℕ)) → files_in m directory paths ≡ files_in n directory paths
    files_same [] = refl
    files_same (path ∷ paths) =
        let first = same path in
        let rest = files_same paths in
        λ i. record { path = path; bytes = option_map_or (λ bytes. bytes) (first i) [] } ∷ rest i

    abbrev due_of : List (List ℕ) → List FileAt → Result (List FileAt) InputFault
    due_of paths found = cond (nat_lt 65536 (length paths)) (Err TooManyFiles)
        (cond (nat_lt 20000 (length (filter is_class_path paths))) (Err TooManyClasses) (limited found))

    pub input_same : input_due m directory ≡ input_due n directory
    input_same =
        ap (due_of (paths_below directory (keys m))) (files_same (filter is_class_path (paths_below directory (keys m))))
        ∙ ap (λ (paths : List (List ℕ)). due_of paths (files_in n directory (filter is_class_path paths))) paths_same

  module _ (m : Files) where
    abbrev its : List FileAt
    its = files_in m directory (class_paths m directory)

    abbrev then_long : Bool → Result (List FileAt) InputFault
    then_long c = cond c (Err TooLong) (Ok its)

    abbrev then_classes : Bool → Result (List FileAt) InputFault
    then_classes b = cond b (Err TooManyClasses) (then_long (nat_lt 67108864 (total its)))

    abbrev then_files : Bool → Result (List FileAt) InputFault
    then_files a = cond a (Err TooManyFiles) (then_classes (nat_lt 20000 (length (class_paths m directory))))

    due_by : (a : Bool) → nat_lt 65536 (length (paths_below directory (keys m))) ≡ a
        → (b : Bool) → nat_lt 20000 (length (class_paths m directory)) ≡ b
        → (c : Bool) → nat_lt 67108864 (total its) ≡ c
        → ((found : List FileAt) × (input_due m directory ≡ Ok found)) ⊎ PassesInputLimit m directory
    due_by true is b is_b c is_c = inr (by_files (ap then_files is))
    due_by false is true is_b c is_c = inr (by_classes (ap then_files is ∙ ap then_classes is_b))
    due_by false is false is_b true is_c =
        inr (by_length (ap then_files is ∙ ap then_classes is_b ∙ ap then_long is_c))
    due_by false is false is_b false is_c =
        inl (its, ap then_files is ∙ ap then_classes is_b ∙ ap then_long is_c)

    -- class files are found, or they pass a limit
    pub found_or_limit : ((found : List FileAt) × (input_due m directory ≡ Ok found)) ⊎ PassesInputLimit m directory
    found_or_limit =
        due_by (nat_lt 65536 (length (paths_below directory (keys m)))) refl
        (nat_lt 20000 (length (class_paths m directory))) refl (nat_lt 67108864 (total its)) refl

pub elsewhere_same : ElsewhereChangesNothing
elsewhere_same old directory others elsewhere =
    input_same directory (put_all old others) old (λ q. put_elsewhere directory q others elsewhere old)
