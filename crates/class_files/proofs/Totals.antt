-- The paths that are told, and files that are read one after the other.
use Rattle.std.proofs.Common.{◌≡◌, ◌≤◌, ℕ, ◌+◌, ◌-◌, Bool, true, false, cond, List, [], ◌∷◌, ◌++◌, ◌||◌, length, map}
use Rattle.std.proofs.Common.{Option, Some, None, Result, Ok, Err, refl, sym, ap, ◌∙◌, subst, arith}
use Rattle.std.specs.Prelude.{IsSome, nat_lt, is_some}
use Rattle.std.specs.FinMap.{get, keys, contains_key-keys}
use Rattle.std.specs.Ordering.{eq_by_cmp, nat_cmp}
use Rattle.std.specs.Cmp.Lexicographic.{nat_list_cmp_total, slice_cmp}
use Rattle.std.proofs.lemmas.Cmp.{eq_by_cmp_equiv}
use Rattle.std.specs.List.{AllByRecursion, cons_option, filter, filter_map, list_any}
use Rattle.std.proofs.lemmas.List.{map-append}
use Rattle.std.proofs.lemmas.List.Sums.{sum_by-append}
use Rattle.std.proofs.lemmas.Bool.{lt-ltb, ltb-true}
use Rattle.tree_io.specs.Below.{front_of, paths_below, rest_after}
use Rattle.tree_io.specs.Files.{Files}
use Rattle.tree_io.specs.declared.file_at.FileAt.{FileAt}
use Rattle.class_files.specs.declared.input.InputFault.{InputFault}
use Rattle.class_files.specs.declared.input.InputFault.TheVariants.{Absent, Failed, OutOfMemory, TooLong}
use Rattle.class_files.specs.declared.input.InputFault.TheVariants.{TooManyClasses, TooManyFiles}
use Rattle.class_files.specs.Input.{AreThere, FindsDue, class_paths, file_in, files_in, input_due}
use Rattle.class_files.specs.bodies.Input.{file_due}
use Rattle.class_files.specs.Input.{is_class_path, limited, path_in, total}
use Rattle.class_files.specs.bodies.Input.{paths_due}
use Rattle.tree_io.proofs.Below.{behind}

or_true : (a : Bool) {b : Bool} → b ≡ true → a || b ≡ true
or_true true h = refl
or_true false h = h

-- ---- one more file

-- a file that is due is the told one
due_file : (long : Bool) (told file : FileAt) → cond long (Err TooLong) (Ok told) ≡ Ok file → file ≡ told
due_file true told file h = absurd cc
due_file false told file h = cc

pub file_told : (fs : Files) (directory path : List ℕ) (max : ℕ) (file : FileAt)
    → file_due fs directory path max ≡ Ok file → file ≡ file_in fs directory path
file_told fs directory path max file h = due_file (nat_lt max (length (file_in fs directory path).bytes))
    (file_in fs directory path) file h

pub put_on : {A : Type 0} (xs : List A) (x : A) (ys : List A) → (xs ++ x ∷ []) ++ ys ≡ xs ++ x ∷ ys
put_on [] x ys = refl
put_on (z ∷ xs) x ys = ap (λ (t : List _). z ∷ t) (put_on xs x ys)

pub more_told : (fs : Files) (directory : List ℕ) (files : List FileAt) (file : FileAt) (path : List ℕ)
    (rest all : List (List ℕ)) (max : ℕ)
    → (files ++ files_in fs directory (path ∷ rest) ≡ files_in fs directory all)
    × AllByRecursion (λ p. IsSome (get fs (path_in directory p))) (path ∷ rest)
    → file_due fs directory path max ≡ Ok file
    → ((files ++ file ∷ []) ++ files_in fs directory rest ≡ files_in fs directory all)
    × AllByRecursion (λ p. IsSome (get fs (path_in directory p))) rest
more_told fs directory files file path rest all max before due = (
  put_on files file (files_in fs directory rest)
      ∙ ap (λ (f : FileAt). files ++ f ∷ files_in fs directory rest) (file_told fs directory path max file due)
      ∙ before.0,
  before.1.1,
)

pub more_paths : (files : List FileAt) (file : FileAt) (path : List ℕ) (rest all : List (List ℕ))
    → map (λ (f : FileAt). f.path) files ++ path ∷ rest ≡ all → file.path ≡ path
    → map (λ (f : FileAt). f.path) (files ++ file ∷ []) ++ rest ≡ all
more_paths files file path rest all before is =
    ap (λ (ps : List (List ℕ)). ps ++ rest) (map-append (λ (f : FileAt). f.path) files (file ∷ []))
    ∙ put_on (map (λ (f : FileAt). f.path) files) file.path rest
    ∙ ap (λ (p : List ℕ). map (λ (f : FileAt). f.path) files ++ p ∷ rest) is ∙ before

pub more_bytes : (files : List FileAt) (file : FileAt) (room limit : ℕ) → room + total files ≡ limit
    → length file.bytes ≤ room → room - length file.bytes + total (files ++ file ∷ []) ≡ limit
more_bytes files file room limit before fits =
    let sum : total (files ++ file ∷ [])
    ≡ total files + (0 + length file.bytes) = sum_by-append (λ (f : FileAt). length f.bytes) files (file ∷ []) in
    omega (arith, sum, before, fits)

-- ---- paths that are told

any_middle : {A : Type 0} (p : A → Bool) (front : List A) (x : A) (rest : List A) → p x ≡ true
    → list_any p (front ++ x ∷ rest) ≡ true
any_middle p [] x rest h = rw h refl
any_middle p (f ∷ front) x rest h = let r = any_middle p front x rest h in or_true (p f) r

-- each of the last of a list is one of it
any_own : {A : Type 0} (eq : A → A → Bool) → ((x : A) → eq x x ≡ true) → (front xs : List A)
    → AllByRecursion (λ x. list_any (eq x) (front ++ xs) ≡ true) xs
any_own eq same front [] = tt
any_own eq same front (x ∷ xs) = (
  any_middle (eq x) front x xs (same x),
  subst (λ (l : List _). AllByRecursion (λ y. list_any (eq y) l ≡ true) xs) (put_on front x xs)
      (any_own eq same (front ++ x ∷ []) xs),
)

is_some_so : {A : Type 0} (o : Option A) → is_some o ≡ true → IsSome o
is_some_so None h = absurd cc
is_some_so (Some x) h = refl

keys_told : (fs : Files) (ks : List (List ℕ))
    → AllByRecursion (λ k. list_any (eq_by_cmp (slice_cmp nat_cmp) k) (keys fs) ≡ true) ks
    → AllByRecursion (λ k. IsSome (get fs k)) ks
keys_told fs [] h = tt
keys_told fs (k ∷ ks) h = (is_some_so (get fs k) (contains_key-keys fs k ∙ h.0), keys_told fs ks h.1)

-- those below a directory, of which a test passes some
below_told : (fs : Files) (passes : List ℕ → Bool) (front : List ℕ) (ks : List (List ℕ))
    → AllByRecursion (λ k. IsSome (get fs k)) ks
    → AllByRecursion (λ p. IsSome (get fs (front ++ p))) (filter passes (filter_map (rest_after front) ks))
below_told fs passes front [] h = tt
below_told fs passes front (k ∷ ks) h =
    elim (rest_after front k) as (λ o. rest_after front k ≡ o
    → AllByRecursion (λ p. IsSome (get fs (front ++ p)))
    (filter passes (cons_option o (filter_map (rest_after front) ks)))) [
      | None ↦ λ q. below_told fs passes front ks h.1
      | Some p ↦ λ q.
          elim (passes p) as (λ b. AllByRecursion (λ p. IsSome (get fs (front ++ p)))
          (cond b (p ∷ filter passes (filter_map (rest_after front) ks))
          (filter passes (filter_map (rest_after front) ks)))) [
            | true ↦ (
              subst (λ (path : List ℕ). IsSome (get fs path))
                  (behind front k p q) h.0,
              below_told fs passes front ks h.1,
            )
            | false ↦ below_told fs passes front ks h.1
          ]
    ] refl

pub class_paths_told : (fs : Files) (directory : List ℕ)
    → AllByRecursion (λ p. IsSome (get fs (path_in directory p))) (class_paths fs directory)
class_paths_told fs directory =
    below_told fs is_class_path (front_of directory) (keys fs)
    (keys_told fs (keys fs) (any_own (eq_by_cmp (slice_cmp nat_cmp)) (eq_by_cmp_equiv nat_list_cmp_total).refl []
    (keys fs)))

-- the paths that are due are these
due_paths : (many more : Bool) (paths found : List (List ℕ))
    → cond many (Err TooManyFiles) (cond more (Err TooManyClasses) (Ok paths)) ≡ Ok found → found ≡ paths
due_paths true more paths found h = absurd cc
due_paths false true paths found h = absurd cc
due_paths false false paths found h = cc

pub paths_told : (fs : Files) (directory : List ℕ) (found : List (List ℕ)) → paths_due fs directory ≡ Ok found
    → found ≡ class_paths fs directory
paths_told fs directory found h =
    due_paths (nat_lt 65536 (length (paths_below directory (keys fs))))
    (nat_lt 20000 (length (class_paths fs directory))) (class_paths fs directory) found h

-- where the numbers are within their limits, what is due is the files
pub input_is : (fs : Files) (directory : List ℕ) (found : List (List ℕ)) → paths_due fs directory ≡ Ok found
    → input_due fs directory ≡ limited (files_in fs directory found)
input_is fs directory found h =
    last_is (nat_lt 65536 (length (paths_below directory (keys fs)))) (nat_lt 20000 (length (class_paths fs directory)))
    (class_paths fs directory) found _ h
    ∙ ap (λ (ps : List (List ℕ)). limited (files_in fs directory ps)) (sym (paths_told fs directory found h))
  where
    last_is : (many more : Bool) (paths found : List (List ℕ)) (last : Result (List FileAt) InputFault)
        → cond many (Err TooManyFiles) (cond more (Err TooManyClasses) (Ok paths)) ≡ Ok found
        → cond many (Err TooManyFiles) (cond more (Err TooManyClasses) last) ≡ last
    last_is true more paths found last h = absurd cc
    last_is false true paths found last h = absurd cc
    last_is false false paths found last h = refl

-- the paths that were found are there
pub found_there : (fs : Files) (directory : List ℕ) (found : List (List ℕ)) → paths_due fs directory ≡ Ok found
    → AreThere fs directory found
found_there fs directory found h = subst (AreThere fs directory) (sym (paths_told fs directory found h))
    (class_paths_told fs directory)

-- ---- a file that isn't given

long_by : (long : Bool) (told : FileAt) (fault : InputFault) → cond long (Err TooLong) (Ok told) ≡ Err fault
    → (long ≡ true) × (fault ≡ TooLong)
long_by true told fault h = (refl, cc)
long_by false told fault h = absurd cc

too_long : (fs : Files) (directory : List ℕ) (files : List FileAt) (path : List ℕ) (rest all : List (List ℕ)) (room : ℕ)
    → room + total files ≡ 67108864
    → files ++ files_in fs directory (path ∷ rest) ≡ files_in fs directory all
    → nat_lt room (length (file_in fs directory path).bytes) ≡ true
    → limited (files_in fs directory all) ≡ Err TooLong
too_long fs directory files path rest all room sum split long =
    let less = ltb-true _ _ long in
    let parts : total (files ++ files_in fs directory (path ∷ rest))
    ≡ total files + total (files_in fs directory (path ∷ rest)) =
    sum_by-append (λ (f : FileAt). length f.bytes) files (files_in fs directory (path ∷ rest)) in
    let whole : total (files ++ files_in fs directory (path ∷ rest))
    ≡ total (files_in fs directory all) = ap total split in
    let one : total (files_in fs directory (path ∷ rest))
    ≡ (0 + length (file_in fs directory path).bytes) + total (files_in fs directory rest) =
    sum_by-append (λ (f : FileAt). length f.bytes) (file_in fs directory path ∷ []) (files_in fs directory rest) in
    let over : nat_lt 67108864 (total (files_in fs directory all))
    ≡ true = lt-ltb _ _ (omega (arith, less, one, parts, whole, sum)) in
    ap (λ (b : Bool). cond b (Err TooLong) (Ok (files_in fs directory all))) over

abbrev pub no_file : InputFault → Result FileAt InputFault
no_file fault = Err fault

abbrev pub no_files : InputFault → Result (List FileAt) InputFault
no_files fault = Err fault

-- where one of the files isn't given, the files aren't
pub fails_so : (fs : Files) (directory : List ℕ) (files : List FileAt) (path : List ℕ) (rest all : List (List ℕ))
    (room : ℕ) (fault : InputFault)
    → room + total files ≡ 67108864 → files ++ files_in fs directory (path ∷ rest) ≡ files_in fs directory all
    → FindsDue (no_file fault) (file_due fs directory path room)
    → FindsDue (no_files fault) (limited (files_in fs directory all))
fails_so fs directory files path rest all room TooLong sum split h =
    too_long fs directory files path rest all room sum split (long_by _ (file_in fs directory path) TooLong h).0
fails_so fs directory files path rest all room Failed sum split h = tt
fails_so fs directory files path rest all room OutOfMemory sum split h = tt
fails_so fs directory files path rest all room TooManyFiles sum split h =
    (let is = (long_by _ (file_in fs directory path) TooManyFiles h).1 in absurd cc)
fails_so fs directory files path rest all room TooManyClasses sum split h =
    (let is = (long_by _ (file_in fs directory path) TooManyClasses h).1 in absurd cc)
fails_so fs directory files path rest all room (Absent at) sum split h =
    (let is = (long_by _ (file_in fs directory path) (Absent at) h).1 in absurd cc)
