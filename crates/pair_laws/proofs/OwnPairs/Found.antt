-- The files that are written are found below the output directory.
use Rattle.std.proofs.Common.{◌≡◌, ◌<◌, ℕ, suc, ◌-◌, ◌++◌, true, List, [], ◌∷◌, length, drop, get_or}
use Rattle.std.proofs.Common.{map, refl, sym, ap, subst, ◌∙◌, arith, nat_eq, codes, append_assoc, length-append}
use Rattle.std.specs.Cmp.{unsigned_Decides}
use Rattle.std.specs.Cmp.Lexicographic.{slice_cmp}
use Rattle.std.specs.List.{AllByRecursion, ends_with}
use Rattle.std.specs.List.Sorted.{IsStrictlySortedBy}
use Rattle.std.specs.Ordering.{is_lt, nat_cmp}
use Rattle.std.specs.declared.cmp.Ordering.TheVariants.{Less}
use Rattle.std.proofs.lemmas.List.{drop_at}
use Rattle.std.proofs.lemmas.Slice.Eq.{slice_eq-Decides}
use Rattle.tree_io.specs.Below.{IsAscending, front_of}
use Rattle.tree_io.specs.declared.file_at.FileAt.{FileAt}
use Rattle.class_files.specs.Input.{is_class_path}
use Rattle.class_model.specs.declared.class.Class.{Class}
use Rattle.class_pool.specs.Faults.{Ascends}
use Rattle.class_pool.specs.declared.fault.NamedClass.{NamedClass}
use Rattle.class_pool.proofs.Ascending.{less}
use Rattle.pass_driver.specs.Optimised.{with_codes}
use Rattle.set_shrink.specs.Order.{class_path}
use Rattle.set_shrink.specs.ShrunkSet.{AreFilesOf, left_of}
use Rattle.pair_laws.specs.FilesFound.Below.{AreBelow}
use Rattle.pair_laws.proofs.FilesFound.Found.{are_found}
use Rattle.pair_laws.proofs.OwnShape.Names.{left_ascends}
use Rattle.pair_laws.specs.OwnPairs.Laws.{OwnFilesAreBelow, OwnFilesAreFound}
use Rattle.pair_laws.proofs.OwnPairs.Left.{at_its_path, at_paths, classes_back}
use Rattle.pair_laws.proofs.OwnPairs.Written.{same_rest}

module _ (directory : List ℕ) where
  -- the path of a class's file begins with the directory
  in_front : (c : Class) (f : FileAt) → f.path ≡ directory ++ codes "/" ++ c.name ++ codes ".class"
      → f.path ≡ front_of directory ++ class_path c
  in_front c f at = at ∙ append_assoc (front_of directory) c.name (codes ".class")

  -- the files by their paths below it
  below_all : (cs : List Class) (files : List FileAt) → AreFilesOf directory cs files
      → (written : List FileAt) × AreBelow directory files written
  below_all [] [] are = ([], tt)
  below_all [] (f ∷ files) are = absurd are
  below_all (c ∷ cs) [] are = absurd are
  below_all (c ∷ cs) (f ∷ files) are =
      let rest = below_all cs files are.1 in
      (record { path = class_path c; bytes = f.bytes } ∷ rest.0, ((in_front c f are.0.0, refl), rest.1))

  -- each at the path of its class
  class_paths_of : (cs : List Class) (files written : List FileAt) → AreFilesOf directory cs files
      → AreBelow directory files written
      → map (λ (f : FileAt). f.path) written ≡ map (λ (f : NamedClass). f.path) (map at_its_path cs)
  class_paths_of [] [] [] are below = refl
  class_paths_of [] [] (w ∷ written) are below = absurd below
  class_paths_of [] (f ∷ files) written are below = absurd are
  class_paths_of (c ∷ cs) [] written are below = absurd are
  class_paths_of (c ∷ cs) (f ∷ files) [] are below = absurd below
  class_paths_of (c ∷ cs) (f ∷ files) (w ∷ written) are below =
      let path : w.path ≡ class_path c =
      same_rest (front_of directory) w.path (class_path c) (sym below.0.0 ∙ in_front c f are.0.0) in
      λ i. path i ∷ class_paths_of cs files written are.1 below.1 i

-- ---- paths of class files

ends_so : (name behind : List ℕ) → ends_with nat_eq (name ++ behind) behind ≡ true
ends_so name behind =
    let start : length (name ++ behind) - length behind ≡ length name =
    (let long = length-append name behind in omega (arith, long)) in
    (slice_eq-Decides unsigned_Decides behind
    (drop (length (name ++ behind) - length behind) (name ++ behind)) _ refl).1
    (sym (ap (λ n. drop n (name ++ behind)) start ∙ drop_at name behind (length name) refl))

all_class_paths : (cs : List Class) (written : List FileAt)
    → map (λ (f : FileAt). f.path) written ≡ map (λ (f : NamedClass). f.path) (map at_its_path cs)
    → AllByRecursion (λ (f : FileAt). is_class_path f.path ≡ true) written
all_class_paths cs [] same = tt
all_class_paths [] (w ∷ written) same = absurd cc
all_class_paths (c ∷ cs) (w ∷ written) same =
    let path : w.path ≡ class_path c = cc in
    let rest : map (λ (f : FileAt). f.path) written ≡ map (λ (f : NamedClass). f.path) (map at_its_path cs) = cc in
    (ap is_class_path path ∙ ends_so c.name (codes ".class"), all_class_paths cs written rest)

-- ---- in order

all_above : (x : List ℕ) (files : List NamedClass)
    → ((k : ℕ) (d : NamedClass) → k < length files → is_lt (slice_cmp nat_cmp x (get_or files k d).path) ≡ true)
    → AllByRecursion (λ y. slice_cmp nat_cmp x y ≡ Less) (map (λ (f : NamedClass). f.path) files)
all_above x [] h = tt
all_above x (f ∷ files) h = (
  less (slice_cmp nat_cmp x f.path) (h 0 f (omega arith)),
  all_above x files (λ k d low. h (suc k) d (omega (arith, low))),
)

ascending : (files : List NamedClass) → Ascends files → IsAscending (map (λ (f : NamedClass). f.path) files)
unfolding IsStrictlySortedBy
ascending [] h = tt
ascending (f ∷ files) h = (
  all_above f.path files (λ k d low. h 0 (suc k) d (omega arith) (omega (arith, low))),
  ascending files (λ i j d less low. h (suc i) (suc j) d (omega (arith, less)) (omega (arith, low))),
)

-- ---- the whole

pub files_below : OwnFilesAreBelow
files_below classes marks rules old set shrunk =
    below_all rules.out_dir (left_of classes marks rules old) set.files shrunk.files

pub files_found : OwnFilesAreFound
files_found files classes marks rules old o set written h there others empty elsewhere found due =
    let new = with_codes o.codes classes in
    let left = left_of new marks rules old in
    let paths = class_paths_of rules.out_dir left set.files written h.shrunk.files h.below in
    let ascend : IsAscending (map (λ (f : FileAt). f.path) written) =
    subst IsAscending (sym paths) (ascending (map at_its_path left)
    (left_ascends new marks rules old (map at_its_path left) (at_paths left) (classes_back left))) in
    are_found there rules.out_dir set.files others written found empty h.below ascend
    (all_class_paths left written paths) elsewhere due
