-- Classes are written, and what became of each is told one after the other.
use Rattle.std.proofs.Common.{◌≡◌, ℕ, List, [], ◌∷◌, ◌++◌, Result, Ok, Err, refl, subst, sym, ◌∙◌, append-nil, append_assoc, map}
use Rattle.std.specs.List.{All, AllByRecursion, AllZip}
use Rattle.std.proofs.lemmas.List.Elements.{All-cons, All-nil}
use Rattle.std.proofs.lemmas.Slice.Zip.{all_zipped_more}
use Rattle.rayon.proofs.ListFacts.{AllZip-through}
use Rattle.jv_base.specs.declared.outcome.Or.{Or}
use Rattle.jv_base.specs.declared.outcome.Or.TheVariants.{Fault, OutOfMemory}
use Rattle.tree_io.specs.declared.file_at.FileAt.{FileAt}
use Rattle.attribute_filter.specs.Filtered.{filtered}
use Rattle.attribute_filter.specs.declared.filter.AttributeFilter.{AttributeFilter}
use Rattle.class_model.specs.declared.class.Class.{Class}
use Rattle.class_model.specs.declared.limit.WriteLimit.{WriteLimit}
use Rattle.set_shrink.specs.ShrunkSet.{AreFilesOf, IsFileOf, Fits, PassLimit}
use Rattle.set_shrink.specs.bodies.Steps.{AreEachWritten, Writes, WritesOne}

-- a class that has a file fits
files_fit : (directory : List ℕ) (classes : List Class) (files : List FileAt) → AreFilesOf directory classes files
    → AllByRecursion Fits classes
files_fit directory [] files h = tt
files_fit directory (c ∷ classes) [] h = absurd h
files_fit directory (c ∷ classes) (f ∷ files) h = ((f.bytes, h.0.1), files_fit directory classes files h.1)

-- what holds of all changed elements holds of each that is changed
pub all_changed : {X Y : Type 0} (P : Y → Type 0) (f : X → Y) (xs : List X) → AllByRecursion P (map f xs)
    → All (λ (x : X). P (f x)) xs
all_changed P f [] h = All-nil (λ x. P (f x))
all_changed P f (x ∷ xs) h = All-cons (λ y. P (f y)) x xs h.0 (all_changed P f xs h.1)

-- what a worker gives of each class, in any list of the same classes and of the same results
pub each_is : (filter : AttributeFilter) (directory : List ℕ) (classes given : List Class)
    (results all : List (Result FileAt (Or WriteLimit))) → given ≡ classes → all ≡ results
    → AllZip (λ (c : Class) (r : Result FileAt (Or WriteLimit)). WritesOne r (filtered filter c) directory) given results
    → AreEachWritten directory (map (filtered filter) classes) all
each_is filter directory classes given results all same are each =
    subst (λ (l : List (Result FileAt (Or WriteLimit))). AreEachWritten directory (map (filtered filter) classes) l)
    (sym are)
    (subst (λ (l : List Class). AreEachWritten directory (map (filtered filter) l) results) same
    (AllZip-through (filtered filter)
    (λ (c : Class) (r : Result FileAt (Or WriteLimit)). WritesOne r (filtered filter c) directory)
    (λ (c : Class) (r : Result FileAt (Or WriteLimit)). WritesOne r c directory) (λ c r w. w) given results each))

-- these are the files of the classes before those of which the rest tells
pub record AreWritten (classes : List Class) (directory : List ℕ) (files : List FileAt)
    (rest : List (Result FileAt (Or WriteLimit))) : Type 0 where
  pub gone : List Class
  pub left : List Class
  pub split : gone ++ left ≡ classes
  pub are : AreFilesOf directory gone files
  pub others : AreEachWritten directory left rest

module _ (classes : List Class) (directory : List ℕ) where
  pub none_written : (all : List (Result FileAt (Or WriteLimit))) → AreEachWritten directory classes all
      → AreWritten classes directory [] all
  none_written all h = record { gone = []; left = classes; split = refl; are = tt; others = h }

  -- no class is left
  pub all_written : (files : List FileAt) → AreWritten classes directory files [] → AreFilesOf directory classes files
  all_written files w = by w.left w.split w.others
    where
      by : (left : List Class) → w.gone ++ left ≡ classes → AreEachWritten directory left []
          → AreFilesOf directory classes files
      by [] split none =
          subst (λ (cs : List Class). AreFilesOf directory cs files) (sym (append-nil w.gone) ∙ split) w.are
      by (c ∷ left) split none = absurd none

  module _ (files : List FileAt) (rest : List (Result FileAt (Or WriteLimit))) where
    -- one class more has a file
    pub more_written : (f : FileAt) → AreWritten classes directory files (Ok f ∷ rest)
        → AreWritten classes directory (files ++ f ∷ []) rest
    more_written f w = by w.left w.split w.others
      where
        by : (left : List Class) → w.gone ++ left ≡ classes → AreEachWritten directory left (Ok f ∷ rest)
            → AreWritten classes directory (files ++ f ∷ []) rest
        by [] split each = absurd each
        by (c ∷ left) split each = record {
          gone = w.gone ++ c ∷ [];
          left = left;
          split = append_assoc w.gone (c ∷ []) left ∙ split;
          are = all_zipped_more (IsFileOf directory) w.gone files c f w.are each.0;
          others = each.1;
        }

    -- the next class isn't written
    pub stops : (e : Or WriteLimit) → AreWritten classes directory files (Err e ∷ rest)
        → Writes (Err e) classes directory
    stops (Fault limit) w = by w.left w.split w.others
      where
        by : (left : List Class) → w.gone ++ left ≡ classes
            → AreEachWritten directory left (Err (Fault limit) ∷ rest) → PassLimit classes limit
        by [] split each = absurd each
        by (c ∷ left) split each = record {
          before = w.gone;
          class = c;
          after = left;
          split = sym split;
          fit = files_fit directory w.gone files w.are;
          passes = each.0;
        }
    stops OutOfMemory w = tt
