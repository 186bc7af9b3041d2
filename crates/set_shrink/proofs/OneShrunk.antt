-- Of the same set, for the same marks, one thing at most is written, or one limit passed, and never both.
use Rattle.std.proofs.Common.{◌≡◌, ℕ, List, [], ◌∷◌, ◌++◌}
use Rattle.std.proofs.Common.{Option, Some, None, Result, Ok, Err, refl, sym, ap, ◌∙◌}
use Rattle.std.specs.List.{AllByRecursion}
use Rattle.tree_io.specs.declared.file_at.FileAt.{FileAt}
use Rattle.class_model.specs.WriteLimits.{class_written}
use Rattle.class_model.specs.declared.class.Class.{Class}
use Rattle.class_model.specs.declared.limit.WriteLimit.{WriteLimit}
use Rattle.set_shrink.specs.OneShrunk.{IsOneLimit, IsOneShrunk, NotBothShrunk}
use Rattle.set_shrink.specs.ShrunkSet.{AreFilesOf, Fits, IsFileOf, PassLimit, left_of}

-- ---- files

same_bytes : (written : Result (List ℕ) WriteLimit) (one other : List ℕ) → written ≡ Ok one → written ≡ Ok other
    → one ≡ other
same_bytes written one other h k = cc

same_file : (directory : List ℕ) (c : Class) (one other : FileAt) → IsFileOf directory c one
    → IsFileOf directory c other → one ≡ other
same_file directory c one other h k =
    let path : one.path ≡ other.path = h.0 ∙ sym k.0 in
    let bytes : one.bytes ≡ other.bytes = same_bytes (class_written c) one.bytes other.bytes h.1 k.1 in
    λ i. record { path = path i; bytes = bytes i }

same_files : (directory : List ℕ) (classes : List Class) (one other : List FileAt) → AreFilesOf directory classes one
    → AreFilesOf directory classes other → one ≡ other
same_files directory [] [] [] h k = refl
same_files directory (c ∷ classes) (f ∷ one) (g ∷ other) h k =
    λ i. same_file directory c f g h.0 k.0 i ∷ same_files directory classes one other h.1 k.1 i
same_files directory [] (f ∷ one) other h k = absurd h
same_files directory [] [] (g ∷ other) h k = absurd k
same_files directory (c ∷ classes) [] other h k = absurd h
same_files directory (c ∷ classes) (f ∷ one) [] h k = absurd k

-- ---- limits

abbrev or_later : Result (List ℕ) WriteLimit → Option WriteLimit → Option WriteLimit
or_later (Ok bytes) later = later
or_later (Err limit) later = Some limit

-- the limit that is passed first, if there is one
abbrev first_limit : List Class → Option WriteLimit
first_limit [] = None
first_limit (c ∷ classes) = or_later (class_written c) (first_limit classes)

passed : (before : List Class) (c : Class) (after : List Class) (limit : WriteLimit) → AllByRecursion Fits before
    → class_written c ≡ Err limit → first_limit (before ++ c ∷ after) ≡ Some limit
passed [] c after limit fit passes = ap (λ (r : Result (List ℕ) WriteLimit). or_later r (first_limit after)) passes
passed (b ∷ before) c after limit fit passes =
    ap (λ (r : Result (List ℕ) WriteLimit). or_later r (first_limit (before ++ c ∷ after))) fit.0.1
    ∙ passed before c after limit fit.1 passes

limit_passed : (classes : List Class) (limit : WriteLimit) → PassLimit classes limit → first_limit classes ≡ Some limit
limit_passed classes limit h = ap first_limit h.split ∙ passed h.before h.class h.after limit h.fit h.passes

none_passed : (directory : List ℕ) (classes : List Class) (files : List FileAt) → AreFilesOf directory classes files
    → first_limit classes ≡ None
none_passed directory [] [] h = refl
none_passed directory (c ∷ classes) (f ∷ files) h =
    ap (λ (r : Result (List ℕ) WriteLimit). or_later r (first_limit classes)) h.0.1
    ∙ none_passed directory classes files h.1
none_passed directory [] (f ∷ files) h = absurd h
none_passed directory (c ∷ classes) [] h = absurd h

same_some : (o : Option WriteLimit) (one other : WriteLimit) → o ≡ Some one → o ≡ Some other → one ≡ other
same_some o one other h k = cc

not_some : (o : Option WriteLimit) (limit : WriteLimit) → o ≡ None → o ≡ Some limit → ⊥
not_some o limit h k = absurd cc

-- ---- the laws

pub one_shrunk : IsOneShrunk
one_shrunk classes marks rules old one other h k =
    let files : one.files ≡ other.files =
    same_files rules.out_dir (left_of classes marks rules old) one.files other.files h.files k.files in
    let mapping : one.mapping ≡ other.mapping = h.mapping ∙ sym k.mapping in
    let read : one.read ≡ other.read = h.read ∙ sym k.read in
    let left : one.kept ≡ other.kept = h.left ∙ sym k.left in
    λ i. record { files = files i; mapping = mapping i; read = read i; kept = left i }

pub one_limit : IsOneLimit
one_limit classes marks rules old limit other h k =
    same_some (first_limit (left_of classes marks rules old)) limit other
    (limit_passed (left_of classes marks rules old) limit h) (limit_passed (left_of classes marks rules old) other k)

pub not_both_shrunk : NotBothShrunk
not_both_shrunk classes marks rules old set limit h k =
    not_some (first_limit (left_of classes marks rules old)) limit
    (none_passed rules.out_dir (left_of classes marks rules old) set.files h.files)
    (limit_passed (left_of classes marks rules old) limit k)
