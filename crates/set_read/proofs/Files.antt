-- Files that are read one after the other.
use Rattle.std.proofs.Common.{append_assoc, ◌≡◌, ℕ, ◌+◌, ◌<◌, List, [], ◌∷◌, ◌++◌, length, Err, refl, sym, subst, ap}
use Rattle.std.proofs.Common.{◌∙◌, arith}
use Rattle.std.specs.List.{AllByRecursion, AllZip, sum_by}
use Rattle.std.proofs.lemmas.List.{append-nil}
use Rattle.std.proofs.lemmas.List.Sums.{sum_by-append, sum_by-cons}
use Rattle.jv_base.specs.declared.outcome.Or.{Or}
use Rattle.jv_base.specs.declared.outcome.Or.TheVariants as or
use Rattle.tree_io.specs.declared.file_at.FileAt.{FileAt}
use Rattle.format_reading.specs.declared.fault.FormatFault.{FormatFault}
use Rattle.class_model.specs.ReadingClass.{class_read}
use Rattle.class_pool.specs.declared.fault.NamedClass.{NamedClass}
use Rattle.set_read.specs.Accepted.{AreRead, IsClassFile, IsUnread, Spells}
use Rattle.set_read.specs.bodies.Steps.{ReadsClass, ReadsFiles}
use Rattle.set_read.specs.declared.fault.SetFault.{SetFault}
use Rattle.set_read.specs.declared.fault.SetFault.TheVariants.{Format, Rule}

-- the files before the rest are read
pub record ReadSoFar (files rest : List FileAt) (named : List NamedClass) : Type 0 where
  pub before : List FileAt
  pub split : files ≡ before ++ rest
  pub read : AreRead before named

zip_push : {A B : Type 0} (R : A → B → Type 0) (xs : List A) (ys : List B) (x : A) (y : B) → AllZip R xs ys → R x y
    → AllZip R (xs ++ x ∷ []) (ys ++ y ∷ [])
zip_push R [] [] x y h r = (r, tt)
zip_push R [] (b ∷ ys) x y h r = absurd h
zip_push R (a ∷ xs) [] x y h r = absurd h
zip_push R (a ∷ xs) (b ∷ ys) x y h r = (h.0, zip_push R xs ys x y h.1 r)

-- what is read is a class file
readable : (files : List FileAt) (named : List NamedClass) → AreRead files named → AllByRecursion IsClassFile files
readable [] named h = tt
readable (f ∷ files) [] h = absurd h
readable (f ∷ files) (c ∷ named) h = ((c.class, h.0.1), readable files named h.1)

pub starts : (files : List FileAt) → ReadSoFar files files []
starts files = record { before = []; split = refl; read = tt }

-- one more file is read
pub goes_on : (files rest : List FileAt) (named : List NamedClass) (file : FileAt) (class : NamedClass)
    → ReadSoFar files (file ∷ rest) named → Spells file class → ReadSoFar files rest (named ++ class ∷ [])
goes_on files rest named file class so spells = record {
  before = so.before ++ file ∷ [];
  split = so.split ∙ sym (append_assoc so.before (file ∷ []) rest);
  read = zip_push Spells so.before named file class so.read spells;
}

-- none is left
pub ends : (files : List FileAt) (named : List NamedClass) → ReadSoFar files [] named → AreRead files named
ends files named so = subst (λ (fs : List FileAt). AreRead fs named) (sym (so.split ∙ append-nil so.before)) so.read

-- the next one is no class file
stops : (files rest : List FileAt) (named : List NamedClass) (file : FileAt) (path : List ℕ) (fault : FormatFault)
    → ReadSoFar files (file ∷ rest) named → class_read file.bytes ≡ Err fault → path ≡ file.path
    → IsUnread files path fault
stops files rest named file path fault so unread at = record {
  before = so.before;
  file = file;
  after = rest;
  split = so.split;
  readable = readable so.before named so.read;
  unread = unread;
  named = at;
}

pub stops_at : (files rest : List FileAt) (named : List NamedClass) (file : FileAt) (why : Or SetFault)
    → ReadSoFar files (file ∷ rest) named → ReadsClass (Err why) file → ReadsFiles (Err why) files
stops_at files rest named file (or.Fault (Format path fault)) so h = stops files rest named file path fault so h.0 h.1
stops_at files rest named file (or.Fault (Rule told)) so h = absurd h
stops_at files rest named file or.OutOfMemory so h = tt

-- the next one is no longer than all
pub is_short : (files rest : List FileAt) (named : List NamedClass) (file : FileAt) (limit : ℕ)
    → ReadSoFar files (file ∷ rest) named → sum_by (λ (f : FileAt). length f.bytes) files < limit
    → length file.bytes < limit
is_short files rest named file limit so short =
    let bytes : FileAt → ℕ = λ f. length f.bytes in
    let whole : sum_by bytes files ≡ sum_by bytes (so.before ++ file ∷ rest) = ap (sum_by bytes) so.split in
    let parts : sum_by bytes (so.before ++ file ∷ rest)
    ≡ sum_by bytes so.before + sum_by bytes (file ∷ rest) = sum_by-append bytes so.before (file ∷ rest) in
    let last : sum_by bytes (file ∷ rest) ≡ bytes file + sum_by bytes rest = sum_by-cons bytes file rest in
    omega (arith, short, whole, parts, last)
