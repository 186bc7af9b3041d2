-- When files are the same.
use Rattle.std.proofs.Common.{◌≡◌, ℕ, Bool, true, ◌&&◌, List, [], ◌∷◌, refl, sym, ap, ap₂, nat_eq}
use Rattle.std.specs.Bool.{Decides}
use Rattle.std.specs.Cmp.Lexicographic.{pointwise}
use Rattle.std.proofs.lemmas.Slice.Eq.{slice_eq-Decides}
use Rattle.jv_base.proofs.Equality.{and_Decides, text_Decides}
use Rattle.tree_io.specs.declared.file_at.FileAt.{FileAt}

pub file_Decides : (a b : FileAt) → Decides (pointwise nat_eq a.path b.path && pointwise nat_eq a.bytes b.bytes) (a ≡ b)
file_Decides a b =
    and_Decides (pointwise nat_eq a.path b.path) (pointwise nat_eq a.bytes b.bytes) (text_Decides a.path b.path)
    (text_Decides a.bytes b.bytes) (λ p q i. record { path = p i; bytes = q i }) (λ e. ap (λ (f : FileAt). f.path) e)
    (λ e. ap (λ (f : FileAt). f.bytes) e)

pub files_Decides : (a b : List FileAt) (r : Bool)
    → r ≡ pointwise (λ (x y : FileAt). pointwise nat_eq x.path y.path && pointwise nat_eq x.bytes y.bytes) a b
    → Decides r (a ≡ b)
files_Decides a b r is = slice_eq-Decides file_Decides a b r is
