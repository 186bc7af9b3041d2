-- Paths below a directory.
use Rattle.std.proofs.Common.{◌≡◌, ℕ, ◌&&◌, Bool, true, false, List, [], ◌∷◌, length, take, drop, refl, sym, ap, ◌∙◌}
use Rattle.std.proofs.Common.{eqb, nat_eq}
use Rattle.std.specs.Cmp.Lexicographic.{pointwise}
use Rattle.std.proofs.Math.Bool.{and_assoc}
use Rattle.path_text.specs.Path.{is_below, begins_with_slash}

-- the directory stands at the front, and then a `/`
pub below_is : (path directory : List ℕ)
    → is_below path directory
    ≡ (pointwise nat_eq (take (length directory) path) directory && begins_with_slash (drop (length directory) path))
below_is [] [] = refl
below_is (b ∷ path) [] = refl
below_is [] (d ∷ directory) = refl
below_is (b ∷ path) (d ∷ directory) = ap (λ (t : Bool). eqb b d && t) (below_is path directory)
    ∙ sym (and_assoc (eqb b d) (pointwise nat_eq (take (length directory) path) directory)
    (begins_with_slash (drop (length directory) path)))

-- by what was stripped
pub below_rest : (path directory rest : List ℕ) (b : Bool)
    → pointwise nat_eq (take (length directory) path) directory ≡ true → rest ≡ drop (length directory) path
    → b ≡ begins_with_slash rest → b ≡ is_below path directory
below_rest path directory rest b e r g = g ∙ ap begins_with_slash r ∙ sym (below_is path directory ∙ rw e refl)

pub not_below : (path directory : List ℕ) → pointwise nat_eq (take (length directory) path) directory ≡ false
    → false ≡ is_below path directory
not_below path directory e = sym (below_is path directory ∙ rw e refl)
