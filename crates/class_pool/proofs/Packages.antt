-- Packages by the names of classes.
use Rattle.std.proofs.Common.{◌≡◌, ℕ, ◌+◌, ◌-◌, ◌<◌, ◌≤◌, ◌==◌, Bool, not, List, length, get_or, take, ap, arith}
use Rattle.std.specs.List.{suffix_len}
use Rattle.std.proofs.lemmas.List.Sums.{suffix_len-take_no}
use Rattle.class_pool.specs.Found.{package_of}

-- no separator
abbrev pub is_within : ℕ → Bool
is_within b = not (b == 47)

-- the bytes behind this place are of the last part
abbrev pub IsLastPart : List ℕ → ℕ → Type 0
IsLastPart name end = (end ≤ length name)
    × (suffix_len is_within name + end ≡ suffix_len is_within (take end name) + length name)

package_at : (name : List ℕ) (end : ℕ) → IsLastPart name end → suffix_len is_within (take end name) ≡ 0
    → take (end - 1) name ≡ package_of name
package_at name end last none =
    let e : end - 1 ≡ length name - suffix_len is_within name - 1 = omega (arith, last.0, last.1, none) in
    ap (λ (n : ℕ). take n name) e

pub without_separator : (name : List ℕ) (end : ℕ) → IsLastPart name end → end ≡ 0
    → take (end - 1) name ≡ package_of name
without_separator name end last none = package_at name end last
    (ap (λ (n : ℕ). suffix_len is_within (take n name)) none)

pub behind_separator : (name : List ℕ) (end : ℕ) → IsLastPart name end → 0 < end → get_or name (end - 1) 0 ≡ 47
    → take (end - 1) name ≡ package_of name
behind_separator name end last some separator =
    package_at name end last (suffix_len-take_no is_within name end 0 some last.0 (ap is_within separator))
