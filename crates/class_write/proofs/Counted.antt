-- How long rows are together.
use Rattle.std.proofs.Common.{◌≡◌, ℕ, ◌*◌, ◌^◌, ◌<◌, List, [], ◌∷◌, ◌++◌, length, refl, arith}
use Rattle.std.specs.Int.{w16, to_be_bytes}
use Rattle.std.specs.List.{flat_map}
use Rattle.std.proofs.lemmas.List.{length-append}
use Rattle.std.proofs.Math.Nat.{mul-suc}

-- each is as long as the others
pub rows_length : {A : Type 0} (k : ℕ) (f : A → List ℕ) → ((x : A) → length (f x) ≡ k) → (xs : List A)
    → length (flat_map f xs) ≡ k * length xs
rows_length k f each [] = omega arith
rows_length k f each (x ∷ xs) =
    omega (arith, each x, length-append (f x) (flat_map f xs), rows_length k f each xs, mul-suc k (length xs))

-- a table of less than 2^16 indices is short
pub indices_short : {A : Type 0} (f : A → ℕ) (xs : List A) (n : ℕ) → length xs < 2 ^ 16
    → length (([] ++ to_be_bytes w16 n) ++ flat_map (λ x. to_be_bytes w16 (f x)) xs) < 4294967296
indices_short f xs n lt =
    let rows = rows_length 2 (λ x. to_be_bytes w16 (f x)) (λ x. refl) xs in
    omega (arith, lt, rows, length-append (to_be_bytes w16 n) (flat_map (λ x. to_be_bytes w16 (f x)) xs))
