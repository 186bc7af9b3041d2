-- The parts of a ClassFile as they are written one behind the other.
use Rattle.std.proofs.Common.{◌≡◌, ℕ, List, [], ◌∷◌, ◌++◌, length, map, refl, sym, ap, ◌∙◌, append_assoc}
use Rattle.std.specs.Int.{w16, to_be_bytes}
use Rattle.std.specs.List.{flat_map}
use Rattle.std.proofs.lemmas.List.{length-map}

indices_mapped : {A : Type 0} (f : A → ℕ) (xs : List A)
    → flat_map (λ x. to_be_bytes w16 (f x)) xs ≡ flat_map (to_be_bytes w16) (map f xs)
indices_mapped f [] = refl
indices_mapped f (x ∷ xs) = ap (λ (t : List ℕ). to_be_bytes w16 (f x) ++ t) (indices_mapped f xs)

-- indices behind their count
pub indices_joined : {A : Type 0} (o : List ℕ) (n : ℕ) (f : A → ℕ) (xs : List A) → n ≡ length xs
    → (o ++ to_be_bytes w16 n) ++ flat_map (λ x. to_be_bytes w16 (f x)) xs
    ≡ o ++ (to_be_bytes w16 (length (map f xs)) ++ flat_map (to_be_bytes w16) (map f xs))
indices_joined o n f xs e =
    append_assoc o (to_be_bytes w16 n) (flat_map (λ x. to_be_bytes w16 (f x)) xs)
    ∙ (λ i. o ++ (to_be_bytes w16 ((e ∙ sym (length-map xs f)) i) ++ indices_mapped f xs i))
