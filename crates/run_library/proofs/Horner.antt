-- A polynomial by Horner's rule, modulo a number.
use Rattle.std.proofs.Common.{◌≡◌, ℕ, ◌+◌, ◌*◌, ◌%◌, ◌^◌, ◌<◌, List}
use Rattle.std.proofs.Common.{◌∷◌, length, drop, get_or, refl, sym, ap, ◌∙◌, add_assoc}
use Rattle.std.proofs.Math.Nat.{add-mod, add-mul, mul_assoc, pow-succ'}
use Rattle.std.proofs.lemmas.List.{drop_more}
use Rattle.std.proofs.lemmas.Nat.{mul-mod_first}
use Rattle.jvm_model.specs.Library.{polynomial}

inner : (x p r m : ℕ) → (x % m * p + r) % m ≡ (x * p + r) % m
inner x p r m = add-mod (x % m * p) r m ∙ ap (λ (y : ℕ). (y + r % m) % m) (mul-mod_first x p m)
    ∙ sym (add-mod (x * p) r m)

spread : (a u p q : ℕ) → (a + u) * p + q ≡ a * p + (u * p + q)
spread a u p q = ap (λ (y : ℕ). y + q) (add-mul a u p) ∙ add_assoc (a * p) (u * p) q

step : (m s u p q : ℕ) → ((s * 31 % m + u) % m * p + q) % m ≡ (s * (31 * p) + (u * p + q)) % m
step m s u p q = inner (s * 31 % m + u) p q m ∙ ap (λ (y : ℕ). y % m) (spread (s * 31 % m) u p q)
    ∙ inner (s * 31) p (u * p + q) m ∙ ap (λ (y : ℕ). (y + (u * p + q)) % m) (mul_assoc s 31 p)

at_front : (ws rest : List ℕ) (m s u : ℕ) → ws ≡ u ∷ rest
    → (s * (31 * 31 ^ length rest) + (u * 31 ^ length rest + polynomial rest)) % m
    ≡ (s * 31 ^ length ws + polynomial ws) % m
at_front ws rest m s u e = rw (e, pow-succ' 31 (length rest)) refl

-- one more unit
pub polynomial_step : (us : List ℕ) (m i s u : ℕ) → i < length us → u ≡ get_or us i 0
    → ((s * 31 % m + u) % m * 31 ^ length (drop (i + 1) us) + polynomial (drop (i + 1) us)) % m
    ≡ (s * 31 ^ length (drop i us) + polynomial (drop i us)) % m
polynomial_step us m i s u h e = step m s u (31 ^ length (drop (i + 1) us)) (polynomial (drop (i + 1) us))
    ∙ at_front (drop i us) (drop (i + 1) us) m s u
    (drop_more us i 0 h ∙ ap (λ (y : ℕ). y ∷ drop (i + 1) us) (sym e))
