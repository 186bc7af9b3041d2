-- What is joined of the answers of jobs.
use Rattle.std.proofs.Common.{◌≡◌, ℕ, Bool, true, false, refl, sym, ap, ◌∙◌}
use Rattle.std.specs.Prelude.{◌==◌}
use Rattle.batch_command.specs.Batch.{or_else}

first_is : (a b : ℕ) → (a == 0) ≡ false → or_else a b ≡ a
first_is a b e = rw e refl

other_is : (a b : ℕ) → (a == 0) ≡ true → or_else a b ≡ b
other_is a b e = rw e refl

-- the first status of three that isn't 0
pub else_assoc : (a b c : ℕ) → or_else (or_else a b) c ≡ or_else a (or_else b c)
else_assoc a b c = by (a == 0) refl
  where
    by : (zero : Bool) → (a == 0) ≡ zero → or_else (or_else a b) c ≡ or_else a (or_else b c)
    by true e = ap (λ (x : ℕ). or_else x c) (other_is a b e) ∙ sym (other_is a (or_else b c) e)
    by false e = ap (λ (x : ℕ). or_else x c) (first_is a b e) ∙ first_is a c e ∙ sym (first_is a (or_else b c) e)
