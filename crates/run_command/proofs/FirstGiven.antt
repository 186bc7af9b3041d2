-- What a list gives first, element by element.
use Rattle.std.proofs.Common.{◌≡◌, ℕ, ◌+◌, ◌<◌, ◌≤◌, true, false, List, [], ◌∷◌, length, drop, Option, Some, None}
use Rattle.std.proofs.Common.{refl, sym, ap, ◌∙◌}
use Rattle.std.specs.Option.{is_some, option_or}
use Rattle.std.specs.Prelude.{slice_get}
use Rattle.std.proofs.lemmas.List.{drop_all, drop_more}
use Rattle.std.proofs.lemmas.Option.{get_or_from_slice_get}
use Rattle.run_command.specs.Entries.{first_given}

some_first : {B : Type 0} (o rest : Option B) → is_some o ≡ true → o ≡ option_or o rest
some_first (Some y) rest h = refl
some_first None rest h = absurd cc

none_first : {B : Type 0} (o rest : Option B) → is_some o ≡ false → rest ≡ option_or o rest
none_first (Some y) rest h = absurd cc
none_first None rest h = refl

module _ {A B : Type 0} (given : A → Option B) (xs : List A) (n : ℕ) (x : A) (within : n < length xs)
    (is : slice_get xs n ≡ Some x) where
  -- an element, and those behind it
  one_more : first_given given (drop n xs) ≡ option_or (given x) (first_given given (drop (n + 1) xs))
  one_more =
      ap (first_given given) (drop_more xs n x within
      ∙ ap (λ (y : A). y ∷ drop (n + 1) xs) (get_or_from_slice_get xs n x x is))

  -- an element gives something
  pub given_here : (o : Option B) → o ≡ given x → is_some o ≡ true → o ≡ first_given given (drop n xs)
  given_here o e some =
      let rest = first_given given (drop (n + 1) xs) in
      some_first o rest some ∙ ap (λ (p : Option B). option_or p rest) e ∙ sym one_more

  -- an element gives nothing
  pub given_later : (o : Option B) → o ≡ given x → is_some o ≡ false
      → first_given given (drop (n + 1) xs) ≡ first_given given (drop n xs)
  given_later o e none =
      let rest = first_given given (drop (n + 1) xs) in
      none_first o rest none ∙ ap (λ (p : Option B). option_or p rest) e ∙ sym one_more

-- no element gives anything
pub none_given : {A B : Type 0} (given : A → Option B) (xs : List A) (n : ℕ) → length xs ≤ n
    → None ≡ first_given given (drop n xs)
none_given given xs n all = sym (ap (first_given given) (drop_all n xs all))
