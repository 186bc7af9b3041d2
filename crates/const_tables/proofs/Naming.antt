-- The first that names a place in two lists of acts.
use Rattle.std.proofs.Common.{ℕ, zero, suc, ◌+◌, List, [], ◌∷◌, ◌++◌, Some, Bool, true}
use Rattle.std.proofs.Common.{false, ◌≡◌, refl, sym, ap, ◌∙◌, arith, drop, take}
use Rattle.std.specs.Prelude.{length, if◌then◌else◌}
use Rattle.std.specs.Option.{option_or}
use Rattle.code_edit.specs.declared.act.Act.{Act}
use Rattle.const_tables.specs.declared.facts.Stretch.{Stretch}
use Rattle.const_tables.specs.FirstFacts.{AreFirst, first_from, names}
use Rattle.const_tables.specs.Stretches.{IsJoined}

first_both : (n : ℕ) (xs ys : List Act) (slot at : ℕ)
    → first_from n (xs ++ ys) slot at
    ≡ option_or (first_from n xs slot at) (first_from (n + length xs) ys slot at)
first_both n [] ys slot at =
    let z : n ≡ n + 0 = omega arith in ap (λ k. first_from k ys slot at) z
first_both n (x ∷ xs) ys slot at = by (names slot at x) (first_both (suc n) xs ys slot at)
  where
    z : suc n + length xs ≡ n + suc (length xs)
    z = omega arith

    by : (b : Bool) → first_from (suc n) (xs ++ ys) slot at
        ≡ option_or (first_from (suc n) xs slot at) (first_from (suc n + length xs) ys slot at)
        → (if b then Some n else first_from (suc n) (xs ++ ys) slot at)
        ≡ option_or (if b then Some n else first_from (suc n) xs slot at)
        (first_from (n + suc (length xs)) ys slot at)
    by true rest = refl
    by false rest =
        rest ∙ ap (λ k. option_or (first_from (suc n) xs slot at) (first_from k ys slot at)) z

halves : (k : ℕ) (xs : List Act) → take k xs ++ drop k xs ≡ xs
halves zero xs = refl
halves (suc k) [] = refl
halves (suc k) (x ∷ xs) = ap (λ ys. x ∷ ys) (halves k xs)

-- stretches of two halves are those of all
pub of_halves : (n k : ℕ) (acts front back : List Act) (former latter all : List Stretch)
    → front ≡ take k acts → back ≡ drop k acts → AreFirst n front former
    → AreFirst (n + length front) back latter → IsJoined former latter all → AreFirst n acts all
of_halves n k acts front back former latter all e f p q j = record {
  told = λ slot at.
      j.told slot at ∙ (λ i. option_or (p.told slot at i) (q.told slot at i))
      ∙ sym (first_both n front back slot at)
      ∙ ap (λ (xs : List Act). first_from n xs slot at) ((λ i. e i ++ f i) ∙ halves k acts);
  ordered = j.ordered;
}
