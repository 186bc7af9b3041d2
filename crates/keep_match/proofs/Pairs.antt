-- Pairs of brackets at the end of a text.
use Rattle.std.proofs.Common.{◌≡◌, ℕ, ◌-◌, Bool, true, false, cond, List, length, take, Option, Some, None}
use Rattle.std.proofs.Common.{sym, ap, ◌∙◌, subst, arith, codes, zero, suc, ◌<◌}
use Rattle.std.specs.Str.{IsCharBoundary}
use Rattle.std.specs.Str.Pattern.{FindsTextSuffix, StripsSuffix}
use Rattle.std.specs.Borrow.{Bor}
use Rattle.std.specs.Option.{MatchOption, option_and_then, option_map}
use Rattle.std.proofs.lemmas.Str.Pattern.{ends_text}
use Rattle.keep_match.specs.TypePatterns.{ends_with_pair, without_pair, without_pairs}

pub pair_taken : (s x : List ℕ) → StripsSuffix (FindsTextSuffix (codes "[]")) s x → without_pair s ≡ Some x
pair_taken s x h =
    let two : h.0 ≡ 2 = h.1.0 in
    let ends : true ≡ ends_with_pair s =
    ends_text true (codes "[]") s
    (h.0, h.1, omega (arith, h.3), subst (λ (n : ℕ). IsCharBoundary s (length s - n)) (sym two) h.1.2) in
    ap (λ (b : Bool). cond b (Some (take (length s - 2) s)) None) (sym ends)
    ∙ ap Some (ap (λ (n : ℕ). take (length s - n) s) (sym two) ∙ sym h.2)

pub pair_none : (s : List ℕ) → FindsTextSuffix (codes "[]") s None → without_pair s ≡ None
pair_none s h =
    ap (λ (b : Bool). cond b (Some (take (length s - 2) s)) None) (sym (ends_text false (codes "[]") s h))

pub pair_is : (s : List ℕ) (o : Option (Bor (List ℕ)))
    → MatchOption o (FindsTextSuffix (codes "[]") s None) (λ x. StripsSuffix (FindsTextSuffix (codes "[]")) s x.now)
    → option_map (λ (x : Bor (List ℕ)). x.now) o ≡ without_pair s
pair_is s None h = sym (pair_none s h)
pair_is s (Some x) h = sym (pair_taken s x.now h)

-- ---- several pairs

pairs_first : (n : ℕ) (s : List ℕ) → 0 < n
    → without_pairs n s ≡ option_and_then (without_pairs (n - 1)) (without_pair s)
unfolding without_pairs
pairs_first zero s lt = absurd (omega arith)
pairs_first (suc n) s lt =
    let e : n ≡ suc n - 1 = omega arith in ap (λ (k : ℕ). option_and_then (without_pairs k) (without_pair s)) e

pub pairs_more : (n : ℕ) (s x : List ℕ) → 0 < n → Some x ≡ without_pair s → without_pairs n s ≡ without_pairs (n - 1) x
pairs_more n s x lt e =
    pairs_first n s lt ∙ ap (λ (o : Option (List ℕ)). option_and_then (without_pairs (n - 1)) o) (sym e)

pub pairs_stop : (n : ℕ) (s : List ℕ) → 0 < n → None ≡ without_pair s → without_pairs n s ≡ None
pairs_stop n s lt e =
    pairs_first n s lt ∙ ap (λ (o : Option (List ℕ)). option_and_then (without_pairs (n - 1)) o) (sym e)

pub pairs_end : (n : ℕ) (s : List ℕ) → n ≡ 0 → without_pairs n s ≡ Some s
unfolding without_pairs
pairs_end n s e = ap (λ (k : ℕ). without_pairs k s) e
