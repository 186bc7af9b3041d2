-- Texts in parts: what was cut is joined, and what is joined is cut.
use Rattle.std.proofs.Common.{◌≡◌, ◌≢◌, ℕ, suc, ◌+◌, ◌<◌, Bool, true, false, cond, eqb, eq-eqb, List, [], ◌∷◌, ◌++◌}
use Rattle.std.proofs.Common.{length, get_or, drop, Option, Some, None, Bor, refl, sym, ap, subst, ◌∙◌, arith, ne_eqb}
use Rattle.std.specs.List.{AllByRecursion}
use Rattle.std.specs.Option.{MatchOption, option_copied}
use Rattle.std.specs.Str.{IsCharBoundary}
use Rattle.std.proofs.lemmas.Bool.{eqb-true}
use Rattle.std.proofs.lemmas.Str.Pattern.{IsSplitOnceResult, split_parts}
use Rattle.text_lines.specs.Cut.{cut, cut_on, after, Lacks, parts_copied}

-- ---- cut

-- what stands before the first such byte, and behind it
pub cut_is : (byte : ℕ) (x y : List ℕ) → Lacks byte x → cut byte (x ++ byte ∷ y) ≡ Some (x, y)
unfolding cut
cut_is byte [] y h = let e : eqb byte byte ≡ true = eq-eqb byte byte refl in rw e refl
cut_is byte (b ∷ x) y h = let other : eqb b byte ≡ false = ne_eqb b byte h.0 in rw (other, cut_is byte x y h.1) refl

pub cut_lacks : (byte : ℕ) (text : List ℕ) → Lacks byte text → cut byte text ≡ None
unfolding cut
cut_lacks byte [] h = refl
cut_lacks byte (b ∷ text) h =
    let other : eqb b byte ≡ false = ne_eqb b byte h.0 in rw (other, cut_lacks byte text h.1) refl

-- what a byte that was looked for cuts off
abbrev pub IsCut : ℕ → List ℕ → Option (List ℕ × List ℕ) → Type 0
IsCut byte text None = Lacks byte text
IsCut byte text (Some p) = (text ≡ p.0 ++ byte ∷ p.1) × Lacks byte p.0

one_more : (byte b : ℕ) (text : List ℕ) (o : Option (List ℕ × List ℕ)) → b ≢ byte → IsCut byte text o
    → IsCut byte (b ∷ text) (cut_on b o)
one_more byte b text None other h = (other, h)
one_more byte b text (Some p) other h = (ap (λ (t : List ℕ). b ∷ t) h.0, (other, h.1))

pub cut_parts : (byte : ℕ) (text : List ℕ) → IsCut byte text (cut byte text)
unfolding cut
cut_parts byte [] = tt
cut_parts byte (b ∷ text) =
    elim (eqb b byte) as
    (λ t. eqb b byte ≡ t → IsCut byte (b ∷ text) (cond t (Some ([], text)) (cut_on b (cut byte text)))) [
      | true ↦ λ e. (ap (λ (c : ℕ). c ∷ text) (eqb-true b byte e), tt)
      | false ↦ λ e. one_more byte b text (cut byte text)
          (λ same. let yes : eqb b byte ≡ true = eq-eqb b byte same in let f : false ≡ true = sym e ∙ yes in absurd cc)
          (cut_parts byte text)
    ] refl

pub cut_some : (byte : ℕ) (text : List ℕ) (p : List ℕ × List ℕ) → cut byte text ≡ Some p
    → (text ≡ p.0 ++ byte ∷ p.1) × Lacks byte p.0
cut_some byte text p h = subst (IsCut byte text) h (cut_parts byte text)

pub cut_not : (byte : ℕ) (text : List ℕ) → cut byte text ≡ None → Lacks byte text
cut_not byte text h = subst (IsCut byte text) h (cut_parts byte text)

lacks_from : (byte : ℕ) (text : List ℕ) → ((i : ℕ) → i < length text → get_or text i 0 ≢ byte) → Lacks byte text
lacks_from byte [] h = tt
lacks_from byte (b ∷ text) h = (h 0 (omega arith), lacks_from byte text (λ i lt. h (suc i) (omega (arith, lt))))

-- what split_once ensures
pub split : (byte : ℕ) (text : List ℕ) (r : Option (Bor (List ℕ) × Bor (List ℕ))) → IsSplitOnceResult byte text r
    → byte < 128 → parts_copied r ≡ cut byte text
split byte text None h lt = sym (cut_lacks byte text (lacks_from byte text (split_parts byte text None h lt)))
split byte text (Some x) h lt =
    let parts = split_parts byte text (Some x) h lt in
    sym (ap (cut byte) parts.0 ∙ cut_is byte x.0.now x.1.now (lacks_from byte x.0.now parts.1))

-- ---- texts without a byte

pub lacks_append : (byte : ℕ) (x y : List ℕ) → Lacks byte x → Lacks byte y → Lacks byte (x ++ y)
lacks_append byte [] y hx hy = hy
lacks_append byte (b ∷ x) y hx hy = (hx.0, lacks_append byte x y hx.1 hy)

-- ---- after

pub after_is : (front rest : List ℕ) → after front (front ++ rest) ≡ Some rest
unfolding after
after_is [] rest = refl
after_is (c ∷ front) rest = let e : eqb c c ≡ true = eq-eqb c c refl in rw (e, after_is front rest) refl

pub after_some : (front text rest : List ℕ) → after front text ≡ Some rest → text ≡ front ++ rest
unfolding after
after_some [] text rest h = cc
after_some (c ∷ front) [] rest h = absurd cc
after_some (c ∷ front) (b ∷ text) rest h =
    elim (eqb b c) as (λ t. eqb b c ≡ t → cond t (after front text) None ≡ Some rest → b ∷ text ≡ c ∷ (front ++ rest)) [
      | true ↦ λ e k. let same = eqb-true b c e in let more = after_some front text rest k in cc
      | false ↦ λ e k. absurd cc
    ] refl h

pub after_none : (front text : List ℕ) → ((rest : List ℕ) → text ≢ front ++ rest) → after front text ≡ None
after_none front text h =
    elim (after front text) as (λ o. after front text ≡ o → o ≡ None) [
      | None ↦ λ e. refl
      | Some rest ↦ λ e. absurd (h rest (after_some front text rest e))
    ] refl

-- what strip_prefix ensures
pub stripped : (front text : List ℕ) (r : Option (Bor (List ℕ)))
    → MatchOption r ((rest : List ℕ) → drop 0 text ≢ front ++ rest)
    (λ x. (n : ℕ) × ((n ≡ length front) × (text ≡ front ++ drop n text) × IsCharBoundary text (length front))
    × (x.now ≡ drop n text) × (length x.now + n ≡ length text))
    → option_copied r ≡ after front text
stripped front text None h = sym (after_none front text h)
stripped front text (Some x) h = sym (ap (after front) (h.1.1 ∙ ap (λ (t : List ℕ). front ++ t) (sym h.2))
    ∙ after_is front x.now)
