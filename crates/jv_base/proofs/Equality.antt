-- What a computed equality of lists and texts says.
use Rattle.std.proofs.Common.{◌≡◌, ◌&&◌, ℕ, List, nat_eq, refl, sym, Bool, true, false}
use Rattle.std.specs.Bool.{Decides}
use Rattle.std.specs.Cmp.{unsigned_Decides}
use Rattle.std.specs.Cmp.Lexicographic.{pointwise}
use Rattle.std.proofs.lemmas.Slice.Eq.{slice_eq-Decides}
use Rattle.jv_base.specs.Names.{is_text}
use Rattle.jv_base.proofs.Tests.{same_test}

pub text_Decides : (a b : List ℕ) → Decides (pointwise nat_eq a b) (a ≡ b)
text_Decides a b = slice_eq-Decides unsigned_Decides a b _ refl

pub texts_Decides : (a b : List (List ℕ)) → Decides (pointwise (pointwise nat_eq) a b) (a ≡ b)
texts_Decides a b = slice_eq-Decides text_Decides a b _ refl

-- two tests decide two parts of a value
pub and_Decides : {P Q R : Type 0} (a b : Bool) → Decides a P → Decides b Q → (P → Q → R) → (R → P) → (R → Q)
    → Decides (a && b) R
and_Decides true true p q both first second = (λ e. both (p.0 refl) (q.0 refl), λ r. refl)
and_Decides true false p q both first second = (λ e. absurd cc, λ r. q.1 (second r))
and_Decides false b p q both first second = (λ e. absurd cc, λ r. p.1 (first r))

-- ---- whether a text is another

pub same_text : (a b : List ℕ) → is_text a b ≡ true → a ≡ b
same_text a b h = (text_Decides a b).0 h

pub text_is : (a b : List ℕ) → a ≡ b → is_text a b ≡ true
text_is a b same = (text_Decides a b).1 same

pub text_sym : (a b : List ℕ) → is_text a b ≡ is_text b a
text_sym a b = same_test (is_text a b) (is_text b a)
    (λ e. text_is b a (sym (same_text a b e))) (λ e. text_is a b (sym (same_text b a e)))

pub text_itself : (a : List ℕ) → is_text a a ≡ true
text_itself a = text_is a a refl
