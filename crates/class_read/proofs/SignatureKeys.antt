-- Signatures are told apart by their keys.
use Rattle.std.proofs.Common.{◌≡◌, ℕ, Bool, true, false, cond, ◌&&◌, ◌||◌, List, [], ◌∷◌, ◌++◌, length, nat_eq, nat_le}
use Rattle.std.proofs.Common.{Decides, refl, sym, ap, ◌∙◌}
use Rattle.std.specs.declared.cmp.Ordering.{Ordering}
use Rattle.std.specs.Ordering.{is_eq, nat_cmp, ordering_then}
use Rattle.std.specs.Bool.{one_answer}
use Rattle.std.specs.Cmp.{both_tied, unsigned_ties, unsigned_Decides}
use Rattle.std.specs.Cmp.Lexicographic.{slice_cmp, texts_ties}
use Rattle.std.specs.List.{list_any}
use Rattle.std.proofs.lemmas.List.Folds.{list_any-append}
use Rattle.jv_base.specs.Names.{is_text}
use Rattle.jv_base.proofs.Equality.{text_Decides, and_Decides}
use Rattle.class_model.specs.ReadingMembers.{Signature, same_signature}
use Rattle.class_read.specs.bodies.Signatures.{Marks, SignatureKey, Knows, key_of, marks_of, signature_of, same_key}
use Rattle.class_read.specs.bodies.Signatures.{same_marks}

-- keys are one where their order doesn't tell them apart
marks_cmp : Marks → Marks → Ordering
marks_cmp a b = ordering_then (ordering_then (ordering_then (nat_cmp a.0 b.0) (nat_cmp a.1 b.1)) (nat_cmp a.2 b.2))
    (nat_cmp a.3 b.3)

marks_tied : (a b : Marks) → same_marks a b ≡ is_eq (marks_cmp a b)
unfolding marks_cmp
marks_tied a b =
    both_tied _ _ (ordering_then (ordering_then (nat_cmp a.0 b.0) (nat_cmp a.1 b.1)) (nat_cmp a.2 b.2))
    (nat_cmp a.3 b.3)
    (both_tied _ _ (ordering_then (nat_cmp a.0 b.0) (nat_cmp a.1 b.1)) (nat_cmp a.2 b.2)
    (both_tied _ _ (nat_cmp a.0 b.0) (nat_cmp a.1 b.1) (unsigned_ties a.0 b.0) (unsigned_ties a.1 b.1))
    (unsigned_ties a.2 b.2)) (unsigned_ties a.3 b.3)

pub key_order_is_same : (λ (a b : SignatureKey). is_eq (ordering_then (ordering_then (ordering_then (ordering_then
    (ordering_then (nat_cmp a.0.0 b.0.0) (nat_cmp a.0.1 b.0.1)) (nat_cmp a.0.2 b.0.2)) (nat_cmp a.0.3 b.0.3))
    (slice_cmp nat_cmp a.1 b.1)) (slice_cmp nat_cmp a.2 b.2))) ≡ same_key
unfolding marks_cmp
key_order_is_same = λ i a b. sym (both_tied _ _ (ordering_then (marks_cmp a.0 b.0) (slice_cmp nat_cmp a.1 b.1))
    (slice_cmp nat_cmp a.2 b.2) (both_tied _ _ (marks_cmp a.0 b.0) (slice_cmp nat_cmp a.1 b.1) (marks_tied a.0 b.0)
    (texts_ties a.1 b.1)) (texts_ties a.2 b.2)) i

back_by : (b : Bool) (m : Marks) (s t : List ℕ) → nat_le m.0 m.1 ≡ b
    → signature_of (let k : SignatureKey = cond b (m, s, t) (m, t, s) in k) ≡ (s, t)
back_by true m s t e = rw e refl
back_by false m s t e = rw e refl

-- a key tells its signature
pub told_back : (s : Signature) → signature_of (key_of s) ≡ s
told_back s = back_by (nat_le (length s.0) (length s.1)) (marks_of s) s.0 s.1 refl

two : {A B : Type 0} → A → B → A × B
two x y = (x, y)

marks_Decides : (a b : Marks) → Decides (same_marks a b) (a ≡ b)
marks_Decides a b =
    let first = and_Decides (nat_eq a.0 b.0) (nat_eq a.1 b.1) (unsigned_Decides a.0 b.0) (unsigned_Decides a.1 b.1)
    (λ p q. two p q) (λ r. r.0) (λ r. r.1) in
    let second = and_Decides (nat_eq a.0 b.0 && nat_eq a.1 b.1) (nat_eq a.2 b.2) first (unsigned_Decides a.2 b.2)
    (λ p q. two p q) (λ r. r.0) (λ r. r.1) in
    and_Decides ((nat_eq a.0 b.0 && nat_eq a.1 b.1) && nat_eq a.2 b.2) (nat_eq a.3 b.3) second
    (unsigned_Decides a.3 b.3)
    (λ p q i. (p.0.0 i, p.0.1 i, p.1 i, q i))
    (λ e. two (two (ap (λ (m : Marks). m.0) e) (ap (λ (m : Marks). m.1) e)) (ap (λ (m : Marks). m.2) e))
    (λ e. ap (λ (m : Marks). m.3) e)

key_Decides : (a b : SignatureKey) → Decides (same_key a b) (a ≡ b)
key_Decides a b =
    let first = and_Decides (same_marks a.0 b.0) (is_text a.1 b.1) (marks_Decides a.0 b.0) (text_Decides a.1 b.1)
    (λ p q. two p q) (λ r. r.0) (λ r. r.1) in
    and_Decides (same_marks a.0 b.0 && is_text a.1 b.1) (is_text a.2 b.2) first (text_Decides a.2 b.2)
    (λ p q i. (p.0 i, p.1 i, q i))
    (λ e. two (ap (λ (k : SignatureKey). k.0) e) (ap (λ (k : SignatureKey). k.1) e))
    (λ e. ap (λ (k : SignatureKey). k.2) e)

signature_Decides : (a b : Signature) → Decides (same_signature a b) (a ≡ b)
signature_Decides a b = and_Decides _ _ (text_Decides a.0 b.0) (text_Decides a.1 b.1) (λ p q i. (p i, q i))
    (λ e. ap (λ (s : Signature). s.0) e) (λ e. ap (λ (s : Signature). s.1) e)

-- signatures are one where their keys are
alike : (a b : Signature) → same_key (key_of a) (key_of b) ≡ same_signature b a
alike a b =
    let d = key_Decides (key_of a) (key_of b) in
    let e = signature_Decides b a in
    one_answer (same_key (key_of a) (key_of b)) (same_signature b a)
    (λ h. sym (told_back b) ∙ ap signature_of (sym (d.0 h)) ∙ told_back a, λ h. d.1 (ap key_of (sym h))) e

joined : (x y : Bool) → cond x true y ≡ (y || (x || false))
joined true true = refl
joined true false = refl
joined false true = refl
joined false false = refl

-- one more is known
pub known_more : (before : List Signature) (old new : List SignatureKey) (s : Signature) → Knows before old
    → ((k : SignatureKey) → list_any (same_key k) new ≡ cond (same_key (key_of s) k) true (list_any (same_key k) old))
    → Knows (before ++ s ∷ []) new
known_more before old new s knows updates t =
    updates (key_of t)
    ∙ (λ i. cond (alike s t i) true (knows t i))
    ∙ joined (same_signature t s) (list_any (same_signature t) before)
    ∙ sym (list_any-append (same_signature t) before (s ∷ []))
