-- What a reader gets from a text, wherever the text stands.
use Rattle.std.proofs.Common.{◌≡◌, ℕ, ◌+◌, ◌^◌, ◌<◌, List, [], ◌∷◌, ◌++◌, length, Result, Ok, refl, ap, subst, ◌∙◌}
use Rattle.std.proofs.Common.{arith}
use Rattle.std.specs.Int.{w8, w16, w32, to_be_bytes}
use Rattle.std.specs.List.{flat_map, AllByRecursion}
use Rattle.std.proofs.lemmas.List.{append-nil}
use Rattle.jv_base.specs.Place.{Place, after}
use Rattle.format_reading.specs.declared.fault.FormatKind.{FormatKind}
use Rattle.format_reading.specs.Reader.{FormatReader, u1, u2, u4, bytes, lead, bind, give, given, item, many}
use Rattle.format_reading.specs.Spelling.{Spells, AllStand}
use Rattle.format_reading.proofs.Exact.{Exact, Takes, Takes-split, Below, u1_exact, u2_exact, u4_exact, bytes_exact}
use Rattle.format_reading.proofs.Exact.{give_exact, many_exact, bind_is}

-- where the text stands, the reader gives the value and moves behind the text
abbrev pub Gets : {A : Type 0} → FormatReader A → List ℕ → A → Type 0
Gets r text x = (p q : Place) → Takes p text q → r p ≡ Ok (x, q)

-- a reader that is exact gets what the text stands for
gets_of : {A R : Type 0} {r : FormatReader A} {s : R → List ℕ} {m : ℕ → R → A → Type 0} (raw : R) (x : A)
    → Exact r (Spells s m) → ((at : ℕ) → m at raw x) → Gets r (s raw) x
gets_of {s = s} raw x e h = λ p q t. e.only p (s raw) x q (raw, refl, h p.at) t

pub gets_text : {A : Type 0} (r : FormatReader A) (s t : List ℕ) (x : A) → s ≡ t → Gets r s x → Gets r t x
gets_text r s t x e g = subst (λ (u : List ℕ). Gets r u x) e g

-- no byte
pub gets_give : {A : Type 0} (x : A) → Gets (give x) [] x
gets_give x = gets_of tt x (give_exact x) (λ at. refl)

-- a byte
pub gets_u1 : (n : ℕ) → n < 256 → Gets u1 (n ∷ []) n
gets_u1 n lt = gets_text u1 (to_be_bytes w8 n) (n ∷ []) n (ap (λ k. k ∷ []) (omega arith))
    (gets_of n n u1_exact (λ at. (lt, refl)))

-- a number of two bytes
pub gets_u2 : (n : ℕ) → n < 2 ^ 16 → Gets u2 (to_be_bytes w16 n) n
gets_u2 n lt = gets_of n n u2_exact (λ at. (lt, refl))

-- a number of four bytes
pub gets_u4 : (n : ℕ) → n < 2 ^ 32 → Gets u4 (to_be_bytes w32 n) n
gets_u4 n lt = gets_of n n u4_exact (λ at. (lt, refl))

-- bytes
pub gets_bytes : (n : ℕ) (text : List ℕ) → length text ≡ n → Gets (bytes n) text text
gets_bytes n text e = gets_of text text (bytes_exact n) (λ at. (e, refl))

-- an item, and then more
pub gets_bind : {A B : Type 0} (r : FormatReader A) (f : A → FormatReader B) (s t : List ℕ) (x : A) (y : B) → Gets r s x
    → Gets (f x) t y → Gets (bind r f) (s ++ t) y
gets_bind r f s t x y g h = λ p q k.
    let parts = Takes-split p q s t k in
    let mid : Place = after (length s) p in
    bind_is r f p mid x (g p mid parts.0) ∙ h mid q parts.1

-- a step to a reader that an item leads to
lead_is : {A B : Type 0} (r : FormatReader A) (f : A → Result (FormatReader B) FormatKind) (p q : Place) (x : A)
    (m : FormatReader B)
    → r p ≡ Ok (x, q) → f x ≡ Ok m → lead r f p ≡ m q
unfolding lead
lead_is r f p q x m h k = rw (h, k) refl

-- an item, and then what it leads to
pub gets_lead : {A B : Type 0} (r : FormatReader A) (f : A → Result (FormatReader B) FormatKind) (s t : List ℕ) (x : A)
    (m : FormatReader B) (y : B) → Gets r s x → f x ≡ Ok m → Gets m t y → Gets (lead r f) (s ++ t) y
gets_lead r f s t x m y g e h = λ p q k.
    let parts = Takes-split p q s t k in
    let mid : Place = after (length s) p in
    lead_is r f p mid x m (g p mid parts.0) e ∙ h mid q parts.1

-- an item's meaning
pub gets_item : {A B : Type 0} (r : FormatReader A) (f : A → Result B FormatKind) (s : List ℕ) (x : A) (y : B)
    → Gets r s x
    → f x ≡ Ok y → Gets (item r f) s y
gets_item r f s x y g e = gets_text (item r f) (s ++ []) s y (append-nil s)
    (gets_lead r (λ z. given (f z)) s [] x (give y) y g (ap given e) (gets_give y))

-- an item, and a value made of it
pub gets_map : {A B : Type 0} (r : FormatReader A) (f : A → B) (s : List ℕ) (x : A) → Gets r s x
    → Gets (bind r (λ z. give (f z))) s (f x)
gets_map r f s x g = gets_text (bind r (λ z. give (f z))) (s ++ []) s (f x) (append-nil s)
    (gets_bind r (λ z. give (f z)) s [] x (f x) g (gets_give (f x)))

-- numbers of four bytes
all_below : (ns : List ℕ) (at : ℕ) → AllByRecursion (λ n. n < 2 ^ 32) ns
    → AllStand (to_be_bytes w32) (Below (2 ^ 32)) at ns ns
all_below [] at h = tt
all_below (n ∷ ns) at h = ((h.0, refl), all_below ns (at + length (to_be_bytes w32 n)) h.1)

pub gets_many : (n : ℕ) (ns : List ℕ) → length ns ≡ n → AllByRecursion (λ n. n < 2 ^ 32) ns
    → Gets (many n u4) (flat_map (to_be_bytes w32) ns) ns
gets_many n ns e h = gets_of ns ns (many_exact n u4_exact) (λ at. (e, all_below ns at h))

-- several values, one behind the other
pub gets_each : {A : Type 0} (r : FormatReader A) (spelled : A → List ℕ) (xs : List A)
    → AllByRecursion (λ x. Gets r (spelled x) x) xs → Gets (many (length xs) r) (flat_map spelled xs) xs
unfolding many
gets_each r spelled [] all = gets_give []
gets_each r spelled (x ∷ xs) all =
    gets_bind r (λ first. bind (many (length xs) r) (λ others. give (first ∷ others))) (spelled x)
    (flat_map spelled xs) x (x ∷ xs) all.0
    (gets_map (many (length xs) r) (λ others. x ∷ others) (flat_map spelled xs) xs (gets_each r spelled xs all.1))
