-- A reader takes exactly the texts that a grammar spells: what that says, and the law of each reader.
use Rattle.std.proofs.Common.{◌≡◌, ℕ, zero, suc, ◌+◌, ◌-◌, ◌^◌, ◌<◌, ◌≤◌, Bool, true, false, cond, ltb, eqb, List, []}
use Rattle.std.proofs.Common.{◌∷◌, ◌++◌, length, get_or, take, drop, Result, Ok, Err, refl, sym, ap, subst, ◌∙◌}
use Rattle.std.proofs.Common.{append_assoc, arith, inl, inr}
use Rattle.std.specs.Prelude.{slice_range}
use Rattle.std.specs.Int.{Width, w8, w16, w32, byte_len, from_be_bytes, to_be_bytes}
use Rattle.std.proofs.lemmas.Bool.{eqb-true, eq-eqb, ltb-false, le-ltb, cases_lt}
use Rattle.std.proofs.lemmas.List.{drop_all, take_at, drop_at, append-nil, take-append-drop, drop-drop, drop-take}
use Rattle.std.proofs.lemmas.List.{length-append, length-take, length-drop, get_or-drop, get_or-take, get_or_past}
use Rattle.std.specs.List.{flat_map}
use Rattle.std.proofs.lemmas.List.Concat.{flat_map-cons}
use Rattle.std.proofs.lemmas.Nat.{be_bytes_4, be_bytes_2, from_be_bytes-to_be_bytes_2, from_be_bytes-to_be_bytes_4}
use Rattle.jv_base.specs.declared.cursor.End.{End}
use Rattle.jv_base.specs.Place.{Place, number_at, taken_at, part_at, after, cut_off, ended}
use Rattle.format_reading.specs.Fault.{fault}
use Rattle.format_reading.specs.declared.fault.FormatFault.{FormatFault}
use Rattle.format_reading.specs.declared.fault.FormatKind.{FormatKind}
use Rattle.format_reading.specs.declared.fault.FormatKind.TheVariants.{BadAttribute}
use Rattle.format_reading.specs.Reader.{Reader, FormatReader, on_read, bind, give, here, of_result, many}
use Rattle.format_reading.specs.Reader.{or_cut, u1, u2, u4, bytes, lead, given, item, settle, part, in_part, closed}
use Rattle.format_reading.specs.Reader.{onwards}
use Rattle.format_reading.specs.Spelling.{Spells, AllStand, ManyStand}

-- what is left at a place
abbrev pub left : Place → List ℕ
left p = drop p.at p.bytes

-- each number is one of a byte
abbrev pub IsBytes : List ℕ → Type 0
IsBytes bytes = (i : ℕ) → get_or bytes i 0 < 256

-- the text stands between the places
pub record Takes (p : Place) (text : List ℕ) (q : Place) : Type 0 where
  pub parts : left p ≡ text ++ left q
  pub moved : q ≡ after (length text) p

-- what a reader takes spells its value, and what spells a value is taken: the reader takes exactly the texts of a
-- relation
pub record Exact {A X : Type 0} (r : Reader A X) (g : ℕ → List ℕ → A → Type 0) : Type 0 where
  pub found : (p : Place) (x : A) (q : Place) → IsBytes p.bytes → r p ≡ Ok (x, q)
      → (text : List ℕ) × g p.at text x × Takes p text q
  pub only : (p : Place) (text : List ℕ) (x : A) (q : Place) → g p.at text x → Takes p text q → r p ≡ Ok (x, q)

-- a place is told by its offset
place_is : (b : List ℕ) (m n : ℕ) → m ≡ n
    → (let P : Place = record { bytes = b; at = m } in P) ≡ record { bytes = b; at = n }
place_is b m n e = ap (λ (k : ℕ). record { bytes = b; at = k }) e

-- two texts that stand one behind the other are one
pub Takes-then : (p q r : Place) (x y : List ℕ) → Takes p x q → Takes q y r → Takes p (x ++ y) r
Takes-then p q r x y a b = record {
  parts = a.parts ∙ ap (λ (t : List ℕ). x ++ t) b.parts ∙ sym (append_assoc x y (left r));
  moved = b.moved ∙ ap (after (length y)) a.moved ∙ place_is p.bytes _ _ (omega (arith, length-append x y));
}

-- a text of two parts has a place between them
pub Takes-split : (p r : Place) (x y : List ℕ) → Takes p (x ++ y) r
    → Takes p x (after (length x) p) × Takes (after (length x) p) y r
Takes-split p r x y t =
    let whole : left p ≡ x ++ (y ++ left r) = t.parts ∙ append_assoc x y (left r) in
    let rest : left (after (length x) p) ≡ y ++ left r = sym (drop-drop (length x) p.at p.bytes)
    ∙ ap (drop (length x)) whole ∙ drop_at x (y ++ left r) (length x) refl in (
      record {
        parts = whole
            ∙ ap (λ (u : List ℕ). x ++ u) (sym rest);
        moved = refl;
      },
      record {
        parts = rest;
        moved = t.moved
            ∙ place_is p.bytes _ _ (omega (arith, length-append x y));
      },
    )

-- the bytes are the same behind a text
same_bytes : (p q : Place) (x : List ℕ) → Takes p x q → q.bytes ≡ p.bytes
same_bytes p q x t = ap (λ (s : Place). s.bytes) t.moved

-- bytes stay bytes behind a text
pub fits_on : (p q : Place) (x : List ℕ) → Takes p x q → IsBytes p.bytes → IsBytes q.bytes
fits_on p q x t h = rw (same_bytes p q x t) h

-- ---- an item, and then more

-- an item that led on was read, and so was what it led to
on_read_ok : {A B X : Type 0} (f : A → Reader B X) (d : Result (A × Place) X) (y : B × Place) → on_read f d ≡ Ok y
    → (x : A) × (q : Place) × (d ≡ Ok (x, q)) × (f x q ≡ Ok y)
on_read_ok f (Ok x) y h = (x.0, x.1, refl, h)
on_read_ok f (Err e) y h = absurd cc

-- a step that did not fail
pub bind_ok : {A B X : Type 0} (r : Reader A X) (f : A → Reader B X) (p : Place) (y : B × Place) → bind r f p ≡ Ok y
    → (x : A) × (q : Place) × (r p ≡ Ok (x, q)) × (f x q ≡ Ok y)
unfolding bind
bind_ok r f p y h = on_read_ok f (r p) y h

-- what follows an item that was read
pub bind_is : {A B X : Type 0} (r : Reader A X) (f : A → Reader B X) (p q : Place) (x : A) → r p ≡ Ok (x, q)
    → bind r f p ≡ f x q
unfolding bind
bind_is r f p q x h = rw h refl

-- the spelling of a pair of structures, of which the second depends on what the first stands for
abbrev pub Both : {A B R S : Type 0} → (R → List ℕ) → (ℕ → R → A → Type 0) → (A → ℕ → S → B → Type 0) → ℕ → R × S → B
    → Type 0
Both s m n at w y = (x : _) × m at w.0 x × n x (at + length (s w.0)) w.1 y

-- an item, and then more, which may rely on what the item stands for
pub bind_exact_of : {A B X R S : Type 0} {r : Reader A X} {s : R → List ℕ} {m : ℕ → R → A → Type 0}
    (f : A → Reader B X) (t : S → List ℕ) (n : A → ℕ → S → B → Type 0)
    → Exact r (Spells s m) → ((at : ℕ) (w : R) (x : A) → m at w x → Exact (f x) (Spells t (n x)))
    → Exact (bind r f) (Spells (λ (w : R × S). s w.0 ++ t w.1) (Both s m n))
bind_exact_of {r = r} {s = s} {m = m} f t n a b = record {
  found = λ p y q fits h.
      let o = bind_ok r f p (y, q) h in
      let first = a.found p o.0 o.1 fits o.2 in
      let then_ : Exact (f o.0) (Spells t (n o.0)) = b p.at first.1.0 o.0 first.1.2 in
      let second = then_.found o.1 y q (fits_on p o.1 first.0 first.2 fits) o.3 in
      let moved : o.1.at ≡ p.at + length (s first.1.0) = ap (λ (z : Place). z.at) first.2.moved
      ∙ ap (λ (u : List ℕ). p.at + length u) first.1.1 in (
        first.0 ++ second.0,
        (
          (first.1.0, second.1.0),
          ap (λ (u : List ℕ). u ++ second.0) first.1.1 ∙ ap (λ (u : List ℕ). s first.1.0 ++ u) second.1.1,
          (o.0, first.1.2, subst (λ (k : ℕ). n o.0 k second.1.0 y) moved second.1.2),
        ),
        Takes-then p o.1 q first.0 second.0 first.2 second.2,
      );
  only = λ p text y q h k.
      let w = h.0 in
      let parts = Takes-split p q (s w.0) (t w.1) (subst (λ (u : List ℕ). Takes p u q) h.1 k) in
      let mid : Place = after (length (s w.0)) p in
      let one : r p ≡ Ok (h.2.0, mid) = a.only p (s w.0) h.2.0 mid (w.0, refl, h.2.1) parts.0 in
      bind_is r f p mid h.2.0 one
      ∙ (b p.at w.0 h.2.0 h.2.1).only mid (t w.1) y q (w.1, refl, h.2.2) parts.1;
}

-- an item, and then more
pub bind_exact : {A B X R S : Type 0} {r : Reader A X} {s : R → List ℕ} {m : ℕ → R → A → Type 0} (f : A → Reader B X)
    (t : S → List ℕ) (n : A → ℕ → S → B → Type 0)
    → Exact r (Spells s m) → ((x : A) → Exact (f x) (Spells t (n x)))
    → Exact (bind r f) (Spells (λ (w : R × S). s w.0 ++ t w.1) (Both s m n))
bind_exact f t n a b = bind_exact_of f t n a (λ at w x h. b x)

-- where an item leads: to a reader of the rest, or to a fault, and then no rest fits
abbrev pub Leads : {B : Type 0} → Result (FormatReader B) FormatKind → (ℕ → List ℕ → B → Type 0) → Type 0
Leads (Ok s) g = Exact s g
Leads (Err k) g = (at : ℕ) (t : List ℕ) (y : _) → g at t y → ⊥

-- the reader that an item leads to takes exactly what fits the rest
onwards_exact : {B : Type 0} (at : ℕ) (o : Result (FormatReader B) FormatKind) (g : ℕ → List ℕ → B → Type 0)
    → Leads o g → Exact (onwards at o) g
onwards_exact at (Ok s) g l = record { found = l.found; only = l.only }
onwards_exact at (Err e) g l = record {
  found = λ p y q fits h. absurd cc;
  only = λ p t y q h k. absurd (l p.at t y h);
}

-- the rest may rely on what the first structure stands for
pub lead_exact_of : {A B R S : Type 0} {r : FormatReader A} {s : R → List ℕ} {m : ℕ → R → A → Type 0}
    (f : A → Result (FormatReader B) FormatKind) (t : S → List ℕ) (n : A → ℕ → S → B → Type 0)
    → Exact r (Spells s m) → ((at : ℕ) (w : R) (x : A) → m at w x → Leads (f x) (Spells t (n x)))
    → Exact (lead r f) (Spells (λ (w : R × S). s w.0 ++ t w.1) (Both s m n))
unfolding lead bind
lead_exact_of {r = r} {s = s} {m = m} f t n a b =
    let led = λ (offset : ℕ). bind_exact_of {r = r} {s = s} {m = m} (λ x. onwards offset (f x)) t n a
    (λ at w x h. onwards_exact offset (f x) (Spells t (n x)) (b at w x h)) in record {
      found = λ p. (led p.at).found p;
      only = λ p. (led p.at).only p;
    }

-- an item, and then what it leads to
pub lead_exact : {A B R S : Type 0} {r : FormatReader A} {s : R → List ℕ} {m : ℕ → R → A → Type 0}
    (f : A → Result (FormatReader B) FormatKind) (t : S → List ℕ) (n : A → ℕ → S → B → Type 0)
    → Exact r (Spells s m) → ((x : A) → Leads (f x) (Spells t (n x)))
    → Exact (lead r f) (Spells (λ (w : R × S). s w.0 ++ t w.1) (Both s m n))
lead_exact f t n a b = lead_exact_of f t n a (λ at w x h. b x)

-- the same structure, told with names
pub as_raw : {A X R S : Type 0} {r : Reader A X} {s : R → List ℕ} {m : ℕ → R → A → Type 0} (t : S → List ℕ)
    (n : ℕ → S → A → Type 0) (to : R → S) (from : S → R)
    → ((at : ℕ) (w : R) (x : A) → m at w x → (s w ≡ t (to w)) × n at (to w) x)
    → ((at : ℕ) (v : S) (x : A) → n at v x → (t v ≡ s (from v)) × m at (from v) x) → Exact r (Spells s m)
    → Exact r (Spells t n)
as_raw t n to from there back e = record {
  found = λ p x q fits h. let o = e.found p x q fits h in let k = there p.at o.1.0 x o.1.2 in
      (o.0, (to o.1.0, o.1.1 ∙ k.0, k.1), o.2);
  only = λ p text x q h k. let b = back p.at h.0 x h.2 in e.only p text x q (from h.0, h.1 ∙ b.0, b.1) k;
}

-- bytes behind others are bytes
IsBytes-drop : (n : ℕ) (bytes : List ℕ) → IsBytes bytes → IsBytes (drop n bytes)
IsBytes-drop n bytes h i = rw get_or-drop (h (n + i))

-- bytes before others are bytes
IsBytes-take : (n : ℕ) (bytes : List ℕ) → IsBytes bytes → IsBytes (take n bytes)
IsBytes-take n bytes h i =
    elim (cases_lt i n) [
      | inl lt ↦ rw (get_or-take n bytes i 0 lt) (h i)
      | inr le ↦ rw (get_or_past (take n bytes) i 0 (omega (arith, length-take n bytes))) (omega arith)
    ]

-- the bytes of a text that was taken
taken_bytes : (p q : Place) (text : List ℕ) → Takes p text q → IsBytes p.bytes → IsBytes text
taken_bytes p q text t fits = subst (λ (u : List ℕ). IsBytes u)
    (ap (take (length text)) t.parts ∙ take_at text (left q) (length text) refl)
    (IsBytes-take (length text) (left p) (IsBytes-drop p.at p.bytes fits))

-- the second part of bytes is bytes
pub bytes_behind : (a b : List ℕ) → IsBytes (a ++ b) → IsBytes b
bytes_behind a b h = subst (λ (u : List ℕ). IsBytes u) (drop_at a b (length a) refl)
    (IsBytes-drop (length a) (a ++ b) h)

-- the same, where what stands for the value may rely on the text being bytes
pub as_raw_bytes : {A X R S : Type 0} {r : Reader A X} {s : R → List ℕ} {m : ℕ → R → A → Type 0} (t : S → List ℕ)
    (n : ℕ → S → A → Type 0) (to : R → S) (from : S → R)
    → ((at : ℕ) (w : R) (x : A) → IsBytes (s w) → m at w x → (s w ≡ t (to w)) × n at (to w) x)
    → ((at : ℕ) (v : S) (x : A) → n at v x → (t v ≡ s (from v)) × m at (from v) x) → Exact r (Spells s m)
    → Exact r (Spells t n)
as_raw_bytes t n to from there back e = record {
  found = λ p x q fits h. let o = e.found p x q fits h in let k = there p.at o.1.0 x
      (subst (λ (u : List ℕ). IsBytes u) o.1.1 (taken_bytes p q o.0 o.2 fits)) o.1.2 in
      (o.0, (to o.1.0, o.1.1 ∙ k.0, k.1), o.2);
  only = λ p text x q h k. let b = back p.at h.0 x h.2 in e.only p text x q (from h.0, h.1 ∙ b.0, b.1) k;
}

-- ---- no byte

-- the spelling of what takes no byte
abbrev pub nothing : Unit {0} → List ℕ
nothing u = []

-- a value that was read
abbrev pub ok_of : {A X : Type 0} → A × Place → Result (A × Place) X
ok_of x = Ok x

-- a value that was read is one
pub ok_is : {A X : Type 0} (x y : A × Place) → ok_of {X = X} x ≡ ok_of y → x ≡ y
ok_is x y e = cc

-- no byte behind a place is the place
nothing_taken : (p : Place) → p ≡ after 0 p
nothing_taken p = place_is p.bytes _ _ (omega arith)

-- a value for which no byte stands
pub give_exact : {A X : Type 0} (x : A) → Exact (give {X = X} x) (Spells nothing (λ at u y. y ≡ x))
unfolding give
give_exact x = record {
  found = λ p y q fits h. let e = ok_is (x, p) (y, q) h in let k : p
      ≡ q = ap (λ (w : _ × Place). w.1) e in (
        [],
        (tt, refl, sym (ap (λ (w : _ × Place). w.0) e)),
        record {
          parts = ap left k;
          moved = sym k
              ∙ nothing_taken p;
        },
      );
  only = λ p text y q h k. let e : p ≡ q = nothing_taken p ∙ ap (λ (u : List ℕ). after (length u) p) (sym h.1)
      ∙ sym k.moved in rw (h.2, ← e) refl;
}

-- the offset
pub here_exact : {X : Type 0} → Exact (here {X = X}) (Spells nothing (λ at u y. y ≡ at))
unfolding here
here_exact = record {
  found = λ p y q fits h. let e = ok_is (p.at, p) (y, q) h in let k : p
      ≡ q = ap (λ (w : _ × Place). w.1) e in (
        [],
        (tt, refl, sym (ap (λ (w : _ × Place). w.0) e)),
        record {
          parts = ap left k;
          moved = sym k
              ∙ nothing_taken p;
        },
      );
  only = λ p text y q h k. let e : p ≡ q = nothing_taken p ∙ ap (λ (u : List ℕ). after (length u) p) (sym h.1)
      ∙ sym k.moved in rw (h.2, ← e) refl;
}

-- a value that was found, or a fault before
pub settle_exact : {A : Type 0} (at : ℕ) (o : Result A FormatKind)
    → Exact (settle at o) (Spells nothing (λ _ u y. o ≡ Ok y))
unfolding settle give
settle_exact at (Ok x) = as_raw nothing _ (λ w. w) (λ w. w) (λ at w y h. (refl, ap (λ v. Ok v) (sym h)))
    (λ at w y h. (refl, sym (let e : x ≡ y = cc in e))) (give_exact x)
settle_exact at (Err k) = record {
  found = λ p y q fits h. absurd cc;
  only = λ p text y q h t. absurd (let e : Err k ≡ Ok y = h.2 in cc);
}

-- a value that was found, or a fault with its offset
pub of_result_exact : {A X : Type 0} (o : Result A X) → Exact (of_result o) (Spells nothing (λ _ u y. o ≡ Ok y))
unfolding of_result give
of_result_exact (Ok x) = as_raw nothing _ (λ w. w) (λ w. w) (λ at w y h. (refl, ap (λ v. Ok v) (sym h)))
    (λ at w y h. (refl, sym (let e : x ≡ y = cc in e))) (give_exact x)
of_result_exact (Err k) = record {
  found = λ p y q fits h. absurd cc;
  only = λ p text y q h t. absurd (let e : Err k ≡ Ok y = h.2 in cc);
}

-- either reader, as a test goes
pub if_exact : {A X : Type 0} {r s : Reader A X} {g : ℕ → List ℕ → A → Type 0} (b : Bool) → (b ≡ true → Exact r g)
    → (b ≡ false → Exact s g) → Exact (cond b r s) g
if_exact true a b = a refl
if_exact false a b = b refl

-- either lead, as a test goes
pub leads_if : {A : Type 0} (r s : Result (FormatReader A) FormatKind) (g : ℕ → List ℕ → A → Type 0) (b : Bool)
    → (b ≡ true → Leads r g) → (b ≡ false → Leads s g) → Leads (cond b r s) g
leads_if r s g true a b = a refl
leads_if r s g false a b = b refl

-- an item, and a value made of it
pub map_exact : {A B X R : Type 0} {r : Reader A X} {s : R → List ℕ} {m : ℕ → R → A → Type 0} (f : A → B)
    → Exact r (Spells s m) → Exact (bind r (λ x. give (f x))) (Spells s (λ at raw y. (x : A) × m at raw x × (y ≡ f x)))
map_exact {s = s} {m = m} f e = as_raw s _ (λ w. w.0) (λ v. (v, tt))
    (λ at w y h. (append-nil (s w.0), h))
    (λ at v y h. (sym (append-nil (s v)), h))
    (bind_exact (λ x. give (f x)) nothing (λ x at u y. y ≡ f x) e (λ x. give_exact (f x)))

-- the lead to a value that was found
leads_given : {B : Type 0} (o : Result B FormatKind) → Leads (given o) (Spells nothing (λ at u y. o ≡ Ok y))
leads_given (Ok x) = as_raw nothing _ (λ w. w) (λ w. w) (λ at w y h. (refl, ap (λ v. Ok v) (sym h)))
    (λ at w y h. (refl, sym (let e : x ≡ y = cc in e))) (give_exact x)
leads_given (Err k) = λ at t y h. absurd (let e : Err k ≡ Ok y = h.2 in cc)

-- an item's meaning
pub item_exact : {A B R : Type 0} {r : FormatReader A} {s : R → List ℕ} {m : ℕ → R → A → Type 0}
    (f : A → Result B FormatKind)
    → Exact r (Spells s m) → Exact (item r f) (Spells s (λ at raw y. (x : A) × m at raw x × (f x ≡ Ok y)))
item_exact {s = s} {m = m} f e = as_raw s _ (λ w. w.0) (λ v. (v, tt))
    (λ at w y h. (append-nil (s w.0), h))
    (λ at v y h. (sym (append-nil (s v)), h))
    (lead_exact (λ x. given (f x)) nothing (λ x at u y. f x ≡ Ok y) e (λ x. leads_given (f x)))

-- ---- n structures

-- nothing read of no structure
many_none : {A R : Type 0} (m : ℕ → R → A → Type 0) (s : R → List ℕ) (at : ℕ) (v : List R) (x : List A)
    → ManyStand s m 0 at v x → (flat_map s v ≡ []) × (x ≡ [])
many_none m s at [] [] h = (refl, refl)
many_none m s at [] (y ∷ ys) h = absurd h.1
many_none m s at (w ∷ v) x h = absurd (omega (arith, h.0))

-- the head of what stands for a list
abbrev Cons : {R A : Type 0} → (R → List ℕ) → (ℕ → R → A → Type 0) → ℕ → ℕ → List R → List A → Type 0
Cons s m n at v x = (y : _) × (ys : _) × (w : _) × (ws : _) × (v ≡ w ∷ ws) × (x ≡ y ∷ ys) × m at w y
    × ManyStand s m n (at + length (s w)) ws ys

many_cons : {A R : Type 0} (s : R → List ℕ) (m : ℕ → R → A → Type 0) (n at : ℕ) (v : List R) (x : List A)
    → ManyStand s m (suc n) at v x → Cons s m n at v x
many_cons s m n at [] x h = absurd (omega (arith, h.0))
many_cons s m n at (w ∷ ws) [] h = absurd h.1
many_cons s m n at (w ∷ ws) (y ∷ ys) h = (y, ys, w, ws, refl, refl, h.1.0, (omega (arith, h.0), h.1.1))

-- one structure and n others
both : {A X R : Type 0} {r : Reader A X} {s : R → List ℕ} {m : ℕ → R → A → Type 0} (n : ℕ) → Exact r (Spells s m)
    → Exact (many n r) (Spells (flat_map s) (ManyStand s m n))
    → Exact (bind r (λ first. bind (many n r) (λ others. give (first ∷ others))))
    (Spells (λ (w : R × List R). s w.0 ++ flat_map s w.1)
    (Both s m (λ first at raws xs. (ys : List A) × ManyStand s m n at raws ys × (xs ≡ first ∷ ys))))
both {r = r} {s = s} {m = m} n e rest = bind_exact (λ first. bind (many n r) (λ others. give (first ∷ others)))
    (flat_map s) (λ first at raws xs. (ys : List _) × ManyStand s m n at raws ys × (xs ≡ first ∷ ys)) e
    (λ first. map_exact (λ others. first ∷ others) rest)

-- one more structure
step : {A X R : Type 0} {r : Reader A X} {s : R → List ℕ} {m : ℕ → R → A → Type 0} (n : ℕ) → Exact r (Spells s m)
    → Exact (many n r) (Spells (flat_map s) (ManyStand s m n))
    → Exact (bind r (λ first. bind (many n r) (λ others. give (first ∷ others))))
    (Spells (flat_map s) (ManyStand s m (suc n)))
step {r = r} {s = s} {m = m} n e rest = record {
  found = λ p x q fits h.
      let o = (both {r = r} {s = s} {m = m} n e rest).found p x q fits h in
      let w = o.1.0 in (
        o.0,
        (
          w.0 ∷ w.1,
          o.1.1 ∙ sym (flat_map-cons s w.0 w.1),
          subst
              (λ (v : List _). ManyStand s m (suc n) p.at (w.0 ∷ w.1) v) (sym o.1.2.2.2)
              (ap suc o.1.2.2.1.0, (o.1.2.1, o.1.2.2.1.1)),
        ),
        o.2,
      );
  only = λ p text x q h k.
      let c = many_cons s m n p.at h.0 x h.2 in
      let t : text ≡ s c.2 ++ flat_map s c.3 = h.1 ∙ ap (flat_map s) c.4 ∙ flat_map-cons s c.2 c.3 in
      (both {r = r} {s = s} {m = m} n e rest).only p text x q ((c.2, c.3), t, (c.0, c.6, (c.1, c.7, c.5))) k;
}

-- n structures, one behind the other
pub many_exact : {A X R : Type 0} {r : Reader A X} {s : R → List ℕ} {m : ℕ → R → A → Type 0} (n : ℕ)
    → Exact r (Spells s m)
    → Exact (many n r) (Spells (flat_map s) (ManyStand s m n))
unfolding many
many_exact {s = s} {m = m} zero e = as_raw {S = List _} (flat_map s) (ManyStand s m 0) (λ u. []) (λ v. tt)
    (λ at w x h. (refl, (refl, subst (λ (y : List _). AllStand s m at [] y) (sym h) tt)))
    (λ at v x h. many_none m s at v x h)
    (give_exact [])
many_exact {r = r} {s = s} {m = m} (suc n) e = step {r = r} {s = s} {m = m} n e (many_exact {r = r} {s = s} {m = m} n e)

-- ---- numbers and bytes

-- what was no fault of the bytes was read
uncut : {A : Type 0} (r : Result A End) (x : A) → or_cut r ≡ Ok x → r ≡ Ok x
uncut (Ok y) x e = (let h : y ≡ x = cc in ap (λ (v : _). Ok v) h)
uncut (Err d) x e = absurd cc

-- past a test that refuses
guard_ok : {A X : Type 0} (b : Bool) (d : X) (x y : A) → cond b (Err d) (Ok x) ≡ Ok y → (b ≡ false) × (x ≡ y)
guard_ok true d x y e = absurd cc
guard_ok false d x y e = (refl, cc)

-- the next n bytes of a place
abbrev front : ℕ → Place → List ℕ
front n p = slice_range p.bytes p.at (p.at + n)

-- they are the first of what is left
front_is : (n : ℕ) (p : Place) → front n p ≡ take n (left p)
front_is n p = let k : (p.at + n) - p.at ≡ n = omega arith in rw k refl

-- there are n of them where so many are left
front_len : (n : ℕ) (p : Place) → n ≤ length p.bytes - p.at → length (front n p) ≡ n
front_len n p le = rw front_is (omega (arith, length-take n (left p), length-drop p.at p.bytes))

-- they are taken where so many are left
front_takes : (n : ℕ) (p : Place) → n ≤ length p.bytes - p.at → Takes p (front n p) (after n p)
front_takes n p le = record {
  parts = sym (take-append-drop n (left p))
      ∙ ap (λ (t : List ℕ). t ++ drop n (left p)) (sym (front_is n p))
      ∙ ap (λ (t : List ℕ). front n p ++ t) (drop-drop n p.at p.bytes);
  moved = place_is p.bytes _ _
      (ap (λ k. p.at + k) (sym (front_len n p le)));
}

-- they are bytes
front_bytes : (n : ℕ) (p : Place) → IsBytes p.bytes → IsBytes (front n p)
front_bytes n p h = rw front_is (IsBytes-take n (left p) (IsBytes-drop p.at p.bytes h))

-- what a text that is taken says of the bytes
taken_front : (p q : Place) (t : List ℕ) → Takes p t q
    → (ltb (length p.bytes - p.at) (length t) ≡ false) × (front (length t) p ≡ t)
taken_front p q t k = (
  le-ltb _ _ (omega (
    arith,
    length-drop p.at p.bytes,
    ap length k.parts,
    length-append t
        (left q),
  )),
  front_is (length t) p ∙ ap (take (length t)) k.parts ∙ take_at t (left q) (length t) refl,
)

-- the next n bytes
pub bytes_exact : (n : ℕ) → Exact (bytes n) (Spells (λ t. t) (λ at t x. (length t ≡ n) × (x ≡ t)))
unfolding bytes
bytes_exact n = record {
  found = λ p x q fits h.
      let g = guard_ok (ltb (length p.bytes - p.at) n) (ended p) (front n p, after n p) (x, q)
      (uncut (taken_at n p) (x, q) h) in
      let long : n ≤ length p.bytes - p.at = ltb-false _ _ g.0 in
      subst (λ (w : List ℕ × Place). (t : List ℕ) × Spells (λ t. t) (λ at t x. (length t ≡ n) × (x ≡ t)) p.at t w.0
      × Takes p t w.1) g.1
      (front n p, (front n p, refl, (front_len n p long, refl)), front_takes n p long);
  only = λ p text x q h k.
      let len : length text ≡ n = ap length h.1 ∙ h.2.0 in
      let f = taken_front p q text k in
      let x-is : x ≡ text = h.2.1 ∙ sym h.1 in
      subst (λ (j : ℕ). or_cut (taken_at j p) ≡ Ok (x, q)) len (rw (f.0, f.1, x-is, k.moved) refl);
}

-- the laws of the big-endian numbers of a width: below a limit, number and bytes tell each other
pub record IsWide (w : Width) (limit : ℕ) : Type 0 where
  pub len : (n : ℕ) → length (to_be_bytes w n) ≡ byte_len w
  pub back : (bytes : List ℕ) → length bytes ≡ byte_len w → IsBytes bytes
      → to_be_bytes w (from_be_bytes w bytes) ≡ bytes
  pub again : (n : ℕ) → n < limit → from_be_bytes w (to_be_bytes w n) ≡ n
  pub below : (bytes : List ℕ) → IsBytes bytes → from_be_bytes w bytes < limit

-- numbers of two bytes
wide16 : IsWide w16 (2 ^ 16)
wide16 = record {
  len = λ n. refl;
  back = λ bytes len fits. be_bytes_2 bytes _ len fits refl;
  again = λ n lt.
      from_be_bytes-to_be_bytes_2 n lt;
  below = λ bytes fits. omega (arith, fits 0, fits 1);
}

-- numbers of four bytes
wide32 : IsWide w32 (2 ^ 32)
wide32 = record {
  len = λ n. refl;
  back = λ bytes len fits. be_bytes_4 bytes _ len fits refl;
  again = λ n lt.
      from_be_bytes-to_be_bytes_4 n lt;
  below = λ bytes fits. omega (arith, fits 0, fits 1, fits 2, fits 3);
}

-- a byte is the spelling of its number
one_byte : (bytes : List ℕ) → length bytes ≡ 1 → IsBytes bytes → to_be_bytes w8 (from_be_bytes w8 bytes) ≡ bytes
one_byte [] len fits = absurd (omega (arith, len))
one_byte (b ∷ []) len fits = ap (λ k. k ∷ []) (let f : b < 256 = fits 0 in omega (arith, f))
one_byte (b ∷ c ∷ bs) len fits = absurd (omega (arith, len))

-- numbers of one byte
wide8 : IsWide w8 256
wide8 = record {
  len = λ n. refl;
  back = one_byte;
  again = λ n lt. omega arith;
  below = λ bytes fits. omega
      (arith, fits 0);
}

-- a number below a limit
abbrev pub Below : ℕ → ℕ → ℕ → ℕ → Type 0
Below limit at raw x = (raw < limit) × (x ≡ raw)

-- a big-endian number of a width
abbrev number : Width → FormatReader ℕ
number w p = or_cut (number_at w p)

-- a number of a width is read exactly where it is spelled
number_exact : (w : Width) (limit : ℕ) → IsWide w limit → Exact (number w) (Spells (to_be_bytes w) (Below limit))
number_exact w limit wide = record {
  found = λ p x q fits h.
      let g = guard_ok (ltb (length p.bytes - p.at) (byte_len w)) (ended p)
      (from_be_bytes w (front (byte_len w) p), after (byte_len w) p) (x, q) (uncut (number_at w p) (x, q) h) in
      let long : byte_len w ≤ length p.bytes - p.at = ltb-false _ _ g.0 in
      let f = front (byte_len w) p in
      let fit = front_bytes (byte_len w) p fits in
      subst (λ (v : ℕ × Place). (t : List ℕ) × Spells (to_be_bytes w) (Below limit) p.at t v.0 × Takes p t v.1) g.1 (
        f,
        (
          from_be_bytes w f,
          sym (wide.back f (front_len (byte_len w) p long) fit),
          (wide.below f fit, refl),
        ),
        front_takes (byte_len w) p long,
      );
  only = λ p text x q h k.
      let len : length text ≡ byte_len w = ap length h.1 ∙ wide.len h.0 in
      let f = taken_front p q text k in
      let f0 : ltb (length p.bytes - p.at) (byte_len w) ≡ false = rw (← len) f.0 in
      let f1 : from_be_bytes w (front (byte_len w) p) ≡ x = ap (λ j. from_be_bytes w (front j p)) (sym len)
      ∙ ap (from_be_bytes w) (f.1 ∙ h.1) ∙ wide.again h.0 h.2.0 ∙ sym h.2.1 in
      let f2 : after (byte_len w) p ≡ q = ap (λ j. after j p) (sym len) ∙ sym k.moved in
      rw (f0, f1, f2) refl;
}

-- a byte
pub u1_exact : Exact u1 (Spells (to_be_bytes w8) (Below 256))
unfolding u1
u1_exact = number_exact w8 256 wide8

-- a number of two bytes
pub u2_exact : Exact u2 (Spells (to_be_bytes w16) (Below (2 ^ 16)))
unfolding u2
u2_exact = number_exact w16 (2 ^ 16) wide16

-- a number of four bytes
pub u4_exact : Exact u4 (Spells (to_be_bytes w32) (Below (2 ^ 32)))
unfolding u4
u4_exact = number_exact w32 (2 ^ 32) wide32

-- ---- a part of an attribute

-- the bytes before the end of a part
part_left : (n : ℕ) (p : Place) → left (cut_off n p) ≡ take n (left p)
part_left n p = drop-take p.at n p.bytes

-- no byte is left at the end of a part
part_ended : (n : ℕ) (p : Place) → left (after n (cut_off n p)) ≡ []
part_ended n p = drop_all (p.at + n) (take (p.at + n) p.bytes) (omega (arith, length-take (p.at + n) p.bytes))

-- past a test that accepts
pub guard_closed : {A X : Type 0} (b : Bool) (d : X) (x y : A) → cond b (Ok x) (Err d) ≡ Ok y → (b ≡ true) × (x ≡ y)
guard_closed true d x y e = (refl, cc)
guard_closed false d x y e = absurd cc

-- a part that was read ended where it ends
closed_ok : {A : Type 0} (attribute : ℕ) (end : Place) (read : Result (A × Place) FormatFault) (y : A × Place)
    → closed attribute end read ≡ Ok y
    → (q : Place) × (read ≡ Ok (y.0, q)) × (q.at ≡ end.at) × (y.1 ≡ end)
closed_ok attribute end (Ok x) y h =
    let g = guard_closed (eqb x.1.at end.at) (fault attribute BadAttribute) (x.0, end) y h in (
      x.1,
      ap (λ (v : _ × Place). let R : Result (_ × Place) FormatFault = Ok (v.0, x.1) in R) g.1,
      eqb-true _ _ g.0,
      sym
          (ap (λ (v : _ × Place). v.1) g.1),
    )
closed_ok attribute end (Err f) y h = absurd cc

-- a part that was read was there
in_part_ok : {A : Type 0} (attribute : ℕ) (r : FormatReader A) (taken : Result (Place × Place) FormatFault)
    (y : A × Place)
    → in_part attribute r taken ≡ Ok y
    → (places : Place × Place) × (taken ≡ Ok places) × (closed attribute places.1 (r places.0) ≡ Ok y)
in_part_ok attribute r (Ok places) y h = (places, refl, h)
in_part_ok attribute r (Err f) y h = absurd cc

-- what a reader took of a part that it read to its end is the part
part_takes : (n : ℕ) (p q : Place) (text : List ℕ) → n ≤ length p.bytes - p.at → q.at ≡ p.at + n
    → Takes (cut_off n p) text q → (length text ≡ n) × Takes p text (after n p)
part_takes n p q text long end t =
    let moved : q.at ≡ p.at + length text = ap (λ (z : Place). z.at) t.moved in
    let len : length text ≡ n = omega (arith, moved, end) in
    let is : q ≡ after n (cut_off n p) = t.moved ∙ ap (λ k. after k (cut_off n p)) len in
    let none : left q ≡ [] = ap left is ∙ part_ended n p in
    let whole : text ≡ front n p = sym (append-nil text) ∙ ap (λ (u : List ℕ). text ++ u) (sym none) ∙ sym t.parts
    ∙ part_left n p ∙ sym (front_is n p) in
    (len, subst (λ (u : List ℕ). Takes p u (after n p)) (sym whole) (front_takes n p long))

-- a text that is taken is taken as a part too
takes_part : (p q : Place) (text : List ℕ) → Takes p text q
    → Takes (cut_off (length text) p) text (after (length text) (cut_off (length text) p))
takes_part p q text t = record {
  parts = part_left (length text) p ∙ ap (take (length text)) t.parts ∙ take_at text (left q) (length text) refl
      ∙ sym (append-nil text) ∙ ap (λ (u : List ℕ). text ++ u) (sym (part_ended (length text) p));
  moved = refl;
}

-- a part of n bytes is read in place exactly where they spell a structure that stands for the value
pub part_exact : {A R : Type 0} {r : FormatReader A} {s : R → List ℕ} {m : ℕ → R → A → Type 0} (attribute n : ℕ)
    → Exact r (Spells s m)
    → Exact (part attribute n r) (Spells s (λ at raw x. (length (s raw) ≡ n) × m at raw x))
unfolding part
part_exact {r = r} {s = s} {m = m} attribute n e = record {
  found = λ p x q fits h.
      let o = in_part_ok attribute r (or_cut (part_at n p)) (x, q) h in
      let g = guard_ok (ltb (length p.bytes - p.at) n) (ended p) (cut_off n p, after n p) o.0
      (uncut (part_at n p) o.0 o.1) in
      let c = closed_ok attribute (after n p) (r (cut_off n p)) (x, q)
      (subst (λ (w : Place × Place). closed attribute w.1 (r w.0) ≡ Ok (x, q)) (sym g.1) o.2) in
      let f = e.found (cut_off n p) x c.0 (IsBytes-take (p.at + n) p.bytes fits) c.1 in
      let t = part_takes n p c.0 f.0 (ltb-false _ _ g.0) c.2 f.2 in
      (f.0, (f.1.0, f.1.1, (sym (ap length f.1.1) ∙ t.0, f.1.2)), subst (λ (z : Place). Takes p f.0 z) (sym c.3) t.1);
  only = λ p text x q h k.
      let len : length text ≡ n = ap length h.1 ∙ h.2.0 in
      let within : Place = cut_off (length text) p in
      let there : ltb (length p.bytes - p.at) (length text) ≡ false = (taken_front p q text k).0 in
      let one : r within ≡ Ok (x, after (length text) within) = e.only within text x (after (length text) within)
      (h.0, h.1, h.2.1) (takes_part p q text k) in
      let end : eqb (p.at + length text) (p.at + length text) ≡ true = eq-eqb _ _ refl in
      subst (λ (j : ℕ). in_part attribute r (or_cut (part_at j p)) ≡ Ok (x, q)) len
      (rw (there, one, end, k.moved) refl);
}
