-- Readers at a place of a text, and at the same place where other bytes stand in front of the text.
use Rattle.std.proofs.Common.{◌≡◌, ℕ, zero, suc, ◌+◌, ◌-◌, Bool, true, false, cond, ltb, List, [], ◌∷◌, ◌++◌, length}
use Rattle.std.proofs.Common.{take, drop, Result, Ok, Err, refl, sym, ap, ◌∙◌, arith}
use Rattle.std.specs.Prelude.{slice_range}
use Rattle.std.specs.Int.{Width, w8, w16, w32, byte_len, from_be_bytes}
use Rattle.std.proofs.lemmas.List.{length-append, drop_at, drop-drop}
use Rattle.jv_base.specs.Place.{Place, number_at, after, ended}
use Rattle.format_reading.specs.Fault.{cut, fault}
use Rattle.format_reading.specs.declared.fault.FormatFault.{FormatFault}
use Rattle.format_reading.specs.declared.fault.FormatKind.{FormatKind}
use Rattle.format_reading.specs.declared.fault.FormatKind.TheVariants.{Cut}
use Rattle.format_reading.specs.Reader.{FormatReader, or_cut, u1, u2, u4, bytes, lead, bind, give, given, item, many}
use Rattle.format_reading.specs.Reader.{after_read, onwards}

-- the same place, behind bytes in front
abbrev pub behind : List ℕ → Place → Place
behind front p = record { bytes = front ++ p.bytes; at = length front + p.at }

-- the same fault there
abbrev pub fault_behind : List ℕ → FormatFault → FormatFault
fault_behind front f = fault (length front + f.offset) f.kind

-- what was read there
abbrev pub read_behind : {A : Type 0} → List ℕ → Result (A × Place) FormatFault → Result (A × Place) FormatFault
read_behind front (Ok x) = Ok (x.0, behind front x.1)
read_behind front (Err f) = Err (fault_behind front f)

-- a reader of a text, and one that reads the same behind bytes in front of it
abbrev pub Shifts : {A : Type 0} → List ℕ → FormatReader A → FormatReader A → Type 0
Shifts front r s = (p : Place) → s (behind front p) ≡ read_behind front (r p)

module _ (front : List ℕ) where
  -- what is left is as long
  left_length : (p : Place) → length (front ++ p.bytes) - (length front + p.at) ≡ length p.bytes - p.at
  left_length p = omega (arith, length-append front p.bytes)

  -- the same bytes are next
  next_bytes : (n : ℕ) (p : Place)
      → slice_range (front ++ p.bytes) (length front + p.at) (length front + p.at + n)
      ≡ slice_range p.bytes p.at (p.at + n)
  next_bytes n p =
      let many_ : (length front + p.at + n) - (length front + p.at) ≡ (p.at + n) - p.at = omega arith in
      let rest : drop (length front + p.at) (front ++ p.bytes) ≡ drop p.at p.bytes =
      sym (drop-drop p.at (length front) (front ++ p.bytes))
      ∙ ap (drop p.at) (drop_at front p.bytes (length front) refl) in
      ap (λ (k : ℕ). take k (drop (length front + p.at) (front ++ p.bytes))) many_ ∙ ap (take ((p.at + n) - p.at)) rest

  -- the place n bytes further on
  after_behind : (n : ℕ) (p : Place) → after n (behind front p) ≡ behind front (after n p)
  after_behind n p = ap (λ (k : ℕ). let P : Place = record { bytes = front ++ p.bytes; at = k } in P)
      (let e : length front + p.at + n ≡ length front + (p.at + n) = omega arith in e)

  -- the fault of an end
  cut_behind : {A : Type 0} (p : Place)
      → (let R : Result (A × Place) FormatFault = Err (cut (ended (behind front p))) in R)
      ≡ Err (fault_behind front (cut (ended p)))
  cut_behind p = ap (λ (k : ℕ). let R : Result (_ × Place) FormatFault = Err (fault k Cut) in R)
      (length-append front p.bytes)

  -- a number
  number_shifts : (w : Width) → Shifts front (λ p. or_cut (number_at w p)) (λ p. or_cut (number_at w p))
  number_shifts w p = ap or_cut (rw (left_length p) refl) ∙ by (ltb (length p.bytes - p.at) (byte_len w))
    where
      by : (b : Bool) → or_cut (cond b (Err (ended (behind front p)))
          (Ok (
            from_be_bytes w
                (slice_range (front ++ p.bytes) (length front + p.at) (length front + p.at + byte_len w)),
            after (byte_len w)
                (behind front p),
          )))
          ≡ read_behind front (or_cut (cond b (Err (ended p))
          (Ok (from_be_bytes w (slice_range p.bytes p.at (p.at + byte_len w)), after (byte_len w) p))))
      by true = cut_behind p
      by false = rw (next_bytes (byte_len w) p, after_behind (byte_len w) p) refl

  pub u1_shifts : Shifts front u1 u1
  unfolding u1
  u1_shifts p = number_shifts w8 p

  pub u2_shifts : Shifts front u2 u2
  unfolding u2
  u2_shifts p = number_shifts w16 p

  pub u4_shifts : Shifts front u4 u4
  unfolding u4
  u4_shifts p = number_shifts w32 p

  -- the next n bytes
  pub bytes_shift : (n : ℕ) → Shifts front (bytes n) (bytes n)
  unfolding bytes
  bytes_shift n p = ap or_cut (rw (left_length p) refl) ∙ by (ltb (length p.bytes - p.at) n)
    where
      by : (b : Bool) → or_cut (cond b (Err (ended (behind front p)))
          (Ok (
            slice_range (front ++ p.bytes) (length front + p.at) (length front + p.at + n),
            after n
                (behind front p),
          )))
          ≡ read_behind front (or_cut (cond b (Err (ended p)) (Ok (slice_range p.bytes p.at (p.at + n), after n p))))
      by true = cut_behind p
      by false = rw (next_bytes n p, after_behind n p) refl

  pub give_shifts : {A : Type 0} (x : A) → Shifts front (give x) (give x)
  unfolding give
  give_shifts x p = refl

  -- what an item leads to
  abbrev pub LeadShift : {B : Type 0} → Result (FormatReader B) FormatKind → Result (FormatReader B) FormatKind → Type 0
  LeadShift (Ok r) (Ok s) = Shifts front r s
  LeadShift (Err k) (Err l) = k ≡ l
  LeadShift _ _ = ⊥

  onwards_shift : {B : Type 0} (at : ℕ) (o u : Result (FormatReader B) FormatKind) (p : Place) → LeadShift o u
      → onwards (length front + at) u (behind front p) ≡ read_behind front (onwards at o p)
  onwards_shift at (Ok r) (Ok s) p h = h p
  onwards_shift at (Err k) (Err l) p h = ap
      (λ (m : FormatKind). let R : Result (_ × Place) FormatFault = Err (fault (length front + at) m) in R) (sym h)
  onwards_shift at (Ok r) (Err l) p h = absurd h
  onwards_shift at (Err k) (Ok s) p h = absurd h

  after_shift : {A B : Type 0} (at : ℕ) (f g : A → Result (FormatReader B) FormatKind)
      (d : Result (A × Place) FormatFault)
      → ((x : A) → LeadShift (f x) (g x))
      → after_read (length front + at) g (read_behind front d) ≡ read_behind front (after_read at f d)
  after_shift at f g (Ok x) h = onwards_shift at (f x.0) (g x.0) x.1 (h x.0)
  after_shift at f g (Err e) h = refl

  -- an item, and then what it leads to
  pub lead_shifts : {A B : Type 0} (r s : FormatReader A) (f g : A → Result (FormatReader B) FormatKind)
      → Shifts front r s
      → ((x : A) → LeadShift (f x) (g x)) → Shifts front (lead r f) (lead s g)
  unfolding lead
  lead_shifts r s f g a h p = ap (after_read (length front + p.at) g) (a p) ∙ after_shift p.at f g (r p) h

  -- an item, and then more
  pub bind_shifts : {A B : Type 0} (r s : FormatReader A) (f g : A → FormatReader B) → Shifts front r s
      → ((x : A) → Shifts front (f x) (g x)) → Shifts front (bind r f) (bind s g)
  unfolding bind
  bind_shifts r s f g a h p = ap (after_read (length front + p.at) (λ x. Ok (g x))) (a p)
      ∙ after_shift p.at (λ x. Ok (f x)) (λ x. Ok (g x)) (r p) h

  -- a value, or the fault of an item
  pub given_shift : {A : Type 0} (x : Result A FormatKind) → LeadShift (given x) (given x)
  given_shift (Ok x) = give_shifts x
  given_shift (Err k) = refl

  pub item_shifts : {A B : Type 0} (r : FormatReader A) (f : A → Result B FormatKind) → Shifts front r r
      → Shifts front (item r f) (item r f)
  item_shifts r f a = lead_shifts r r (λ x. given (f x)) (λ x. given (f x)) a (λ x. given_shift (f x))

  -- n values
  pub many_shift : {A : Type 0} (n : ℕ) (r : FormatReader A) → Shifts front r r → Shifts front (many n r) (many n r)
  unfolding many
  many_shift zero r a = give_shifts []
  many_shift (suc n) r a = bind_shifts r r _ _ a
      (λ first. bind_shifts (many n r) (many n r) _ _ (many_shift n r a) (λ others. give_shifts (first ∷ others)))
