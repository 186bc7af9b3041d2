-- Attributes are read exactly where they are spelled (JVMS 4.7), for any that are known.
use Rattle.std.proofs.Common.{◌≡◌, ℕ, zero, suc, ◌+◌, ◌^◌, ◌<◌, Bool, true, false, not, List, [], ◌∷◌, ◌++◌, length}
use Rattle.std.proofs.Common.{Option, Some, None, Ok, refl, sym, ap, subst, ◌∙◌, arith}
use Rattle.std.specs.Int.{w16, w32, to_be_bytes}
use Rattle.std.specs.List.{flat_map}
use Rattle.std.proofs.lemmas.List.{append-nil}
use Rattle.std.proofs.lemmas.List.Concat.{flat_map-cons}
use Rattle.format_reading.specs.declared.fault.FormatKind.TheVariants as bad
use Rattle.format_reading.specs.Reader.{FormatReader, u2, u4, item, bind, give}
use Rattle.format_reading.specs.Spelling.{Spells}
use Rattle.format_reading.proofs.Exact.{Exact, as_raw, bind_exact, item_exact, give_exact, here_exact, settle_exact}
use Rattle.format_reading.proofs.Exact.{part_exact, bytes_exact, u2_exact, u4_exact, nothing}
use Rattle.class_model.specs.declared.pool.Entry.{Entry}
use Rattle.class_model.specs.Pool.{units_at}
use Rattle.class_model.specs.Structure.{AttributeInfo, attribute_info}
use Rattle.class_model.specs.Lookups.{due, test}
use Rattle.class_model.specs.ReadingAttributes.{contents, attribute, attributes, counted_attributes, once}

-- a text as its own structure
abbrev pub text : List ℕ → List ℕ
text t = t

-- a reader of texts that a relation tells, told as the reader of those texts
pub as_text : {A : Type 0} {r : FormatReader A} {g : ℕ → List ℕ → A → Type 0} → Exact r g → Exact r (Spells text g)
as_text {g = g} e = record {
  found = λ p x q fits h. let f = e.found p x q fits h in (f.0, (f.0, refl, f.1), f.2);
  only = λ p t x q h k. e.only p t x q (subst (λ (u : List ℕ). g p.at u x) (sym h.1) h.2) k;
}

-- the same fact of each text and value, told otherwise
pub as_told : {A : Type 0} {r : FormatReader A} {g : ℕ → List ℕ → A → Type 0} (h : ℕ → List ℕ → A → Type 0)
    → ((at : ℕ) (t : List ℕ) (x : A) → g at t x → h at t x) → ((at : ℕ) (t : List ℕ) (x : A) → h at t x → g at t x)
    → Exact r (Spells text g) → Exact r (Spells text h)
as_told h there back e = as_raw text h (λ t. t) (λ t. t) (λ at t x k. (refl, there at t x k))
    (λ at t x k. (refl, back at t x k)) e

-- what the contents of an attribute do to what was seen before, by the attribute's offset, its name and its length
abbrev pub Does : Type 0 → Type 1
Does S = ℕ → List ℕ → ℕ → S → List ℕ → S → Type 0

-- of what is known the contents are read exactly so, and what isn't changes nothing
abbrev pub Knows : {S : Type 0} → Option (FormatReader S) → ℕ → S → (List ℕ → S → Type 0) → Type 0
Knows (Some r) n seen does = Exact r (Spells text (λ _ info out. does info out))
Knows None n seen does = (info : List ℕ) (out : _) → (does info out → out ≡ seen) × (out ≡ seen → does info out)

-- an attribute with its name changes what was seen
abbrev pub Step : {S : Type 0} → List Entry → Does S → ℕ → AttributeInfo → S → S → Type 0
Step pool does at a seen out = (a.attribute_name_index < 2 ^ 16) × (name : List ℕ)
    × (units_at pool a.attribute_name_index ≡ Some name) × (length a.info < 2 ^ 32)
    × does at name (length a.info) seen a.info out

-- one attribute after the other does
abbrev pub Steps : {S : Type 0} → List Entry → Does S → ℕ → List AttributeInfo → S → S → Type 0
Steps pool does at [] seen out = out ≡ seen
Steps pool does at (a ∷ others) seen out = (now : _) × Step pool does at a seen now
    × Steps pool does (at + length (attribute_info a)) others now out

-- contents of a length
contents_exact : {S : Type 0} (at n : ℕ) (seen : S) (o : Option (FormatReader S)) (does : List ℕ → S → Type 0)
    → Knows o n seen does → Exact (contents at n seen o) (Spells text (λ _ info out. (length info ≡ n) × does info out))
contents_exact at n seen (Some r) does k = part_exact at n k
contents_exact at n seen None does k = as_raw text _ (λ w. w.0) (λ info. (info, tt))
    (λ at w out h. (append-nil w.0, (h.1.0, (k w.0 out).1 h.2)))
    (λ at info out h. (sym (append-nil info), (info, (h.0, refl), (k info out).0 h.1)))
    (bind_exact (λ skipped. give seen) nothing (λ _ _ u out. out ≡ seen) (bytes_exact n) (λ _. give_exact seen))

-- an attribute is read exactly where it is spelled
module _ {S : Type 0} (pool : List Entry) (known : ℕ → List ℕ → ℕ → S → Option (FormatReader S)) (does : Does S)
    (knows : (at : ℕ) (name : List ℕ) (n : ℕ) (seen : S)
    → Knows (known at name n seen) n seen (does at name n seen)) where
  -- its length and its contents
  behind_name : (at : ℕ) (name : List ℕ) (seen : S)
      → Exact (bind u4 (λ n. contents at n seen (known at name n seen)))
      (Spells (λ info. to_be_bytes w32 (length info) ++ info)
      (λ _ info out. (length info < 2 ^ 32) × does at name (length info) seen info out))
  behind_name at name seen = as_raw _ _ (λ w. w.1) (λ info. (length info, info))
      (λ k w out h.
      let n : length w.1 ≡ w.0 = h.2.0 ∙ h.1.1 in (
        ap (λ (m : ℕ). to_be_bytes w32 m ++ w.1) (sym n),
        (
          subst (λ (m : ℕ). m < 2 ^ 32) (sym n) h.1.0,
          subst (λ (m : ℕ). does at name m seen w.1 out)
              (sym h.2.0) h.2.1,
        ),
      ))
      (λ k info out h. (refl, (length info, (h.0, refl), (refl, h.1))))
      (bind_exact (λ n. contents at n seen (known at name n seen)) text
      (λ n _ info out. (length info ≡ n) × does at name n seen info out) u4_exact
      (λ n. contents_exact at n seen (known at name n seen) (does at name n seen) (knows at name n seen)))

  -- the parts of an attribute
  abbrev parts : AttributeInfo → Unit {0} × (ℕ × List ℕ)
  parts a = (tt, (a.attribute_name_index, a.info))

  abbrev whole : Unit {0} × (ℕ × List ℕ) → AttributeInfo
  whole w = record { attribute_name_index = w.1.0; info = w.1.1 }

  pub attribute_exact : (seen : S)
      → Exact (attribute pool known seen) (Spells attribute_info (λ at a out. Step pool does at a seen out))
  attribute_exact seen = as_raw attribute_info _ whole parts
      (λ at w out h.
      let named = h.2 in (
        refl,
        (
          named.1.1.0,
          named.0,
          due_is (units_at pool w.1.0) named.0
              (ap (λ (k : ℕ). due bad.BadIndex (units_at pool k)) (sym named.1.1.1) ∙ named.1.2),
          named.2.0,
          subst
              (λ (k : ℕ). does k named.0 (length w.1.1) seen w.1.1 out) h.1 named.2.1,
        ),
      ))
      (λ at a out h. (
        refl,
        (
          at,
          refl,
          (
            h.1,
            (a.attribute_name_index, (h.0, refl), ap (due bad.BadIndex) h.2),
            (h.3, h.4),
          ),
        ),
      ))
      (bind_exact (λ at. bind (item u2 (λ index. due bad.BadIndex (units_at pool index)))
      (λ name. bind u4 (λ n. contents at n seen (known at name n seen))))
      (λ (v : ℕ × List ℕ). to_be_bytes w16 v.0 ++ (to_be_bytes w32 (length v.1) ++ v.1))
      (λ at _ v out. (name : List ℕ)
      × ((index : ℕ) × ((v.0 < 2 ^ 16) × (index ≡ v.0)) × (due bad.BadIndex (units_at pool index) ≡ Ok name))
      × ((length v.1 < 2 ^ 32) × does at name (length v.1) seen v.1 out))
      here_exact
      (λ at. bind_exact (λ name. bind u4 (λ n. contents at n seen (known at name n seen)))
      (λ info. to_be_bytes w32 (length info) ++ info)
      (λ name _ info out. (length info < 2 ^ 32) × does at name (length info) seen info out)
      (item_exact (λ index. due bad.BadIndex (units_at pool index)) u2_exact) (λ name. behind_name at name seen)))
    where
      due_is : (o : Option (List ℕ)) (name : List ℕ) → due bad.BadIndex o ≡ Ok name → o ≡ Some name
      due_is (Some y) name h = let e : y ≡ name = cc in ap (λ v. Some v) e
      due_is None name h = absurd cc

  -- so many attributes
  pub attributes_exact : (n : ℕ) (seen : S)
      → Exact (attributes n pool known seen)
      (Spells (flat_map attribute_info) (λ at all out. (length all ≡ n) × Steps pool does at all seen out))
  unfolding attributes
  attributes_exact zero seen = as_raw (flat_map attribute_info) _ (λ u. []) (λ all. tt)
      (λ at u out h. (refl, (refl, h)))
      (λ at all out h. none at all out h.0 h.1)
      (give_exact seen)
    where
      none : (at : ℕ) (all : List AttributeInfo) (out : S) → length all ≡ 0 → Steps pool does at all seen out
          → (flat_map attribute_info all ≡ []) × (out ≡ seen)
      none at [] out len h = (refl, h)
      none at (a ∷ others) out len h = absurd (omega (arith, len))
  attributes_exact (suc n) seen = as_raw (flat_map attribute_info) _ (λ w. w.0 ∷ w.1) (λ all. (first all, others all))
      (λ at w out h. (sym (flat_map-cons attribute_info w.0 w.1), (ap suc h.2.0, (h.0, h.1, h.2.1))))
      (λ at all out h. some at all out h.0 h.1)
      (bind_exact (λ now. attributes n pool known now) (flat_map attribute_info)
      (λ now at all out. (length all ≡ n) × Steps pool does at all now out) (attribute_exact seen)
      (λ now. attributes_exact n now))
    where
      first : List AttributeInfo → AttributeInfo
      first [] = record { attribute_name_index = 0; info = [] }
      first (a ∷ rest) = a

      others : List AttributeInfo → List AttributeInfo
      others [] = []
      others (a ∷ rest) = rest

      some : (at : ℕ) (all : List AttributeInfo) (out : S) → length all ≡ suc n → Steps pool does at all seen out
          → (flat_map attribute_info all ≡ attribute_info (first all) ++ flat_map attribute_info (others all))
          × ((now : S) × Step pool does at (first all) seen now
          × ((length (others all) ≡ n)
          × Steps pool does (at + length (attribute_info (first all))) (others all) now out))
      some at [] out len h = absurd (omega (arith, len))
      some at (a ∷ rest) out len h = (flat_map-cons attribute_info a rest, (h.0, h.1, (omega (arith, len), h.2)))

  -- the attributes behind their count
  pub counted_exact : (seen : S) → Exact (counted_attributes pool known seen)
      (Spells (λ all. to_be_bytes w16 (length all) ++ flat_map attribute_info all)
      (λ at all out. (length all < 2 ^ 16) × Steps pool does (at + 2) all seen out))
  counted_exact seen = as_raw _ _ (λ w. w.1) (λ all. (length all, all))
      (λ at w out h.
      let n : length w.1 ≡ w.0 = h.2.0 ∙ h.1.1 in (
        ap (λ (m : ℕ). to_be_bytes w16 m ++ flat_map attribute_info w.1) (sym n),
        (subst (λ (m : ℕ). m < 2 ^ 16) (sym n) h.1.0, h.2.1),
      ))
      (λ at all out h. (refl, (length all, (h.0, refl), (refl, h.1))))
      (bind_exact (λ n. attributes n pool known seen) (flat_map attribute_info)
      (λ n at all out. (length all ≡ n) × Steps pool does at all seen out) u2_exact (λ n. attributes_exact n seen))

-- an attribute that may stand once
pub once_exact : {S : Type 0} {r : FormatReader S} {does : List ℕ → S → Type 0} (at : ℕ) (had : Bool)
    → Exact r (Spells text (λ _ info out. does info out))
    → Exact (once at had r) (Spells text (λ _ info out. (had ≡ false) × does info out))
once_exact {r = r} {does = does} at had e = as_raw text _ (λ w. w.1) (λ info. (tt, info))
    (λ k w out h. (refl, (by had h.0 h.1, h.2)))
    (λ k info out h. (refl, (tt, ap (λ (b : Bool). test bad.Repeated (not b)) h.0, h.1)))
    (bind_exact (λ first. r) text (λ first _ info out. does info out) (settle_exact at (test bad.Repeated (not had)))
    (λ first. e))
  where
    by : (had : Bool) (u : Unit {0}) → test bad.Repeated (not had) ≡ Ok u → had ≡ false
    by true u h = absurd cc
    by false u h = refl
