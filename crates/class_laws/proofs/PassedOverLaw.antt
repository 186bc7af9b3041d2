-- What stands behind a code in which an instruction is left out is passed over exactly where it is spelled (JVMS
-- 4.7.3).
use Rattle.std.proofs.Common.{◌≡◌, ℕ, zero, suc, ◌+◌, ◌*◌, ◌^◌, ◌<◌, List, [], ◌∷◌, ◌++◌, length, get_or, refl, sym, ap}
use Rattle.std.proofs.Common.{ap₂, subst, ◌∙◌, append_assoc, arith}
use Rattle.std.specs.Int.{w16, w32, to_be_bytes, from_be_bytes}
use Rattle.std.specs.List.{AllByRecursion, flat_map}
use Rattle.std.proofs.lemmas.List.Concat.{flat_map-cons}
use Rattle.std.proofs.lemmas.Nat.{be_bytes_2}
use Rattle.format_reading.specs.Reader.{u2, u4, bytes, bind, give, many}
use Rattle.format_reading.specs.Spelling.{Spells, AllStand}
use Rattle.format_reading.proofs.Exact.{Exact, IsBytes, as_raw, as_raw_bytes, bind_exact, map_exact, many_exact}
use Rattle.format_reading.proofs.Exact.{bytes_exact, u2_exact, u4_exact}
use Rattle.class_model.specs.Structure.{AttributeInfo, attribute_info, ExceptionInfo, exception_info}
use Rattle.class_model.specs.CodeAttribute.{FitsException, FitsAttribute}
use Rattle.class_model.specs.ReadingCodeAttribute.{skipped_attribute}

-- ---- rows of the exception table, as bytes

-- a number of two bytes
abbrev number : ℕ → ℕ → ℕ
number high low = from_be_bytes w16 (high ∷ low ∷ [])

two_back : (high low : ℕ) → high < 256 → low < 256 → to_be_bytes w16 (number high low) ≡ high ∷ low ∷ []
two_back high low h l = be_bytes_2 (high ∷ low ∷ []) (number high low) refl fits refl
  where
    fits : (i : ℕ) → get_or (high ∷ low ∷ []) i 0 < 256
    fits zero = h
    fits (suc zero) = l
    fits (suc (suc i)) = omega arith

number_fits : (high low : ℕ) → high < 256 → low < 256 → number high low < 2 ^ 16
number_fits high low h l = omega (arith, h, l)

-- eight bytes after eight bytes
rows_of : List ℕ → List ExceptionInfo
rows_of (a ∷ b ∷ c ∷ d ∷ e ∷ f ∷ g ∷ h ∷ rest) =
    record {
      start_pc = number a b;
      end_pc = number c d;
      handler_pc = number e f;
      catch_type = number g h;
    } ∷ rows_of rest
rows_of _ = []

-- the bytes of so many rows
record AreRows (n : ℕ) (t : List ℕ) : Type 0 where
  spelled : flat_map exception_info (rows_of t) ≡ t
  counted : length (rows_of t) ≡ n
  fit : AllByRecursion FitsException (rows_of t)

behind_eight : (a b c d e f g h : ℕ) (rest : List ℕ) → IsBytes (a ∷ b ∷ c ∷ d ∷ e ∷ f ∷ g ∷ h ∷ rest) → IsBytes rest
behind_eight a b c d e f g h rest fits i = fits (suc (suc (suc (suc (suc (suc (suc (suc i))))))))

rows_are : (n : ℕ) (t : List ℕ) → length t ≡ 8 * n → IsBytes t → AreRows n t
unfolding rows_of
rows_are zero [] len fits = record { spelled = refl; counted = refl; fit = tt }
rows_are zero (a ∷ t) len fits = absurd (omega (arith, len))
rows_are (suc n) [] len fits = absurd (omega (arith, len))
rows_are (suc n) (a ∷ []) len fits = absurd (omega (arith, len))
rows_are (suc n) (a ∷ b ∷ []) len fits = absurd (omega (arith, len))
rows_are (suc n) (a ∷ b ∷ c ∷ []) len fits = absurd (omega (arith, len))
rows_are (suc n) (a ∷ b ∷ c ∷ d ∷ []) len fits = absurd (omega (arith, len))
rows_are (suc n) (a ∷ b ∷ c ∷ d ∷ e ∷ []) len fits = absurd (omega (arith, len))
rows_are (suc n) (a ∷ b ∷ c ∷ d ∷ e ∷ f ∷ []) len fits = absurd (omega (arith, len))
rows_are (suc n) (a ∷ b ∷ c ∷ d ∷ e ∷ f ∷ g ∷ []) len fits = absurd (omega (arith, len))
rows_are (suc n) (a ∷ b ∷ c ∷ d ∷ e ∷ f ∷ g ∷ h ∷ rest) len fits =
    let o = rows_are n rest (omega (arith, len)) (behind_eight a b c d e f g h rest fits) in
    let fa : a < 256 = fits 0 in
    let fb : b < 256 = fits 1 in
    let fc : c < 256 = fits 2 in
    let fd : d < 256 = fits 3 in
    let fe : e < 256 = fits 4 in
    let ff : f < 256 = fits 5 in
    let fg : g < 256 = fits 6 in
    let fh : h < 256 = fits 7 in
    let row : ExceptionInfo =
    record { start_pc = number a b; end_pc = number c d; handler_pc = number e f; catch_type = number g h } in
    let first : exception_info row ≡ a ∷ b ∷ c ∷ d ∷ e ∷ f ∷ g ∷ h ∷ [] =
    ap₂ (λ (x y : List ℕ). x ++ y) (two_back a b fa fb)
    (ap₂ (λ (x y : List ℕ). x ++ y) (two_back c d fc fd)
    (ap₂ (λ (x y : List ℕ). x ++ y) (two_back e f fe ff) (two_back g h fg fh))) in
    record {
      spelled = flat_map-cons exception_info row (rows_of rest) ∙ ap₂ (λ (x y : List ℕ). x ++ y) first o.spelled;
      counted = ap suc o.counted;
      fit = ((number_fits a b fa fb, number_fits c d fc fd, number_fits e f fe ff, number_fits g h fg fh), o.fit);
    }

rows_length : (rows : List ExceptionInfo) (n : ℕ) → length rows ≡ n → length (flat_map exception_info rows) ≡ 8 * n
rows_length [] n h = omega (arith, h)
rows_length (r ∷ rs) zero h = absurd (omega (arith, h))
rows_length (r ∷ rs) (suc n) h = let o = rows_length rs n (omega (arith, h)) in ap length
    (flat_map-cons exception_info r rs) ∙ omega (arith, o)

-- bytes of so many rows
rows_exact : (n : ℕ) → Exact (bytes (8 * n)) (Spells (flat_map exception_info)
    (λ _ rows t. ((length rows ≡ n) × AllByRecursion FitsException rows) × (t ≡ flat_map exception_info rows)))
rows_exact n = as_raw_bytes (flat_map exception_info) _ rows_of (flat_map exception_info)
    (λ at t y fits h. let r = rows_are n t h.0 fits in (sym r.spelled, ((r.counted, r.fit), h.1 ∙ sym r.spelled)))
    (λ at rows y h. (refl, (rows_length rows n h.0.0, h.1)))
    (bytes_exact (8 * n))

-- ---- attributes that are passed over

skipped_exact : Exact skipped_attribute (Spells attribute_info (λ _ a u. FitsAttribute a))
skipped_exact = as_raw attribute_info _ (λ v. record { attribute_name_index = v.0; info = v.1.1 })
    (λ a. (a.attribute_name_index, (length a.info, a.info)))
    (λ at v u h.
    let n : length v.1.1 ≡ v.1.0 = h.2.2.1.0 ∙ h.2.1.1 in (
      ap (λ (m : ℕ). to_be_bytes w16 v.0 ++ (to_be_bytes w32 m ++ v.1.1)) (sym n),
      (h.1.0, subst (λ (m : ℕ). m < 2 ^ 32) (sym n) h.2.1.0),
    ))
    (λ at a u h. (
      refl,
      (
        a.attribute_name_index,
        (h.0, refl),
        (length a.info, (h.1, refl), (a.info, (refl, refl), unit_is u)),
      ),
    ))
    (bind_exact (λ name_index. bind u4 (λ n. bind (bytes n) (λ skipped. give tt)))
    (λ (v : ℕ × List ℕ). to_be_bytes w32 v.0 ++ v.1)
    (λ name_index _ v u. (n : ℕ) × ((v.0 < 2 ^ 32) × (n ≡ v.0))
    × ((t : List ℕ) × ((length v.1 ≡ n) × (t ≡ v.1)) × (u ≡ tt))) u2_exact
    (λ name_index. bind_exact (λ n. bind (bytes n) (λ skipped. give tt)) (λ t. t)
    (λ n _ t u. (s : List ℕ) × ((length t ≡ n) × (s ≡ t)) × (u ≡ tt)) u4_exact
    (λ n. map_exact (λ skipped. tt) (bytes_exact n))))
  where
    unit_is : (u : Unit {0}) → u ≡ tt
    unit_is tt = refl

fit_there : (at : ℕ) (all : List AttributeInfo) (us : List (Unit {0}))
    → AllStand attribute_info (λ _ a u. FitsAttribute a) at all us → AllByRecursion FitsAttribute all
fit_there at [] us h = tt
fit_there at (a ∷ as_) [] h = absurd h
fit_there at (a ∷ as_) (u ∷ us) h = (h.0, fit_there (at + length (attribute_info a)) as_ us h.1)

units_for : List AttributeInfo → List (Unit {0})
units_for [] = []
units_for (a ∷ all) = tt ∷ units_for all

fit_back : (at : ℕ) (all : List AttributeInfo) → AllByRecursion FitsAttribute all
    → AllStand attribute_info (λ _ a u. FitsAttribute a) at all (units_for all)
unfolding units_for
fit_back at [] h = tt
fit_back at (a ∷ all) h = (h.0, fit_back (at + length (attribute_info a)) all h.1)

-- ---- both

-- the exception table and the attributes, each behind its count
abbrev pub tail_bytes : List ExceptionInfo × List AttributeInfo → List ℕ
tail_bytes v = (to_be_bytes w16 (length v.0) ++ flat_map exception_info v.0) ++
    (to_be_bytes w16 (length v.1) ++ flat_map attribute_info v.1)

-- they fit their counts and lengths
abbrev pub FitTail : List ExceptionInfo × List AttributeInfo → Type 0
FitTail v = (length v.0 < 2 ^ 16) × AllByRecursion FitsException v.0 × (length v.1 < 2 ^ 16)
    × AllByRecursion FitsAttribute v.1

pub passed_exact : {B : Type 0} (y : B)
    → Exact (bind u2 (λ n. bind (bytes (8 * n)) (λ handlers. bind u2
    (λ m. bind (many m skipped_attribute) (λ skipped. give y))))) (Spells tail_bytes (λ _ v z. FitTail v × (z ≡ y)))
passed_exact y = as_raw tail_bytes _ (λ w. (w.1.0, w.1.1.1)) (λ v. (length v.0, (v.0, (length v.1, v.1))))
    (λ at w z h.
    let t = h.2.1 in
    let m = h.2.2 in
    let n : length w.1.0 ≡ w.0 = t.0.0 ∙ h.1.1 in
    let k : length w.1.1.1 ≡ w.1.1.0 = m.2.1.0 ∙ m.1.1 in (
      sym (append_assoc (to_be_bytes w16 w.0) (flat_map exception_info w.1.0)
          (to_be_bytes w16 w.1.1.0 ++ flat_map attribute_info w.1.1.1))
          ∙ ap (λ (j : ℕ). (to_be_bytes w16 j ++ flat_map exception_info w.1.0) ++
          (to_be_bytes w16 w.1.1.0 ++ flat_map attribute_info w.1.1.1)) (sym n)
          ∙ ap (λ (j : ℕ). (to_be_bytes w16 (length w.1.0) ++ flat_map exception_info w.1.0) ++
          (to_be_bytes w16 j ++ flat_map attribute_info w.1.1.1)) (sym k),
      (
        (
          subst (λ (j : ℕ). j < 2 ^ 16) (sym n) h.1.0,
          t.0.1,
          subst (λ (j : ℕ). j < 2 ^ 16)
              (sym k) m.1.0,
          fit_there _ w.1.1.1 m.2.0 m.2.1.1,
        ),
        m.2.2,
      ),
    ))
    (λ at v z h. (
      append_assoc (to_be_bytes w16 (length v.0)) (flat_map exception_info v.0)
          (to_be_bytes w16 (length v.1) ++ flat_map attribute_info v.1),
      (
        length v.0,
        (h.0.0, refl),
        (
          flat_map exception_info v.0,
          ((refl, h.0.1), refl),
          (length v.1, (h.0.2, refl), (units_for v.1, (refl, fit_back _ v.1 h.0.3), h.1)),
        ),
      ),
    ))
    (bind_exact (λ n. bind (bytes (8 * n)) (λ handlers. bind u2
    (λ m. bind (many m skipped_attribute) (λ skipped. give y))))
    (λ (v : List ExceptionInfo × (ℕ × List AttributeInfo)). flat_map exception_info v.0 ++
    (to_be_bytes w16 v.1.0 ++ flat_map attribute_info v.1.1))
    (λ n at v z. (t : List ℕ)
    × (((length v.0 ≡ n) × AllByRecursion FitsException v.0) × (t ≡ flat_map exception_info v.0))
    × ((m : ℕ) × ((v.1.0 < 2 ^ 16) × (m ≡ v.1.0))
    × ((us : List (Unit {0}))
    × ((length v.1.1 ≡ m)
    × AllStand attribute_info (λ _ a u. FitsAttribute a) (at + length (flat_map exception_info v.0) + 2) v.1.1 us)
    × (z ≡ y)))) u2_exact
    (λ n. bind_exact (λ handlers. bind u2 (λ m. bind (many m skipped_attribute) (λ skipped. give y)))
    (λ (v : ℕ × List AttributeInfo). to_be_bytes w16 v.0 ++ flat_map attribute_info v.1)
    (λ t at v z. (m : ℕ) × ((v.0 < 2 ^ 16) × (m ≡ v.0))
    × ((us : List (Unit {0}))
    × ((length v.1 ≡ m) × AllStand attribute_info (λ _ a u. FitsAttribute a) (at + 2) v.1 us) × (z ≡ y)))
    (rows_exact n)
    (λ t. bind_exact (λ m. bind (many m skipped_attribute) (λ skipped. give y)) (flat_map attribute_info)
    (λ m at all z. (us : List (Unit {0}))
    × ((length all ≡ m) × AllStand attribute_info (λ _ a u. FitsAttribute a) at all us) × (z ≡ y)) u2_exact
    (λ m. map_exact (λ skipped. y) (many_exact m skipped_exact)))))
