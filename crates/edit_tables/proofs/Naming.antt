-- What is marked is what something that lives names, or the entry of a handler that covers some of
-- it.
use Rattle.std.proofs.Common.{ℕ, zero, suc, ◌+◌, ◌-◌, ◌<◌, ◌≤◌, List, [], ◌∷◌, Some, Bool, true}
use Rattle.std.proofs.Common.{false, ◌≡◌, ◌⊎◌, inl, inr, refl, sym, ap, ◌∙◌, subst, arith}
use Rattle.std.specs.Prelude.{length, nat_eq, nat_le, nat_lt, slice_get, ◌&&◌, ◌||◌}
use Rattle.std.specs.Prelude.{if◌then◌else◌}
use Rattle.std.specs.List.{AllByRecursion, list_any}
use Rattle.std.proofs.lemmas.Bool.Decides.{leb_tells}
use Rattle.jv_base.proofs.Lists.{all_at}
use Rattle.class_model.specs.declared.code.Code.{Code}
use Rattle.class_model.specs.declared.code.Handler.{Handler}
use Rattle.class_model.specs.declared.code.Ins.{Ins}
use Rattle.code_edit.specs.Flow.{covers}
use Rattle.code_edit.specs.Rewriting.{place}
use Rattle.code_edit.specs.SoundCode.{IsPlaced}
use Rattle.edit_premises.proofs.Places.{place_le, place_lt, place_stays}
use Rattle.edit_tables.specs.Spread.{entered, spread}
use Rattle.edit_tables.specs.Marks.{has, marked, put}
use Rattle.edit_tables.specs.Places.{counts_from, lives_in, place_in}
use Rattle.edit_tables.proofs.Counting.{place_is}
use Rattle.edit_tables.proofs.Marking.{has_marked, has_put, marked_long, or_false, or_later}
use Rattle.edit_tables.proofs.Marking.{put_long}
use Rattle.edit_tables.proofs.Telling.{Tells, both, and_both, in_list, list_has, numbers_same}
use Rattle.edit_tables.proofs.Telling.{same_number, tells}

left_or : (a b : Bool) → a ≡ true → (a || b) ≡ true
left_or true b e = refl
left_or false b e = absurd cc

right_or : (a b : Bool) → b ≡ true → (a || b) ≡ true
right_or true b e = refl
right_or false b e = e

-- ---- what instructions name

module _ (names : ℕ → Ins → List ℕ) (lives : List Bool) (at : ℕ) where
  abbrev named_from : ℕ → List Ins → Bool
  named_from k [] = false
  named_from k (i ∷ ins) =
      (lives_in lives k && list_any (nat_eq at) (names k i)) || named_from (suc k) ins

  one_long : (k : ℕ) (i : Ins) (ms : List Bool) (b : Bool)
      → length (if b then marked (names k i) ms else ms) ≡ length ms
  one_long k i ms true = marked_long (names k i) ms
  one_long k i ms false = refl

  one_named : (k : ℕ) (i : Ins) (ms : List Bool) (b : Bool) → at < length ms
      → has (if b then marked (names k i) ms else ms) at
      ≡ (has ms at || (b && list_any (nat_eq at) (names k i)))
  one_named k i ms true lt = has_marked (names k i) ms at lt
  one_named k i ms false lt = or_false (has ms at)

  has_spread : (k : ℕ) (ins : List Ins) (ms : List Bool) → at < length ms
      → has (spread names lives k ins ms) at ≡ (has ms at || named_from k ins)
  has_spread k [] ms lt = or_false (has ms at)
  has_spread k (i ∷ ins) ms lt =
      has_spread (suc k) ins (if lives_in lives k then marked (names k i) ms else ms)
      (subst (λ m. at < m) (sym (one_long k i ms (lives_in lives k))) lt)
      ∙ ap (λ b. b || named_from (suc k) ins) (one_named k i ms (lives_in lives k) lt)
      ∙ or_later (has ms at) (lives_in lives k && list_any (nat_eq at) (names k i))
      (named_from (suc k) ins)

  spread_long : (k : ℕ) (ins : List Ins) (ms : List Bool)
      → length (spread names lives k ins ms) ≡ length ms
  spread_long k [] ms = refl
  spread_long k (i ∷ ins) ms =
      spread_long (suc k) ins (if lives_in lives k then marked (names k i) ms else ms)
      ∙ one_long k i ms (lives_in lives k)

  -- some instruction that lives names it
  abbrev pub Named : ℕ → List Ins → Type 0
  Named k ins = (j n : ℕ) × (i : Ins) × (slice_get ins j ≡ Some i)
      × (lives_in lives (k + j) ≡ true) × (slice_get (names (k + j) i) n ≡ Some at)

  named_there : (k : ℕ) (ins : List Ins) → named_from k ins ≡ true → Named k ins
  named_there k [] e = absurd cc
  named_there k (i ∷ ins) e =
      by (lives_in lives k && list_any (nat_eq at) (names k i)) refl e
      (λ q. named_there (suc k) ins q)
    where
      by : (b : Bool) → (lives_in lives k && list_any (nat_eq at) (names k i)) ≡ b
          → (b || named_from (suc k) ins) ≡ true
          → (named_from (suc k) ins ≡ true → Named (suc k) ins) → Named k (i ∷ ins)
      by true q h more =
          let p = both _ _ q in
          let x = in_list at (names k i) p.1 in
          let z : k ≡ k + 0 = omega arith in (
            0,
            x.0,
            i,
            refl,
            subst (λ m. lives_in lives m ≡ true) z p.0,
            subst (λ m. slice_get (names m i) x.0 ≡ Some at) z x.1,
          )
      by false q h more =
          let r = more h in
          let z : suc k + r.0 ≡ k + suc r.0 = omega arith in (
            suc r.0,
            r.1,
            r.2,
            r.3,
            subst (λ m. lives_in lives m ≡ true) z r.4,
            subst (λ m. slice_get (names m r.2) r.1 ≡ Some at) z r.5,
          )

  there_named : (k : ℕ) (ins : List Ins) (j n : ℕ) (i : Ins) → slice_get ins j ≡ Some i
      → lives_in lives (k + j) ≡ true → slice_get (names (k + j) i) n ≡ Some at
      → named_from k ins ≡ true
  there_named k [] j n i e l s = absurd cc
  there_named k (x ∷ ins) zero n i e l s =
      let z : k + 0 ≡ k = omega arith in
      let same : i ≡ x = cc in
      left_or (lives_in lives k && list_any (nat_eq at) (names k x)) (named_from (suc k) ins)
      (and_both (lives_in lives k) (list_any (nat_eq at) (names k x))
      (subst (λ m. lives_in lives m ≡ true) z l)
      (list_has at (names k x) n
      (subst (λ (y : Ins). slice_get (names k y) n ≡ Some at) same
      (subst (λ m. slice_get (names m i) n ≡ Some at) z s))))
  there_named k (x ∷ ins) (suc j) n i e l s =
      let z : k + suc j ≡ suc k + j = omega arith in
      right_or (lives_in lives k && list_any (nat_eq at) (names k x)) (named_from (suc k) ins)
      (there_named (suc k) ins j n i e (subst (λ m. lives_in lives m ≡ true) z l)
      (subst (λ m. slice_get (names m i) n ≡ Some at) z s))

  -- where nothing was marked, exactly what is named is
  pub spread_tells : (ins : List Ins) (ms : List Bool) → at < length ms → has ms at ≡ false
      → Tells (has (spread names lives 0 ins ms) at) (Named 0 ins)
  spread_tells ins ms lt none =
      let is : has (spread names lives 0 ins ms) at ≡ named_from 0 ins =
      has_spread 0 ins ms lt ∙ ap (λ b. b || named_from 0 ins) none in
      tells (has (spread names lives 0 ins ms) at) (Named 0 ins)
      (λ e. named_there 0 ins (sym is ∙ e))
      (λ x. is ∙ there_named 0 ins x.0 x.1 x.2 x.3 x.4 x.5)

-- ---- what handlers enter

abbrev pub opens : List ℕ → Handler → Bool
opens places h = nat_lt (place_in places h.from) (place_in places h.to)

module _ (places : List ℕ) (at : ℕ) where
  abbrev entered_by : List Handler → Bool
  entered_by [] = false
  entered_by (h ∷ hs) = (opens places h && nat_eq at h.entry) || entered_by hs

  one_entered : (b : Bool) (x : ℕ) (ms : List Bool) → at < length ms
      → has (if b then put x ms else ms) at ≡ (has ms at || (b && nat_eq at x))
  one_entered true x ms lt = has_put x ms at lt
  one_entered false x ms lt = or_false (has ms at)

  put_if_long : (b : Bool) (x : ℕ) (ms : List Bool)
      → length (if b then put x ms else ms) ≡ length ms
  put_if_long true x ms = put_long x ms
  put_if_long false x ms = refl

  has_entered : (hs : List Handler) (ms : List Bool) → at < length ms
      → has (entered places hs ms) at ≡ (has ms at || entered_by hs)
  has_entered [] ms lt = or_false (has ms at)
  has_entered (h ∷ hs) ms lt =
      has_entered hs (if opens places h then put h.entry ms else ms)
      (subst (λ m. at < m) (sym (put_if_long (opens places h) h.entry ms)) lt)
      ∙ ap (λ b. b || entered_by hs) (one_entered (opens places h) h.entry ms lt)
      ∙ or_later (has ms at) (opens places h && nat_eq at h.entry) (entered_by hs)

  entered_long : (hs : List Handler) (ms : List Bool)
      → length (entered places hs ms) ≡ length ms
  entered_long [] ms = refl
  entered_long (h ∷ hs) ms =
      entered_long hs (if opens places h then put h.entry ms else ms)
      ∙ put_if_long (opens places h) h.entry ms

  abbrev Entered : List Handler → Type 0
  Entered hs = (k : ℕ) × (h : Handler) × (slice_get hs k ≡ Some h) × (opens places h ≡ true)
      × (at ≡ h.entry)

  entered_there : (hs : List Handler) → entered_by hs ≡ true → Entered hs
  entered_there [] e = absurd cc
  entered_there (h ∷ hs) e =
      by (opens places h && nat_eq at h.entry) refl e (λ q. entered_there hs q)
    where
      by : (b : Bool) → (opens places h && nat_eq at h.entry) ≡ b
          → (b || entered_by hs) ≡ true → (entered_by hs ≡ true → Entered hs)
          → Entered (h ∷ hs)
      by true q x more = let p = both _ _ q in
          (0, h, refl, p.0, numbers_same at h.entry p.1)
      by false q x more = let r = more x in (suc r.0, r.1, r.2, r.3, r.4)

  there_entered : (hs : List Handler) (k : ℕ) (h : Handler) → slice_get hs k ≡ Some h
      → opens places h ≡ true → at ≡ h.entry → entered_by hs ≡ true
  there_entered [] k h e o x = absurd cc
  there_entered (y ∷ hs) zero h e o x =
      let same : h ≡ y = cc in
      left_or (opens places y && nat_eq at y.entry) (entered_by hs)
      (and_both (opens places y) (nat_eq at y.entry)
      (subst (λ (z : Handler). opens places z ≡ true) same o)
      (subst (λ m. nat_eq at m ≡ true) (x ∙ ap (λ (z : Handler). z.entry) same)
      (same_number at)))
  there_entered (y ∷ hs) (suc k) h e o x =
      right_or (opens places y && nat_eq at y.entry) (entered_by hs)
      (there_entered hs k h e o x)

-- ---- which handlers still cover something

module _ (lives : List Bool) (h : Handler) (placed : IsPlaced (length lives) h) where
  abbrev p : ℕ → ℕ
  p at = place (lives_in lives) at

  abbrev pub Covered : Type 0
  Covered = (from : ℕ) × (from < length lives) × (lives_in lives from ≡ true)
      × (covers h from ≡ true)

  covers_here : (at : ℕ) → h.from ≤ at → at < h.to → covers h at ≡ true
  covers_here at a b = by (leb_tells h.from at) (leb_tells (suc at) h.to)
    where
      by : ((nat_le h.from at ≡ true) × (h.from ≤ at))
          ⊎ ((nat_le h.from at ≡ false) × (at < h.from))
          → ((nat_lt at h.to ≡ true) × (suc at ≤ h.to))
          ⊎ ((nat_lt at h.to ≡ false) × (h.to < suc at)) → covers h at ≡ true
      by (inl q) (inl r) = and_both _ _ q.0 r.0
      by (inl q) (inr r) = absurd (omega (arith, r.1, b))
      by (inr q) r = absurd (omega (arith, q.1, a))

  within : (at : ℕ) → covers h at ≡ true → (h.from ≤ at) × (at < h.to)
  within at c = let x = both _ _ c in by x.0 x.1 (leb_tells h.from at) (leb_tells (suc at) h.to)
    where
      by : nat_le h.from at ≡ true → nat_lt at h.to ≡ true
          → ((nat_le h.from at ≡ true) × (h.from ≤ at))
          ⊎ ((nat_le h.from at ≡ false) × (at < h.from))
          → ((nat_lt at h.to ≡ true) × (suc at ≤ h.to))
          ⊎ ((nat_lt at h.to ≡ false) × (h.to < suc at)) → (h.from ≤ at) × (at < h.to)
      by a b (inl q) (inl r) = (q.1, omega (arith, r.1))
      by a b (inl q) (inr r) = absurd (let no : true ≡ false = sym b ∙ r.0 in cc)
      by a b (inr q) r = absurd (let no : true ≡ false = sym a ∙ q.0 in cc)

  climb : (m at : ℕ) → at + m ≡ h.to → h.from ≤ at → p at < p h.to → Covered
  climb zero at e le lt = absurd (let same : at ≡ h.to = omega (arith, e) in
      let q : p h.to < p h.to = subst (λ x. p x < p h.to) same lt in omega (arith, q))
  climb (suc m) at e le lt =
      by (lives_in lives at) refl
      (λ lt'. climb m (at + 1) (omega (arith, e)) (omega (arith, le)) lt')
    where
      by : (b : Bool) → lives_in lives at ≡ b → (p (at + 1) < p h.to → Covered) → Covered
      by true l more =
          let below : at < h.to = omega (arith, e) in
          (at, omega (arith, below, placed.1), l, covers_here at le below)
      by false l more =
          more (subst (λ q. q < p h.to) (sym (place_stays (lives_in lives) at l)) lt)

  pub opens_tells : Tells (opens (counts_from 0 lives) h) Covered
  opens_tells = tells (opens (counts_from 0 lives) h) Covered
      (λ e. forth (sym is ∙ e) (leb_tells (suc (p h.from)) (p h.to)))
      (λ c. is ∙ back c (leb_tells (suc (p h.from)) (p h.to)))
    where
      is : opens (counts_from 0 lives) h ≡ nat_lt (p h.from) (p h.to)
      is = λ i. nat_lt (place_is lives h.from (omega (arith, placed.0, placed.1)) i)
          (place_is lives h.to placed.1 i)

      forth : nat_lt (p h.from) (p h.to) ≡ true
          → ((nat_lt (p h.from) (p h.to) ≡ true) × (suc (p h.from) ≤ p h.to))
          ⊎ ((nat_lt (p h.from) (p h.to) ≡ false) × (p h.to < suc (p h.from))) → Covered
      forth e (inl q) =
          climb (h.to - h.from) h.from (omega (arith, placed.0)) (omega arith)
          (omega (arith, q.1))
      forth e (inr q) = absurd (let no : true ≡ false = sym e ∙ q.0 in cc)

      back : Covered
          → ((nat_lt (p h.from) (p h.to) ≡ true) × (suc (p h.from) ≤ p h.to))
          ⊎ ((nat_lt (p h.from) (p h.to) ≡ false) × (p h.to < suc (p h.from)))
          → nat_lt (p h.from) (p h.to) ≡ true
      back c (inl q) = q.0
      back c (inr q) =
          let w = within c.0 c.3 in
          absurd (omega (
            arith,
            q.1,
            place_le (lives_in lives) h.from c.0 w.0,
            place_lt (lives_in lives) c.0 h.to c.2 w.1,
          ))

-- ---- all

-- It was marked before, an instruction that lives names it, or it is the entry of a handler that
-- covers one.
pub data IsLed (names : ℕ → Ins → List ℕ) (lives : List Bool) (code : Code) (old : Bool)
    (at : ℕ) : Type 0 where
  before : old ≡ true → IsLed names lives code old at
  named : (from n : ℕ) (i : Ins) → slice_get code.ins from ≡ Some i
      → lives_in lives from ≡ true → slice_get (names from i) n ≡ Some at
      → IsLed names lives code old at
  enters : (k from : ℕ) (h : Handler) → slice_get code.handlers k ≡ Some h
      → from < length lives → lives_in lives from ≡ true → covers h from ≡ true → at ≡ h.entry
      → IsLed names lives code old at

module _ (names : ℕ → Ins → List ℕ) (lives : List Bool) (code : Code)
    (placed : AllByRecursion (IsPlaced (length lives)) code.handlers) (ms : List Bool)
    (at : ℕ) where
  abbrev places : List ℕ
  places = counts_from 0 lives

  abbrev spread_here : List Bool
  spread_here = spread names lives 0 code.ins ms

  abbrev Led : Type 0
  Led = IsLed names lives code (has ms at) at

  abbrev test : Bool
  test = (has ms at || named_from names lives at 0 code.ins)
      || entered_by places at code.handlers

  split : (a b : Bool) → (a || b) ≡ true → (a ≡ true) ⊎ (b ≡ true)
  split true b e = inl refl
  split false b e = inr e

  forth : test ≡ true → Led
  forth e = by (split _ _ e)
    where
      open_one : Entered places at code.handlers → Led
      open_one x =
          let pl = all_at (IsPlaced (length lives)) code.handlers x.0 x.1 placed x.2 in
          let c = opened (opens_tells lives x.1 pl) x.3 in
          enters x.0 c.0 x.1 x.2 c.1 c.2 c.3 x.4
        where
          opened : Tells (opens places x.1) (Covered lives x.1 (all_at (IsPlaced (length lives))
              code.handlers x.0 x.1 placed x.2)) → opens places x.1 ≡ true
              → Covered lives x.1 (all_at (IsPlaced (length lives))
              code.handlers x.0 x.1 placed x.2)
          opened (inl q) o = q.1
          opened (inr q) o = absurd (let no : true ≡ false = sym o ∙ q.0 in cc)

      inner : (has ms at ≡ true) ⊎ (named_from names lives at 0 code.ins ≡ true) → Led
      inner (inl q) = before q
      inner (inr q) =
          let x = named_there names lives at 0 code.ins q in
          let z : 0 + x.0 ≡ x.0 = omega arith in
          named x.0 x.1 x.2 x.3 (subst (λ m. lives_in lives m ≡ true) z x.4)
          (subst (λ m. slice_get (names m x.2) x.1 ≡ Some at) z x.5)

      by : ((has ms at || named_from names lives at 0 code.ins) ≡ true)
          ⊎ (entered_by places at code.handlers ≡ true) → Led
      by (inl q) = inner (split _ _ q)
      by (inr q) = open_one (entered_there places at code.handlers q)

  back : Led → test ≡ true
  back (before e) =
      left_or _ (entered_by places at code.handlers)
      (left_or (has ms at) (named_from names lives at 0 code.ins) e)
  back (named from n i e l s) =
      let z : from ≡ 0 + from = omega arith in
      left_or _ (entered_by places at code.handlers)
      (right_or (has ms at) (named_from names lives at 0 code.ins)
      (there_named names lives at 0 code.ins from n i e
      (subst (λ m. lives_in lives m ≡ true) z l)
      (subst (λ m. slice_get (names m i) n ≡ Some at) z s)))
  back (enters k from h e lt l c x) =
      right_or (has ms at || named_from names lives at 0 code.ins)
      (entered_by places at code.handlers)
      (there_entered places at code.handlers k h e
      (covering (opens_tells lives h
      (all_at (IsPlaced (length lives)) code.handlers k h placed e))) x)
    where
      covering : Tells (opens places h) (Covered lives h
          (all_at (IsPlaced (length lives)) code.handlers k h placed e)) → opens places h ≡ true
      covering (inl q) = q.0
      covering (inr q) = absurd (q.1 (from, lt, l, c))

  pub led_long : length (entered places code.handlers spread_here) ≡ length ms
  led_long =
      entered_long places at code.handlers spread_here ∙ spread_long names lives at 0 code.ins ms

  pub led_tells : at < length ms → Tells (has (entered places code.handlers spread_here) at) Led
  led_tells lt =
      let is : has (entered places code.handlers spread_here) at ≡ test =
      has_entered places at code.handlers spread_here
      (subst (λ m. at < m) (sym (spread_long names lives at 0 code.ins ms)) lt)
      ∙ ap (λ b. b || entered_by places at code.handlers)
      (has_spread names lives at 0 code.ins ms lt) in
      tells (has (entered places code.handlers spread_here) at) Led
      (λ e. forth (sym is ∙ e)) (λ x. is ∙ back x)
