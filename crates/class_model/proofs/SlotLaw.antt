-- The indices of a constant pool are read exactly where its constants are spelled (JVMS 4.4, 4.4.5).
use Rattle.std.proofs.Common.{◌≡◌, ℕ, zero, suc, ◌+◌, ◌<◌, Bool, true, false, cond, not, ◌||◌, List, [], ◌∷◌, ◌++◌}
use Rattle.std.proofs.Common.{length, refl, sym, ap, subst, ◌∙◌, arith}
use Rattle.std.specs.Prelude.{IsTrue, nat_lt}
use Rattle.std.specs.List.{flat_map}
use Rattle.std.proofs.lemmas.Bool.{lt-ltb}
use Rattle.std.proofs.lemmas.List.Concat.{flat_map-cons}
use Rattle.format_reading.specs.Reader.{bind, give}
use Rattle.format_reading.specs.Spelling.{Spells}
use Rattle.format_reading.proofs.Exact.{Exact, as_raw, bind_exact, bind_exact_of, map_exact, give_exact, here_exact}
use Rattle.format_reading.proofs.Exact.{nothing}
use Rattle.class_model.specs.declared.pool.Entry.{Entry}
use Rattle.class_model.specs.declared.pool.Entry.TheVariants as entry
use Rattle.class_model.specs.ConstantPool.{CpInfo, Utf8Info, cp_info, IsConstant, takes_two}
use Rattle.class_model.specs.ReadingPool.{Slot, slot, slots, read_entry}
use Rattle.class_model.proofs.EntryLaw.{HasRoom, entry_exact}

-- the slot of an entry whose tag stands at an offset
abbrev pub slot_at : ℕ → Entry → Slot
slot_at at e = record { entry = e; at = at }

-- the slots of an entry: the second one, if there is one, is met behind the constant
abbrev pub slots_of : ℕ → ℕ → Entry → List Slot
slots_of at behind e = cond (takes_two e) (slot_at at e ∷ slot_at behind entry.Gap ∷ []) (slot_at at e ∷ [])

-- the slots of constants, the first of them at an offset
abbrev pub AreSlots : ℕ → List CpInfo → List Slot → Type 0
AreSlots at [] xs = xs ≡ []
AreSlots at (c ∷ cs) xs = (e : Entry) × (rest : List Slot) × IsConstant c e
    × (xs ≡ slots_of at (at + length (cp_info c)) e ++ rest) × AreSlots (at + length (cp_info c)) cs rest

-- ---- one slot

-- the slot of an entry
first_exact : (room : Bool)
    → Exact (slot false room)
    (Spells cp_info (λ at c s. (e : Entry) × (IsConstant c e × HasRoom room e) × (s ≡ slot_at at e)))
unfolding slot
first_exact room = as_raw cp_info _ (λ w. w.1) (λ c. (tt, c))
    (λ at w s h. (refl, (h.2.0, h.2.1, h.2.2 ∙ ap (λ (k : ℕ). slot_at k h.2.0) h.1)))
    (λ at c s h. (refl, (at, refl, h)))
    (bind_exact (λ k. bind (read_entry room) (λ e. give (slot_at k e))) cp_info
    (λ k _ c s. (e : Entry) × (IsConstant c e × HasRoom room e) × (s ≡ slot_at k e)) here_exact
    (λ k. map_exact (slot_at k) (entry_exact room)))

-- the second slot of an entry
second_exact : (room : Bool) → Exact (slot true room) (Spells nothing (λ at u s. s ≡ slot_at at entry.Gap))
unfolding slot
second_exact room = as_raw nothing _ (λ w. w) (λ u. u)
    (λ at w s h. (refl, h.2 ∙ ap (λ (k : ℕ). slot_at k entry.Gap) h.1))
    (λ at u s h. (refl, (at, refl, h)))
    (map_exact (λ k. slot_at k entry.Gap) here_exact)

-- ---- n slots

-- n slots of constants, where the first is the second one of an entry before if `second` is true
abbrev pub Others : Bool → ℕ → ℕ → List CpInfo → List Slot → Type 0
Others false n at cs rest = AreSlots at cs rest × (length rest ≡ n)
Others true n at cs rest = (r : List Slot) × (rest ≡ slot_at at entry.Gap ∷ r) × AreSlots at cs r × (suc (length r) ≡ n)

-- the slot of an entry and those behind it are the slots of its constant and of the others
join : (at behind n : ℕ) (e : Entry) (two : Bool) (cs : List CpInfo) (rest : List Slot) → Others two n behind cs rest
    → (r : List Slot) × (slot_at at e ∷ rest ≡ cond two (slot_at at e ∷ slot_at behind entry.Gap ∷ [])
    (slot_at at e ∷ []) ++ r) × AreSlots behind cs r × (suc (length rest) ≡ suc n)
join at behind n e true cs rest h =
    (h.0, ap (λ (v : List Slot). slot_at at e ∷ v) h.1, h.2, ap suc (ap length h.1 ∙ h.3))
join at behind n e false cs rest h = (rest, refl, h.0, ap suc h.1)

-- and the other way; an entry that takes two has room
split : (at behind n : ℕ) (e : Entry) (two : Bool) (cs : List CpInfo) (xs r : List Slot)
    → xs ≡ cond two (slot_at at e ∷ slot_at behind entry.Gap ∷ []) (slot_at at e ∷ []) ++ r → AreSlots behind cs r
    → length xs ≡ suc n
    → (rest : List Slot) × Others two n behind cs rest × (xs ≡ slot_at at e ∷ rest) × IsTrue (nat_lt 0 n || not two)
split at behind n e true cs xs r is h len =
    let k : suc (length r) ≡ n = omega (arith, sym (ap length is) ∙ len) in
    let some : nat_lt 0 n ≡ true = lt-ltb 0 n (omega (arith, k)) in
    let room : IsTrue (nat_lt 0 n || not true) = rw some refl in
    (slot_at behind entry.Gap ∷ r, (r, refl, h, k), is, room)
split at behind n e false cs xs r is h len = (r, (h, omega (arith, sym (ap length is) ∙ len)), is, any (nat_lt 0 n))
  where
    any : (b : Bool) → IsTrue (b || not false)
    any true = refl
    any false = refl

-- an entry that takes two has an index behind it
needs_room : (n : ℕ) (two : Bool) → IsTrue (nat_lt 0 n || not two) → two ≡ true → 0 < n
needs_room (suc n) two h e = omega arith
needs_room zero true h e = absurd cc
needs_room zero false h e = absurd cc

-- no slots are those of no constant
none_of : (at : ℕ) (cs : List CpInfo) (xs : List Slot) → AreSlots at cs xs → length xs ≡ 0
    → (flat_map cp_info cs ≡ []) × (xs ≡ [])
none_of at [] xs h len = (refl, h)
none_of at (c ∷ cs) xs h len = absurd (by (takes_two h.0) h.3)
  where
    by : (two : Bool) → xs ≡ cond two (slot_at at h.0 ∷ slot_at (at + length (cp_info c)) entry.Gap ∷ [])
        (slot_at at h.0 ∷ []) ++ h.1 → ⊥
    by true e = omega (arith, sym (ap length e) ∙ len)
    by false e = omega (arith, sym (ap length e) ∙ len)

-- the first constant, where there is one
abbrev head_of : List CpInfo → CpInfo
head_of [] = Utf8Info []
head_of (c ∷ cs) = c

abbrev tail_of : List CpInfo → List CpInfo
tail_of [] = []
tail_of (c ∷ cs) = cs

-- slots that there are have a first constant
starts : (at n : ℕ) (v : List CpInfo) (xs : List Slot) → AreSlots at v xs → length xs ≡ suc n
    → (v ≡ head_of v ∷ tail_of v) × AreSlots at (head_of v ∷ tail_of v) xs
starts at n [] xs h len = absurd (omega (arith, sym (ap length h) ∙ len))
starts at n (c ∷ cs) xs h len = (refl, h)

-- nothing moves on
no_byte : (at : ℕ) → at + 0 ≡ at
no_byte at = omega arith

-- so many slots are read exactly where their constants are spelled
pub slots_exact : (n : ℕ) (second : Bool) → (second ≡ true → 0 < n)
    → Exact (slots n second) (Spells (flat_map cp_info) (Others second n))
unfolding slots
slots_exact zero true some = absurd (omega (arith, some refl))
slots_exact zero false some = as_raw (flat_map cp_info) (Others false 0) (λ u. []) (λ cs. tt)
    (λ at u xs h. (refl, (h, ap length h)))
    (λ at cs xs h. none_of at cs xs h.0 h.1)
    (give_exact [])
slots_exact (suc n) true some = as_raw (flat_map cp_info) _ (λ w. w.1) (λ cs. (tt, cs))
    (λ at w xs h. (
      refl,
      (
        h.2.0,
        h.2.2 ∙ ap (λ (s : Slot). s ∷ h.2.0) h.1,
        subst (λ (k : ℕ). AreSlots k w.1 h.2.0)
            (no_byte at) h.2.1.0,
        ap suc h.2.1.1,
      ),
    ))
    (λ at cs xs h. (
      refl,
      (
        slot_at at entry.Gap,
        refl,
        (
          h.0,
          (
            subst (λ (k : ℕ). AreSlots k cs h.0)
                (sym (no_byte at)) h.2,
            (let e : suc (length h.0) ≡ suc n = h.3 in omega (arith, e)),
          ),
          h.1,
        ),
      ),
    ))
    (bind_exact_of (λ s. bind (slots n (takes_two s.entry)) (λ others. give (s ∷ others))) (flat_map cp_info)
    (λ s at cs xs. (rest : List Slot) × Others false n at cs rest × (xs ≡ s ∷ rest)) (second_exact (nat_lt 0 n))
    (λ at u s h. map_exact (λ others. s ∷ others)
    (subst (λ (b : Bool). Exact (slots n b) (Spells (flat_map cp_info) (Others false n)))
    (sym (ap (λ (t : Slot). takes_two t.entry) h)) (slots_exact n false (λ e. absurd cc)))))
slots_exact (suc n) false some = as_raw (flat_map cp_info) _ (λ w. w.0 ∷ w.1) (λ cs. (head_of cs, tail_of cs))
    (λ at w xs h.
    let e = h.1.0 in
    let behind = at + length (cp_info w.0) in
    let o : Others (takes_two e) n behind w.1 h.2.0 = subst
    (λ (s : Slot). Others (takes_two s.entry) n behind w.1 h.2.0) h.1.2 h.2.1 in
    let j = join at behind n e (takes_two e) w.1 h.2.0 o in
    let is : xs ≡ slot_at at e ∷ h.2.0 = h.2.2 ∙ ap (λ (s : Slot). s ∷ h.2.0) h.1.2 in
    (sym (flat_map-cons cp_info w.0 w.1), ((e, j.0, h.1.1.0, is ∙ j.1, j.2), ap length is ∙ j.3)))
    (λ at v xs h.
    let s = starts at n v xs h.0 h.1 in
    let a = s.1 in
    let behind = at + length (cp_info (head_of v)) in
    let p = split at behind n a.0 (takes_two a.0) (tail_of v) xs a.1 a.3 a.4 h.1 in (
      ap (flat_map cp_info) s.0 ∙ flat_map-cons cp_info (head_of v) (tail_of v),
      (slot_at at a.0, (a.0, (a.2, p.3), refl), (p.0, p.1, p.2)),
    ))
    (bind_exact_of (λ s. bind (slots n (takes_two s.entry)) (λ others. give (s ∷ others))) (flat_map cp_info)
    (λ s at cs xs. (rest : List Slot) × Others (takes_two s.entry) n at cs rest × (xs ≡ s ∷ rest))
    (first_exact (nat_lt 0 n))
    (λ at c s h. map_exact (λ others. s ∷ others)
    (slots_exact n (takes_two s.entry)
    (λ two. needs_room n (takes_two s.entry)
    (subst (λ (t : Slot). IsTrue (nat_lt 0 n || not (takes_two t.entry))) (sym h.2) h.1.1) two))))
