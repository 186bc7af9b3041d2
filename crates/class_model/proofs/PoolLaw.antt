-- The constant pool is read exactly where it is spelled (JVMS 4.1, 4.4).
use Rattle.std.proofs.Common.{◌≡◌, ℕ, ◌+◌, ◌-◌, Bool, true, false, cond, List, [], ◌∷◌, ◌++◌, length, map}
use Rattle.std.proofs.Common.{Some, None, Result, Ok, Err, refl, sym, ap, subst, ◌∙◌, arith}
use Rattle.std.specs.Prelude.{slice_get}
use Rattle.std.specs.Int.{w16, to_be_bytes}
use Rattle.std.specs.List.{AllByRecursion, AllZip, flat_map}
use Rattle.std.proofs.lemmas.List.{append-nil, length-map}
use Rattle.jv_base.specs.Mutf8.{IsUnits}
use Rattle.jv_base.proofs.Lists.{all_at}
use Rattle.format_reading.specs.declared.fault.FormatKind.{FormatKind}
use Rattle.format_reading.specs.Reader.{bind, give, of_result}
use Rattle.format_reading.specs.Spelling.{Spells}
use Rattle.format_reading.proofs.Exact.{Exact, as_raw, bind_exact, map_exact, of_result_exact, u2_exact, nothing}
use Rattle.class_model.specs.declared.pool.Entry.{Entry}
use Rattle.class_model.specs.declared.pool.Entry.TheVariants as entry
use Rattle.class_model.specs.Pool.{units_in}
use Rattle.class_model.specs.ConstantPool.{CpInfo, Utf8Info, IntegerInfo, LongInfo, ClassInfo, StringInfo, FieldrefInfo}
use Rattle.class_model.specs.ConstantPool.{MethodrefInfo, InterfaceMethodrefInfo, NameAndTypeInfo, LeftOutInfo, cp_info}
use Rattle.class_model.specs.ConstantPool.{IsConstant, takes_two, places_of, numbered, NamesRight, IsPool}
use Rattle.class_model.specs.Lookups.{names_right}
use Rattle.class_model.specs.ReadingPool.{Slot, slots, entries_of, fault_of, all_name_right, read_pool}
use Rattle.class_model.proofs.SlotLaw.{slots_of, AreSlots, slots_exact, Others}
use Rattle.class_model.proofs.NameLaw.{HaveUnits, AllFound, names_found, names_only, at_index}

-- ---- entries and their slots

-- the entries of slots
abbrev entries : List Slot → List Entry
entries xs = map (λ (s : Slot). s.entry) xs

-- the entries that constants stand for take the places of their slots
entries_there : (at : ℕ) (cs : List CpInfo) (xs : List Slot) → AreSlots at cs xs
    → (es : List Entry) × AllZip IsConstant cs es × (entries xs ≡ flat_map places_of es)
entries_there at [] xs h = ([], tt, ap entries h)
entries_there at (c ∷ cs) xs h =
    let e = h.0 in
    let behind = at + length (cp_info c) in
    let o = entries_there behind cs h.1 h.4 in
    (e ∷ o.0, (h.2, o.1), ap entries h.3 ∙ by (takes_two e) refl (slots_of at behind e) h.1 o.0 refl o.2)
  where
    by : (two : Bool) → takes_two h.0 ≡ two → (front : List Slot) (rest : List Slot) (es : List Entry)
        → front ≡ slots_of at (at + length (cp_info c)) h.0 → entries rest ≡ flat_map places_of es
        → entries (front ++ rest) ≡ flat_map places_of (h.0 ∷ es)
    by true e front rest es is same =
        ap (λ (v : List Slot). entries (v ++ rest)) is ∙ rw e (ap (λ (v : List Entry). h.0 ∷ entry.Gap ∷ v) same)
    by false e front rest es is same =
        ap (λ (v : List Slot). entries (v ++ rest)) is ∙ rw e (ap (λ (v : List Entry). h.0 ∷ v) same)

-- constants that stand for entries have slots, which take the places of the entries
slots_there : (at : ℕ) (cs : List CpInfo) (es : List Entry) → AllZip IsConstant cs es
    → (xs : List Slot) × AreSlots at cs xs × (entries xs ≡ flat_map places_of es)
slots_there at [] [] h = ([], refl, refl)
slots_there at [] (e ∷ es) h = absurd h
slots_there at (c ∷ cs) [] h = absurd h
slots_there at (c ∷ cs) (e ∷ es) h =
    let behind = at + length (cp_info c) in
    let o = slots_there behind cs es h.1 in
    (slots_of at behind e ++ o.0, (e, o.0, h.0, refl, o.1), by (takes_two e) refl o.0 o.2)
  where
    by : (two : Bool) → takes_two e ≡ two → (rest : List Slot) → entries rest ≡ flat_map places_of es
        → entries (slots_of at (at + length (cp_info c)) e ++ rest) ≡ flat_map places_of (e ∷ es)
    by true is rest same = rw is (ap (λ (v : List Entry). e ∷ entry.Gap ∷ v) same)
    by false is rest same = rw is (ap (λ (v : List Entry). e ∷ v) same)

-- ---- what holds of each entry

-- what holds of all entries and of a Gap holds at each of their places
pub at_places : (P : Entry → Type 0) → P entry.Gap → (es : List Entry) → AllByRecursion P es
    → AllByRecursion P (flat_map places_of es)
at_places P gap [] h = tt
at_places P gap (e ∷ es) h = by (takes_two e) (at_places P gap es h.1)
  where
    by : (two : Bool) → AllByRecursion P (flat_map places_of es)
        → AllByRecursion P (cond two (e ∷ entry.Gap ∷ []) (e ∷ []) ++ flat_map places_of es)
    by true others = (h.0, (gap, others))
    by false others = (h.0, others)

-- what holds at all places holds of each entry
of_places : (P : Entry → Type 0) (es : List Entry) → AllByRecursion P (flat_map places_of es) → AllByRecursion P es
of_places P [] h = tt
of_places P (e ∷ es) h = by (takes_two e) h (of_places P es)
  where
    by : (two : Bool) → AllByRecursion P (cond two (e ∷ entry.Gap ∷ []) (e ∷ []) ++ flat_map places_of es)
        → (AllByRecursion P (flat_map places_of es) → AllByRecursion P es) → AllByRecursion P (e ∷ es)
    by true h others = (h.0, others h.1.1)
    by false h others = (h.0, others h.1)

-- the same fact told of each
all_other : {A : Type 0} (P Q : A → Type 0) (xs : List A) → ((x : A) → P x → Q x) → AllByRecursion P xs
    → AllByRecursion Q xs
all_other P Q [] f h = tt
all_other P Q (x ∷ xs) f h = (f x h.0, all_other P Q xs f h.1)

-- the units of a text are numbers of 16 bits
abbrev pub HasUnits : Entry → Type 0
HasUnits e = (units : List ℕ) → units_in e ≡ Some units → IsUnits units

constant_units : (c : CpInfo) (e : Entry) → IsConstant c e → HasUnits e
constant_units (Utf8Info text) e h units is = subst (λ (u : List ℕ). IsUnits u)
    (let k : Some h.1 ≡ Some units = sym (ap units_in h.4) ∙ is in cc) h.2
constant_units (IntegerInfo n) e h units is = let k : None ≡ Some units = sym (ap units_in h.1) ∙ is in absurd cc
constant_units (LongInfo high low) e h units is = let k : None ≡ Some units = sym (ap units_in h.2) ∙ is in absurd cc
constant_units (ClassInfo i) e h units is = let k : None ≡ Some units = sym (ap units_in h.1) ∙ is in absurd cc
constant_units (StringInfo i) e h units is = let k : None ≡ Some units = sym (ap units_in h.1) ∙ is in absurd cc
constant_units (FieldrefInfo i j) e h units is = let k : None ≡ Some units = sym (ap units_in h.1) ∙ is in absurd cc
constant_units (MethodrefInfo i j) e h units is = let k : None ≡ Some units = sym (ap units_in h.1) ∙ is in absurd cc
constant_units (InterfaceMethodrefInfo i j) e h units is = let k : None ≡ Some units = sym (ap units_in h.1)
    ∙ is in absurd cc
constant_units (NameAndTypeInfo i j) e h units is = let k : None ≡ Some units = sym (ap units_in h.1) ∙ is in absurd cc
constant_units (LeftOutInfo tag text) e h units is = let k : None ≡ Some units = sym (ap units_in h.1) ∙ is in absurd cc

pub all_units : (cs : List CpInfo) (es : List Entry) → AllZip IsConstant cs es → AllByRecursion HasUnits es
all_units [] [] h = tt
all_units [] (e ∷ es) h = absurd h
all_units (c ∷ cs) [] h = absurd h
all_units (c ∷ cs) (e ∷ es) h = (constant_units c e h.0, all_units cs es h.1)

pub have_units : (es : List Entry) → AllByRecursion HasUnits es → HaveUnits (numbered es)
have_units es h index units is =
    let there = at_index units_in (slice_get (numbered es) index) units is in
    let none : HasUnits entry.Gap = λ units k. absurd cc in
    all_at HasUnits (numbered es) index there.0 (none, at_places HasUnits none es h) there.1 units there.2

-- ---- the cross references

-- each entry of the slots is found right
found_each : (pool : List Entry) (xs : List Slot) → all_name_right pool xs ≡ Ok tt
    → AllByRecursion (λ e. names_right pool e ≡ Ok tt) (entries xs)
unfolding all_name_right
found_each pool [] h = tt
found_each pool (s ∷ xs) h = let a = by (names_right pool s.entry) refl h in (a.0, found_each pool xs a.1)
  where
    by : (r : Result (Unit {0}) FormatKind) → names_right pool s.entry ≡ r
        → fault_of s.at r (all_name_right pool xs) ≡ Ok tt
        → (names_right pool s.entry ≡ Ok tt) × (all_name_right pool xs ≡ Ok tt)
    by (Ok tt) e g = (e, g)
    by (Err kind) e g = absurd cc

found_all : (pool : List Entry) (xs : List Slot) → AllByRecursion (λ e. names_right pool e ≡ Ok tt) (entries xs)
    → all_name_right pool xs ≡ Ok tt
unfolding all_name_right
found_all pool [] h = refl
found_all pool (s ∷ xs) h = rw h.0 (found_all pool xs h.1)

-- a Gap names nothing
gap_right : (pool : List Entry) → names_right pool entry.Gap ≡ Ok tt
unfolding names_right
gap_right pool = refl

-- ---- the pool

-- constant_pool_count and the constants
abbrev pub pool_bytes : ℕ × List CpInfo → List ℕ
pool_bytes w = to_be_bytes w16 w.0 ++ flat_map cp_info w.1

-- a pool is read exactly where it is spelled
pub pool_exact : Exact read_pool (Spells pool_bytes (λ at w pool. IsPool w.0 w.1 pool))
unfolding read_pool
pool_exact = as_raw pool_bytes _ (λ w. (w.0, w.1.0)) (λ w. (w.0, (w.1, tt)))
    (λ at w pool h.
    let xs = h.2.0 in
    let count : h.0 ≡ w.0 = h.1.1 in
    let others : Others false (h.0 - 1) (at + 2) w.1.0 xs = h.2.1 in
    let es = entries_there (at + 2) w.1.0 xs others.0 in
    let is : entries_of xs ≡ numbered es.0 = ap (λ (v : List Entry). entry.Gap ∷ v) es.2 in
    let each : AllByRecursion (λ e. names_right (numbered es.0) e ≡ Ok tt) (flat_map places_of es.0) =
    subst (λ (v : List Entry). AllByRecursion (λ e. names_right (numbered es.0) e ≡ Ok tt) v) es.2
    (found_each (numbered es.0) xs (subst (λ (p : List Entry). all_name_right p xs ≡ Ok tt) is h.2.2.1)) in
    let units = have_units es.0 (all_units w.1.0 es.0 es.1) in
    let all : AllFound (numbered es.0) = λ index e there. all_at (λ e. names_right (numbered es.0) e ≡ Ok tt)
    (numbered es.0) index e (gap_right (numbered es.0), each) there in
    let pool-is : pool ≡ numbered es.0 = h.2.2.2 ∙ is in (
      ap (λ (t : List ℕ). to_be_bytes w16 w.0 ++ t) (append-nil (flat_map cp_info w.1.0)),
      record {
        entries = es.0;
        stand = es.1;
        numbers = pool-is;
        count_fits = h.1.0;
        counted = ap length pool-is ∙ sym (ap length is)
            ∙ omega (arith, length-map xs (λ (s : Slot). s.entry), others.1, count);
        names = subst (λ (p : List Entry). AllByRecursion (NamesRight p) es.0) (sym pool-is)
            (of_places (NamesRight (numbered es.0)) es.0
            (all_other (λ e. names_right (numbered es.0) e ≡ Ok tt) (NamesRight (numbered es.0))
            (flat_map places_of es.0) (λ e right. names_found (numbered es.0) e units all right) each));
      },
    ))
    (λ at w pool h.
    let es = h.entries in
    let s = slots_there (at + 2) w.1 es h.stand in
    let is : entries_of s.0 ≡ pool = ap (λ (v : List Entry). entry.Gap ∷ v) s.2 ∙ sym h.numbers in
    let len : length s.0 ≡ w.0 - 1 = omega (
      arith,
      sym (length-map s.0
          (λ (t : Slot). t.entry)),
      ap length is,
      h.counted,
    ) in
    let right : AllByRecursion (λ e. names_right pool e ≡ Ok tt) (entries s.0) =
    subst (λ (v : List Entry). AllByRecursion (λ e. names_right pool e ≡ Ok tt) v) (sym s.2)
    (at_places (λ e. names_right pool e ≡ Ok tt) (gap_right pool) es
    (all_other (NamesRight pool) (λ e. names_right pool e ≡ Ok tt) es (names_only pool) h.names)) in (
      ap (λ (t : List ℕ). to_be_bytes w16 w.0 ++ t) (sym (append-nil (flat_map cp_info w.1))),
      (
        w.0,
        (h.count_fits, refl),
        (
          s.0,
          (s.1, len),
          (
            tt,
            subst (λ (p : List Entry). all_name_right p s.0 ≡ Ok tt) (sym is)
                (found_all pool s.0 right),
            sym is,
          ),
        ),
      ),
    ))
    (bind_exact (λ count. bind (slots (count - 1) false) (λ xs. bind (of_result (all_name_right (entries_of xs) xs))
    (λ named. give (entries_of xs))))
    (λ (v : List CpInfo × Unit {0}). flat_map cp_info v.0 ++ nothing v.1)
    (λ count at v pool. (xs : List Slot) × Others false (count - 1) at v.0 xs
    × ((u : Unit {0}) × (all_name_right (entries_of xs) xs ≡ Ok u) × (pool ≡ entries_of xs)))
    u2_exact
    (λ count. bind_exact (λ xs. bind (of_result (all_name_right (entries_of xs) xs))
    (λ named. give (entries_of xs))) nothing
    (λ xs at u pool. (v : Unit {0}) × (all_name_right (entries_of xs) xs ≡ Ok v) × (pool ≡ entries_of xs))
    (slots_exact (count - 1) false (λ e. absurd cc))
    (λ xs. map_exact (λ named. entries_of xs) (of_result_exact (all_name_right (entries_of xs) xs)))))
