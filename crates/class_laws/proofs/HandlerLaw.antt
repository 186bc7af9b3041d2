-- The exception table is read exactly where its rows are handlers (JVMS 4.7.3).
use Rattle.std.proofs.Common.{◌≡◌, ℕ, zero, suc, ◌+◌, ◌^◌, ◌<◌, ◌≤◌, Bool, true, false, cond, eqb, ltb, List, [], ◌∷◌}
use Rattle.std.proofs.Common.{◌++◌, length, Option, Some, None, Ok, pos, refl, sym, ap, subst, ◌∙◌, arith}
use Rattle.std.specs.Prelude.{slice_get, position, nat_eq}
use Rattle.std.specs.Int.{w16, to_be_bytes}
use Rattle.std.specs.List.{AllZip, flat_map, position_from}
use Rattle.std.proofs.lemmas.Bool.{eqb-true, eq-eqb, ne_eqb, ltb-true, lt-ltb}
use Rattle.std.proofs.lemmas.List.{length-append}
use Rattle.std.proofs.lemmas.List.Concat.{flat_map-cons}
use Rattle.std.proofs.lemmas.Iterator.Adapters.{position_from-zero}
use Rattle.jv_base.specs.Outcome.{◌>>=◌}
use Rattle.jv_base.proofs.Results.{then_ok}
use Rattle.format_reading.specs.declared.fault.FormatKind.TheVariants as bad
use Rattle.format_reading.specs.Reader.{FormatReader, u2, bind, give, item, settle, many}
use Rattle.format_reading.specs.Spelling.{Spells, AllStand}
use Rattle.format_reading.proofs.Exact.{Exact, as_raw, bind_exact, map_exact, here_exact, item_exact, settle_exact}
use Rattle.format_reading.proofs.Exact.{many_exact, u2_exact}
use Rattle.class_model.specs.declared.pool.Entry.{Entry}
use Rattle.class_model.specs.declared.code.Handler.{Handler}
use Rattle.class_model.specs.Structure.{ExceptionInfo, exception_info}
use Rattle.class_model.specs.ConstantPool.{IsOptionalClassAt}
use Rattle.class_model.specs.InstructionStructure.{Info, info_bytes, starts_from, starts_of}
use Rattle.class_model.specs.CodeAttribute.{IsHandler}
use Rattle.class_model.specs.Lookups.{due, class_at, optional_class_at}
use Rattle.class_model.specs.ReadingCodeAttribute.{Places, places, begins, handler_places, handler, read_handler}
use Rattle.class_model.specs.ReadingCodeAttribute.{read_handlers}
use Rattle.class_model.proofs.BackSizes.{info_is_there}
use Rattle.class_model.proofs.NameLaw.{HaveUnits, due_is}
use Rattle.class_model.proofs.LookupLaw.{class_found, class_only}
use Rattle.class_model.proofs.CodeLaw.{begins_found, begins_only}

-- ---- places

-- a place in a list is where the number stands
begins_there : (xs : List ℕ) (offset n : ℕ) → begins xs offset ≡ Some n → slice_get xs n ≡ Some offset
begins_there xs offset n h =
    let b = begins_found xs (pos offset) n (ap (due bad.BadTarget) h) in
    let same : b.0 ≡ offset = (let e : pos offset ≡ pos b.0 = b.1 in cc) in
    b.2 ∙ ap (λ (k : ℕ). Some k) same

-- where instructions begin, and where the last one ends, from an offset on
abbrev ends_from : ℕ → List Info → List ℕ
ends_from at infos = starts_from at infos ++ (at + length (flat_map info_bytes infos)) ∷ []

-- none is before the first
later : (infos : List Info) (at n offset : ℕ) → slice_get (ends_from at infos) n ≡ Some offset → at ≤ offset
later [] at zero offset h = let e : at + 0 ≡ offset = cc in omega (arith, e)
later [] at (suc n) offset h = absurd cc
later (info ∷ infos) at zero offset h = let e : at ≡ offset = cc in omega (arith, e)
later (info ∷ infos) at (suc n) offset h =
    let l = later infos (at + length (info_bytes info)) n offset (end_is ∙ h) in omega (arith, l)
  where
    end_is : slice_get (ends_from (at + length (info_bytes info)) infos) n
        ≡ slice_get (starts_from (at + length (info_bytes info)) infos ++
        (at + length (flat_map info_bytes (info ∷ infos))) ∷ []) n
    end_is = ap (λ (k : ℕ). slice_get (starts_from (at + length (info_bytes info)) infos ++ k ∷ []) n)
        (let e : at + length (info_bytes info) + length (flat_map info_bytes infos)
        ≡ at + length (flat_map info_bytes (info ∷ infos)) = omega (
          arith,
          ap length (flat_map-cons info_bytes info infos),
          length-append (info_bytes info)
              (flat_map info_bytes infos),
        ) in e)

number_there : (infos : List Info) (at k n offset : ℕ) → slice_get (ends_from at infos) n ≡ Some offset
    → position_from (nat_eq offset) k (ends_from at infos) ≡ Some (k + n)
number_there [] at k zero offset h =
    let e : at + 0 ≡ offset = cc in
    let same : eqb offset (at + 0) ≡ true = eq-eqb offset (at + 0) (sym e) in
    rw same (ap (λ (m : ℕ). Some m) (let z : k ≡ k + 0 = omega arith in z))
number_there [] at k (suc n) offset h = absurd cc
number_there (info ∷ infos) at k zero offset h =
    let e : at ≡ offset = cc in
    let same : eqb offset at ≡ true = eq-eqb offset at (sym e) in
    rw same (ap (λ (m : ℕ). Some m) (let z : k ≡ k + 0 = omega arith in z))
number_there (info ∷ infos) at k (suc n) offset h =
    let len : at + length (flat_map info_bytes (info ∷ infos))
    ≡ at + length (info_bytes info) + length (flat_map info_bytes infos) = omega (
      arith,
      ap length (flat_map-cons info_bytes info infos),
      length-append (info_bytes info)
          (flat_map info_bytes infos),
    ) in
    let g : slice_get (ends_from (at + length (info_bytes info)) infos) n
    ≡ Some offset = ap (λ (m : ℕ). slice_get (starts_from (at + length (info_bytes info)) infos ++ m ∷ []) n)
    (sym len) ∙ h in
    let l = later infos (at + length (info_bytes info)) n offset g in
    let some = info_is_there info in
    let other : eqb offset at ≡ false = ne_eqb offset at (λ e. omega (arith, e, l, some)) in
    rw other (ap (λ (m : ℕ). position_from (nat_eq offset) (k + 1)
    (starts_from (at + length (info_bytes info)) infos ++ m ∷ [])) len
    ∙ number_there infos (at + length (info_bytes info)) (k + 1) n offset g
    ∙ ap (λ (m : ℕ). Some m) (let z : (k + 1) + n ≡ k + suc n = omega arith in z))

-- a place that is in a list, or its end, is found there
ends_there : (infos : List Info) (end offset n : ℕ) → end ≡ length (flat_map info_bytes infos)
    → slice_get (starts_of infos ++ end ∷ []) n ≡ Some offset → begins (starts_of infos ++ end ∷ []) offset ≡ Some n
ends_there infos end offset n is h =
    let e : end ≡ 0 + length (flat_map info_bytes infos) = omega (arith, is) in
    let g : slice_get (ends_from 0 infos) n
    ≡ Some offset = ap (λ (m : ℕ). slice_get (starts_of infos ++ m ∷ []) n) (sym e) ∙ h in
    ap (λ (m : ℕ). begins (starts_of infos ++ m ∷ []) offset) e ∙ position_from-zero (nat_eq offset) (ends_from 0 infos)
    ∙ number_there infos 0 0 n offset g ∙ ap (λ (m : ℕ). Some m) (let z : 0 + n ≡ n = omega arith in z)

-- ---- one class or none

optional_found : (pool : List Entry) (index : ℕ) (caught : Option (List ℕ)) → HaveUnits pool → index < 2 ^ 16
    → optional_class_at pool index ≡ Ok caught → IsOptionalClassAt pool index caught
unfolding optional_class_at
optional_found pool index caught units fit h = by (eqb index 0) refl h
  where
    by : (b : Bool) → eqb index 0 ≡ b → cond b (Ok None) (class_at pool index >>= (λ name. Ok (Some name))) ≡ Ok caught
        → IsOptionalClassAt pool index caught
    by true e g = subst (λ (c : Option (List ℕ)). IsOptionalClassAt pool index c) (let k : None ≡ caught = cc in k)
        (eqb-true index 0 e)
    by false e g =
        let a = then_ok (class_at pool index) (λ name. Ok (Some name)) caught g in
        let c = class_found pool index a.0 units a.1 in
        subst (λ (c : Option (List ℕ)). IsOptionalClassAt pool index c)
        (let k : Some a.0 ≡ caught = (let e2 : Ok (Some a.0) ≡ Ok caught = a.2 in cc) in k) (fit, c.0, c.1)

-- index 0 is no entry, so no class stands there
abbrev pub NoneAtZero : List Entry → Type 0
NoneAtZero pool = (name : List ℕ) → class_at pool 0 ≡ Ok name → ⊥

optional_only : (pool : List Entry) (index : ℕ) (caught : Option (List ℕ)) → NoneAtZero pool
    → IsOptionalClassAt pool index caught → optional_class_at pool index ≡ Ok caught
unfolding optional_class_at
optional_only pool index None none h = let e : eqb index 0 ≡ true = eq-eqb index 0 h in rw e refl
optional_only pool index (Some name) none h =
    let there = class_only pool index name h.1 h.2 in
    let some : eqb index 0 ≡ false = ne_eqb index 0 (λ e. absurd (none name (ap (class_at pool) (sym e) ∙ there))) in
    rw (some, there) refl

-- ---- handlers

-- all three places
places_found : (a b c : Option ℕ) (at : Places) → places a b c ≡ Some at
    → (a ≡ Some at.0) × (b ≡ Some at.1) × (c ≡ Some at.2)
places_found (Some x) (Some y) (Some z) at h =
    let e : (let p : Places = (x, y, z) in p) ≡ at = cc in
    (ap (λ (p : Places). Some p.0) e, ap (λ (p : Places). Some p.1) e, ap (λ (p : Places). Some p.2) e)
places_found (Some x) (Some y) None at h = absurd cc
places_found (Some x) None c at h = absurd cc
places_found None b c at h = absurd cc

-- the places of a handler
handler_found : (starts : List ℕ) (end start_pc end_pc handler_pc : ℕ) (at : Places)
    → handler_places starts end start_pc end_pc handler_pc ≡ Some at
    → (start_pc < end_pc) × (slice_get starts at.0 ≡ Some start_pc)
    × (slice_get (starts ++ end ∷ []) at.1 ≡ Some end_pc) × (slice_get starts at.2 ≡ Some handler_pc)
handler_found starts end start_pc end_pc handler_pc at h = by (ltb start_pc end_pc) refl h
  where
    by : (b : Bool) → ltb start_pc end_pc ≡ b
        → cond b (places (begins starts start_pc) (begins (starts ++ end ∷ []) end_pc) (begins starts handler_pc)) None
        ≡ Some at
        → (start_pc < end_pc) × (slice_get starts at.0 ≡ Some start_pc)
        × (slice_get (starts ++ end ∷ []) at.1 ≡ Some end_pc) × (slice_get starts at.2 ≡ Some handler_pc)
    by true e g =
        let p = places_found (begins starts start_pc) (begins (starts ++ end ∷ []) end_pc)
        (begins starts handler_pc) at g in (
          ltb-true start_pc end_pc e,
          begins_there starts start_pc at.0 p.0,
          begins_there
              (starts ++ end ∷ []) end_pc at.1 p.1,
          begins_there starts handler_pc at.2 p.2,
        )
    by false e g = absurd cc

module _ (pool : List Entry) (units : HaveUnits pool) (unnamed : NoneAtZero pool) (infos : List Info) (end : ℕ)
    (whole : end ≡ length (flat_map info_bytes infos)) where
  abbrev starts : List ℕ
  starts = starts_of infos

  start_there : (offset n : ℕ) → slice_get starts n ≡ Some offset → begins starts offset ≡ Some n
  start_there offset n h = due_is bad.BadTarget (position (nat_eq offset) starts) n
      (begins_only infos (pos offset) n (offset, refl, h))

  handler_only : (raw : ExceptionInfo) (y : Handler) → IsHandler pool starts end raw y
      → handler_places starts end raw.start_pc raw.end_pc raw.handler_pc ≡ Some (y.from, y.to, y.entry)
  handler_only raw y h =
      rw (
        lt-ltb raw.start_pc raw.end_pc h.range,
        start_there raw.start_pc y.from h.from,
        ends_there infos end
            raw.end_pc y.to whole h.to,
        start_there raw.handler_pc y.entry h.entry,
      ) refl

  -- the numbers of a row
  abbrev Row : Type 0
  Row = ℕ × (ℕ × (ℕ × ℕ))

  abbrev row_of : Row → ExceptionInfo
  row_of v = record { start_pc = v.0; end_pc = v.1.0; handler_pc = v.1.1.0; catch_type = v.1.1.1 }

  abbrev items_of : ExceptionInfo → Row
  items_of raw = (raw.start_pc, (raw.end_pc, (raw.handler_pc, raw.catch_type)))

  -- they fit their bytes
  abbrev FitsRow : ExceptionInfo → Type 0
  FitsRow raw = (raw.start_pc < 2 ^ 16) × (raw.end_pc < 2 ^ 16) × (raw.handler_pc < 2 ^ 16) × (raw.catch_type < 2 ^ 16)

  -- behind the three places
  abbrev Caught : ℕ → ℕ → ℕ → ℕ → Handler → Type 0
  Caught start_pc end_pc handler_pc catch_type y = (at : Places)
      × (handler_places starts end start_pc end_pc handler_pc ≡ Some at)
      × ((catch_type < 2 ^ 16)
      × ((caught : Option (List ℕ)) × (optional_class_at pool catch_type ≡ Ok caught) × (y ≡ handler at caught)))

  abbrev reads_caught : ℕ → ℕ → ℕ → ℕ → FormatReader Handler
  reads_caught at start_pc end_pc handler_pc = bind
      (settle at (due bad.BadHandler (handler_places starts end start_pc end_pc handler_pc)))
      (λ found. bind (item u2 (optional_class_at pool)) (λ caught. give (handler found caught)))

  caught_exact : (at start_pc end_pc handler_pc : ℕ)
      → Exact (reads_caught at start_pc end_pc handler_pc)
      (Spells (to_be_bytes w16) (λ _ catch_type y. Caught start_pc end_pc handler_pc catch_type y))
  caught_exact at start_pc end_pc handler_pc = as_raw (to_be_bytes w16) _ (λ w. w.1) (λ c. (tt, c))
      (λ k w y h. (
        refl,
        (
          h.0,
          due_is bad.BadHandler (handler_places starts end start_pc end_pc handler_pc) h.0 h.1,
          (h.2.1.1.0, (h.2.0, ap (optional_class_at pool) (sym h.2.1.1.1) ∙ h.2.1.2, h.2.2)),
        ),
      ))
      (λ k c y h. (refl, (h.0, ap (due bad.BadHandler) h.1, (h.2.1.0, (c, (h.2.0, refl), h.2.1.1), h.2.1.2))))
      (bind_exact (λ found. bind (item u2 (optional_class_at pool)) (λ caught. give (handler found caught)))
      (to_be_bytes w16)
      (λ found _ c y. (caught : Option (List ℕ))
      × ((x : ℕ) × ((c < 2 ^ 16) × (x ≡ c)) × (optional_class_at pool x ≡ Ok caught)) × (y ≡ handler found caught))
      (settle_exact at (due bad.BadHandler (handler_places starts end start_pc end_pc handler_pc)))
      (λ found. map_exact (λ caught. handler found caught) (item_exact (optional_class_at pool) u2_exact)))

  -- a number of two bytes, and then more
  number_then : {S B : Type 0} (f : ℕ → FormatReader B) (t : S → List ℕ) (n : ℕ → S → B → Type 0)
      → ((x : ℕ) → Exact (f x) (Spells t (λ _ w y. n x w y)))
      → Exact (bind u2 f) (Spells (λ (v : ℕ × S). to_be_bytes w16 v.0 ++ t v.1) (λ _ v y. (v.0 < 2 ^ 16) × n v.0 v.1 y))
  number_then f t n e = as_raw _ _ (λ v. v) (λ v. v)
      (λ at v y h. (refl, (h.1.0, subst (λ (k : ℕ). n k v.1 y) h.1.1 h.2)))
      (λ at v y h. (refl, (v.0, (h.0, refl), h.1)))
      (bind_exact f t (λ x _ w y. n x w y) u2_exact e)

  -- a row is read exactly where it is a handler
  row_exact : Exact (read_handler pool starts end)
      (Spells exception_info (λ _ raw y. FitsRow raw × IsHandler pool starts end raw y))
  row_exact = as_raw exception_info _ (λ w. row_of w.1) (λ raw. (tt, items_of raw))
      (λ k w y h.
      let n = h.2 in
      let c = n.1.1.1 in
      let p = handler_found starts end w.1.0 w.1.1.0 w.1.1.1.0 c.0 c.1 in
      let is : IsHandler pool starts end (row_of w.1)
      (handler c.0 c.2.1.0) = record {
        from = p.1;
        to = p.2;
        range = p.0;
        entry = p.3;
        caught = optional_found pool
            w.1.1.1.1 c.2.1.0 units c.2.0 c.2.1.1;
      } in (
        refl,
        (
          (n.0, n.1.0, n.1.1.0, c.2.0),
          subst (λ (z : Handler). IsHandler pool starts end (row_of w.1) z)
              (sym c.2.1.2) is,
        ),
      ))
      (λ k raw y h. (
        refl,
        (
          k,
          refl,
          (
            h.0.0,
            (
              h.0.1,
              (
                h.0.2,
                (
                  (y.from, y.to, y.entry),
                  handler_only raw y h.1,
                  (h.0.3, (y.caught, optional_only pool raw.catch_type y.caught unnamed h.1.caught, refl)),
                ),
              ),
            ),
          ),
        ),
      ))
      (bind_exact (λ at. bind u2 (λ start_pc. bind u2 (λ end_pc. bind u2
      (λ handler_pc. reads_caught at start_pc end_pc handler_pc))))
      (λ (v : Row). to_be_bytes w16 v.0 ++
      (to_be_bytes w16 v.1.0 ++ (to_be_bytes w16 v.1.1.0 ++ to_be_bytes w16 v.1.1.1)))
      (λ at _ v y. (v.0 < 2 ^ 16)
      × ((v.1.0 < 2 ^ 16) × ((v.1.1.0 < 2 ^ 16) × Caught v.0 v.1.0 v.1.1.0 v.1.1.1 y))) here_exact
      (λ at. number_then (λ start_pc. bind u2 (λ end_pc. bind u2
      (λ handler_pc. reads_caught at start_pc end_pc handler_pc)))
      (λ (v : ℕ × (ℕ × ℕ)). to_be_bytes w16 v.0 ++ (to_be_bytes w16 v.1.0 ++ to_be_bytes w16 v.1.1))
      (λ start_pc v y. (v.0 < 2 ^ 16) × ((v.1.0 < 2 ^ 16) × Caught start_pc v.0 v.1.0 v.1.1 y))
      (λ start_pc. number_then (λ end_pc. bind u2 (λ handler_pc. reads_caught at start_pc end_pc handler_pc))
      (λ (v : ℕ × ℕ). to_be_bytes w16 v.0 ++ to_be_bytes w16 v.1)
      (λ end_pc v y. (v.0 < 2 ^ 16) × Caught start_pc end_pc v.0 v.1 y)
      (λ end_pc. number_then (λ handler_pc. reads_caught at start_pc end_pc handler_pc) (to_be_bytes w16)
      (λ handler_pc c y. Caught start_pc end_pc handler_pc c y)
      (λ handler_pc. caught_exact at start_pc end_pc handler_pc)))))

  -- each row is a handler
  handlers_there : (at : ℕ) (raws : List ExceptionInfo) (hs : List Handler)
      → AllStand exception_info (λ _ raw y. FitsRow raw × IsHandler pool starts end raw y) at raws hs
      → AllZip (IsHandler pool starts end) raws hs
  handlers_there at [] [] h = tt
  handlers_there at [] (y ∷ ys) h = absurd h
  handlers_there at (r ∷ rs) [] h = absurd h
  handlers_there at (r ∷ rs) (y ∷ ys) h = (h.0.1, handlers_there (at + length (exception_info r)) rs ys h.1)

  -- an offset of an instruction, and the end, are at most the length of the code
  start_below : (infos : List Info) (at n offset : ℕ) → slice_get (starts_from at infos) n ≡ Some offset
      → offset ≤ at + length (flat_map info_bytes infos)
  start_below [] at n offset h = absurd cc
  start_below (info ∷ infos) at zero offset h = let e : at ≡ offset = cc in omega (arith, e)
  start_below (info ∷ infos) at (suc n) offset h =
      let b = start_below infos (at + length (info_bytes info)) n offset h in
      omega (
        arith,
        b,
        ap length (flat_map-cons info_bytes info infos),
        length-append (info_bytes info)
            (flat_map info_bytes infos),
      )

  last_below : (xs : List ℕ) (most n offset : ℕ) → ((m k : ℕ) → slice_get xs m ≡ Some k → k ≤ most)
      → slice_get (xs ++ most ∷ []) n ≡ Some offset → offset ≤ most
  last_below [] most zero offset below h = let e : most ≡ offset = cc in omega (arith, e)
  last_below [] most (suc n) offset below h = absurd cc
  last_below (x ∷ xs) most zero offset below h = below 0 offset h
  last_below (x ∷ xs) most (suc n) offset below h = last_below xs most n offset (λ m k g. below (suc m) k g) h

  -- the numbers of a handler's row fit their bytes, as the code is short
  row_fits : (raw : ExceptionInfo) (y : Handler) → end < 2 ^ 16 → IsHandler pool starts end raw y → FitsRow raw
  row_fits raw y short h =
      let below : (m k : ℕ) → slice_get starts m ≡ Some k
      → k ≤ end = λ m k g. (let b = start_below infos 0 m k g in omega (arith, b, whole)) in
      let from = below y.from raw.start_pc h.from in
      let to = last_below starts end y.to raw.end_pc below h.to in
      let entry = below y.entry raw.handler_pc h.entry in (
        omega (arith, from, short),
        omega (arith, to, short),
        omega
            (arith, entry, short),
        caught_fits raw.catch_type y.caught h.caught,
      )
    where
      caught_fits : (index : ℕ) (caught : Option (List ℕ)) → IsOptionalClassAt pool index caught → index < 2 ^ 16
      caught_fits index None c = omega (arith, c)
      caught_fits index (Some name) c = c.0

  handlers_back : (at : ℕ) (raws : List ExceptionInfo) (hs : List Handler) → end < 2 ^ 16
      → AllZip (IsHandler pool starts end) raws hs
      → AllStand exception_info (λ _ raw y. FitsRow raw × IsHandler pool starts end raw y) at raws hs
  handlers_back at [] [] short h = tt
  handlers_back at [] (y ∷ ys) short h = absurd h
  handlers_back at (r ∷ rs) [] short h = absurd h
  handlers_back at (r ∷ rs) (y ∷ ys) short h =
      ((row_fits r y short h.0, h.0), handlers_back (at + length (exception_info r)) rs ys short h.1)

  -- the table, behind its count
  pub table_exact : end < 2 ^ 16
      → Exact (read_handlers pool starts end)
      (Spells (λ raws. to_be_bytes w16 (length raws) ++ flat_map exception_info raws)
      (λ _ raws hs. (length raws < 2 ^ 16) × AllZip (IsHandler pool starts end) raws hs))
  unfolding read_handlers
  table_exact short = as_raw _ _ (λ w. w.1) (λ raws. (length raws, raws))
      (λ at w hs h.
      let n : length w.1 ≡ w.0 = h.2.0 ∙ h.1.1 in (
        ap (λ (m : ℕ). to_be_bytes w16 m ++ flat_map exception_info w.1) (sym n),
        (subst (λ (m : ℕ). m < 2 ^ 16) (sym n) h.1.0, handlers_there (at + 2) w.1 hs h.2.1),
      ))
      (λ at raws hs h. (refl, (length raws, (h.0, refl), (refl, handlers_back (at + 2) raws hs short h.1))))
      (bind_exact (λ n. many n (read_handler pool starts end)) (flat_map exception_info)
      (λ n at raws hs. (length raws ≡ n)
      × AllStand exception_info (λ _ raw y. FitsRow raw × IsHandler pool starts end raw y) at raws hs) u2_exact
      (λ n. many_exact n row_exact))
