-- The rows of a StackMapTable are read exactly where they are spelled (JVMS 4.7.4).
use Rattle.std.proofs.Common.{◌≡◌, ℕ, ◌+◌, ◌-◌, ◌^◌, ◌<◌, ◌≤◌, true, false, cond, eqb, leb, List, [], ◌∷◌, ◌++◌, length}
use Rattle.std.proofs.Common.{Result, Ok, Err, refl, sym, ap, subst, ◌∙◌, append_assoc, arith}
use Rattle.std.specs.Int.{w8, w16, to_be_bytes}
use Rattle.std.specs.List.{AllByRecursion, flat_map}
use Rattle.std.proofs.lemmas.Bool.{eqb-true, eqb-false, leb-true, leb-false, le-leb, lt-leb, ne_eqb}
use Rattle.jv_base.specs.Place.{Place}
use Rattle.format_reading.specs.declared.fault.FormatFault.{FormatFault}
use Rattle.format_reading.specs.Reader.{FormatReader, u1, u2, lead, bind, give, many}
use Rattle.format_reading.specs.Spelling.{Spells, AllStand}
use Rattle.format_reading.proofs.Exact.{Exact, Leads, as_raw, lead_exact, lead_exact_of, bind_exact, map_exact}
use Rattle.format_reading.proofs.Exact.{give_exact, many_exact, leads_if, u1_exact, u2_exact}
use Rattle.class_model.specs.Frames.{VerificationTypeInfo, TagInfo, ObjectInfo, UninitializedInfo}
use Rattle.class_model.specs.Frames.{verification_type_info, StackMapFrame, SameFrame, SameLocalsOneStackItem}
use Rattle.class_model.specs.Frames.{SameLocalsOneStackItemExtended, ChopFrame, SameFrameExtended, AppendFrame}
use Rattle.class_model.specs.Frames.{FullFrame, counted_types, stack_map_frame}
use Rattle.class_model.specs.ReadingFrames.{object_info, uninitialized_info, type_begun, read_type, one_item}
use Rattle.class_model.specs.ReadingFrames.{one_item_extended, chop, same_extended, append, full, row_begun, at_row}
use Rattle.class_model.specs.ReadingFrames.{read_row}
use Rattle.class_model.proofs.EntryLaw.{one_byte}

-- ---- types

-- the numbers of a type fit their bytes
abbrev pub FitsType : VerificationTypeInfo → Type 0
FitsType (TagInfo tag) = tag ≤ 6
FitsType (ObjectInfo cpool_index) = cpool_index < 2 ^ 16
FitsType (UninitializedInfo offset) = offset < 2 ^ 16

-- the tag, and what stands behind it
abbrev tag_of : VerificationTypeInfo → ℕ
tag_of (TagInfo tag) = tag
tag_of (ObjectInfo cpool_index) = 7
tag_of (UninitializedInfo offset) = 8

abbrev behind_tag : VerificationTypeInfo → List ℕ
behind_tag (TagInfo tag) = []
behind_tag (ObjectInfo cpool_index) = to_be_bytes w16 cpool_index
behind_tag (UninitializedInfo offset) = to_be_bytes w16 offset

-- the number of a type
abbrev number_of : VerificationTypeInfo → ℕ
number_of (TagInfo tag) = tag
number_of (ObjectInfo cpool_index) = cpool_index
number_of (UninitializedInfo offset) = offset

-- a type with a tag
abbrev OfTag : ℕ → VerificationTypeInfo → VerificationTypeInfo → Type 0
OfTag tag info y = (tag_of info ≡ tag) × FitsType info × (y ≡ info)

-- by its tag
object_is : (info : VerificationTypeInfo) → tag_of info ≡ 7 → FitsType info
    → (info ≡ ObjectInfo (number_of info)) × (number_of info < 2 ^ 16)
object_is (TagInfo tag) e fit = absurd (omega (arith, e, fit))
object_is (ObjectInfo i) e fit = (refl, fit)
object_is (UninitializedInfo i) e fit = absurd (omega (arith, e))

uninitialized_is : (info : VerificationTypeInfo) → tag_of info ≡ 8 → FitsType info
    → (info ≡ UninitializedInfo (number_of info)) × (number_of info < 2 ^ 16)
uninitialized_is (TagInfo tag) e fit = absurd (omega (arith, e, fit))
uninitialized_is (ObjectInfo i) e fit = absurd (omega (arith, e))
uninitialized_is (UninitializedInfo i) e fit = (refl, fit)

tag_is : (info : VerificationTypeInfo) (tag : ℕ) → tag_of info ≡ tag → (tag ≡ 7 → ⊥) → (tag ≡ 8 → ⊥) → FitsType info
    → (info ≡ TagInfo tag) × (tag ≤ 6)
tag_is (TagInfo t) tag e no7 no8 fit = (ap TagInfo e, omega (arith, e, fit))
tag_is (ObjectInfo i) tag e no7 no8 fit = absurd (no7 (sym e))
tag_is (UninitializedInfo i) tag e no7 no8 fit = absurd (no8 (sym e))

object_exact : Exact object_info (Spells behind_tag (λ _ info y. OfTag 7 info y))
object_exact = as_raw behind_tag _ (λ w. ObjectInfo w) number_of
    (λ at w y h. (refl, (refl, h.1.0, h.2 ∙ ap ObjectInfo h.1.1)))
    (λ at info y h. let o = object_is info h.0 h.1 in (ap behind_tag o.0, (number_of info, (o.1, refl), h.2 ∙ o.0)))
    (map_exact (λ i. ObjectInfo i) u2_exact)

uninitialized_exact : Exact uninitialized_info (Spells behind_tag (λ _ info y. OfTag 8 info y))
uninitialized_exact = as_raw behind_tag _ (λ w. UninitializedInfo w) number_of
    (λ at w y h. (refl, (refl, h.1.0, h.2 ∙ ap UninitializedInfo h.1.1)))
    (λ at info y h. let o = uninitialized_is info h.0 h.1 in
    (ap behind_tag o.0, (number_of info, (o.1, refl), h.2 ∙ o.0)))
    (map_exact (λ i. UninitializedInfo i) u2_exact)

tag_leads : (tag : ℕ) → Leads (type_begun tag) (Spells behind_tag (λ _ info y. OfTag tag info y))
tag_leads tag =
    let g = Spells behind_tag (λ _ info y. OfTag tag info y) in
    leads_if _ _ g (eqb tag 7)
    (λ e. subst (λ (k : ℕ). Exact object_info (Spells behind_tag (λ _ info y. OfTag k info y)))
    (sym (eqb-true tag 7 e)) object_exact) (λ e7.
    leads_if _ _ g (eqb tag 8)
    (λ e. subst (λ (k : ℕ). Exact uninitialized_info (Spells behind_tag (λ _ info y. OfTag k info y)))
    (sym (eqb-true tag 8 e)) uninitialized_exact) (λ e8.
    leads_if _ _ g (leb tag 6)
    (λ e6. as_raw behind_tag _ (λ u. TagInfo tag) (λ info. tt)
    (λ at u y h. (refl, (refl, leb-true tag 6 e6, h)))
    (λ at info y h. let t = tag_is info tag h.0 (eqb-false tag 7 e7) (eqb-false tag 8 e8) h.1 in
    (ap behind_tag t.0, h.2 ∙ t.0))
    (give_exact (TagInfo tag)))
    (λ e6 at t y h. let i = tag_is h.0 tag h.2.0 (eqb-false tag 7 e7) (eqb-false tag 8 e8) h.2.1 in absurd
    (let k : 6 < tag = leb-false tag 6 e6 in omega (arith, i.1, k)))))

type_is : (info : VerificationTypeInfo) → verification_type_info info ≡ tag_of info ∷ behind_tag info
type_is (TagInfo tag) = refl
type_is (ObjectInfo i) = refl
type_is (UninitializedInfo i) = refl

tag_below : (info : VerificationTypeInfo) → FitsType info → tag_of info < 256
tag_below (TagInfo tag) fit = omega (arith, fit)
tag_below (ObjectInfo i) fit = omega arith
tag_below (UninitializedInfo i) fit = omega arith

-- a type is read exactly where it is spelled
pub type_exact : Exact read_type (Spells verification_type_info (λ _ info y. FitsType info × (y ≡ info)))
unfolding read_type
type_exact = as_raw verification_type_info _ (λ w. w.1) (λ info. (tag_of info, info))
    (λ at w y h.
    let below = tag_below w.1 h.2.1 in (
      ap (λ (k : ℕ). to_be_bytes w8 k ++ behind_tag w.1) (sym h.1.1 ∙ sym h.2.0)
          ∙ one_byte (tag_of w.1) below (behind_tag w.1) ∙ sym (type_is w.1),
      (h.2.1, h.2.2),
    ))
    (λ at info y h.
    let below = tag_below info h.0 in (
      type_is info ∙ sym (one_byte (tag_of info) below (behind_tag info)),
      (tag_of info, (below, refl), (refl, h.0, h.1)),
    ))
    (lead_exact type_begun behind_tag (λ tag _ info y. OfTag tag info y) u1_exact tag_leads)

-- types one behind the other are themselves
types_there : (at : ℕ) (infos ys : List VerificationTypeInfo)
    → AllStand verification_type_info (λ _ info y. FitsType info × (y ≡ info)) at infos ys
    → AllByRecursion FitsType infos × (ys ≡ infos)
types_there at [] [] h = (tt, refl)
types_there at [] (y ∷ ys) h = absurd h
types_there at (i ∷ is) [] h = absurd h
types_there at (i ∷ is) (y ∷ ys) h = let o = types_there (at + length (verification_type_info i)) is ys h.1 in
    ((h.0.0, o.0), λ j. h.0.1 j ∷ o.1 j)

types_back : (at : ℕ) (infos : List VerificationTypeInfo) → AllByRecursion FitsType infos
    → AllStand verification_type_info (λ _ info y. FitsType info × (y ≡ info)) at infos infos
types_back at [] h = tt
types_back at (i ∷ is) h = ((h.0, refl), types_back (at + length (verification_type_info i)) is h.1)

-- so many types
pub types_exact : (n : ℕ)
    → Exact (many n read_type)
    (Spells (flat_map verification_type_info)
    (λ _ infos y. ((length infos ≡ n) × AllByRecursion FitsType infos) × (y ≡ infos)))
types_exact n = as_raw (flat_map verification_type_info) _ (λ is. is) (λ is. is)
    (λ at infos y h. let o = types_there at infos y h.1 in (refl, ((h.0, o.0), o.1)))
    (λ at infos y h. (
      refl,
      (
        h.0.0,
        subst (λ (ys : List VerificationTypeInfo). AllStand verification_type_info
            (λ _ info y. FitsType info × (y ≡ info)) at infos ys) (sym h.1) (types_back at infos h.0.1),
      ),
    ))
    (many_exact n type_exact)

-- types behind their count
pub counted_exact : Exact (bind u2 (λ n. many n read_type))
    (Spells counted_types (λ _ infos y. ((length infos < 2 ^ 16) × AllByRecursion FitsType infos) × (y ≡ infos)))
counted_exact = as_raw counted_types _ (λ w. w.1) (λ infos. (length infos, infos))
    (λ at w y h.
    let n : length w.1 ≡ w.0 = h.2.0.0 ∙ h.1.1 in (
      ap (λ (m : ℕ). to_be_bytes w16 m ++ flat_map verification_type_info w.1) (sym n),
      ((subst (λ (m : ℕ). m < 2 ^ 16) (sym n) h.1.0, h.2.0.1), h.2.1),
    ))
    (λ at infos y h. (refl, (length infos, (h.0.0, refl), ((refl, h.0.1), h.1))))
    (bind_exact (λ n. many n read_type) (flat_map verification_type_info)
    (λ n _ infos y. ((length infos ≡ n) × AllByRecursion FitsType infos) × (y ≡ infos)) u2_exact types_exact)

-- ---- rows

-- types that fit their bytes
abbrev pub FitTypes : List VerificationTypeInfo → Type 0
FitTypes infos = AllByRecursion FitsType infos

-- the numbers of a row fit its form
abbrev pub FitsRow : StackMapFrame → Type 0
FitsRow (SameFrame frame_type) = frame_type ≤ 63
FitsRow (SameLocalsOneStackItem frame_type item) = (64 ≤ frame_type) × (frame_type ≤ 127) × FitsType item
FitsRow (SameLocalsOneStackItemExtended offset_delta item) = (offset_delta < 2 ^ 16) × FitsType item
FitsRow (ChopFrame frame_type offset_delta) = (248 ≤ frame_type) × (frame_type ≤ 250) × (offset_delta < 2 ^ 16)
FitsRow (SameFrameExtended offset_delta) = offset_delta < 2 ^ 16
FitsRow (AppendFrame frame_type offset_delta locals) = (252 ≤ frame_type) × (frame_type ≤ 254) × (offset_delta < 2 ^ 16)
    × (length locals ≡ frame_type - 251) × FitTypes locals
FitsRow (FullFrame offset_delta locals stack) = (offset_delta < 2 ^ 16) × (length locals < 2 ^ 16) × FitTypes locals
    × (length stack < 2 ^ 16) × FitTypes stack

-- the frame_type, and what stands behind it
abbrev type_of : StackMapFrame → ℕ
type_of (SameFrame frame_type) = frame_type
type_of (SameLocalsOneStackItem frame_type item) = frame_type
type_of (SameLocalsOneStackItemExtended offset_delta item) = 247
type_of (ChopFrame frame_type offset_delta) = frame_type
type_of (SameFrameExtended offset_delta) = 251
type_of (AppendFrame frame_type offset_delta locals) = frame_type
type_of (FullFrame offset_delta locals stack) = 255

abbrev behind_type : StackMapFrame → List ℕ
behind_type (SameFrame frame_type) = []
behind_type (SameLocalsOneStackItem frame_type item) = verification_type_info item
behind_type
    (SameLocalsOneStackItemExtended offset_delta item) = to_be_bytes w16 offset_delta ++ verification_type_info item
behind_type (ChopFrame frame_type offset_delta) = to_be_bytes w16 offset_delta
behind_type (SameFrameExtended offset_delta) = to_be_bytes w16 offset_delta
behind_type
    (AppendFrame frame_type offset_delta locals) = to_be_bytes w16 offset_delta
    ++ flat_map verification_type_info locals
behind_type (FullFrame offset_delta locals stack) = to_be_bytes w16 offset_delta ++
    (counted_types locals ++ counted_types stack)

-- the form of a frame_type
abbrev Form : ℕ → StackMapFrame → Type 0
Form t row =
    cond (leb t 63) (row ≡ SameFrame t)
    (cond (leb t 127) ((item : VerificationTypeInfo) × (row ≡ SameLocalsOneStackItem t item) × FitsType item)
    (cond (leb t 246) ⊥
    (cond (eqb t 247) ((delta : ℕ) × (item : VerificationTypeInfo) × (row ≡ SameLocalsOneStackItemExtended delta item)
    × (delta < 2 ^ 16) × FitsType item)
    (cond (leb t 250) ((delta : ℕ) × (row ≡ ChopFrame t delta) × (delta < 2 ^ 16))
    (cond (eqb t 251) ((delta : ℕ) × (row ≡ SameFrameExtended delta) × (delta < 2 ^ 16))
    (cond (leb t 254) ((delta : ℕ) × (locals : List VerificationTypeInfo) × (row ≡ AppendFrame t delta locals)
    × (delta < 2 ^ 16) × (length locals ≡ t - 251) × FitTypes locals)
    ((delta : ℕ) × (locals : List VerificationTypeInfo) × (stack : List VerificationTypeInfo)
    × (row ≡ FullFrame delta locals stack) × (delta < 2 ^ 16) × (length locals < 2 ^ 16) × FitTypes locals
    × (length stack < 2 ^ 16) × FitTypes stack)))))))

above : (t n : ℕ) → n < t → leb t n ≡ false
above t n h = lt-leb t n h

unlike : (t n : ℕ) → n < t → eqb t n ≡ false
unlike t n h = ne_eqb t n (λ e. absurd (omega (arith, e, h)))

-- a row has the form of its frame_type
by_its_type : (row : StackMapFrame) → FitsRow row → Form (type_of row) row
by_its_type (SameFrame t) h = rw (le-leb t 63 h) refl
by_its_type (SameLocalsOneStackItem t item) h = rw (above t 63 (omega (arith, h.0)), le-leb t 127 h.1) (item, refl, h.2)
by_its_type (SameLocalsOneStackItemExtended delta item) h = (delta, item, refl, h.0, h.1)
by_its_type (ChopFrame t delta) h =
    let no : eqb t 247 ≡ false = unlike t 247 (omega (arith, h.0)) in
    rw (
      above t 63 (omega (arith, h.0)),
      above t 127 (omega (arith, h.0)),
      above t 246
          (omega (arith, h.0)),
      no,
      le-leb t 250 h.1,
    ) (delta, refl, h.2)
by_its_type (SameFrameExtended delta) h = (delta, refl, h)
by_its_type (AppendFrame t delta locals) h =
    let no : eqb t 247 ≡ false = unlike t 247 (omega (arith, h.0)) in
    let none : eqb t 251 ≡ false = unlike t 251 (omega (arith, h.0)) in
    rw (
      above t 63 (omega (arith, h.0)),
      above t 127 (omega (arith, h.0)),
      above t 246
          (omega (arith, h.0)),
      no,
      above t 250 (omega (arith, h.0)),
      none,
      le-leb t 254 h.1,
    )
    (delta, locals, refl, h.2, h.3, h.4)
by_its_type (FullFrame delta locals stack) h = (delta, locals, stack, refl, h.0, h.1, h.2, h.3, h.4)

-- a row of a frame_type
abbrev OfType : ℕ → StackMapFrame → StackMapFrame → Type 0
OfType t row y = (type_of row ≡ t) × FitsRow row × (y ≡ row)

form_of : (t : ℕ) (row y : StackMapFrame) → OfType t row y → Form t row
form_of t row y h = subst (λ (k : ℕ). Form k row) h.0 (by_its_type row h.1)

-- the numbers and types of a row
abbrev delta_of : StackMapFrame → ℕ
delta_of (SameLocalsOneStackItemExtended delta item) = delta
delta_of (ChopFrame t delta) = delta
delta_of (SameFrameExtended delta) = delta
delta_of (AppendFrame t delta locals) = delta
delta_of (FullFrame delta locals stack) = delta
delta_of _ = 0

abbrev item_of : StackMapFrame → VerificationTypeInfo
item_of (SameLocalsOneStackItem t item) = item
item_of (SameLocalsOneStackItemExtended delta item) = item
item_of _ = TagInfo 0

abbrev locals_of : StackMapFrame → List VerificationTypeInfo
locals_of (AppendFrame t delta locals) = locals
locals_of (FullFrame delta locals stack) = locals
locals_of _ = []

abbrev stack_of : StackMapFrame → List VerificationTypeInfo
stack_of (FullFrame delta locals stack) = stack
stack_of _ = []

-- a reader of the rows of a frame_type
abbrev Reads : ℕ → FormatReader StackMapFrame → Type 0
Reads t r = Exact r (Spells behind_type (λ _ row y. OfType t row y))

same_reads : (t : ℕ) → leb t 63 ≡ true → Reads t (give (SameFrame t))
same_reads t e = as_raw behind_type _ (λ u. SameFrame t) (λ row. tt)
    (λ at u y h. (refl, (refl, leb-true t 63 e, h)))
    (λ at row y h. let f : row ≡ SameFrame t = rw e at (form_of t row y h) in (ap behind_type f, h.2 ∙ f))
    (give_exact (SameFrame t))

one_item_reads : (t : ℕ) → leb t 63 ≡ false → leb t 127 ≡ true → Reads t (one_item t)
one_item_reads t a b = as_raw behind_type _ (λ info. SameLocalsOneStackItem t info) item_of
    (λ at w y h. (
      refl,
      (
        refl,
        (let k : 63 < t = leb-false t 63 a in omega (arith, k), leb-true t 127 b, h.1.0),
        h.2
            ∙ ap (λ (i : VerificationTypeInfo). SameLocalsOneStackItem t i) h.1.1,
      ),
    ))
    (λ at row y h.
    let f = rw (a, b) at (form_of t row y h) in
    let is : item_of row ≡ f.0 = ap item_of f.1 in (
      ap behind_type f.1 ∙ ap verification_type_info (sym is),
      (
        item_of row,
        (subst (λ (i : VerificationTypeInfo). FitsType i) (sym is) f.2, refl),
        h.2 ∙ f.1
            ∙ ap (λ (i : VerificationTypeInfo). SameLocalsOneStackItem t i) (sym is),
      ),
    ))
    (map_exact (λ item. SameLocalsOneStackItem t item) type_exact)

-- a delta, and then more
abbrev WithDelta : {S B : Type 0} → (ℕ → S → B → Type 0) → ℕ × S → B → Type 0
WithDelta n v y = (v.0 < 2 ^ 16) × n v.0 v.1 y

delta_then : {S B : Type 0} (f : ℕ → FormatReader B) (t : S → List ℕ) (n : ℕ → S → B → Type 0)
    → ((delta : ℕ) → Exact (f delta) (Spells t (λ _ w y. n delta w y)))
    → Exact (bind u2 f) (Spells (λ (v : ℕ × S). to_be_bytes w16 v.0 ++ t v.1) (λ _ v y. WithDelta n v y))
delta_then f t n e = as_raw _ _ (λ v. v) (λ v. v)
    (λ at v y h. (refl, (h.1.0, subst (λ (k : ℕ). n k v.1 y) h.1.1 h.2)))
    (λ at v y h. (refl, (v.0, (h.0, refl), h.1)))
    (bind_exact f t (λ delta _ w y. n delta w y) u2_exact e)

extended_reads : Reads 247 one_item_extended
extended_reads = as_raw behind_type _ (λ v. SameLocalsOneStackItemExtended v.0 v.1) (λ row. (delta_of row, item_of row))
    (λ at v y h. (
      refl,
      (
        refl,
        (h.0, h.1.1.0),
        h.1.2
            ∙ ap (λ (i : VerificationTypeInfo). SameLocalsOneStackItemExtended v.0 i) h.1.1.1,
      ),
    ))
    (λ at row y h.
    let f = form_of 247 row y h in
    let d : delta_of row ≡ f.0 = ap delta_of f.2 in
    let i : item_of row ≡ f.1 = ap item_of f.2 in (
      ap behind_type f.2 ∙ ap (λ (k : ℕ). to_be_bytes w16 k ++ verification_type_info f.1) (sym d)
          ∙ ap (λ (t : VerificationTypeInfo). to_be_bytes w16 (delta_of row) ++ verification_type_info t) (sym i),
      (
        subst (λ (k : ℕ). k < 2 ^ 16) (sym d) f.3,
        (
          item_of row,
          (subst (λ (t : VerificationTypeInfo). FitsType t) (sym i) f.4, refl),
          h.2 ∙ f.2 ∙ ap (λ (k : ℕ). SameLocalsOneStackItemExtended k f.1) (sym d)
              ∙ ap (λ (t : VerificationTypeInfo). SameLocalsOneStackItemExtended (delta_of row) t) (sym i),
        ),
      ),
    ))
    (delta_then
    (λ delta. bind read_type (λ item. give (SameLocalsOneStackItemExtended delta item))) verification_type_info
    (λ delta info y. (x : VerificationTypeInfo) × (FitsType info × (x ≡ info))
    × (y ≡ SameLocalsOneStackItemExtended delta x))
    (λ delta. map_exact (λ item. SameLocalsOneStackItemExtended delta item) type_exact))

chop_reads : (t : ℕ) → leb t 63 ≡ false → leb t 127 ≡ false → leb t 246 ≡ false → eqb t 247 ≡ false → leb t 250 ≡ true
    → Reads t (chop t)
chop_reads t a b c d e = as_raw behind_type _ (λ w. ChopFrame t w) delta_of
    (λ at w y h. (
      refl,
      (
        refl,
        (
          let k : 246 < t = leb-false t 246 c in let n : t ≡ 247
              → ⊥ = eqb-false t 247 d in grind arith,
          leb-true t 250 e,
          h.1.0,
        ),
        h.2 ∙ ap (λ (i : ℕ). ChopFrame t i) h.1.1,
      ),
    ))
    (λ at row y h.
    let f = rw (a, b, c, d, e) at (form_of t row y h) in
    let is : delta_of row ≡ f.0 = ap delta_of f.1 in (
      ap behind_type f.1 ∙ ap (to_be_bytes w16) (sym is),
      (
        delta_of row,
        (subst (λ (k : ℕ). k < 2 ^ 16) (sym is) f.2, refl),
        h.2 ∙ f.1 ∙ ap (λ (i : ℕ). ChopFrame t i) (sym is),
      ),
    ))
    (map_exact (λ delta. ChopFrame t delta) u2_exact)

same_extended_reads : Reads 251 same_extended
same_extended_reads = as_raw behind_type _ (λ w. SameFrameExtended w) delta_of
    (λ at w y h. (refl, (refl, h.1.0, h.2 ∙ ap SameFrameExtended h.1.1)))
    (λ at row y h.
    let f = form_of 251 row y h in
    let is : delta_of row ≡ f.0 = ap delta_of f.1 in (
      ap behind_type f.1 ∙ ap (to_be_bytes w16) (sym is),
      (
        delta_of row,
        (subst (λ (k : ℕ). k < 2 ^ 16) (sym is) f.2, refl),
        h.2 ∙ f.1 ∙ ap SameFrameExtended (sym is),
      ),
    ))
    (map_exact (λ delta. SameFrameExtended delta) u2_exact)

append_reads : (t : ℕ) → leb t 63 ≡ false → leb t 127 ≡ false → leb t 246 ≡ false → eqb t 247 ≡ false
    → leb t 250 ≡ false → eqb t 251 ≡ false → leb t 254 ≡ true → Reads t (append t)
append_reads t a b c d e g k = as_raw behind_type _ (λ v. AppendFrame t v.0 v.1) (λ row. (delta_of row, locals_of row))
    (λ at v y h. (
      refl,
      (
        refl,
        (
          let m : 250 < t = leb-false t 250 e in let n : t ≡ 251
              → ⊥ = eqb-false t 251 g in grind arith,
          leb-true t 254 k,
          h.0,
          h.1.1.0.0,
          h.1.1.0.1,
        ),
        h.1.2
            ∙ ap (λ (l : List VerificationTypeInfo). AppendFrame t v.0 l) h.1.1.1,
      ),
    ))
    (λ at row y h.
    let f = rw (a, b, c, d, e, g, k) at (form_of t row y h) in
    let di : delta_of row ≡ f.0 = ap delta_of f.2 in
    let li : locals_of row ≡ f.1 = ap locals_of f.2 in (
      ap behind_type f.2 ∙ ap (λ (n : ℕ). to_be_bytes w16 n ++ flat_map verification_type_info f.1) (sym di)
          ∙ ap (λ (l : List VerificationTypeInfo). to_be_bytes w16 (delta_of row) ++ flat_map verification_type_info l)
          (sym li),
      (
        subst (λ (n : ℕ). n < 2 ^ 16) (sym di) f.3,
        (
          locals_of row,
          (
            (
              subst (λ (l : List VerificationTypeInfo). length l ≡ t - 251) (sym li) f.4,
              subst
                  (λ (l : List VerificationTypeInfo). FitTypes l) (sym li) f.5,
            ),
            refl,
          ),
          h.2 ∙ f.2 ∙ ap (λ (n : ℕ). AppendFrame t n f.1) (sym di)
              ∙ ap (λ (l : List VerificationTypeInfo). AppendFrame t (delta_of row) l) (sym li),
        ),
      ),
    ))
    (delta_then (λ delta. bind (many (t - 251) read_type) (λ locals. give (AppendFrame t delta locals)))
    (flat_map verification_type_info)
    (λ delta infos y. (x : List VerificationTypeInfo) × (((length infos ≡ t - 251) × FitTypes infos) × (x ≡ infos))
    × (y ≡ AppendFrame t delta x))
    (λ delta. map_exact (λ locals. AppendFrame t delta locals) (types_exact (t - 251))))

-- the stack behind the locals of a full_frame
stack_reads : (delta : ℕ) (locals : List VerificationTypeInfo)
    → Exact (bind u2 (λ m. bind (many m read_type) (λ stack. give (FullFrame delta locals stack))))
    (Spells counted_types (λ _ stack y. ((length stack < 2 ^ 16) × FitTypes stack)
    × (y ≡ FullFrame delta locals stack)))
stack_reads delta locals = as_raw counted_types _ (λ w. w.1) (λ stack. (length stack, stack))
    (λ at w y h.
    let n : length w.1 ≡ w.0 = h.2.1.0.0 ∙ h.1.1 in (
      ap (λ (m : ℕ). to_be_bytes w16 m ++ flat_map verification_type_info w.1) (sym n),
      (
        (subst (λ (m : ℕ). m < 2 ^ 16) (sym n) h.1.0, h.2.1.0.1),
        h.2.2
            ∙ ap (λ (s : List VerificationTypeInfo). FullFrame delta locals s) h.2.1.1,
      ),
    ))
    (λ at stack y h. (refl, (length stack, (h.0.0, refl), (stack, ((refl, h.0.1), refl), h.1))))
    (bind_exact (λ m. bind (many m read_type) (λ stack. give (FullFrame delta locals stack)))
    (flat_map verification_type_info)
    (λ m _ stack y. (x : List VerificationTypeInfo) × (((length stack ≡ m) × FitTypes stack) × (x ≡ stack))
    × (y ≡ FullFrame delta locals x)) u2_exact
    (λ m. map_exact (λ stack. FullFrame delta locals stack) (types_exact m)))

-- the locals of a full_frame, and its stack behind them
locals_reads : (delta : ℕ)
    → Exact (bind u2 (λ n. bind (many n read_type) (λ locals. bind u2
    (λ m. bind (many m read_type) (λ stack. give (FullFrame delta locals stack))))))
    (Spells (λ (v : List VerificationTypeInfo × List VerificationTypeInfo). counted_types v.0 ++ counted_types v.1)
    (λ _ v y. ((length v.0 < 2 ^ 16) × FitTypes v.0)
    × (((length v.1 < 2 ^ 16) × FitTypes v.1) × (y ≡ FullFrame delta v.0 v.1))))
locals_reads delta = as_raw _ _ (λ w. (w.1.0, w.1.1)) (λ v. (length v.0, (v.0, v.1)))
    (λ at w y h.
    let n : length w.1.0 ≡ w.0 = h.2.1.0.0 ∙ h.1.1 in (
      sym (append_assoc (to_be_bytes w16 w.0) (flat_map verification_type_info w.1.0) (counted_types w.1.1))
          ∙ ap (λ (m : ℕ). (to_be_bytes w16 m ++ flat_map verification_type_info w.1.0) ++ counted_types w.1.1) (sym n),
      (
        (subst (λ (m : ℕ). m < 2 ^ 16) (sym n) h.1.0, h.2.1.0.1),
        (h.2.2.0, h.2.2.1 ∙ ap (λ (l : List VerificationTypeInfo). FullFrame delta l w.1.1) h.2.1.1),
      ),
    ))
    (λ at v y h. (
      append_assoc (to_be_bytes w16 (length v.0)) (flat_map verification_type_info v.0) (counted_types v.1),
      (length v.0, (h.0.0, refl), (v.0, ((refl, h.0.1), refl), h.1)),
    ))
    (bind_exact (λ n. bind (many n read_type) (λ locals. bind u2
    (λ m. bind (many m read_type) (λ stack. give (FullFrame delta locals stack)))))
    (λ (v : List VerificationTypeInfo
    × List VerificationTypeInfo). flat_map verification_type_info v.0 ++ counted_types v.1)
    (λ n _ v y. (x : List VerificationTypeInfo) × (((length v.0 ≡ n) × FitTypes v.0) × (x ≡ v.0))
    × (((length v.1 < 2 ^ 16) × FitTypes v.1) × (y ≡ FullFrame delta x v.1))) u2_exact
    (λ n. bind_exact (λ locals. bind u2 (λ m. bind (many m read_type)
    (λ stack. give (FullFrame delta locals stack)))) counted_types
    (λ locals _ stack y. ((length stack < 2 ^ 16) × FitTypes stack) × (y ≡ FullFrame delta locals stack))
    (types_exact n) (λ locals. stack_reads delta locals)))

-- with the numbers and types of a row that is full
full_is : (row : StackMapFrame) (delta : ℕ) (locals stack : List VerificationTypeInfo)
    → row ≡ FullFrame delta locals stack → row ≡ FullFrame (delta_of row) (locals_of row) (stack_of row)
full_is row delta locals stack is = is
    ∙ sym (ap (λ (r : StackMapFrame). FullFrame (delta_of r) (locals_of r) (stack_of r)) is)

full_reads : (t : ℕ) → t ≡ 255 → leb t 63 ≡ false → leb t 127 ≡ false → leb t 246 ≡ false → eqb t 247 ≡ false
    → leb t 250 ≡ false → eqb t 251 ≡ false → leb t 254 ≡ false → Reads t full
full_reads t last a b c d e g k = as_raw behind_type _ (λ v. FullFrame v.0 v.1.0 v.1.1)
    (λ row. (delta_of row, (locals_of row, stack_of row)))
    (λ at v y h. (refl, (sym last, (h.0, h.1.0.0, h.1.0.1, h.1.1.0.0, h.1.1.0.1), h.1.1.1)))
    (λ at row y h.
    let f = rw (a, b, c, d, e, g, k) at (form_of t row y h) in
    let whole = full_is row f.0 f.1 f.2 f.3 in
    let fits : FitsRow (FullFrame (delta_of row) (locals_of row) (stack_of row)) = subst
    (λ (r : StackMapFrame). FitsRow r) whole h.1 in
    (ap behind_type whole, (fits.0, ((fits.1, fits.2), ((fits.3, fits.4), h.2 ∙ whole)))))
    (delta_then (λ delta. bind u2 (λ n. bind (many n read_type)
    (λ locals. bind u2 (λ m. bind (many m read_type) (λ stack. give (FullFrame delta locals stack))))))
    (λ (v : List VerificationTypeInfo × List VerificationTypeInfo). counted_types v.0 ++ counted_types v.1)
    (λ delta v y. ((length v.0 < 2 ^ 16) × FitTypes v.0)
    × (((length v.1 < 2 ^ 16) × FitTypes v.1) × (y ≡ FullFrame delta v.0 v.1))) locals_reads)

-- what a frame_type leads to
row_leads : (t : ℕ) → t < 256 → Leads (row_begun t) (Spells behind_type (λ _ row y. OfType t row y))
row_leads t below =
    let g = Spells behind_type (λ _ row y. OfType t row y) in
    leads_if _ _ g (leb t 63) (λ a. same_reads t a) (λ a.
    leads_if _ _ g (leb t 127) (λ b. one_item_reads t a b) (λ b.
    leads_if _ _ g (leb t 246) (λ c at u y h. (rw (a, b, c) at (form_of t h.0 y h.2))) (λ c.
    leads_if _ _ g (eqb t 247)
    (λ d. subst (λ (n : ℕ). Reads n one_item_extended) (sym (eqb-true t 247 d)) extended_reads) (λ d.
    leads_if _ _ g (leb t 250) (λ e. chop_reads t a b c d e) (λ e.
    leads_if _ _ g (eqb t 251)
    (λ m. subst (λ (n : ℕ). Reads n same_extended) (sym (eqb-true t 251 m)) same_extended_reads) (λ m.
    leads_if _ _ g (leb t 254) (λ k. append_reads t a b c d e m k)
    (λ k. full_reads t (let n : 254 < t = leb-false t 254 k in omega (arith, n, below)) a b c d e m k)))))))

behind_is : (row : StackMapFrame) → stack_map_frame row ≡ type_of row ∷ behind_type row
behind_is (SameFrame t) = refl
behind_is (SameLocalsOneStackItem t item) = refl
behind_is (SameLocalsOneStackItemExtended delta item) = refl
behind_is (ChopFrame t delta) = refl
behind_is (SameFrameExtended delta) = refl
behind_is (AppendFrame t delta locals) = refl
behind_is (FullFrame delta locals stack) = refl

type_below : (row : StackMapFrame) → FitsRow row → type_of row < 256
type_below (SameFrame t) h = omega (arith, h)
type_below (SameLocalsOneStackItem t item) h = omega (arith, h.1)
type_below (SameLocalsOneStackItemExtended delta item) h = omega arith
type_below (ChopFrame t delta) h = omega (arith, h.1)
type_below (SameFrameExtended delta) h = omega arith
type_below (AppendFrame t delta locals) h = omega (arith, h.1)
type_below (FullFrame delta locals stack) h = omega arith

-- a row behind its frame_type
form_exact : Exact (lead u1 row_begun) (Spells stack_map_frame (λ _ row y. FitsRow row × (y ≡ row)))
form_exact = as_raw stack_map_frame _ (λ w. w.1) (λ row. (type_of row, row))
    (λ at w y h.
    let below = type_below w.1 h.2.1 in (
      ap (λ (k : ℕ). to_be_bytes w8 k ++ behind_type w.1) (sym h.1.1 ∙ sym h.2.0)
          ∙ one_byte (type_of w.1) below (behind_type w.1) ∙ sym (behind_is w.1),
      (h.2.1, h.2.2),
    ))
    (λ at row y h.
    let below = type_below row h.0 in (
      behind_is row ∙ sym (one_byte (type_of row) below (behind_type row)),
      (type_of row, (below, refl), (refl, h.0, h.1)),
    ))
    (lead_exact_of row_begun behind_type (λ t _ row y. OfType t row y) u1_exact
    (λ at w x h. row_leads x (subst (λ (k : ℕ). k < 256) (sym h.1) h.0)))

row_ok : (at : ℕ) (r : Result (StackMapFrame × Place) FormatFault) (y : StackMapFrame × Place) → at_row at r ≡ Ok y
    → r ≡ Ok y
row_ok at (Ok x) y h = h
row_ok at (Err f) y h = absurd cc

-- a row is read exactly where it is spelled
pub row_exact : Exact read_row (Spells stack_map_frame (λ _ row y. FitsRow row × (y ≡ row)))
unfolding read_row
row_exact = record {
  found = λ p x q fits h. form_exact.found p x q fits (row_ok p.at (lead u1 row_begun p) (x, q) h);
  only = λ p text x q h k. ap (at_row p.at) (form_exact.only p text x q h k);
}
