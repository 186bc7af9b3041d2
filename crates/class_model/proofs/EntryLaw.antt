-- An entry of the constant pool is read exactly where it is spelled (JVMS 4.4).
use Rattle.std.proofs.Common.{◌≡◌, ℕ, ◌^◌, ◌<◌, Bool, true, false, cond, not, ◌&&◌, ◌||◌, eqb, List, [], ◌∷◌, ◌++◌}
use Rattle.std.proofs.Common.{length, Option, Some, None, Result, Ok, Err, refl, sym, ap, subst, ◌∙◌, arith}
use Rattle.std.specs.Prelude.{IsTrue, if◌then◌else◌}
use Rattle.std.specs.Int.{w8, w16, w32, to_be_bytes, cast_signed}
use Rattle.std.proofs.lemmas.Bool.{eqb-true, ne_eqb}
use Rattle.jv_base.specs.Mutf8.{mutf8, IsUnits}
use Rattle.jv_base.specs.Decoding.{read_mutf8}
use Rattle.jv_base.specs.declared.mutf8.BadUtf8.{BadUtf8}
use Rattle.jv_base.proofs.Coding.{read_mutf8-found, read_mutf8-only}
use Rattle.format_reading.specs.declared.fault.FormatKind.{FormatKind}
use Rattle.format_reading.specs.declared.fault.FormatKind.TheVariants as bad
use Rattle.format_reading.specs.Reader.{FormatReader, u2, u4, bytes, item, bind, give}
use Rattle.format_reading.specs.Spelling.{Spells}
use Rattle.format_reading.proofs.Exact.{Exact, Leads, as_raw, lead_exact, item_exact, bind_exact, map_exact, leads_if}
use Rattle.format_reading.proofs.Exact.{u1_exact, u2_exact, u4_exact, bytes_exact}
use Rattle.class_model.specs.declared.pool.Entry.{Entry}
use Rattle.class_model.specs.declared.pool.Entry.TheVariants as entry
use Rattle.class_model.specs.ConstantPool.{CpInfo, Utf8Info, IntegerInfo, LongInfo, ClassInfo, StringInfo, FieldrefInfo}
use Rattle.class_model.specs.ConstantPool.{MethodrefInfo, InterfaceMethodrefInfo, NameAndTypeInfo, LeftOutInfo, tag_of}
use Rattle.class_model.specs.ConstantPool.{contents_of, cp_info, left_out_length, AreIndices, long_of, IsConstant}
use Rattle.class_model.specs.ConstantPool.{takes_two}
use Rattle.class_model.specs.Lookups.{due, value_of}
use Rattle.class_model.specs.ReadingPool.{utf8, integer, long, one_index, two_indices, passed_over, left_out}
use Rattle.class_model.specs.ReadingPool.{has_no_room, tagged, read_entry}

-- ---- what a constant of a tag is

-- two indices, and the entry that they make
abbrev Two : (ℕ → ℕ → CpInfo) → (ℕ → ℕ → Entry) → CpInfo → Entry → Type 0
Two info make c e = (i : ℕ) × (j : ℕ) × (c ≡ info i j) × AreIndices i j × (e ≡ make i j)

-- one index, and the entry that it makes
abbrev One : (ℕ → CpInfo) → (ℕ → Entry) → CpInfo → Entry → Type 0
One info make c e = (i : ℕ) × (c ≡ info i) × (i < 2 ^ 16) × (e ≡ make i)

-- a text, and its units
abbrev OfText : CpInfo → Entry → Type 0
OfText c e = (text : List ℕ) × (units : List ℕ) × (c ≡ Utf8Info text) × (length text < 2 ^ 16) × IsUnits units
    × (text ≡ mutf8 units) × (e ≡ entry.Utf8 units)

-- four bytes
abbrev OfInteger : CpInfo → Entry → Type 0
OfInteger c e = (n : ℕ) × (c ≡ IntegerInfo n) × (n < 2 ^ 32) × (e ≡ entry.Integer (cast_signed w32 n))

-- twice four bytes
abbrev OfLong : CpInfo → Entry → Type 0
OfLong c e = (high : ℕ) × (low : ℕ) × (c ≡ LongInfo high low) × (high < 2 ^ 32) × (low < 2 ^ 32)
    × (e ≡ entry.Long (long_of high low))

-- bytes that are passed over
abbrev OfLeftOut : ℕ → CpInfo → Entry → Type 0
OfLeftOut tag c e = (text : List ℕ) × (c ≡ LeftOutInfo tag text) × (left_out_length tag ≡ Some (length text))
    × (e ≡ entry.LeftOut tag)

-- the constants of a tag with their entries
abbrev OfTag : ℕ → CpInfo → Entry → Type 0
OfTag tag c e =
    cond (eqb tag 1) (OfText c e)
    (cond (eqb tag 3) (OfInteger c e)
    (cond (eqb tag 5) (OfLong c e)
    (cond (eqb tag 7) (One (λ i. ClassInfo i) (λ i. entry.Class i) c e)
    (cond (eqb tag 8) (One (λ i. StringInfo i) (λ i. entry.Str i) c e)
    (cond (eqb tag 9) (Two (λ i j. FieldrefInfo i j) (λ i j. entry.Field i j) c e)
    (cond (eqb tag 10) (Two (λ i j. MethodrefInfo i j) (λ i j. entry.Method i j) c e)
    (cond (eqb tag 11) (Two (λ i j. InterfaceMethodrefInfo i j) (λ i j. entry.InterfaceMethod i j) c e)
    (cond (eqb tag 12) (Two (λ i j. NameAndTypeInfo i j) (λ i j. entry.NameAndType i j) c e)
    (OfLeftOut tag c e)))))))))

-- a constant that is left out has no other constant's tag
other_tag : (k tag n : ℕ) → left_out_length k ≡ None → left_out_length tag ≡ Some n → eqb tag k ≡ false
other_tag k tag n none some = ne_eqb tag k
    (λ e. let h : None ≡ Some n = sym none ∙ ap left_out_length (sym e) ∙ some in cc)

-- a constant is one of those of its tag
by_its_tag : (c : CpInfo) (e : Entry) → IsConstant c e → OfTag (tag_of c) c e
by_its_tag (Utf8Info text) e h = (text, h.1, refl, h.0, h.2, h.3, h.4)
by_its_tag (IntegerInfo n) e h = (n, refl, h.0, h.1)
by_its_tag (LongInfo high low) e h = (high, low, refl, h.0, h.1, h.2)
by_its_tag (ClassInfo i) e h = (i, refl, h.0, h.1)
by_its_tag (StringInfo i) e h = (i, refl, h.0, h.1)
by_its_tag (FieldrefInfo i j) e h = (i, j, refl, h.0, h.1)
by_its_tag (MethodrefInfo i j) e h = (i, j, refl, h.0, h.1)
by_its_tag (InterfaceMethodrefInfo i j) e h = (i, j, refl, h.0, h.1)
by_its_tag (NameAndTypeInfo i j) e h = (i, j, refl, h.0, h.1)
by_its_tag (LeftOutInfo tag text) e h =
    let no = λ (k : ℕ) (none : left_out_length k ≡ None). other_tag k tag (length text) none h.0 in
    let is : OfLeftOut tag (LeftOutInfo tag text) e = (text, refl, h.0, h.1) in
    rw (no 1 refl, no 3 refl, no 5 refl, no 7 refl, no 8 refl, no 9 refl, no 10 refl, no 11 refl, no 12 refl) is

-- a constant of a tag
abbrev Behind : ℕ → CpInfo → Entry → Type 0
Behind tag c e = (tag_of c ≡ tag) × IsConstant c e

of_tag : (tag : ℕ) (c : CpInfo) (e : Entry) → Behind tag c e → OfTag tag c e
of_tag tag c e h = subst (λ (k : ℕ). OfTag k c e) h.0 (by_its_tag c e h.1)

-- ---- what each tag leads to

-- a reader that takes the constants of a tag
abbrev Takes : ℕ → FormatReader Entry → Type 0
Takes tag r = Exact r (Spells contents_of (λ _ c e. Behind tag c e))

-- the first index of a constant
abbrev first_of : CpInfo → ℕ
first_of (IntegerInfo n) = n
first_of (LongInfo high low) = high
first_of (ClassInfo i) = i
first_of (StringInfo i) = i
first_of (FieldrefInfo i j) = i
first_of (MethodrefInfo i j) = i
first_of (InterfaceMethodrefInfo i j) = i
first_of (NameAndTypeInfo i j) = i
first_of _ = 0

-- the second index of a constant
abbrev second_of : CpInfo → ℕ
second_of (LongInfo high low) = low
second_of (FieldrefInfo i j) = j
second_of (MethodrefInfo i j) = j
second_of (InterfaceMethodrefInfo i j) = j
second_of (NameAndTypeInfo i j) = j
second_of _ = 0

-- the bytes of a constant
abbrev bytes_of : CpInfo → List ℕ
bytes_of (Utf8Info text) = text
bytes_of (LeftOutInfo tag text) = text
bytes_of _ = []

-- a constant of one index
one_takes : (tag : ℕ) (info : ℕ → CpInfo) (make : ℕ → Entry)
    → ((i : ℕ) → i < 2 ^ 16 → (to_be_bytes w16 i ≡ contents_of (info i)) × Behind tag (info i) (make i)
    × (first_of (info i) ≡ i))
    → ((c : CpInfo) (e : Entry) → Behind tag c e → One info make c e) → Takes tag (one_index make)
one_takes tag info make there back = as_raw contents_of _ info first_of
    (λ at w y h.
    let t = there w h.1.0 in
    (t.0, subst (λ (e : Entry). Behind tag (info w) e) (sym (h.2 ∙ ap make h.1.1)) t.1))
    (λ at c y h.
    let b = back c y h in
    let t = there b.0 b.2 in
    let first : first_of c ≡ b.0 = ap first_of b.1 ∙ t.2 in (
      ap contents_of b.1 ∙ sym t.0
          ∙ ap (to_be_bytes w16) (sym first),
      (b.0, (subst (λ (k : ℕ). k < 2 ^ 16) (sym first) b.2, sym first), b.3),
    ))
    (map_exact make u2_exact)

-- a constant of two indices
two_takes : (tag : ℕ) (info : ℕ → ℕ → CpInfo) (make : ℕ → ℕ → Entry)
    → ((i j : ℕ) → AreIndices i j
    → (to_be_bytes w16 i ++ to_be_bytes w16 j ≡ contents_of (info i j)) × Behind tag (info i j) (make i j)
    × (first_of (info i j) ≡ i) × (second_of (info i j) ≡ j))
    → ((c : CpInfo) (e : Entry) → Behind tag c e → Two info make c e) → Takes tag (two_indices make)
two_takes tag info make there back = as_raw contents_of _ (λ w. info w.0 w.1) (λ c. (first_of c, second_of c))
    (λ at w y h.
    let t = there w.0 w.1 (h.1.0, h.2.1.0) in (
      t.0,
      subst (λ (e : Entry). Behind tag (info w.0 w.1) e)
          (sym (h.2.2 ∙ ap (make h.0) h.2.1.1 ∙ ap (λ (i : ℕ). make i w.1) h.1.1)) t.1,
    ))
    (λ at c y h.
    let b = back c y h in
    let t = there b.0 b.1 b.3 in
    let first : first_of c ≡ b.0 = ap first_of b.2 ∙ t.2 in
    let second : second_of c ≡ b.1 = ap second_of b.2 ∙ t.3 in (
      ap contents_of b.2 ∙ sym t.0 ∙ ap (λ (i : ℕ). to_be_bytes w16 i ++ to_be_bytes w16 b.1) (sym first)
          ∙ ap (λ (j : ℕ). to_be_bytes w16 (first_of c) ++ to_be_bytes w16 j) (sym second),
      (
        b.0,
        (subst (λ (k : ℕ). k < 2 ^ 16) (sym first) b.3.0, sym first),
        (b.1, (subst (λ (k : ℕ). k < 2 ^ 16) (sym second) b.3.1, sym second), b.4),
      ),
    ))
    (bind_exact (λ i. bind u2 (λ j. give (make i j))) (to_be_bytes w16)
    (λ i _ w y. (x : ℕ) × ((w < 2 ^ 16) × (x ≡ w)) × (y ≡ make i x)) u2_exact (λ i. map_exact (make i) u2_exact))

class_takes : Takes 7 (one_index (λ i. entry.Class i))
class_takes = one_takes 7 (λ i. ClassInfo i) (λ i. entry.Class i) (λ i lt. (refl, (refl, (lt, refl)), refl))
    (λ c e h. of_tag 7 c e h)

string_takes : Takes 8 (one_index (λ i. entry.Str i))
string_takes = one_takes 8 (λ i. StringInfo i) (λ i. entry.Str i) (λ i lt. (refl, (refl, (lt, refl)), refl))
    (λ c e h. of_tag 8 c e h)

fieldref_takes : Takes 9 (two_indices (λ i j. entry.Field i j))
fieldref_takes = two_takes 9 (λ i j. FieldrefInfo i j) (λ i j. entry.Field i j)
    (λ i j fit. (refl, (refl, (fit, refl)), refl, refl)) (λ c e h. of_tag 9 c e h)

methodref_takes : Takes 10 (two_indices (λ i j. entry.Method i j))
methodref_takes = two_takes 10 (λ i j. MethodrefInfo i j) (λ i j. entry.Method i j)
    (λ i j fit. (refl, (refl, (fit, refl)), refl, refl)) (λ c e h. of_tag 10 c e h)

interface_methodref_takes : Takes 11 (two_indices (λ i j. entry.InterfaceMethod i j))
interface_methodref_takes = two_takes 11 (λ i j. InterfaceMethodrefInfo i j) (λ i j. entry.InterfaceMethod i j)
    (λ i j fit. (refl, (refl, (fit, refl)), refl, refl)) (λ c e h. of_tag 11 c e h)

name_and_type_takes : Takes 12 (two_indices (λ i j. entry.NameAndType i j))
name_and_type_takes = two_takes 12 (λ i j. NameAndTypeInfo i j) (λ i j. entry.NameAndType i j)
    (λ i j fit. (refl, (refl, (fit, refl)), refl, refl)) (λ c e h. of_tag 12 c e h)

integer_takes : Takes 3 integer
integer_takes = as_raw contents_of _ (λ n. IntegerInfo n) first_of
    (λ at w y h. (refl, (refl, (h.1.0, h.2 ∙ ap (λ (n : ℕ). entry.Integer (cast_signed w32 n)) h.1.1))))
    (λ at c y h.
    let b = of_tag 3 c y h in
    let first : first_of c ≡ b.0 = ap first_of b.1 in (
      ap contents_of b.1 ∙ ap (to_be_bytes w32) (sym first),
      (
        b.0,
        (subst (λ (k : ℕ). k < 2 ^ 32) (sym first) b.2, sym first),
        b.3,
      ),
    ))
    (map_exact (λ n. entry.Integer (cast_signed w32 n)) u4_exact)

long_takes : Takes 5 long
long_takes = as_raw contents_of _ (λ w. LongInfo w.0 w.1) (λ c. (first_of c, second_of c))
    (λ at w y h. (
      refl,
      (
        refl,
        (
          h.1.0,
          h.2.1.0,
          h.2.2 ∙ ap (λ (n : ℕ). entry.Long (long_of h.0 n)) h.2.1.1
              ∙ ap (λ (n : ℕ). entry.Long (long_of n w.1)) h.1.1,
        ),
      ),
    ))
    (λ at c y h.
    let b = of_tag 5 c y h in
    let first : first_of c ≡ b.0 = ap first_of b.2 in
    let second : second_of c ≡ b.1 = ap second_of b.2 in (
      ap contents_of b.2 ∙ ap (λ (i : ℕ). to_be_bytes w32 i ++ to_be_bytes w32 b.1) (sym first)
          ∙ ap (λ (j : ℕ). to_be_bytes w32 (first_of c) ++ to_be_bytes w32 j) (sym second),
      (
        b.0,
        (subst (λ (k : ℕ). k < 2 ^ 32) (sym first) b.3, sym first),
        (b.1, (subst (λ (k : ℕ). k < 2 ^ 32) (sym second) b.4, sym second), b.5),
      ),
    ))
    (bind_exact (λ high. bind u4 (λ low. give (entry.Long (long_of high low)))) (to_be_bytes w32)
    (λ i _ w y. (x : ℕ) × ((w < 2 ^ 32) × (x ≡ w)) × (y ≡ entry.Long (long_of i x))) u4_exact
    (λ high. map_exact (λ low. entry.Long (long_of high low)) u4_exact))

-- a constant that is left out, of n bytes
passed_takes : (tag n : ℕ) → left_out_length tag ≡ Some n
    → ((c : CpInfo) (e : Entry) → Behind tag c e → OfLeftOut tag c e) → Takes tag (passed_over tag n)
passed_takes tag n known back = as_raw contents_of _ (λ w. LeftOutInfo tag w) bytes_of
    (λ at w y h. (refl, (refl, (known ∙ ap (λ (k : ℕ). Some k) (sym h.1.0), h.2))))
    (λ at c y h.
    let b = back c y h in
    let first : bytes_of c ≡ b.0 = ap bytes_of b.1 in
    let len : n ≡ length b.0 = (let e : Some n ≡ Some (length b.0) = sym known ∙ b.2 in cc) in
    (ap contents_of b.1 ∙ sym first, (b.0, (ap length first ∙ sym len, sym first), b.3)))
    (map_exact (λ skipped. entry.LeftOut tag) (bytes_exact n))

-- a value that had to be there
due_ok : {A X : Type 0} (kind : FormatKind) (r : Result A X) (x : A) → due kind (value_of r) ≡ Ok x → r ≡ Ok x
due_ok kind (Ok y) x h = let e : y ≡ x = cc in ap (λ v. Ok v) e
due_ok kind (Err e) x h = absurd cc

-- the units of a text that is modified UTF-8
abbrev units_in_text : List ℕ → Result (List ℕ) FormatKind
units_in_text text = due bad.BadUtf8 (value_of (read_mutf8 text))

utf8_takes : Takes 1 utf8
utf8_takes = as_raw contents_of _ (λ w. Utf8Info w.1) (λ c. (length (bytes_of c), bytes_of c))
    (λ at w y h.
    let u = h.2.0 in
    let t = h.2.1.0 in
    let len : length w.1 ≡ w.0 = h.2.1.1.0 ∙ h.1.1 in
    let f = read_mutf8-found w.1 u (ap read_mutf8 (sym h.2.1.1.1) ∙ due_ok bad.BadUtf8 (read_mutf8 t) u h.2.1.2) in (
      ap (λ (k : ℕ). to_be_bytes w16 k ++ w.1) (sym len),
      (refl, (subst (λ (k : ℕ). k < 2 ^ 16) (sym len) h.1.0, u, f.0, sym f.1, h.2.2)),
    ))
    (λ at c y h.
    let b = of_tag 1 c y h in
    let is : bytes_of c ≡ b.0 = ap bytes_of b.2 in
    let read : units_in_text (bytes_of c) ≡ Ok b.1 = ap units_in_text is
    ∙ ap (λ (r : Result (List ℕ) BadUtf8). due bad.BadUtf8 (value_of r)) (read_mutf8-only b.0 b.1 (b.4, sym b.5)) in (
      ap contents_of b.2 ∙ ap (λ (t : List ℕ). to_be_bytes w16 (length t) ++ t) (sym is),
      (
        length (bytes_of c),
        (subst (λ (t : List ℕ). length t < 2 ^ 16) (sym is) b.3, refl),
        (b.1, (bytes_of c, (refl, refl), read), b.6),
      ),
    ))
    (bind_exact (λ n. bind (item (bytes n) units_in_text) (λ units. give (entry.Utf8 units))) (λ t. t)
    (λ n _ w y. (u : List ℕ) × ((t : List ℕ) × ((length w ≡ n) × (t ≡ w)) × (units_in_text t ≡ Ok u))
    × (y ≡ entry.Utf8 u)) u2_exact
    (λ n. map_exact (λ units. entry.Utf8 units) (item_exact units_in_text (bytes_exact n))))

-- ---- an entry with its tag

-- an entry that takes two indices has room for the second
abbrev pub HasRoom : Bool → Entry → Type 0
HasRoom room e = IsTrue (room || not (takes_two e))

-- whether an entry takes two indices is told by its tag
two_by_tag : (c : CpInfo) (e : Entry) → IsConstant c e
    → takes_two e ≡ (if eqb (tag_of c) 5 then true else eqb (tag_of c) 6)
two_by_tag (Utf8Info text) e h = ap takes_two h.4
two_by_tag (IntegerInfo n) e h = ap takes_two h.1
two_by_tag (LongInfo high low) e h = ap takes_two h.2
two_by_tag (ClassInfo i) e h = ap takes_two h.1
two_by_tag (StringInfo i) e h = ap takes_two h.1
two_by_tag (FieldrefInfo i j) e h = ap takes_two h.1
two_by_tag (MethodrefInfo i j) e h = ap takes_two h.1
two_by_tag (InterfaceMethodrefInfo i j) e h = ap takes_two h.1
two_by_tag (NameAndTypeInfo i j) e h = ap takes_two h.1
two_by_tag (LeftOutInfo tag text) e h = let no : eqb tag 5
    ≡ false = other_tag 5 tag (length text) refl h.0 in ap takes_two h.1 ∙ rw no refl

-- there is room exactly where the tag has room
room_is : (room : Bool) (tag : ℕ) (c : CpInfo) (e : Entry) → Behind tag c e
    → (room || not (takes_two e)) ≡ not (has_no_room room tag)
room_is room tag c e h = ap (λ (b : Bool). room || not b)
    (two_by_tag c e h.1 ∙ ap (λ (k : ℕ). if eqb k 5 then true else eqb k 6) h.0)
    ∙ by room (if eqb tag 5 then true else eqb tag 6)
  where
    by : (room two : Bool) → (room || not two) ≡ not (not room && two)
    by true two = refl
    by false two = refl

-- a constant of a tag, with room
abbrev RoomBehind : Bool → ℕ → ℕ → CpInfo → Entry → Type 0
RoomBehind room tag at c e = Behind tag c e × HasRoom room e

with_room : (room : Bool) (tag : ℕ) (r : FormatReader Entry) → has_no_room room tag ≡ false → Takes tag r
    → Exact r (Spells contents_of (RoomBehind room tag))
with_room room tag r free e = as_raw contents_of _ (λ c. c) (λ c. c)
    (λ at c y h. (refl, (h, room_is room tag c y h ∙ ap not free)))
    (λ at c y h. (refl, h.0))
    e

-- a tag that leads to a reader of its constants
leads_to : (room : Bool) (tag : ℕ) (rest : Result (FormatReader Entry) FormatKind) (k : ℕ) (r : FormatReader Entry)
    → has_no_room room tag ≡ false → Takes k r
    → (eqb tag k ≡ false → Leads rest (Spells contents_of (RoomBehind room tag)))
    → Leads (cond (eqb tag k) (Ok r) rest) (Spells contents_of (RoomBehind room tag))
leads_to room tag rest k r free takes others =
    leads_if (Ok r) rest (Spells contents_of (RoomBehind room tag)) (eqb tag k)
    (λ t. with_room room tag r free (subst (λ (j : ℕ). Takes j r) (sym (eqb-true tag k t)) takes)) others

-- no constant has the tag
no_constant : (room : Bool) (tag : ℕ) → ((c : CpInfo) (e : Entry) → Behind tag c e → OfLeftOut tag c e)
    → left_out_length tag ≡ None → Leads (left_out tag None) (Spells contents_of (RoomBehind room tag))
no_constant room tag back none at t e h = let b = back h.0 e h.2.0 in let f : None ≡ Some (length b.0) = sym none
    ∙ b.2 in absurd cc

-- a tag of what is left out, or none
leads_left_out : (room : Bool) (tag : ℕ) (o : Option ℕ) → left_out_length tag ≡ o → has_no_room room tag ≡ false
    → ((c : CpInfo) (e : Entry) → Behind tag c e → OfLeftOut tag c e)
    → Leads (left_out tag o) (Spells contents_of (RoomBehind room tag))
leads_left_out room tag (Some n) is free back = with_room room tag (passed_over tag n) free (passed_takes tag n is back)
leads_left_out room tag None is free back = no_constant room tag back is

-- what a tag leads to
tag_leads : (room : Bool) (tag : ℕ) → Leads (tagged room tag) (Spells contents_of (RoomBehind room tag))
tag_leads room tag =
    leads_if (Err bad.BadTag) _ (Spells contents_of (RoomBehind room tag)) (has_no_room room tag)
    (λ full at t e h. let f : true ≡ not true = sym h.2.1 ∙ room_is room tag h.0 e h.2.0 ∙ ap not full in absurd cc)
    (λ free.
    leads_to room tag _ 1 utf8 free utf8_takes (λ f1.
    leads_to room tag _ 3 integer free integer_takes (λ f3.
    leads_to room tag _ 5 long free long_takes (λ f5.
    leads_to room tag _ 7 _ free class_takes (λ f7.
    leads_to room tag _ 8 _ free string_takes (λ f8.
    leads_to room tag _ 9 _ free fieldref_takes (λ f9.
    leads_to room tag _ 10 _ free methodref_takes (λ f10.
    leads_to room tag _ 11 _ free interface_methodref_takes (λ f11.
    leads_to room tag _ 12 _ free name_and_type_takes (λ f12.
    leads_left_out room tag (left_out_length tag) refl free
    (λ c e h. let b = of_tag tag c e h in rw (f1, f3, f5, f7, f8, f9, f10, f11, f12) at b)))))))))))

-- a number of one byte, spelled
pub one_byte : (n : ℕ) → n < 256 → (rest : List ℕ) → to_be_bytes w8 n ++ rest ≡ n ∷ rest
one_byte n lt rest = ap (λ (k : ℕ). k ∷ rest) (omega (arith, lt))

-- an entry is read exactly where it is spelled
pub entry_exact : (room : Bool) → Exact (read_entry room) (Spells cp_info (λ _ c e. IsConstant c e × HasRoom room e))
unfolding read_entry
entry_exact room = as_raw cp_info _ (λ w. w.1) (λ c. (tag_of c, c))
    (λ at w y h. (
      ap (λ (k : ℕ). to_be_bytes w8 k ++ contents_of w.1) (sym h.1.1 ∙ sym h.2.0.0)
          ∙ one_byte (tag_of w.1) (subst (λ (k : ℕ). k < 256) (sym (h.2.0.0 ∙ h.1.1)) h.1.0) (contents_of w.1),
      (h.2.0.1, h.2.1),
    ))
    (λ at c y h. (
      sym (one_byte (tag_of c) (tag_below c y h.0) (contents_of c)),
      (tag_of c, (tag_below c y h.0, refl), ((refl, h.0), h.1)),
    ))
    (lead_exact (tagged room) contents_of (λ tag at c e. RoomBehind room tag at c e) u1_exact (tag_leads room))
  where
    left_out_below : (tag n : ℕ) → left_out_length tag ≡ Some n → tag < 256
    left_out_below tag n h = one (eqb tag 4) (eqb tag 6) (eqb tag 15) (eqb tag 16)
        (eqb tag 18) refl refl refl refl refl h
      where
        one : (a b c d e : Bool) → eqb tag 4 ≡ a → eqb tag 6 ≡ b → eqb tag 15 ≡ c → eqb tag 16 ≡ d → eqb tag 18 ≡ e
            → cond a (Some 4) (cond b (Some 8) (cond c (Some 3) (cond d (Some 2) (cond e (Some 4) None)))) ≡ Some n
            → tag < 256
        one true b c d e ea eb ec ed ee g = omega (arith, eqb-true tag 4 ea)
        one false true c d e ea eb ec ed ee g = omega (arith, eqb-true tag 6 eb)
        one false false true d e ea eb ec ed ee g = omega (arith, eqb-true tag 15 ec)
        one false false false true e ea eb ec ed ee g = omega (arith, eqb-true tag 16 ed)
        one false false false false true ea eb ec ed ee g = omega (arith, eqb-true tag 18 ee)
        one false false false false false ea eb ec ed ee g = absurd cc

    tag_below : (c : CpInfo) (e : Entry) → IsConstant c e → tag_of c < 256
    tag_below (Utf8Info text) e h = omega arith
    tag_below (IntegerInfo n) e h = omega arith
    tag_below (LongInfo high low) e h = omega arith
    tag_below (ClassInfo i) e h = omega arith
    tag_below (StringInfo i) e h = omega arith
    tag_below (FieldrefInfo i j) e h = omega arith
    tag_below (MethodrefInfo i j) e h = omega arith
    tag_below (InterfaceMethodrefInfo i j) e h = omega arith
    tag_below (NameAndTypeInfo i j) e h = omega arith
    tag_below (LeftOutInfo tag text) e h = left_out_below tag (length text) h.0
