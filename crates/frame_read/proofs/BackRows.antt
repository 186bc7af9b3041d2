-- Canonical rows are read as they are written (JVMS 4.7.4).
use Rattle.std.proofs.Common.{◌≡◌, ℕ, zero, suc, ◌+◌, ◌-◌, ◌^◌, ◌<◌, ◌≤◌, Bool, true, false, cond, leb, List, [], ◌∷◌}
use Rattle.std.proofs.Common.{◌++◌, length, map, Ok, refl, sym, ap, subst, append_assoc, arith}
use Rattle.std.specs.Int.{w16, to_be_bytes}
use Rattle.std.specs.List.{AllByRecursion, flat_map}
use Rattle.std.proofs.lemmas.Bool.{le-leb, lt-leb, leb-true}
use Rattle.std.proofs.lemmas.List.{length-map}
use Rattle.format_reading.specs.Reader.{u1, u2, lead, bind, give, many}
use Rattle.class_model.specs.declared.pool.Entry.{Entry}
use Rattle.class_model.specs.declared.op.Op.{Op}
use Rattle.class_model.specs.declared.constant.PoolConstant.{PoolConstant}
use Rattle.class_model.specs.declared.frame.VType.{VType}
use Rattle.class_model.specs.declared.frame.VType.TheVariants as vtype
use Rattle.class_model.specs.CanonicalPool.{index_of, class_constant, type_name}
use Rattle.class_model.specs.CanonicalFrames as canonical
use Rattle.class_model.specs.CanonicalFrames.{Form, type_info, row}
use Rattle.class_model.specs.Frames.{VerificationTypeInfo, TagInfo, ObjectInfo, UninitializedInfo, StackMapFrame}
use Rattle.class_model.specs.Frames.{SameFrame, SameLocalsOneStackItem, SameLocalsOneStackItemExtended, ChopFrame}
use Rattle.class_model.specs.Frames.{SameFrameExtended, AppendFrame, FullFrame, verification_type_info, counted_types}
use Rattle.class_model.specs.Frames.{stack_map_frame}
use Rattle.class_model.specs.ReadingFrames as reading
use Rattle.class_model.specs.ReadingFrames.{read_type, type_begun, read_row, row_begun, at_row}
use Rattle.class_model.proofs.BackReaders.{Gets, gets_give, gets_bind, gets_map, gets_lead, gets_u1, gets_u2, gets_each}
use Rattle.frame_read.specs.ReadBack.{IsKnownType}

-- ---- types

tag_back : (tag : ℕ) → tag < 256 → type_begun tag ≡ Ok (give (TagInfo tag)) → Gets read_type (tag ∷ []) (TagInfo tag)
unfolding read_type
tag_back tag lt begins = gets_lead u1 type_begun (tag ∷ []) [] tag (give (TagInfo tag)) (TagInfo tag)
    (gets_u1 tag lt) begins
    (gets_give (TagInfo tag))

object_back : (index : ℕ) → index < 2 ^ 16
    → Gets read_type (verification_type_info (ObjectInfo index)) (ObjectInfo index)
unfolding read_type
object_back index lt =
    gets_lead u1 type_begun (7 ∷ []) (to_be_bytes w16 index) 7 reading.object_info (ObjectInfo index)
    (gets_u1 7 (omega arith)) refl
    (gets_map u2 (λ i. ObjectInfo i) (to_be_bytes w16 index) index (gets_u2 index lt))

uninitialized_back : (offset : ℕ) → offset < 2 ^ 16
    → Gets read_type (verification_type_info (UninitializedInfo offset))
    (UninitializedInfo offset)
unfolding read_type
uninitialized_back offset lt =
    gets_lead u1 type_begun (8 ∷ []) (to_be_bytes w16 offset) 8 reading.uninitialized_info (UninitializedInfo offset)
    (gets_u1 8
    (omega arith)) refl
    (gets_map u2 (λ i. UninitializedInfo i) (to_be_bytes w16 offset) offset (gets_u2 offset lt))

-- a row with its bytes
abbrev pub IsReadRow : StackMapFrame → Type 0
IsReadRow r = Gets (lead u1 row_begun) (stack_map_frame r) r

-- the faults of a row stand at its first byte; here is none
pub row_is_read : (r : StackMapFrame) → IsReadRow r → Gets read_row (stack_map_frame r) r
unfolding read_row
row_is_read r given p q t = ap (at_row p.at) (given p q t)

module _ (entries : List Entry) (constants : List PoolConstant) (starts : List ℕ) (ops : List Op) where
  -- a type that is known
  abbrev Known : VType → Type 0
  Known ty = IsKnownType entries constants starts ops ty

  type_back : (ty : VType) → Known ty → Gets read_type (verification_type_info (type_info constants starts ty))
      (type_info constants starts ty)
  type_back vtype.Top known = tag_back 0 (omega arith) refl
  type_back vtype.Int known = tag_back 1 (omega arith) refl
  type_back vtype.Long known = tag_back 4 (omega arith) refl
  type_back vtype.Null known = tag_back 5 (omega arith) refl
  type_back vtype.UninitThis known = tag_back 6 (omega arith) refl
  type_back (vtype.Object class) known = object_back (index_of constants (class_constant (type_name class))) known.0
  type_back (vtype.Uninit n) known = uninitialized_back _ known.0.offset

  each_back : (types : List VType) → AllByRecursion Known types
      → AllByRecursion (λ (i : VerificationTypeInfo). Gets read_type (verification_type_info i) i)
      (map (type_info constants starts) types)
  each_back [] known = tt
  each_back (ty ∷ types) known = (type_back ty known.0, each_back types known.1)

  -- so many of them, one behind the other
  types_back : (types : List VType) (n : ℕ) → n ≡ length (map (type_info constants starts) types)
      → AllByRecursion Known types
      → Gets (many n read_type) (flat_map verification_type_info (map (type_info constants starts) types)) (map
      (type_info constants starts) types)
  types_back types n counted known =
      subst (λ (k : ℕ). Gets (many k read_type)
      (flat_map verification_type_info (map (type_info constants starts) types)) (map
      (type_info constants starts) types)) (sym counted)
      (gets_each read_type verification_type_info (map (type_info constants starts) types) (each_back types known))

  -- ---- forms

  same_by : (delta : ℕ) (b : Bool) → leb delta 63 ≡ b → delta < 2 ^ 16
      → IsReadRow (cond b (SameFrame delta) (SameFrameExtended delta))
  same_by delta true short lt =
      let le : delta ≤ 63 = leb-true _ _ short in
      let least : delta < 256 = omega (arith, le) in
      gets_lead u1 row_begun (delta ∷ []) [] delta (give (SameFrame delta)) (SameFrame delta) (gets_u1 delta least)
      (rw short refl)
      (gets_give (SameFrame delta))
  same_by delta false long lt =
      gets_lead u1 row_begun (251 ∷ []) (to_be_bytes w16 delta) 251 reading.same_extended (SameFrameExtended delta)
      (gets_u1 251
      (omega arith)) refl
      (gets_map u2 (λ d. SameFrameExtended d) (to_be_bytes w16 delta) delta (gets_u2 delta lt))

  pub same_back : (delta : ℕ) → delta < 2 ^ 16 → IsReadRow (row constants starts delta canonical.same)
  same_back delta lt = same_by delta (leb delta 63) refl lt

  item_by : (delta : ℕ) (item : VType) (b : Bool) → leb delta 63 ≡ b → delta < 2 ^ 16 → Known item
      → IsReadRow (cond b (SameLocalsOneStackItem (64 + delta) (type_info constants starts item))
      (SameLocalsOneStackItemExtended delta
      (type_info constants starts item)))
  item_by delta item true short lt known =
      let le : delta ≤ 63 = leb-true _ _ short in
      let above : leb (64 + delta) 63 ≡ false = lt-leb (64 + delta) 63 (omega arith) in
      let below : leb (64 + delta) 127 ≡ true = le-leb (64 + delta) 127 (omega (arith, le)) in
      gets_lead u1 row_begun ((64 + delta) ∷ []) (verification_type_info
      (type_info constants starts item)) (64 + delta) (reading.one_item (64 + delta))
      (SameLocalsOneStackItem (64 + delta) (type_info constants starts item))
      (gets_u1 (64 + delta) (omega (arith, le))) (rw
      (above, below) refl)
      (gets_map read_type (λ i. SameLocalsOneStackItem (64 + delta) i) _ (type_info constants starts item)
      (type_back item known))
  item_by delta item false long lt known =
      gets_lead u1 row_begun (247 ∷ []) (to_be_bytes w16 delta ++ verification_type_info
      (type_info constants starts item)) 247 reading.one_item_extended
      (SameLocalsOneStackItemExtended delta (type_info constants starts item)) (gets_u1 247 (omega arith)) refl
      (gets_bind u2 (λ d. bind read_type (λ i. give (SameLocalsOneStackItemExtended d i))) (to_be_bytes w16 delta)
      (verification_type_info (type_info constants starts item)) delta
      (SameLocalsOneStackItemExtended delta (type_info constants starts item)) (gets_u2 delta lt)
      (gets_map read_type (λ i. SameLocalsOneStackItemExtended delta i) _ (type_info constants starts item)
      (type_back item known)))

  pub item_back : (delta : ℕ) (item : VType) → delta < 2 ^ 16 → Known item
      → IsReadRow (row constants starts delta (canonical.same_with_item item))
  item_back delta item lt known = item_by delta item (leb delta 63) refl lt known

  chop_of : (frame_type delta : ℕ) → frame_type < 256 → row_begun frame_type ≡ Ok (reading.chop frame_type)
      → delta < 2 ^ 16
      → IsReadRow (ChopFrame frame_type delta)
  chop_of frame_type delta byte begins lt =
      gets_lead u1 row_begun (frame_type ∷ []) (to_be_bytes w16 delta) frame_type (reading.chop frame_type)
      (ChopFrame frame_type delta)
      (gets_u1 frame_type byte) begins
      (gets_map u2 (λ d. ChopFrame frame_type d) (to_be_bytes w16 delta) delta (gets_u2 delta lt))

  pub chop_back : (delta gone : ℕ) → 1 ≤ gone → gone ≤ 3 → delta < 2 ^ 16
      → IsReadRow (row constants starts delta (canonical.chop gone))
  chop_back delta zero least most lt = absurd (omega (arith, least))
  chop_back delta (suc zero) least most lt = chop_of 250 delta (omega arith) refl lt
  chop_back delta (suc (suc zero)) least most lt = chop_of 249 delta (omega arith) refl lt
  chop_back delta (suc (suc (suc zero))) least most lt = chop_of 248 delta (omega arith) refl lt
  chop_back delta (suc (suc (suc (suc n)))) least most lt = absurd (omega (arith, most))

  append_of : (frame_type delta : ℕ) (types : List VType) → frame_type < 256
      → row_begun frame_type ≡ Ok (reading.append frame_type)
      → frame_type - 251 ≡ length (map (type_info constants starts) types)
      → delta < 2 ^ 16 → AllByRecursion Known types
      → IsReadRow (AppendFrame frame_type delta (map (type_info constants starts) types))
  append_of frame_type delta types byte begins counted lt known =
      let infos = map (type_info constants starts) types in
      gets_lead u1 row_begun (frame_type ∷ []) (to_be_bytes w16 delta ++ flat_map verification_type_info infos)
      frame_type (reading.append frame_type)
      (AppendFrame frame_type delta infos) (gets_u1 frame_type byte) begins
      (gets_bind u2 (λ d. bind (many (frame_type - 251) read_type) (λ l. give (AppendFrame frame_type d l)))
      (to_be_bytes w16 delta)
      (flat_map verification_type_info infos) delta
      (AppendFrame frame_type delta infos) (gets_u2 delta lt)
      (gets_map (many (frame_type - 251) read_type) (λ l. AppendFrame frame_type delta l)
      (flat_map verification_type_info infos) infos
      (types_back types (frame_type - 251) counted known)))

  pub append_back : (delta : ℕ) (types : List VType) → 1 ≤ length types → length types ≤ 3 → delta < 2 ^ 16
      → AllByRecursion Known types
      → IsReadRow (row constants starts delta (canonical.append types))
  append_back delta [] least most lt known = absurd (omega (arith, least))
  append_back delta (a ∷ []) least most lt known = append_of 252 delta (a ∷ []) (omega arith) refl refl lt known
  append_back delta (a ∷ b ∷ []) least most lt known = append_of 253 delta (a ∷ b ∷ []) (omega arith) refl refl lt known
  append_back delta (a ∷ b ∷ c ∷ []) least most lt known = append_of 254 delta (a ∷ b ∷ c ∷ [])
      (omega arith) refl refl lt known
  append_back delta (a ∷ b ∷ c ∷ d ∷ types) least most lt known = absurd (omega (arith, most))

  pub full_back : (delta : ℕ) (locals stack : List VType) → delta < 2 ^ 16 → length locals < 2 ^ 16
      → length stack < 2 ^ 16
      → AllByRecursion Known locals → AllByRecursion Known stack
      → IsReadRow (row constants starts delta (canonical.full locals stack))
  full_back delta locals stack lt locals_short stack_short known_locals known_stack =
      let ls = map (type_info constants starts) locals in
      let ss = map (type_info constants starts) stack in
      let n = length ls in
      let m = length ss in
      let n_short : n < 2 ^ 16 = subst (λ (k : ℕ). k < 2 ^ 16)
      (sym (length-map locals (type_info constants starts))) locals_short in
      let m_short : m < 2 ^ 16 = subst (λ (k : ℕ). k < 2 ^ 16)
      (sym (length-map stack (type_info constants starts))) stack_short in
      let all = FullFrame delta ls ss in
      let stack_given = gets_bind u2 (λ k. bind (many k read_type) (λ s. give (FullFrame delta ls s)))
      (to_be_bytes w16 m)
      (flat_map verification_type_info ss) m all (gets_u2 m m_short)
      (gets_map (many m read_type) (λ s. FullFrame delta ls s) (flat_map verification_type_info ss) ss
      (types_back stack m refl known_stack)) in
      let locals_given = gets_bind u2
      (λ k. bind (many k read_type) (λ l. bind u2 (λ j. bind (many j read_type) (λ s. give
      (FullFrame delta l s))))) (to_be_bytes w16 n)
      (flat_map verification_type_info ls ++ counted_types ss) n all (gets_u2 n n_short)
      (gets_bind (many n read_type) (λ l. bind u2 (λ j. bind (many j read_type) (λ s. give (FullFrame delta l s))))
      (flat_map verification_type_info ls) (counted_types ss) ls all
      (types_back locals n refl known_locals) stack_given) in
      let grouped : to_be_bytes w16 n ++ (flat_map verification_type_info ls ++ counted_types ss)
      ≡ counted_types ls ++ counted_types ss =
      sym (append_assoc (to_be_bytes w16 n) (flat_map verification_type_info ls) (counted_types ss)) in
      gets_lead u1 row_begun (255 ∷ []) (to_be_bytes w16 delta ++ (counted_types ls ++ counted_types ss))
      255 reading.full all
      (gets_u1 255 (omega arith)) refl
      (gets_bind u2 (λ d. bind u2 (λ k. bind (many k read_type) (λ l. bind u2 (λ j. bind (many j read_type) (λ s. give
      (FullFrame d l s)))))) (to_be_bytes w16 delta)
      (counted_types ls ++ counted_types ss) delta all (gets_u2 delta lt)
      (subst (λ (t : List ℕ). Gets
      (bind u2 (λ k. bind (many k read_type) (λ l. bind u2 (λ j. bind (many j read_type) (λ s. give
      (FullFrame delta l s)))))) t all) grouped locals_given))
