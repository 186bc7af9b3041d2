-- Rows as they are written stand for the frames (JVMS 4.7.4).
use Rattle.std.proofs.Common.{◌≡◌, ℕ, zero, suc, ◌+◌, ◌-◌, ◌^◌, ◌<◌, ◌≤◌, Bool, true, false, cond, eqb, leb, List, []}
use Rattle.std.proofs.Common.{◌∷◌, ◌++◌, length, map, take, drop, Option, Some, None, refl, sym, ap, ◌∙◌, arith}
use Rattle.std.specs.Prelude.{AllPairs, IfSome, codes, option_map, slice_index}
use Rattle.std.specs.List.{AllByRecursion, AllZip, flat_map}
use Rattle.std.specs.Cmp.Lexicographic.{pointwise}
use Rattle.std.proofs.lemmas.Bool.{and_parts, eqb-true, leb-true, le-leb}
use Rattle.std.proofs.lemmas.List.{length-map, length-drop, take-append-drop}
use Rattle.std.proofs.lemmas.Option.{slice_get_within}
use Rattle.jv_base.specs.Utf16.{units_of}
use Rattle.jv_base.specs.Names.{is_text}
use Rattle.jv_base.specs.Types.{field_text, IsFieldType, IsMethodType}
use Rattle.jv_base.specs.Descriptors.{read_field}
use Rattle.jv_base.specs.declared.types.FieldType.{FieldType}
use Rattle.jv_base.specs.declared.types.MethodType.{MethodType}
use Rattle.jv_base.specs.declared.types.Base.{Base}
use Rattle.jv_base.specs.declared.types.Base.TheVariants as base
use Rattle.jv_base.proofs.Equality.{text_Decides}
use Rattle.jv_base.proofs.FieldLaw.{read_field-only}
use Rattle.jv_base.proofs.Lists.{all_weaker}
use Rattle.class_model.specs.declared.constant.PoolConstant.{PoolConstant}
use Rattle.class_model.specs.declared.constant.PoolConstant.TheVariants.{Class}
use Rattle.class_model.specs.declared.code.Code.{Code}
use Rattle.class_model.specs.declared.frame.VType.{VType}
use Rattle.class_model.specs.declared.frame.VType.TheVariants as vtype
use Rattle.class_model.specs.declared.frame.FrameAt.{FrameAt}
use Rattle.class_model.specs.Between.{between}
use Rattle.class_model.specs.InstructionStructure.{starts_of}
use Rattle.class_model.specs.ConstantPool.{class_type}
use Rattle.class_model.specs.Frames.{VerificationTypeInfo, StackMapFrame, SameFrame, SameFrameExtended}
use Rattle.class_model.specs.Frames.{SameLocalsOneStackItem, SameLocalsOneStackItemExtended}
use Rattle.class_model.specs.Frames.{base_vtype, vtype_of, this_type, initial_locals, offset_behind}
use Rattle.class_model.specs.Frames.{IsVType, AreVTypes, IsFrame, IsFrameAt, AreFrames}
use Rattle.class_model.specs.CanonicalPool.{type_name}
use Rattle.class_model.specs.CanonicalCode.{places}
use Rattle.class_model.specs.CanonicalFrames.{same, same_with_item, chop, append, full, same_type, same_types, is_chop}
use Rattle.class_model.specs.CanonicalFrames.{is_append, form_of, types_written, type_constants, frame_constants}
use Rattle.class_model.specs.CanonicalFrames.{type_info, row, delta_to, rows}
use Rattle.class_model.specs.bodies.PoolEntries.{entries_of, Has}
use Rattle.class_model.specs.WellFormed.{IsClassName, IsGoodType, IsGoodFrame, Ascend}
use Rattle.class_model.proofs.BackPool.{index_fits}
use Rattle.class_model.proofs.BackCode.{infos}
use Rattle.class_laws.specs.ClassValues.{IsVTypeValue, IsFrameValue}
use Rattle.class_laws.proofs.SpelledLists.{all_front, all_back, all_two, all_each}
use Rattle.class_laws.proofs.SpelledPool.{IsTypeNamed, type_there}
use Rattle.class_laws.proofs.SpelledWanted.{HasAll}
use Rattle.class_write.proofs.SpelledConstants.{types_of_form}
use Rattle.class_write.proofs.SpelledInstructions.{IsWritten, begins_at, place_low, ascends}
use Rattle.class_laws.proofs.FrameWords.{fewer_than_words, tail_pairs}

-- ---- types that are the same

-- an object's type has a descriptor
abbrev pub IsTyped : VType → Type 0
IsTyped (vtype.Object ty) = IsFieldType ty
IsTyped _ = Unit {0}

-- types with one descriptor are one
descriptor_is : (a b : FieldType) → IsFieldType a → IsFieldType b → field_text a ≡ field_text b → a ≡ b
descriptor_is a b one other e =
    let first = read_field-only (field_text a) a (one, refl) in
    let second = read_field-only (field_text b) b (other, refl) in
    let whole = sym first ∙ ap read_field e ∙ second in
    cc

same_type_is : (a b : VType) → IsTyped a → IsTyped b → same_type a b ≡ true → a ≡ b
same_type_is vtype.Top vtype.Top one other h = refl
same_type_is vtype.Int vtype.Int one other h = refl
same_type_is vtype.Long vtype.Long one other h = refl
same_type_is vtype.Null vtype.Null one other h = refl
same_type_is vtype.UninitThis vtype.UninitThis one other h = refl
same_type_is (vtype.Object a) (vtype.Object b) one other h = ap (λ c. vtype.Object c)
    (descriptor_is a b one other ((text_Decides (field_text a) (field_text b)).0 h))
same_type_is (vtype.Uninit a) (vtype.Uninit b) one other h = ap (λ n. vtype.Uninit n) (eqb-true a b h)
same_type_is _ _ one other h = absurd cc

abbrev AllTyped : List VType → Type 0
AllTyped types = AllByRecursion IsTyped types

same_types_are : (one other : List VType) → AllTyped one → AllTyped other → same_types one other ≡ true → one ≡ other
same_types_are [] [] p q h = refl
same_types_are [] (y ∷ ys) p q h = absurd cc
same_types_are (x ∷ xs) [] p q h = absurd cc
same_types_are (x ∷ xs) (y ∷ ys) p q h =
    let parts = and_parts (same_type x y) (pointwise same_type xs ys) h in
    ap (λ (t : VType). t ∷ xs) (same_type_is x y p.0 q.0 parts.0)
    ∙ ap (λ (ts : List VType). y ∷ ts) (same_types_are xs ys p.1 q.1 parts.1)

typed_front : (n : ℕ) (types : List VType) → AllTyped types → AllTyped (take n types)
typed_front zero types h = tt
typed_front (suc n) [] h = tt
typed_front (suc n) (ty ∷ types) h = (h.0, typed_front n types h.1)

-- ---- the first frame

base_typed : (ty : FieldType) (b : Base) → IsFieldType ty → IsTyped (base_vtype ty b)
base_typed ty base.Long h = tt
base_typed ty base.Float h = tt
base_typed ty base.Double h = tt
base_typed ty (base.Class name) h = h
base_typed ty base.Boolean h = tt
base_typed ty base.Byte h = tt
base_typed ty base.Char h = tt
base_typed ty base.Short h = tt
base_typed ty base.Int h = tt

argument_typed : (ty : FieldType) → IsFieldType ty → IsTyped (vtype_of ty)
argument_typed ty h = by (eqb ty.dims 0)
  where
    by : (b : Bool) → IsTyped (cond b (base_vtype ty ty.base) (vtype.Object ty))
    by true = base_typed ty ty.base h
    by false = h

arguments_typed : (tys : List FieldType) → AllByRecursion IsFieldType tys → AllTyped (map vtype_of tys)
arguments_typed [] h = tt
arguments_typed (ty ∷ tys) h = (argument_typed ty h.0, arguments_typed tys h.1)

this_typed : (class name : List ℕ) → IsClassName class → IsTyped (this_type class name)
this_typed class name is = by (is_text name (codes "<init>"))
  where
    by : (b : Bool) → IsTyped (cond b vtype.UninitThis (vtype.Object (class_type class)))
    by true = tt
    by false = record { dimensions = omega arith; named = is.1 }

-- the types of the initial frame have descriptors
pub initial_typed : (class : List ℕ) (static : Bool) (name : List ℕ) (ty : MethodType) → IsClassName class
    → IsMethodType ty → AllTyped (initial_locals class static name ty)
initial_typed class true name ty is typed = arguments_typed ty.args typed.arguments
initial_typed class false name ty is typed = (this_typed class name is, arguments_typed ty.args typed.arguments)

-- ---- room

-- ---- rows

module _ (pool : List PoolConstant) (code : Code) (w : IsWritten pool code) where
  abbrev all : List ℕ
  all = places pool code.ins

  abbrev starts : List ℕ
  starts = starts_of (infos pool code.ins)

  abbrev Is : VerificationTypeInfo → VType → Type 0
  Is info ty = IsVType (entries_of pool) starts code.ins info ty

  -- what is written stands for the type
  abbrev Stands : VType → Type 0
  Stands ty = Is (type_info pool all ty) ty

  type_stands : (ty : VType) → IsGoodType code.ins ty × IsVTypeValue ty → HasAll pool (type_constants ty) → Stands ty
  type_stands vtype.Top is has = refl
  type_stands vtype.Int is has = refl
  type_stands vtype.Long is has = refl
  type_stands vtype.Null is has = refl
  type_stands vtype.UninitThis is has = refl
  type_stands (vtype.Object ty) is has =
      let name = units_of (type_name ty) in
      let named : IsTypeNamed name = record { ty = ty; is = refl; good = is.0; value = is.1 } in
      (index_fits pool (Class name) w.count, ty, type_there pool w.right name named has.0 has.1.0, refl)
  type_stands (vtype.Uninit n) is has =
      let there = is.0.2 in
      let lt : n < length code.ins = slice_get_within code.ins n is.0.0 there in (
        place_low pool code w n lt,
        n,
        begins_at pool code w n lt,
        record
            { at = is.0.0; there = there; name = is.0.1; new = is.0.3 },
        refl,
      )

  zip_is : (types : List VType) → AllByRecursion Stands types → AllZip Is (map (type_info pool all) types) types
  zip_is [] h = tt
  zip_is (ty ∷ types) h = (h.0, zip_is types h.1)

  counted_is : (types : List VType) → length types < 2 ^ 16 → AllByRecursion Stands types
      → AreVTypes (entries_of pool) starts code.ins (map (type_info pool all) types) types
  counted_is types few h = let e : length (map (type_info pool all) types)
      ≡ length types = length-map types (type_info pool all) in (omega (arith, e, few), zip_is types h)

  abbrev Row : List VType → StackMapFrame → ℕ → List VType → List VType → Type 0
  Row before r delta locals stack = IsFrame (entries_of pool) starts code.ins before r delta locals stack

  -- ---- forms

  same_by : (before locals : List VType) (delta : ℕ) (b : Bool) → leb delta 63 ≡ b → delta < 2 ^ 16 → before ≡ locals
      → Row before (cond b (SameFrame delta) (SameFrameExtended delta)) delta locals []
  same_by before locals delta true e lt is = (leb-true delta 63 e, refl, sym is, refl)
  same_by before locals delta false e lt is = (lt, refl, sym is, refl)

  item_row : (before locals : List VType) (item : VType) (delta : ℕ) (b : Bool) → leb delta 63 ≡ b → delta < 2 ^ 16
      → before ≡ locals → Stands item
      → Row before (cond b (SameLocalsOneStackItem (64 + delta) (type_info pool all item))
      (SameLocalsOneStackItemExtended delta (type_info pool all item))) delta locals (item ∷ [])
  item_row before locals item delta true e lt is h =
      let g : delta ≤ 63 = leb-true delta 63 e in (
        rw (le-leb 64 (64 + delta) (omega arith), le-leb (64 + delta) 127 (omega (arith, g))) refl,
        (let d : delta ≡ 64 + delta - 64 = omega arith in d),
        sym is,
        (h, tt),
      )
  item_row before locals item delta false e lt is h = (lt, refl, sym is, (h, tt))

  chop_row : (before locals : List VType) (delta : ℕ) → delta < 2 ^ 16 → is_chop before locals ≡ true → AllTyped before
      → AllTyped locals → Row before (row pool all delta (chop (length before - length locals))) delta locals []
  chop_row before locals delta lt h typed_before typed =
      let parts = and_parts (between 1 3 (length before - length locals))
      (same_types locals (take (length locals) before)) h in
      let range = and_parts (leb 1 (length before - length locals)) (leb (length before - length locals) 3) parts.0 in
      let least : 1 ≤ length before - length locals = leb-true _ _ range.0 in
      let most : length before - length locals ≤ 3 = leb-true _ _ range.1 in
      let gone = length before - length locals in
      let k : length locals ≡ length before - (251 - (251 - gone)) = omega (arith, least, most) in (
        rw (le-leb 248 (251 - gone) (omega (arith, most)), le-leb (251 - gone) 250 (omega (arith, least))) refl,
        lt,
        refl,
        omega (arith, least, most),
        same_types_are locals (take (length locals) before) typed
            (typed_front (length locals) before typed_before) parts.1 ∙ ap (λ (m : ℕ). take m before) k,
        refl,
      )

  append_row : (before locals : List VType) (delta : ℕ) → delta < 2 ^ 16 → is_append before locals ≡ true
      → AllTyped before → AllTyped locals → AllByRecursion Stands (drop (length before) locals)
      → Row before (row pool all delta (append (drop (length before) locals))) delta locals []
  append_row before locals delta lt h typed_before typed stands =
      let parts = and_parts (between 1 3 (length locals - length before))
      (same_types before (take (length before) locals)) h in
      let range = and_parts (leb 1 (length locals - length before)) (leb (length locals - length before) 3) parts.0 in
      let least : 1 ≤ length locals - length before = leb-true _ _ range.0 in
      let most : length locals - length before ≤ 3 = leb-true _ _ range.1 in
      let new = drop (length before) locals in
      let size = length-drop (length before) locals in
      let few : length new ≤ 3 = omega (arith, size, most) in
      let some : 1 ≤ length new = omega (arith, size, least) in
      let mapped : length (map (type_info pool all) new) ≡ length new = length-map new (type_info pool all) in
      let front = same_types_are before (take (length before) locals) typed_before
      (typed_front (length before) locals typed) parts.1 in
      let whole : before ++ new ≡ locals = ap (λ (f : List VType). f ++ new) front
      ∙ take-append-drop (length before) locals in (
        rw (
          le-leb 252 (251 + length new) (omega (arith, some)),
          le-leb (251 + length new) 254
              (omega (arith, few)),
        ) refl,
        lt,
        refl,
        (let e : length (map (type_info pool all) new) ≡ 251 + length new - 251 = omega (arith, mapped) in e),
        new,
        counted_is new (omega (arith, few)) stands,
        sym whole,
        refl,
      )

  full_row : (before locals stack : List VType) (delta : ℕ) → delta < 2 ^ 16 → length locals < 2 ^ 16
      → length stack < 2 ^ 16 → AllByRecursion Stands (locals ++ stack)
      → Row before (row pool all delta (full locals stack)) delta locals stack
  full_row before locals stack delta lt few few_items h = (
    lt,
    refl,
    counted_is locals few (all_front Stands locals stack h),
    counted_is stack few_items
        (all_back Stands locals stack h),
  )

  empty_row : (before locals : List VType) (delta : ℕ) (a b c : Bool) → same_types before locals ≡ a
      → is_chop before locals ≡ b → is_append before locals ≡ c → delta < 2 ^ 16 → length locals < 2 ^ 16
      → AllTyped before → AllTyped locals
      → AllByRecursion Stands (types_written (cond a same (cond b (chop (length before - length locals))
      (cond c (append (drop (length before) locals)) (full locals [])))))
      → Row before (row pool all delta (cond a same (cond b (chop (length before - length locals))
      (cond c (append (drop (length before) locals)) (full locals []))))) delta locals []
  empty_row before locals delta true b c ea eb ec lt few typed_before typed h = same_by before locals delta
      (leb delta 63) refl lt (same_types_are before locals typed_before typed ea)
  empty_row before locals delta false true c ea eb ec lt few typed_before typed h = chop_row before locals delta lt eb
      typed_before typed
  empty_row before locals delta false false true ea eb ec lt few typed_before typed h = append_row before locals delta
      lt ec typed_before typed h
  empty_row before locals delta false false false ea eb ec lt few typed_before typed h = full_row before locals []
      delta lt few (omega arith) h

  item_by : (before locals : List VType) (item : VType) (delta : ℕ) (a : Bool) → same_types before locals ≡ a
      → delta < 2 ^ 16 → length locals < 2 ^ 16 → AllTyped before → AllTyped locals
      → AllByRecursion Stands (types_written (cond a (same_with_item item) (full locals (item ∷ []))))
      → Row before (row pool all delta (cond a (same_with_item item) (full locals (item ∷ [])))) delta locals
      (item ∷ [])
  item_by before locals item delta true ea lt few typed_before typed h = item_row before locals item delta
      (leb delta 63) refl lt (same_types_are before locals typed_before typed ea) h.0
  item_by before locals item delta false ea lt few typed_before typed h = full_row before locals
      (item ∷ []) delta lt few (omega arith) h

  row_is : (before locals stack : List VType) (delta : ℕ) → delta < 2 ^ 16 → length locals < 2 ^ 16
      → length stack < 2 ^ 16 → AllTyped before → AllTyped locals
      → AllByRecursion Stands (types_written (form_of before locals stack))
      → Row before (row pool all delta (form_of before locals stack)) delta locals stack
  row_is before locals [] delta lt few few_items typed_before typed h = empty_row before locals delta
      (same_types before locals) (is_chop before locals)
      (is_append before locals) refl refl refl lt few typed_before typed h
  row_is before locals (item ∷ []) delta lt few few_items typed_before typed h = item_by before locals item delta
      (same_types before locals) refl lt few typed_before typed h
  row_is before locals (item ∷ next ∷ stack) delta lt few few_items typed_before typed h = full_row before locals
      (item ∷ next ∷ stack) delta lt few few_items h

  -- ---- frames

  abbrev IsGood : VType → Type 0
  IsGood ty = IsGoodType code.ins ty × IsVTypeValue ty

  typed_by : (ty : VType) → IsGood ty → IsTyped ty
  typed_by (vtype.Object ty) h = h.0.0
  typed_by _ h = tt

  -- each frame is behind the one of this number
  abbrev Follow : Option ℕ → List FrameAt → Type 0
  Follow previous [] = Unit {0}
  Follow previous (frame ∷ frames) = IfSome previous (λ n. n < frame.index) × Follow (Some frame.index) frames

  offset_at : (previous : Option ℕ) (index : ℕ) → index < length code.ins → IfSome previous (λ n. n < index)
      → slice_index all index ≡ offset_behind (option_map (slice_index all) previous)
      (delta_to pool all (option_map (slice_index all) previous) (slice_index all index))
  offset_at None index lt h = refl
  offset_at (Some n) index lt h = let less = ascends pool code w n index h (omega (arith, lt)) in omega (arith, less)

  delta_low : (previous : Option ℕ) (index : ℕ) → index < length code.ins
      → delta_to pool all (option_map (slice_index all) previous) (slice_index all index) < 2 ^ 16
  delta_low None index lt = place_low pool code w index lt
  delta_low (Some n) index lt = let low = place_low pool code w index lt in omega (arith, low)

  frame_is : (before : List VType) (previous : Option ℕ) (frame : FrameAt) → AllTyped before
      → IsGoodFrame code frame × IsFrameValue frame → IfSome previous (λ n. n < frame.index)
      → HasAll pool (flat_map type_constants (types_written (form_of before frame.frame.locals frame.frame.stack)))
      → IsFrameAt (entries_of pool) starts code.ins code.max_stack code.max_locals before
      (option_map (slice_index all) previous)
      (row pool all (delta_to pool all (option_map (slice_index all) previous) (slice_index all frame.index))
      (form_of before frame.frame.locals frame.frame.stack)) frame frame.frame.locals (slice_index all frame.index)
  frame_is before previous frame typed is behind has =
      let locals = frame.frame.locals in
      let stack = frame.frame.stack in
      let form = form_of before locals stack in
      let good_locals = all_two (IsGoodType code.ins) IsVTypeValue IsGood
      (λ ty a b. (a, b)) locals is.0.locals is.1.locals in
      let good_stack = all_two (IsGoodType code.ins) IsVTypeValue IsGood
      (λ ty a b. (a, b)) stack is.0.stack is.1.stack in
      let stands = all_two IsGood (λ ty. HasAll pool (type_constants ty)) Stands type_stands (types_written form)
      (types_of_form IsGood before locals stack good_locals good_stack)
      (all_each (Has pool) type_constants (types_written form) has) in
      let delta = delta_to pool all (option_map (slice_index all) previous) (slice_index all frame.index) in
      let few = fewer_than_words locals in
      let few_items = fewer_than_words stack in
      record {
        delta = delta;
        stands = row_is before locals stack delta (delta_low previous frame.index is.0.index)
            (omega (arith, few, is.0.locals_fit, w.value.max_locals))
            (omega (arith, few_items, is.0.stack_fits, w.value.max_stack)) typed
            (all_weaker IsGood IsTyped typed_by locals good_locals) stands;
        offset_is = offset_at previous frame.index is.0.index behind;
        index = begins_at pool code w frame.index is.0.index;
        cut = sym is.0.cut;
        locals_fit = is.0.locals_fit;
        stack_fits = is.0.stack_fits;
      }

  frames_by : (frames : List FrameAt) (before : List VType) (previous : Option ℕ) → AllTyped before
      → AllByRecursion (λ (frame : FrameAt). IsGoodFrame code frame × IsFrameValue frame) frames
      → Follow previous frames → HasAll pool (frame_constants before frames)
      → AreFrames (entries_of pool) starts code.ins code.max_stack code.max_locals before
      (option_map (slice_index all) previous)
      (rows pool all before (option_map (slice_index all) previous) frames) frames
  frames_by [] before previous typed is follow has = tt
  frames_by (frame ∷ frames) before previous typed is follow has =
      let locals = frame.frame.locals in
      let these = flat_map type_constants (types_written (form_of before locals frame.frame.stack)) in
      let good_locals = all_two (IsGoodType code.ins) IsVTypeValue IsGood
      (λ ty a b. (a, b)) locals is.0.0.locals is.0.1.locals in (
        locals,
        slice_index all frame.index,
        frame_is before previous frame typed is.0 follow.0
            (all_front (Has pool) these (frame_constants locals frames) has),
        frames_by frames locals (Some frame.index) (all_weaker IsGood IsTyped typed_by locals good_locals) is.1 follow.1
            (all_back (Has pool) these (frame_constants locals frames) has),
      )

  follow_on : (frame : FrameAt) (frames : List FrameAt) → AllPairs Ascend (frame ∷ frames)
      → Follow (Some frame.index) frames
  follow_on frame [] pairs = tt
  follow_on frame (next ∷ frames) pairs =
      (pairs 0 1 frame (omega arith) (omega arith), follow_on next frames (tail_pairs frame (next ∷ frames) pairs))

  follow_all : (frames : List FrameAt) → AllPairs Ascend frames → Follow None frames
  follow_all [] pairs = tt
  follow_all (frame ∷ frames) pairs = (tt, follow_on frame frames pairs)

  -- the rows of all frames of the code
  pub frames_are : (first : List VType) → AllTyped first → HasAll pool (frame_constants first code.frames)
      → AreFrames (entries_of pool) starts code.ins code.max_stack code.max_locals first None
      (rows pool all first None code.frames) code.frames
  frames_are first typed has =
      frames_by code.frames first None typed
      (all_two (IsGoodFrame code) IsFrameValue (λ (frame : FrameAt). IsGoodFrame code frame × IsFrameValue frame)
      (λ f a b. (a, b)) code.frames w.good.frames w.value.frames)
      (follow_all code.frames w.good.ascending) has
