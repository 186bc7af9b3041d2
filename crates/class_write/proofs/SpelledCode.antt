-- A Code as it is written stands for the code (JVMS 4.7.3).
use Rattle.std.proofs.Common.{◌≡◌, ℕ, suc, ◌+◌, ◌^◌, ◌<◌, ◌≤◌, Bool, true, false, not, cond, eqb, leb, List, [], ◌∷◌}
use Rattle.std.proofs.Common.{◌++◌, length, map, Option, Some, None, refl, sym, ap, subst, ◌∙◌, arith, ne_eqb}
use Rattle.std.specs.Prelude.{codes, IfSome, slice_index}
use Rattle.std.specs.List.{AllByRecursion, flat_map, list_any}
use Rattle.std.specs.Int.{w16, w32, to_be_bytes}
use Rattle.std.proofs.lemmas.List.{length-map, length-append}
use Rattle.jv_base.proofs.Lists.{all_weaker}
use Rattle.class_model.specs.declared.constant.PoolConstant.{PoolConstant}
use Rattle.class_model.specs.declared.code.Code.{Code}
use Rattle.class_model.specs.declared.code.Ins.{Ins}
use Rattle.class_model.specs.declared.code.Handler.{Handler}
use Rattle.class_model.specs.declared.frame.VType.{VType}
use Rattle.class_model.specs.declared.frame.VType.TheVariants as vtype
use Rattle.class_model.specs.declared.frame.FrameAt.{FrameAt}
use Rattle.class_model.specs.declared.class.LeftKind.{LeftKind}
use Rattle.class_model.specs.declared.class.LeftKind.TheVariants as left
use Rattle.class_model.specs.Structure.{AttributeInfo, attribute_info, exception_info, CodeInfo, code_info}
use Rattle.class_model.specs.LineNumbers.{LineNumber, AreLineTables}
use Rattle.class_model.specs.Frames.{StackMapFrame, SameFrame, SameFrameExtended, SameLocalsOneStackItem}
use Rattle.class_model.specs.Frames.{SameLocalsOneStackItemExtended, stack_map_table, is_float_info, names_float}
use Rattle.class_model.specs.Frames.{IsMapOf}
use Rattle.class_model.specs.Attributes.{named, IsAttribute, AreAttributes}
use Rattle.class_model.specs.CodeAttribute.{IsCode, IsBody}
use Rattle.class_model.specs.CanonicalCode.{places, op_constants}
use Rattle.class_model.specs.CanonicalFrames.{Form, same, same_with_item, chop, append, full, form_of, frame_constants}
use Rattle.class_model.specs.CanonicalFrames.{type_info, row, delta_to, rows}
use Rattle.class_model.specs.CanonicalClass.{attribute, attribute_constants, is_some_item, caught_constants}
use Rattle.class_model.specs.CanonicalClass.{handler_raw, line_rows, line_table, code_constants, code_raw}
use Rattle.class_model.specs.CanonicalClass.{code_contents}
use Rattle.class_model.specs.bodies.PoolEntries.{entries_of, Has}
use Rattle.class_model.proofs.BackCode.{infos}
use Rattle.class_laws.specs.ClassValues.{IsInsValue}
use Rattle.class_laws.proofs.SpelledLists.{all_front, all_back, all_both}
use Rattle.class_laws.proofs.SpelledWanted.{HasAll}
use Rattle.class_write.proofs.SpelledAttributes.{lines_units, map_units, named_left, named_right, named_this}
use Rattle.class_write.proofs.SpelledAttributes.{named_other, few, attribute_is}
use Rattle.class_write.proofs.SpelledLines.{lines_counted, rows_fit, table_is}
use Rattle.class_write.proofs.SpelledInstructions.{IsWritten, some_bytes, bytes_is, instructions_are, handlers_are}
use Rattle.class_write.proofs.SpelledInstructions.{place_low}
use Rattle.class_write.proofs.SpelledFrames.{IsTyped, frames_are}

-- ---- no float is written

module _ (pool : List PoolConstant) (all : List ℕ) where
  info_plain : (ty : VType) → is_float_info (type_info pool all ty) ≡ false
  info_plain vtype.Top = refl
  info_plain vtype.Int = refl
  info_plain vtype.Long = refl
  info_plain vtype.Null = refl
  info_plain vtype.UninitThis = refl
  info_plain (vtype.Object ty) = refl
  info_plain (vtype.Uninit n) = refl

  infos_plain : (types : List VType) → list_any is_float_info (map (type_info pool all) types) ≡ false
  infos_plain [] = refl
  infos_plain (ty ∷ types) = rw (info_plain ty, infos_plain types) refl

  row_plain : (delta : ℕ) (form : Form) → names_float (row pool all delta form) ≡ false
  row_plain delta same = by (leb delta 63)
    where
      by : (b : Bool) → names_float (cond b (SameFrame delta) (SameFrameExtended delta)) ≡ false
      by true = refl
      by false = refl
  row_plain delta (same_with_item item) = by (leb delta 63)
    where
      by : (b : Bool) → names_float (cond b (SameLocalsOneStackItem (64 + delta) (type_info pool all item))
          (SameLocalsOneStackItemExtended delta (type_info pool all item))) ≡ false
      by true = info_plain item
      by false = info_plain item
  row_plain delta (chop gone) = refl
  row_plain delta (append new) = infos_plain new
  row_plain delta (full locals stack) = rw (infos_plain locals, infos_plain stack) refl

  rows_plain : (before : List VType) (previous : Option ℕ) (frames : List FrameAt)
      → list_any names_float (rows pool all before previous frames) ≡ false
  rows_plain before previous [] = refl
  rows_plain before previous (frame ∷ frames) =
      rw (
        row_plain (delta_to pool all previous (slice_index all frame.index))
            (form_of before frame.frame.locals frame.frame.stack),
        rows_plain frame.frame.locals
            (Some (slice_index all frame.index)) frames,
      ) refl

  -- a row for each frame
  rows_many : (before : List VType) (previous : Option ℕ) (frames : List FrameAt)
      → length (rows pool all before previous frames) ≡ length frames
  rows_many before previous [] = refl
  rows_many before previous (frame ∷ frames) = ap suc
      (rows_many frame.frame.locals (Some (slice_index all frame.index)) frames)

-- ---- lengths

-- the contents of each attribute are no longer than all of them
short_each : (others : List AttributeInfo)
    → AllByRecursion (λ (a : AttributeInfo). length a.info ≤ length (flat_map attribute_info others)) others
short_each [] = tt
short_each (a ∷ others) =
    let rest = flat_map attribute_info others in
    let head = to_be_bytes w16 a.attribute_name_index in
    let size = to_be_bytes w32 (length a.info) in
    let whole = length-append (attribute_info a) rest in
    let parts = length-append head (size ++ a.info) in
    let inner = length-append size a.info in (
      omega (arith, whole, parts, inner),
      all_weaker (λ (b : AttributeInfo). length b.info ≤ length rest)
          (λ (b : AttributeInfo). length b.info ≤ length (attribute_info a ++ rest))
          (λ b le. omega (arith, le, whole)) others (short_each others),
    )

-- the attributes of a Code are part of it
attributes_short : (raw : CodeInfo) → length (flat_map attribute_info raw.attributes) ≤ length (code_info raw)
attributes_short raw =
    let t = flat_map attribute_info raw.attributes in
    let n = to_be_bytes w16 (length raw.attributes) in
    let e = flat_map exception_info raw.exception_table in
    let m = to_be_bytes w16 (length raw.exception_table) in
    let k = to_be_bytes w32 (length raw.code) in
    let l = to_be_bytes w16 raw.max_locals in
    let s = to_be_bytes w16 raw.max_stack in
    omega (
      arith,
      length-append s (l ++ (k ++ (raw.code ++ (m ++ (e ++ (n ++ t)))))),
      length-append l
          (k ++ (raw.code ++ (m ++ (e ++ (n ++ t))))),
      length-append k
          (raw.code ++ (m ++ (e ++ (n ++ t)))),
      length-append raw.code (m ++ (e ++ (n ++ t))),
      length-append m
          (e ++ (n ++ t)),
      length-append e (n ++ t),
      length-append n t,
    )

-- ---- the whole

-- the code's constants are in the pool, and its tables and contents are within the limits
pub record IsSpelled (pool : List PoolConstant) (first : List VType) (code : Code) : Type 0 where
  pub written : IsWritten pool code
  pub typed : AllByRecursion IsTyped first
  pub has : HasAll pool (code_constants first code)
  pub few_handlers : length code.handlers < 2 ^ 16
  pub few_lines : length (line_rows None [] code.ins) < 2 ^ 16
  pub few_frames : length code.frames < 2 ^ 16
  pub short : length (code_contents pool first code) < 2 ^ 32

pub no_items : {A : Type 0} (xs : List A) → is_some_item xs ≡ false → xs ≡ []
no_items [] e = refl
no_items (x ∷ xs) e = absurd
    (let f : eqb (length (x ∷ xs)) 0 ≡ false = ne_eqb _ _ (λ z. absurd (omega (arith, z))) in let g : true
    ≡ false = sym (ap not f) ∙ e in cc)

module _ (pool : List PoolConstant) (first : List VType) (code : Code) (s : IsSpelled pool first code) where
  abbrev all : List ℕ
  all = places pool code.ins

  abbrev lines : List LineNumber
  lines = line_rows None all code.ins

  abbrev map_rows : List StackMapFrame
  map_rows = rows pool all first None code.frames

  abbrev xs : List AttributeInfo
  xs = attribute pool (is_some_item lines) (codes "LineNumberTable") (line_table pool lines)

  abbrev ys : List AttributeInfo
  ys = attribute pool (is_some_item code.frames) (codes "StackMapTable") (stack_map_table map_rows)

  abbrev handler_constants : List PoolConstant
  handler_constants = flat_map (λ (h : Handler). caught_constants h.caught) code.handlers

  abbrev lines_written : Bool → List PoolConstant
  lines_written b = attribute_constants b (codes "LineNumberTable") []

  abbrev map_constants : List PoolConstant
  map_constants = attribute_constants (is_some_item code.frames) (codes "StackMapTable")
      (frame_constants first code.frames)

  abbrev ops : List PoolConstant
  ops = flat_map (λ (i : Ins). op_constants i.op) code.ins

  -- ---- the constants of each part

  has_rest : HasAll pool (handler_constants ++ (lines_written
      (is_some_item (line_rows None [] code.ins)) ++ map_constants))
  has_rest = all_back (Has pool) ops _ s.has

  has_handlers : HasAll pool handler_constants
  has_handlers = all_front (Has pool) handler_constants _ has_rest

  has_tables : HasAll pool (lines_written (is_some_item (line_rows None [] code.ins)) ++ map_constants)
  has_tables = all_back (Has pool) handler_constants _ has_rest

  has_lines : HasAll pool (lines_written (is_some_item lines))
  has_lines =
      subst (λ (n : ℕ). HasAll pool (lines_written (not (eqb n 0)))) (sym (lines_counted all code.ins))
      (all_front (Has pool) (lines_written (is_some_item (line_rows None [] code.ins))) map_constants has_tables)

  has_map : HasAll pool map_constants
  has_map = all_back (Has pool) (lines_written (is_some_item (line_rows None [] code.ins))) map_constants has_tables

  has_frames_by : (b : Bool) → is_some_item code.frames ≡ b
      → HasAll pool (attribute_constants b (codes "StackMapTable") (frame_constants first code.frames))
      → HasAll pool (frame_constants first code.frames)
  has_frames_by true e h = h.1
  has_frames_by false e h = subst (λ (fs : List FrameAt). HasAll pool (frame_constants first fs))
      (sym (no_items code.frames e)) tt

  -- ---- attributes

  few_lines : length lines < 2 ^ 16
  few_lines = omega (arith, s.few_lines, lines_counted all code.ins)

  lengths : AllByRecursion (λ (a : AttributeInfo). length a.info < 2 ^ 32) (xs ++ ys)
  lengths =
      let raw = code_raw pool first all code in
      let le = attributes_short raw in
      all_weaker (λ (a : AttributeInfo). length a.info ≤ length (flat_map attribute_info (xs ++ ys)))
      (λ (a : AttributeInfo). length a.info < 2 ^ 32) (λ a k. omega (arith, k, le, s.short)) (xs ++ ys)
      (short_each (xs ++ ys))

  short_by : (b : Bool) (name info : List ℕ)
      → AllByRecursion (λ (a : AttributeInfo). length a.info < 2 ^ 32) (attribute pool b name info) → b ≡ true
      → length info < 2 ^ 32
  short_by true name info h e = h.0
  short_by false name info h e = absurd cc

  attributes_are : AreAttributes (entries_of pool) (xs ++ ys)
  attributes_are = record {
    count_fits = omega (
      arith,
      length-append xs ys,
      few pool (is_some_item lines) (codes "LineNumberTable")
          (line_table pool lines),
      few pool (is_some_item code.frames) (codes "StackMapTable")
          (stack_map_table map_rows),
    );
    each = all_both (IsAttribute (entries_of pool)) xs ys
        (attribute_is pool s.written.count (is_some_item lines) (codes "LineNumberTable") (line_table pool lines) []
        (short_by (is_some_item lines) (codes "LineNumberTable") (line_table pool lines)
        (all_front _ xs ys lengths)) has_lines)
        (attribute_is pool s.written.count (is_some_item code.frames) (codes "StackMapTable") (stack_map_table map_rows)
        (frame_constants first code.frames)
        (short_by (is_some_item code.frames) (codes "StackMapTable") (stack_map_table map_rows)
        (all_back _ xs ys lengths)) has_map);
  }

  line_tables_are : AreLineTables (named (entries_of pool) (codes "LineNumberTable") (xs ++ ys)) lines
  line_tables_are =
      let e = named_left pool (codes "LineNumberTable") xs ys xs
      (named_this pool (is_some_item lines) (codes "LineNumberTable")
      (line_table pool lines) [] lines_units refl has_lines)
      (named_other pool (is_some_item code.frames) (codes "StackMapTable") (codes "LineNumberTable")
      (stack_map_table map_rows) (frame_constants first code.frames) map_units refl has_map) in
      let low : (j : ℕ) → j < length code.ins
      → slice_index all (0 + j) < 2 ^ 16 = λ j lt. subst (λ (k : ℕ). slice_index all k < 2 ^ 16)
      (let z : j ≡ 0 + j = omega arith in z) (place_low pool code s.written j lt) in
      subst (λ (l : List AttributeInfo). AreLineTables l lines) (sym e)
      (table_is pool all lines few_lines
      (rows_fit pool all code.ins None 0 low
      (all_weaker IsInsValue (λ (i : Ins). IfSome i.line (λ m. m < 2 ^ 16))
      (λ i v. v.line) code.ins s.written.value.ins)))

  map_by : (b : Bool) → is_some_item code.frames ≡ b
      → IsMapOf (attribute pool b (codes "StackMapTable") (stack_map_table map_rows)) map_rows
  map_by true e = (omega (arith, s.few_frames, rows_many pool all first None code.frames), refl)
  map_by false e = ap (λ (fs : List FrameAt). rows pool all first None fs) (no_items code.frames e)

  map_is : IsMapOf (named (entries_of pool) (codes "StackMapTable") (xs ++ ys)) map_rows
  map_is =
      let e = named_right pool (codes "StackMapTable") xs ys ys
      (named_other pool (is_some_item lines) (codes "LineNumberTable") (codes "StackMapTable")
      (line_table pool lines) [] lines_units refl has_lines)
      (named_this pool (is_some_item code.frames) (codes "StackMapTable") (stack_map_table map_rows)
      (frame_constants first code.frames) map_units refl has_map) in
      subst (λ (l : List AttributeInfo). IsMapOf l map_rows) (sym e) (map_by (is_some_item code.frames) refl)

  -- ---- the contents

  pub code_is : IsCode (entries_of pool) first (code_raw pool first all code) code None
  code_is = record {
    sizes = record {
      max_stack_fits = s.written.value.max_stack;
      max_locals_fits = s.written.value.max_locals;
      length_from = some_bytes pool code s.written;
      length_to = s.written.short;
      handlers_fit = let e : length (map (handler_raw pool all) code.handlers)
          ≡ length code.handlers = length-map code.handlers (handler_raw pool all) in omega (arith, e, s.few_handlers);
    };
    max_stack = refl;
    max_locals = refl;
    infos = infos pool code.ins;
    is = bytes_is pool code s.written;
    lines = lines;
    instructions = instructions_are pool code s.written;
    handlers = handlers_are pool code s.written code.handlers s.written.good.handlers has_handlers;
    attributes = attributes_are;
    line_tables = line_tables_are;
    rows = map_rows;
    map = map_is;
    frames = frames_are pool code s.written first s.typed (has_frames_by (is_some_item code.frames) refl has_map);
    floats = ap (λ (b : Bool). let o : Option LeftKind = cond b (Some left.FloatType) None in o)
        (sym (rows_plain pool all first None code.frames));
  }

  -- a Code as it is written
  pub body_is : IsBody (entries_of pool) first (code_contents pool first code) (Some code) None
  body_is = (code_raw pool first all code, refl, code_is)
