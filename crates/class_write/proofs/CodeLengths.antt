-- How long the contents of a Code are, and of what parts they are.
use Rattle.std.proofs.Common.{Result, Ok, Err, ◌≡◌, ℕ, ◌+◌, ◌*◌, ◌^◌, ◌<◌, ◌≤◌, Bool, true, false, cond, not, ◌==◌}
use Rattle.std.proofs.Common.{List, [], ◌∷◌, ◌++◌, length, map, Option, Some, None, codes, refl, sym, ap, ◌∙◌}
use Rattle.std.proofs.Common.{append_assoc, arith}
use Rattle.std.specs.Prelude.{All, slice_index, nat_eq, nat_lt}
use Rattle.std.proofs.lemmas.Bool.{lt-ltb, le-ltb}
use Rattle.jv_base.specs.Outcome.{◌>>=◌}
use Rattle.class_model.specs.declared.limit.WriteLimit.{WriteLimit}
use Rattle.class_model.specs.declared.limit.WriteLimit.TheVariants.{AttributeTooLong}
use Rattle.std.specs.Int.{w16, w32, to_be_bytes}
use Rattle.std.specs.List.{flat_map, AllByRecursion}
use Rattle.std.proofs.lemmas.List.{length-append, length-map}
use Rattle.std.proofs.lemmas.Grind.{flat_map-append}
use Rattle.std.proofs.lemmas.List.Elements.{All-from_recursion}
use Rattle.class_model.specs.declared.code.Code.{Code}
use Rattle.class_model.specs.declared.code.Ins.{Ins}
use Rattle.class_model.specs.declared.frame.VType.{VType}
use Rattle.class_model.specs.declared.frame.FrameAt.{FrameAt}
use Rattle.class_model.specs.WellFormed.{IsGoodFrame}
use Rattle.class_model.specs.declared.constant.PoolConstant.{PoolConstant}
use Rattle.class_model.specs.Structure.{AttributeInfo, attribute_info, ExceptionInfo, exception_info}
use Rattle.class_model.specs.Frames.{stack_map_table}
use Rattle.frame_write.specs.Writing.{HasShortLists}
use Rattle.class_model.specs.LineNumbers.{LineNumber, line_number}
use Rattle.class_model.specs.CanonicalFrames.{rows}
use Rattle.class_model.specs.CanonicalCode.{places, code_bytes}
use Rattle.class_model.specs.CanonicalClass.{is_some_item, line_row, line_rows_from, line_rows, line_table, attribute}
use Rattle.class_model.specs.CanonicalClass.{handler_raw, code_attributes, code_contents}
use Rattle.class_write.specs.bodies.Writing.{attribute_length, items_text, contents_due}
use Rattle.class_write.proofs.Counted.{rows_length}
use Rattle.class_write.proofs.SpelledLines.{lines_counted}
use Rattle.class_laws.proofs.FrameWords.{fewer_than_words}

-- ---- lines

row_anywhere : (before line : Option ℕ) (p q : ℕ) → length (line_row before p line) ≡ length (line_row before q line)
row_anywhere before None p q = refl
row_anywhere None (Some line) p q = refl
row_anywhere (Some before) (Some line) p q = by_new (not (nat_eq before line))
  where
    by_new : (b : Bool)
        → length (cond b ((let R : LineNumber = record { start_pc = p; line_number = line } in R) ∷ []) [])
        ≡ length (cond b ((let R : LineNumber = record { start_pc = q; line_number = line } in R) ∷ []) [])
    by_new true = refl
    by_new false = refl

from_anywhere : (before : Option ℕ) (all : List ℕ) (n : ℕ) (ins : List Ins)
    → length (line_rows_from before all n ins) ≡ length (line_rows_from before [] n ins)
from_anywhere before all n [] = refl
from_anywhere before all n (i ∷ ins) =
    let one = row_anywhere before i.line (slice_index all n) (slice_index [] n) in
    let others = from_anywhere i.line all (n + 1) ins in
    omega (
      arith,
      one,
      others,
      length-append (line_row before (slice_index all n) i.line) (line_rows_from i.line all (n + 1) ins),
      length-append (line_row before (slice_index [] n) i.line) (line_rows_from i.line [] (n + 1) ins),
    )

pub some_anywhere : (all : List ℕ) (ins : List Ins)
    → is_some_item (line_rows None all ins) ≡ is_some_item (line_rows None [] ins)
some_anywhere all ins = ap (λ n. not (n == 0)) (lines_counted all ins)

-- the table of less than 2^16 rows is short
pub table_short : (all : List ℕ) (ins : List Ins) (n : ℕ) → length (line_rows None [] ins) < 2 ^ 16
    → length (([] ++ to_be_bytes w16 n) ++ flat_map line_number (line_rows None all ins)) < 2 ^ 20
table_short all ins n lt =
    let rows = rows_length 4 line_number (λ r. refl) (line_rows None all ins) in
    omega (
      arith,
      lt,
      rows,
      lines_counted all ins,
      length-append (to_be_bytes w16 n)
          (flat_map line_number (line_rows None all ins)),
    )

-- ---- attributes

one_attribute : (written : Bool) (a : AttributeInfo)
    → length (flat_map attribute_info (cond written (a ∷ []) [])) ≡ attribute_length written (length a.info)
one_attribute true a =
    omega (
      arith,
      length-append (attribute_info a) [],
      length-append (to_be_bytes w16 a.attribute_name_index) (to_be_bytes w32 (length a.info) ++ a.info),
      length-append (to_be_bytes w32 (length a.info)) a.info,
    )
one_attribute false a = refl

-- two attributes, each where it is written
two_attributes : (w v : Bool) (a b : AttributeInfo)
    → length (flat_map attribute_info (cond w (a ∷ []) [] ++ cond v (b ∷ []) []))
    ≡ attribute_length w (length a.info) + attribute_length v (length b.info)
two_attributes w v a b =
    ap length (flat_map-append attribute_info (cond w (a ∷ []) []) (cond v (b ∷ []) []))
    ∙ omega (
      arith,
      length-append (flat_map attribute_info (cond w (a ∷ []) []))
          (flat_map attribute_info (cond v (b ∷ []) [])),
      one_attribute w a,
      one_attribute v b,
    )

-- ---- the contents

parts_long : (a b l c n t m z : List ℕ) → length (a ++ (b ++ (l ++ (c ++ (n ++ (t ++ (m ++ z)))))))
    ≡ length a + (length b + (length l + (length c + (length n + (length t + (length m + length z))))))
parts_long a b l c n t m z =
    omega (
      arith,
      length-append a (b ++ (l ++ (c ++ (n ++ (t ++ (m ++ z)))))),
      length-append b (l ++ (c ++ (n ++ (t ++ (m ++ z))))),
      length-append l (c ++ (n ++ (t ++ (m ++ z)))),
      length-append c (n ++ (t ++ (m ++ z))),
      length-append n (t ++ (m ++ z)),
      length-append t (m ++ z),
      length-append m z,
    )

parts_joined : (a b l c n t z : List ℕ)
    → (a ++ (b ++ (l ++ (c ++ (n ++ t))))) ++ z ≡ a ++ (b ++ (l ++ (c ++ (n ++ (t ++ z)))))
parts_joined a b l c n t z = simp append_assoc

module _ (pool : List PoolConstant) (first : List VType) (code : Code) where
  abbrev pub all : List ℕ
  all = places pool code.ins

  abbrev pub bytes : List ℕ
  bytes = code_bytes pool all code.ins

  abbrev pub handlers : List ExceptionInfo
  handlers = map (handler_raw pool all) code.handlers

  abbrev pub lines_info : List ℕ
  lines_info = line_table pool (line_rows None all code.ins)

  abbrev pub frames_info : List ℕ
  frames_info = stack_map_table (rows pool all first None code.frames)

  abbrev pub attributes : List AttributeInfo
  attributes = code_attributes pool first all code

  -- the two that are written, told without the places
  abbrev pub tables : List AttributeInfo
  tables = attribute pool (is_some_item (line_rows None [] code.ins)) (codes "LineNumberTable") lines_info
      ++ attribute pool (is_some_item code.frames) (codes "StackMapTable") frames_info

  pub tables_are : tables ≡ attributes
  tables_are = ap (λ b. attribute pool b (codes "LineNumberTable") lines_info ++ attribute pool
      (is_some_item code.frames) (codes "StackMapTable") frames_info)
      (sym (some_anywhere all code.ins))

  -- the items and the two tables are the contents
  pub contents_are : items_text pool code ++ (to_be_bytes w16 (length tables) ++ flat_map attribute_info tables)
      ≡ code_contents pool first code
  contents_are =
      ap (λ (made : List AttributeInfo). items_text pool code ++
      (to_be_bytes w16 (length made) ++ flat_map attribute_info made)) tables_are
      ∙ parts_joined (to_be_bytes w16 code.max_stack) (to_be_bytes w16 code.max_locals)
      (to_be_bytes w32 (length bytes)) bytes
      (to_be_bytes w16 (length handlers)) (flat_map exception_info handlers)
      (to_be_bytes w16 (length attributes) ++ flat_map attribute_info attributes)

  -- how many bytes they are
  pub contents_long : length (code_contents pool first code) ≡ 12 + (length bytes + (8 * length code.handlers
      + (attribute_length (is_some_item (line_rows None [] code.ins)) (length lines_info) + attribute_length
      (is_some_item code.frames) (length frames_info))))
  contents_long =
      let made : length (flat_map attribute_info attributes)
      ≡ attribute_length (is_some_item (line_rows None [] code.ins)) (length lines_info)
      + attribute_length (is_some_item code.frames) (length frames_info) =
      ap (λ (made : List AttributeInfo). length (flat_map attribute_info made)) (sym tables_are)
      ∙ two_attributes (is_some_item (line_rows None [] code.ins)) (is_some_item code.frames)
      (record { attribute_name_index = _; info = lines_info })
      (record { attribute_name_index = _; info = frames_info }) in
      let caught = rows_length 8 exception_info (λ e. refl) handlers in
      omega (
        arith,
        made,
        caught,
        length-map code.handlers (handler_raw pool all),
        parts_long (to_be_bytes w16 code.max_stack) (to_be_bytes w16 code.max_locals)
            (to_be_bytes w32 (length bytes)) bytes (to_be_bytes w16 (length handlers))
            (flat_map exception_info handlers) (to_be_bytes w16 (length attributes))
            (flat_map attribute_info attributes),
      )

  abbrev pub tables_of : List ℕ → List ℕ → List AttributeInfo
  tables_of lines frames = attribute pool (is_some_item (line_rows None [] code.ins)) (codes "LineNumberTable") lines
      ++ attribute pool (is_some_item code.frames) (codes "StackMapTable") frames

  -- what is written is the contents
  pub written_is : (items info lines frames : List ℕ) → items ≡ [] ++ items_text pool code → lines ≡ lines_info
      → frames ≡ frames_info
      → info ≡ items ++ (to_be_bytes w16 (length (tables_of lines frames)) ++ flat_map attribute_info
      (tables_of lines frames)) → info ≡ code_contents pool first code
  written_is items info lines frames is one other whole =
      whole ∙ ((λ i. is i ++ (to_be_bytes w16 (length (tables_of (one i) (other i))) ++ flat_map attribute_info
      (tables_of (one i) (other i)))) ∙ contents_are)

  -- their length by the lengths of their parts
  pub length_is : (b l f : ℕ) → b ≡ length bytes → l ≡ length lines_info → f ≡ length frames_info
      → length (code_contents pool first code) ≡ 12 + (b + (8 * length code.handlers
      + (attribute_length (is_some_item (line_rows None [] code.ins)) l + attribute_length
      (is_some_item code.frames) f)))
  length_is b l f eb el ef =
      contents_long ∙ sym (λ i. 12 + (eb i + (8 * length code.handlers
      + (attribute_length (is_some_item (line_rows None [] code.ins)) (el i) + attribute_length
      (is_some_item code.frames) (ef i)))))

  abbrev fit : Bool → ℕ → Result (Unit {0}) WriteLimit
  fit b n = cond b (Ok tt) (Err (AttributeTooLong n))

  tested_long : (b : Bool) (n : ℕ) (text : List ℕ) → b ≡ false
      → (fit b n >>= (λ fits. let R : Result (List ℕ) WriteLimit = Ok text in R)) ≡ Err (AttributeTooLong n)
  tested_long b n text e = rw e refl

  tested_short : (b : Bool) (n : ℕ) (text : List ℕ) → b ≡ true
      → (fit b n >>= (λ fits. let R : Result (List ℕ) WriteLimit = Ok text in R)) ≡ Ok text
  tested_short b n text e = rw e refl

  pub due_long : (n : ℕ) → length (code_contents pool first code) ≡ n → 4294967295 < n
      → contents_due pool first code ≡ Err (AttributeTooLong n)
  due_long n e lt =
      tested_long (nat_lt (length (code_contents pool first code)) (2 ^ 32)) (length (code_contents pool first code))
      (code_contents pool first code) (rw e (le-ltb _ _ (omega (arith, lt))))
      ∙ ap (λ k. let R : Result (List ℕ) WriteLimit = Err (AttributeTooLong k) in R) e

  pub due_short : (n : ℕ) (info : List ℕ) → length (code_contents pool first code) ≡ n → n ≤ 4294967295
      → info ≡ code_contents pool first code → contents_due pool first code ≡ Ok info
  due_short n info e le is =
      tested_short (nat_lt (length (code_contents pool first code)) (2 ^ 32)) (length (code_contents pool first code))
      (code_contents pool first code) (rw e (lt-ltb _ _ (omega (arith, le))))
      ∙ ap (λ (t : List ℕ). let R : Result (List ℕ) WriteLimit = Ok t in R) (sym is)

-- ---- frames

module _ (code : Code) (locals : code.max_locals < 2 ^ 16) (stack : code.max_stack < 2 ^ 16) where
  all_short : (frames : List FrameAt) → AllByRecursion (IsGoodFrame code) frames
      → AllByRecursion (λ (f : FrameAt). HasShortLists f.frame) frames
  all_short [] h = tt
  all_short (f ∷ frames) h =
      let one = fewer_than_words f.frame.locals in
      let other = fewer_than_words f.frame.stack in (
        record {
          locals = omega (arith, one, h.0.locals_fit, locals);
          stack = omega
              (arith, other, h.0.stack_fits, stack);
        },
        all_short frames h.1,
      )

  -- the frames of a well-formed code have few types
  pub short_frames : AllByRecursion (IsGoodFrame code) code.frames
      → All (λ (f : FrameAt). HasShortLists f.frame) code.frames
  short_frames h = All-from_recursion (λ (f : FrameAt). HasShortLists f.frame) code.frames (all_short code.frames h)
