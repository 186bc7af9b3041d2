-- Each form of a canonical row is read, and writes its locals and its stack (JVMS 4.7.4).
use Rattle.std.proofs.Common.{◌≡◌, ℕ, ◌+◌, ◌-◌, ◌^◌, ◌<◌, ◌≤◌, Bool, true, false, cond, leb, List, [], ◌∷◌, ◌++◌}
use Rattle.std.proofs.Common.{length, map, take, Option, Some, refl, ap, ◌∙◌, arith}
use Rattle.std.specs.Prelude.{option_map, option_and_then, slice_get}
use Rattle.std.specs.List.{AllByRecursion, list_any}
use Rattle.std.proofs.lemmas.Bool.{le-leb}
use Rattle.class_model.specs.declared.pool.Entry.{Entry}
use Rattle.class_model.specs.declared.op.Op.{Op}
use Rattle.class_model.specs.declared.constant.PoolConstant.{PoolConstant}
use Rattle.class_model.specs.declared.frame.VType.{VType}
use Rattle.class_model.specs.declared.frame.VType.TheVariants as vtype
use Rattle.class_model.specs.CanonicalFrames as canonical
use Rattle.class_model.specs.CanonicalFrames.{Form, type_info, row, rows, form_of, is_chop, is_append, same_types}
use Rattle.class_model.specs.CanonicalFrames.{delta_to}
use Rattle.class_model.specs.Frames.{SameFrame, SameLocalsOneStackItem, SameLocalsOneStackItemExtended}
use Rattle.class_model.specs.Frames.{SameFrameExtended, is_float_info, names_float}
use Rattle.class_model.specs.ReadingFrames as reading
use Rattle.class_model.specs.ReadingFrames.{Before, Written, type_of, types_of, only_new, is_new, written, written_by}
use Rattle.class_model.specs.ReadingFrames.{frame_of, frame_at, fits, row_stands, read_row, read_frame}
use Rattle.class_model.specs.ReadingFrames.{read_frames_behind, read_frames}
use Rattle.frame_read.specs.ReadBack.{IsKnownType}
use Rattle.frame_read.proofs.BackRows.{IsReadRow, same_back, item_back, chop_back, append_back, full_back}

module _ (entries : List Entry) (constants : List PoolConstant) (starts : List ℕ) (ops : List Op) where
  abbrev Known : VType → Type 0
  Known ty = IsKnownType entries constants starts ops ty

  -- ---- types

  new_is : (n : ℕ) → is_new entries starts ops (slice_get ops n) ≡ true
      → only_new entries starts ops n ≡ Some (vtype.Uninit n)
  new_is n h = rw h refl

  type_known : (ty : VType) → Known ty → type_of entries starts ops (type_info constants starts ty) ≡ Some ty
  type_known vtype.Top known = refl
  type_known vtype.Int known = refl
  type_known vtype.Long known = refl
  type_known vtype.Null known = refl
  type_known vtype.UninitThis known = refl
  type_known (vtype.Object class) known = ap (option_map (λ c. vtype.Object c)) known.1
  type_known (vtype.Uninit n) known = ap (option_and_then (only_new entries starts ops)) known.0.number
      ∙ new_is n known.1

  types_known : (types : List VType) → AllByRecursion Known types
      → types_of entries starts ops (map (type_info constants starts) types) ≡ Some types
  types_known [] known = refl
  types_known (ty ∷ types) known =
      ap (option_and_then (λ (t : VType). option_map (λ (ts : List VType). t ∷ ts) (types_of entries starts ops (map
      (type_info constants starts) types)))) (type_known ty known.0)
      ∙ ap (option_map (λ (ts : List VType). ty ∷ ts)) (types_known types known.1)

  no_float : (ty : VType) → is_float_info (type_info constants starts ty) ≡ false
  no_float vtype.Top = refl
  no_float vtype.Int = refl
  no_float vtype.Long = refl
  no_float vtype.Null = refl
  no_float vtype.UninitThis = refl
  no_float (vtype.Object class) = refl
  no_float (vtype.Uninit n) = refl

  no_floats : (types : List VType) → list_any is_float_info (map (type_info constants starts) types) ≡ false
  no_floats [] = refl
  no_floats (ty ∷ types) = rw (no_float ty, no_floats types) refl

  -- ---- forms

  -- a form behind these locals is read, and writes these locals and this stack
  pub record Stands (before : List VType) (delta : ℕ) (form : Form) (locals stack : List VType) : Type 0 where
    pub is_read : IsReadRow (row constants starts delta form)
    pub writes : written_by entries starts ops before (row constants starts delta form)
        ≡ Some (written entries starts ops delta locals stack)
    pub floats : names_float (row constants starts delta form) ≡ false

  same_writes : (before : List VType) (delta : ℕ) (b : Bool)
      → written_by entries starts ops before (cond b (SameFrame delta)
      (SameFrameExtended delta)) ≡ Some (written entries starts ops delta before [])
  same_writes before delta true = refl
  same_writes before delta false = refl

  same_floats : (delta : ℕ) (b : Bool) → names_float (cond b (SameFrame delta) (SameFrameExtended delta)) ≡ false
  same_floats delta true = refl
  same_floats delta false = refl

  pub same_stands : (before locals : List VType) (delta : ℕ) → before ≡ locals → delta < 2 ^ 16
      → Stands before delta canonical.same locals []
  same_stands before locals delta same lt = record {
    is_read = same_back entries constants starts ops delta lt;
    writes = same_writes before delta (leb delta 63) ∙ ap (λ (ls : List VType). let O : Option Written = Some
        (written entries starts ops delta ls []) in O) same;
    floats = same_floats delta (leb delta 63);
  }

  item_writes : (before : List VType) (delta : ℕ) (item : VType) (b : Bool) → Known item
      → written_by entries starts ops before
      (cond b (SameLocalsOneStackItem (64 + delta) (type_info constants starts item))
      (SameLocalsOneStackItemExtended delta (type_info constants starts item)))
      ≡ Some (written entries starts ops delta before (item ∷ []))
  item_writes before delta item true known =
      let e : 64 + delta - 64 ≡ delta = omega arith in
      ap (option_map (λ (stack : List VType). written entries starts ops (64 + delta - 64) before stack))
      (types_known (item ∷ [])
      (known, tt))
      ∙ ap (λ (d : ℕ). let O : Option Written = Some (written entries starts ops d before (item ∷ [])) in O) e
  item_writes before delta item false known = ap
      (option_map (λ (stack : List VType). written entries starts ops delta before stack))
      (types_known (item ∷ []) (known, tt))

  item_floats : (delta : ℕ) (item : VType) (b : Bool)
      → names_float (cond b (SameLocalsOneStackItem (64 + delta) (type_info constants starts item))
      (SameLocalsOneStackItemExtended delta
      (type_info constants starts item))) ≡ false
  item_floats delta item true = no_float item
  item_floats delta item false = no_float item

  pub item_stands : (before locals : List VType) (delta : ℕ) (item : VType) → before ≡ locals → delta < 2 ^ 16
      → Known item
      → Stands before delta (canonical.same_with_item item) locals (item ∷ [])
  item_stands before locals delta item same lt known = record {
    is_read = item_back entries constants starts ops delta item lt known;
    writes = item_writes before delta item (leb delta 63) known
        ∙ ap (λ (ls : List VType). let O : Option Written = Some
        (written entries starts ops delta ls (item ∷ [])) in O) same;
    floats = item_floats delta item (leb delta 63);
  }

  pub chop_stands : (before locals : List VType) (delta gone : ℕ) → 1 ≤ gone → gone ≤ 3 → gone ≤ length before
      → take (length before - gone) before ≡ locals → delta < 2 ^ 16
      → Stands before delta (canonical.chop gone) locals []
  chop_stands before locals delta gone least most there is lt =
      let e : 251 - (251 - gone) ≡ gone = omega (arith, most) in
      record {
        is_read = chop_back entries constants starts ops delta gone least most lt;
        writes = ap (λ (k : ℕ). reading.chopped entries starts ops k delta before) e
            ∙ rw (le-leb gone (length before) there, is) refl;
        floats = refl;
      }

  pub append_stands : (before locals new : List VType) (delta : ℕ) → 1 ≤ length new → length new ≤ 3
      → before ++ new ≡ locals
      → delta < 2 ^ 16 → AllByRecursion Known new
      → Stands before delta (canonical.append new) locals []
  append_stands before locals new delta least most is lt known = record {
    is_read = append_back entries constants starts ops delta new least most lt known;
    writes = ap (option_map (λ (types : List VType). written entries starts ops delta (before ++ types) []))
        (types_known new known)
        ∙ ap (λ (ls : List VType). let O : Option Written = Some (written entries starts ops delta ls []) in O) is;
    floats = no_floats new;
  }

  pub full_stands : (before locals stack : List VType) (delta : ℕ) → delta < 2 ^ 16 → length locals < 2 ^ 16
      → length stack < 2 ^ 16
      → AllByRecursion Known locals → AllByRecursion Known stack
      → Stands before delta (canonical.full locals stack) locals stack
  full_stands before locals stack delta lt locals_short stack_short known_locals known_stack = record {
    is_read = full_back entries constants starts ops delta locals stack lt locals_short stack_short known_locals
        known_stack;
    writes = ap (option_and_then (λ (ls : List VType). option_map
        (λ (ss : List VType). written entries starts ops delta ls ss)
        (types_of entries starts ops (map (type_info constants starts) stack)))) (types_known locals known_locals)
        ∙ ap (option_map (λ (ss : List VType). written entries starts ops delta locals ss))
        (types_known stack known_stack);
    floats = rw (no_floats locals, no_floats stack) refl;
  }
