-- The bytes of a code as it is written stand for its instructions, and rows of its exception table for its handlers
-- (JVMS 4.7.3).
use Rattle.std.proofs.Common.{◌≡◌, ℕ, zero, suc, ◌+◌, ◌^◌, ◌<◌, ◌≤◌, List, [], ◌∷◌, ◌++◌, length, map, get_or, Option}
use Rattle.std.proofs.Common.{Some, None, Ok, refl, sym, ap, subst, ◌∙◌, arith}
use Rattle.std.specs.Prelude.{slice_get, slice_index, IfSome}
use Rattle.std.specs.List.{AllByRecursion, AllZip, flat_map}
use Rattle.std.proofs.lemmas.List.{length-append}
use Rattle.std.proofs.lemmas.Option.{slice_get-get_or}
use Rattle.jv_base.specs.Utf16.{units_of}
use Rattle.jv_base.proofs.Lists.{all_weaker}
use Rattle.format_reading.specs.Spelling.{AllStand}
use Rattle.class_model.specs.declared.constant.PoolConstant.{PoolConstant}
use Rattle.class_model.specs.declared.constant.PoolConstant.TheVariants.{Class}
use Rattle.class_model.specs.declared.code.Code.{Code}
use Rattle.class_model.specs.declared.code.Ins.{Ins}
use Rattle.class_model.specs.declared.code.Handler.{Handler}
use Rattle.class_model.specs.Pool.{IsClassAt}
use Rattle.class_model.specs.ConstantPool.{IsOptionalClassAt}
use Rattle.class_model.specs.InstructionStructure.{info_bytes, starts_of}
use Rattle.class_model.specs.CodeAttribute.{IsIns, IsHandler}
use Rattle.class_model.specs.CanonicalPool.{class_constants}
use Rattle.class_model.specs.CanonicalCode.{op_info, size_of, places_from, places, infos_from, code_bytes, op_constants}
use Rattle.class_model.specs.CanonicalClass.{class_index, caught_constants, caught_index, handler_raw, line_rows}
use Rattle.class_model.specs.bodies.PoolEntries.{entries_of, Has}
use Rattle.class_model.specs.WellFormed.{IsClassName, HasFewWords, IsGoodHandler, IsGoodCode}
use Rattle.class_model.specs.OpValues.{IsOpValue}
use Rattle.class_model.specs.WritableCode.{IsWritableCode}
use Rattle.class_model.specs.WriteLimits.{branches_fit}
use Rattle.class_model.proofs.CodeLaw.{IsCodeText, code_found, lines_found}
use Rattle.class_model.proofs.BackPool.{index_fits, all_said}
use Rattle.class_model.proofs.BackSizes.{info_is_there, size_is}
use Rattle.class_model.proofs.BackPlaces.{begins, begins_are, begins_long, place_is, within}
use Rattle.class_model.proofs.BackCode.{op_in, infos}
use Rattle.class_model.proofs.BackRead.{code_back, meant_back}
use Rattle.class_laws.specs.ClassValues.{IsInsValue, IsCodeValue}
use Rattle.class_laws.proofs.SpelledLists.{all_front, all_back, all_each}
use Rattle.class_laws.proofs.SpelledPool.{have_units, class_units_there}
use Rattle.class_laws.proofs.SpelledWanted.{HasAll, AllRight}
use Rattle.class_write.proofs.SpelledBytes.{code_is_bytes}
use Rattle.class_write.proofs.SpelledLines.{lines_back}

-- ---- places

module _ (pool : List PoolConstant) where
  -- where instructions begin, and the end of the last one
  places_are : (all : List ℕ) (ins : List Ins) (at : ℕ)
      → places_from pool at ins
      ≡ begins pool ins at ++ (at + length (flat_map info_bytes (infos_from pool all at ins))) ∷ []
  places_are all [] at = ap (λ (k : ℕ). k ∷ []) (let e : at ≡ at + 0 = omega arith in e)
  places_are all (i ∷ ins) at =
      let next = at + size_of pool at i.op in
      let info = op_info pool (slice_index all) at i.op in
      let rest = flat_map info_bytes (infos_from pool all next ins) in
      let e : next + length rest
      ≡ at + length (info_bytes info ++ rest) = omega
      (arith, size_is pool (slice_index all) at i.op, length-append (info_bytes info) rest) in
      ap (λ (l : List ℕ). at ∷ l) (places_are all ins next ∙ ap (λ (k : ℕ). begins pool ins next ++ k ∷ []) e)

  places_long : (ins : List Ins) (at : ℕ) → length (places_from pool at ins) ≡ suc (length ins)
  places_long [] at = refl
  places_long (i ∷ ins) at = ap suc (places_long ins (at + size_of pool at i.op))

  later : (ins : List Ins) (at k : ℕ) → k ≤ length ins → at ≤ get_or (places_from pool at ins) k 0
  later ins at zero le = by ins
    where
      by : (ins : List Ins) → at ≤ get_or (places_from pool at ins) 0 0
      by [] = omega arith
      by (i ∷ ins) = omega arith
  later [] at (suc k) le = absurd (omega (arith, le))
  later (i ∷ ins) at (suc k) le = let h = later ins (at + size_of pool at i.op) k (omega (arith, le)) in omega
      (arith, h)

  pub ascend : (ins : List Ins) (at j k : ℕ) → j < k → k ≤ length ins
      → get_or (places_from pool at ins) j 0 < get_or (places_from pool at ins) k 0
  ascend [] at j k lt le = absurd (omega (arith, lt, le))
  ascend (i ∷ ins) at j zero lt le = absurd (omega (arith, lt))
  ascend (i ∷ ins) at zero (suc k) lt le =
      let some : 0 < size_of pool at i.op = info_is_there (op_info pool (λ to. 0) at i.op) in
      let h = later ins (at + size_of pool at i.op) k (omega (arith, le)) in
      omega (arith, some, h)
  ascend (i ∷ ins) at (suc j) (suc k) lt le = ascend ins (at + size_of pool at i.op) j k (omega (arith, lt))
      (omega (arith, le))

-- ---- a code

-- the code is written in a pool that has its constants, within the limits
pub record IsWritten (pool : List PoolConstant) (code : Code) : Type 0 where
  pub right : AllRight pool pool
  pub count : length pool + 1 < 2 ^ 16
  pub good : IsGoodCode code
  pub value : IsCodeValue code
  pub words : AllByRecursion (λ (i : Ins). HasFewWords i.op) code.ins
  pub has : HasAll pool (flat_map (λ (i : Ins). op_constants i.op) code.ins)
  pub short : length (code_bytes pool (places pool code.ins) code.ins) < 2 ^ 16
  pub near : branches_fit (places pool code.ins) 0 code.ins ≡ Ok tt

module _ (pool : List PoolConstant) (code : Code) (w : IsWritten pool code) where
  abbrev all : List ℕ
  all = places pool code.ins

  abbrev starts : List ℕ
  starts = starts_of (infos pool code.ins)

  abbrev bytes : List ℕ
  bytes = code_bytes pool all code.ins

  values : AllByRecursion (λ (i : Ins). IsOpValue i.op) code.ins
  values = all_weaker IsInsValue (λ (i : Ins). IsOpValue i.op) (λ i v. v.op) code.ins w.value.ins

  writable : IsWritableCode (entries_of pool) pool code.ins
  writable = record {
    good = w.good.instructions;
    few_words = w.words;
    values = values;
    said = all_said pool w.count code.ins (all_each (Has pool) (λ (i : Ins). op_constants i.op) code.ins w.has);
    short = w.short;
    near = w.near;
  }

  -- ---- offsets

  starts_are : starts ≡ begins pool code.ins 0
  unfolding places
  starts_are = begins_are pool all code.ins 0

  pub starts_long : length starts ≡ length code.ins
  starts_long = ap length starts_are ∙ begins_long pool code.ins 0

  place_at : (k : ℕ) → k < length code.ins → slice_index all k ≡ get_or (begins pool code.ins 0) k 0
  unfolding places
  place_at k lt = place_is pool code.ins 0 k lt

  -- an instruction begins at its place
  pub begins_at : (k : ℕ) → k < length code.ins → slice_get starts k ≡ Some (slice_index all k)
  begins_at k lt =
      ap (λ (l : List ℕ). slice_get l k) starts_are
      ∙ slice_get-get_or (begins pool code.ins 0) k 0 (let n = begins_long pool code.ins 0 in omega (arith, n, lt))
      ∙ ap (λ (n : ℕ). Some n) (sym (place_at k lt))

  pub place_low : (k : ℕ) → k < length code.ins → slice_index all k < 2 ^ 16
  unfolding code_bytes
  place_low k lt = omega (arith, place_at k lt, within pool all code.ins 0 k lt, w.short)

  -- the places, with the end of the code
  ends_are : starts ++ length bytes ∷ [] ≡ all
  unfolding places code_bytes
  ends_are =
      let n : length bytes ≡ 0 + length bytes = omega arith in
      ap (λ (k : ℕ). starts ++ k ∷ []) n ∙ ap (λ (l : List ℕ). l ++ (0 + length bytes) ∷ []) starts_are
      ∙ sym (places_are pool all code.ins 0)

  end_at : (k : ℕ) → k ≤ length code.ins → slice_get (starts ++ length bytes ∷ []) k ≡ Some (slice_index all k)
  unfolding places
  end_at k le = ap (λ (l : List ℕ). slice_get l k) ends_are
      ∙ slice_get-get_or all k 0 (let n = places_long pool code.ins 0 in omega (arith, n, le))

  pub ascends : (j k : ℕ) → j < k → k ≤ length code.ins → slice_index all j < slice_index all k
  unfolding places
  ascends j k lt le = ascend pool code.ins 0 j k lt le

  pub some_bytes : 0 < length bytes
  unfolding code_bytes
  some_bytes = let h = within pool all code.ins 0 0 w.good.some in omega (arith, h)

  -- ---- instructions

  text_is : IsCodeText (entries_of pool) bytes (infos pool code.ins) (map op_in code.ins)
  text_is = code_found (entries_of pool) bytes 0 (infos pool code.ins) (map op_in code.ins)
      (code_is_bytes (length code.ins) pool all code.ins w.good.instructions w.words values) (have_units pool w.right)
      (code_back (entries_of pool) pool code.ins writable) (meant_back (entries_of pool) pool code.ins 0 writable)

  pub bytes_is : bytes ≡ flat_map info_bytes (infos pool code.ins)
  bytes_is = text_is.0

  pub instructions_are : AllStand info_bytes (IsIns (entries_of pool) starts (line_rows None all code.ins)) 0
      (infos pool code.ins) code.ins
  instructions_are =
      subst (λ (l : List Ins). AllStand info_bytes (IsIns (entries_of pool) starts (line_rows None all code.ins)) 0
      (infos pool code.ins) l)
      (lines_back pool all code.ins w.good.lines
      (λ j lt. ap (slice_index all) (let e : 0 + j ≡ j = omega arith in e) ∙ place_at j lt))
      (lines_found (entries_of pool) starts (line_rows None all code.ins) 0 (infos pool code.ins)
      (map op_in code.ins) text_is.1)

-- ---- handlers

module _ (pool : List PoolConstant) (count : length pool + 1 < 2 ^ 16) where
  -- a class at its index
  pub class_at_index : (name : List ℕ) → IsClassName name → HasAll pool (class_constants name)
      → IsClassAt (entries_of pool) (class_index pool name) name
  class_at_index name is h =
      (index_fits pool (Class (units_of name)) count, (is.0, class_units_there pool (units_of name) h.0 h.1.0), is.1)

  caught_at : (o : Option (List ℕ)) → IfSome o IsClassName → HasAll pool (caught_constants o)
      → IsOptionalClassAt (entries_of pool) (caught_index pool o) o
  caught_at None is h = refl
  caught_at (Some name) is h = class_at_index name is h

module _ (pool : List PoolConstant) (code : Code) (w : IsWritten pool code) where
  handler_is : (h : Handler) → IsGoodHandler (length code.ins) h → HasAll pool (caught_constants h.caught)
      → IsHandler (entries_of pool) (starts_of (infos pool code.ins))
      (length (code_bytes pool (places pool code.ins) code.ins)) (handler_raw pool (places pool code.ins) h) h
  handler_is h good has = record {
    from = begins_at pool code w h.from (omega (arith, good.range, good.to));
    to = end_at pool code w h.to good.to;
    range = ascends pool code w h.from h.to good.range good.to;
    entry = begins_at pool code w h.entry good.entry;
    caught = caught_at pool w.count h.caught good.caught has;
  }

  pub handlers_are : (hs : List Handler) → AllByRecursion (IsGoodHandler (length code.ins)) hs
      → HasAll pool (flat_map (λ (h : Handler). caught_constants h.caught) hs)
      → AllZip (IsHandler (entries_of pool) (starts_of (infos pool code.ins))
      (length (code_bytes pool (places pool code.ins) code.ins)))
      (map (handler_raw pool (places pool code.ins)) hs) hs
  handlers_are [] good has = tt
  handlers_are (h ∷ hs) good has =
      let others = flat_map (λ (h : Handler). caught_constants h.caught) hs in (
        handler_is h good.0 (all_front (Has pool) (caught_constants h.caught) others has),
        handlers_are hs good.1
            (all_back (Has pool) (caught_constants h.caught) others has),
      )
