-- Well-formed frames are read back from their canonical rows (JVMS 4.7.4).
use Rattle.std.proofs.Common.{◌≡◌, ℕ, zero, suc, ◌+◌, ◌^◌, ◌<◌, Bool, true, false, List, [], ◌∷◌, length, map}
use Rattle.std.proofs.Common.{get_or, Option, Some, None, refl, sym, ap, subst, ◌∙◌, ne_eqb, arith}
use Rattle.std.specs.Prelude.{AllPairs, option_map, position, nat_eq, slice_get, slice_index}
use Rattle.std.specs.List.{AllByRecursion, position_from}
use Rattle.std.proofs.lemmas.Bool.{eq-eqb}
use Rattle.std.proofs.lemmas.Option.{slice_get-map, slice_get_within}
use Rattle.std.proofs.lemmas.Iterator.Adapters.{position_from-zero}
use Rattle.class_model.specs.declared.pool.Entry.{Entry}
use Rattle.class_model.specs.declared.op.Op.{Op}
use Rattle.class_model.specs.declared.op.Op.TheVariants as op
use Rattle.class_model.specs.declared.code.Code.{Code}
use Rattle.class_model.specs.declared.code.Ins.{Ins}
use Rattle.class_model.specs.declared.constant.PoolConstant.{PoolConstant}
use Rattle.class_model.specs.declared.frame.VType.{VType}
use Rattle.class_model.specs.declared.frame.VType.TheVariants as vtype
use Rattle.class_model.specs.declared.frame.FrameAt.{FrameAt}
use Rattle.class_model.specs.ReadingFrames.{is_new}
use Rattle.class_model.specs.WellFormed.{IsGoodType, IsGoodFrame, Ascend}
use Rattle.class_laws.proofs.FrameWords.{fewer_than_words, tail_pairs}
use Rattle.frame_read.specs.ReadBack.{HasPlace, IsKnownType, IsKnownFrame, Follow}
use Rattle.frame_read.specs.WritableFrames.{IsSaid, TypesAreSaid, AreWritableFrames, GoodFramesAreReadBack}
use Rattle.frame_read.proofs.BackFrames.{frames_read_back}

-- ---- ascending offsets

-- the first that passes, counted from k
first_at : (p : ℕ → Bool) (k n : ℕ) (xs : List ℕ) → n < length xs → p (get_or xs n 0) ≡ true → ((i : ℕ) → i < n
    → p (get_or xs i 0) ≡ false) → position_from p k xs ≡ Some (k + n)
first_at p k n [] lt passes before = absurd (omega (arith, lt))
first_at p k zero (x ∷ xs) lt passes before =
    let e : k ≡ k + 0 = omega arith in
    rw passes (ap (λ (m : ℕ). let O : Option ℕ = Some m in O) e)
first_at p k (suc n) (x ∷ xs) lt passes before =
    let fails : p x ≡ false = before 0 (omega arith) in
    let e : k + 1 + n ≡ k + suc n = omega arith in
    rw fails (first_at p (k + 1) n xs (omega (arith, lt)) passes (λ i below. before (suc i) (omega (arith, below)))
    ∙ ap (λ (m : ℕ). let O : Option ℕ = Some m in O) e)

-- of ascending offsets each is found where it stands
number_is : (starts : List ℕ) (n : ℕ) → AllPairs ◌<◌ starts → n < length starts
    → position (nat_eq (get_or starts n 0)) starts ≡ Some n
number_is starts n ascend lt =
    let e : 0 + n ≡ n = omega arith in
    position_from-zero (nat_eq (get_or starts n 0)) starts
    ∙ first_at (nat_eq (get_or starts n 0)) 0 n starts lt (eq-eqb _ _ refl)
    (λ i below. let less : get_or starts i 0 < get_or starts n 0 = ascend i n 0 below lt in ne_eqb _ _
    (λ same. absurd (omega
    (arith, less, same))))
    ∙ ap (λ (m : ℕ). let O : Option ℕ = Some m in O) e

each_holds : (P : ℕ → Type 0) (xs : List ℕ) (n : ℕ) → AllByRecursion P xs → n < length xs → P (get_or xs n 0)
each_holds P [] n all lt = absurd (omega (arith, lt))
each_holds P (x ∷ xs) zero all lt = all.0
each_holds P (x ∷ xs) (suc n) all lt = each_holds P xs n all.1 (omega (arith, lt))

-- ---- frames of a code

module _ (entries : List Entry) (constants : List PoolConstant) (starts : List ℕ) (code : Code) where
  abbrev ops_of : List Op
  ops_of = map (λ (i : Ins). i.op) code.ins

  place_is : AreWritableFrames entries constants starts code → (n : ℕ) → n < length code.ins
      → HasPlace entries constants starts ops_of n
  place_is w n lt =
      let within : n < length starts = subst (λ (k : ℕ). n < k) (sym w.begin) lt in
      record {
        offset = each_holds (λ (offset : ℕ). offset < 2 ^ 16) starts n w.offsets within;
        number = number_is starts n
            w.offsets_ascend within;
      }

  new_found : (n : ℕ) (at : Ins) (name : List ℕ) → slice_get code.ins n ≡ Some at → at.op ≡ op.New name
      → is_new entries starts ops_of (slice_get ops_of n) ≡ true
  new_found n at name there new =
      ap (is_new entries starts ops_of) (slice_get-map (λ (i : Ins). i.op) code.ins n
      ∙ ap (option_map (λ (i : Ins). i.op)) there
      ∙ ap (λ (o : Op). let O : Option Op = Some o in O) new)

  type_is : AreWritableFrames entries constants starts code → (ty : VType) → IsGoodType code.ins ty
      → IsSaid entries constants ty
      → IsKnownType entries constants starts ops_of ty
  type_is w vtype.Top good said = tt
  type_is w vtype.Int good said = tt
  type_is w vtype.Long good said = tt
  type_is w vtype.Null good said = tt
  type_is w vtype.UninitThis good said = tt
  type_is w (vtype.Object class) good said = said
  type_is w (vtype.Uninit n) good said =
      (place_is w n (slice_get_within code.ins n good.0 good.2), new_found n good.0 good.1 good.2 good.3)

  types_are : AreWritableFrames entries constants starts code → (types : List VType)
      → AllByRecursion (IsGoodType code.ins) types
      → AllByRecursion (IsSaid entries constants) types
      → AllByRecursion (IsKnownType entries constants starts ops_of) types
  types_are w [] good said = tt
  types_are w (ty ∷ types) good said = (type_is w ty good.0 said.0, types_are w types good.1 said.1)

  frame_is : AreWritableFrames entries constants starts code → (frame : FrameAt) → IsGoodFrame code frame
      → TypesAreSaid entries constants frame
      → IsKnownFrame entries constants starts ops_of code.max_stack code.max_locals frame
  frame_is w frame good said =
      let locals = fewer_than_words frame.frame.locals in
      let stack = fewer_than_words frame.frame.stack in
      record {
        place = place_is w frame.index good.index;
        locals = types_are w frame.frame.locals good.locals said.0;
        locals_short = omega (arith, locals, good.locals_fit, w.max_locals);
        cut = good.cut;
        locals_fit = good.locals_fit;
        stack = types_are w frame.frame.stack good.stack said.1;
        stack_short = omega (arith, stack, good.stack_fits, w.max_stack);
        stack_fits = good.stack_fits;
      }

  frames_are : AreWritableFrames entries constants starts code → (frames : List FrameAt)
      → AllByRecursion (IsGoodFrame code) frames
      → AllByRecursion (TypesAreSaid entries constants) frames
      → AllByRecursion (IsKnownFrame entries constants starts ops_of code.max_stack code.max_locals) frames
  frames_are w [] good said = tt
  frames_are w (frame ∷ frames) good said = (frame_is w frame good.0 said.0, frames_are w frames good.1 said.1)

  follow_on : AreWritableFrames entries constants starts code → (frame : FrameAt) (frames : List FrameAt)
      → AllPairs Ascend (frame ∷ frames) → AllByRecursion (IsGoodFrame code) frames
      → Follow entries constants starts ops_of (Some (slice_index starts frame.index)) frames
  follow_on w frame [] ascending good = tt
  follow_on w frame (next ∷ frames) ascending good =
      let before : frame.index < next.index = ascending 0 1 frame (omega arith) (omega arith) in
      let within : next.index < length starts = subst (λ (k : ℕ). next.index < k) (sym w.begin) good.0.index in (
        w.offsets_ascend frame.index next.index 0 before within,
        follow_on w next frames
            (tail_pairs frame (next ∷ frames) ascending) good.1,
      )

  follow_all : AreWritableFrames entries constants starts code → (frames : List FrameAt) → AllPairs Ascend frames
      → AllByRecursion (IsGoodFrame code) frames → Follow entries constants starts ops_of None frames
  follow_all w [] ascending good = tt
  follow_all w (frame ∷ frames) ascending good = (tt, follow_on w frame frames ascending good.1)

-- the canonical rows of the frames of a well-formed code are read as these frames
pub good_frames_read_back : GoodFramesAreReadBack
good_frames_read_back entries constants starts code first w =
    frames_read_back entries constants starts
    (map (λ (i : Ins). i.op) code.ins) code.max_stack code.max_locals first code.frames w.count
    (frames_are entries constants starts code w code.frames w.good w.said)
    (follow_all entries constants starts code w code.frames w.ascending w.good)
