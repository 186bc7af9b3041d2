-- Frames are carried alike by tests that agree on the indices of a code.
use Rattle.std.proofs.Common.{◌≡◌, ℕ, zero, suc, ◌+◌, ◌≤◌, ◌<◌, Bool, true, false, cond, not, ◌||◌, ◌&&◌, List, [], ◌∷◌}
use Rattle.std.proofs.Common.{◌++◌, length, map, refl, sym, ap, ◌∙◌, arith, Some, slice_get}
use Rattle.std.specs.Prelude.{◌==◌}
use Rattle.std.specs.List.{AllByRecursion}
use Rattle.class_model.specs.Frames.{cut_tops, words_of_type}
use Rattle.class_model.specs.WellFormed.{IsGoodFrame, IsGoodType}
use Rattle.class_model.specs.declared.code.Code.{Code}
use Rattle.class_model.specs.declared.code.Ins.{Ins}
use Rattle.class_model.specs.declared.frame.FrameAt.{FrameAt}
use Rattle.class_model.specs.declared.frame.VType.{VType}
use Rattle.class_model.specs.declared.frame.VType.TheVariants as vtype
use Rattle.code_edit.specs.Rewriting.{living, place}
use Rattle.frame_rebuild.specs.Carried.{carried, counts, is_carried, moved_frame, moved_local, moved_locals, moved_type}
use Rattle.frame_rebuild.specs.Carried.{next_place, tops}

-- a type names an index below a number, if it names one
abbrev pub IsBelow : ℕ → VType → Type 0
IsBelow n (vtype.Uninit k) = k < n
IsBelow n ty = Unit {0}

-- so do the types of a frame, and its own index is one
pub record AreBelow (n : ℕ) (f : FrameAt) : Type 0 where
  pub index : f.index < n
  pub locals : AllByRecursion (IsBelow n) f.frame.locals
  pub stack : AllByRecursion (IsBelow n) f.frame.stack

get_below : {A : Type 0} (xs : List A) (k : ℕ) (x : A) → slice_get xs k ≡ Some x → k < length xs
get_below [] k x is = absurd cc
get_below (y ∷ ys) zero x is = omega arith
get_below (y ∷ ys) (suc k) x is = let lt = get_below ys k x is in omega (arith, lt)

type_below : (ins : List Ins) (ty : VType) → IsGoodType ins ty → IsBelow (length ins) ty
type_below ins (vtype.Uninit k) h = get_below ins k h.0 h.2
type_below ins vtype.Top h = tt
type_below ins vtype.Int h = tt
type_below ins vtype.Long h = tt
type_below ins vtype.Null h = tt
type_below ins vtype.UninitThis h = tt
type_below ins (vtype.Object ty) h = tt

all_below : (ins : List Ins) (tys : List VType) → AllByRecursion (IsGoodType ins) tys
    → AllByRecursion (IsBelow (length ins)) tys
all_below ins [] h = tt
all_below ins (ty ∷ tys) h = (type_below ins ty h.0, all_below ins tys h.1)

-- the frames of a good code are below its end
pub frames_below : (code : Code) (frames : List FrameAt) → AllByRecursion (IsGoodFrame code) frames
    → AllByRecursion (AreBelow (length code.ins)) frames
frames_below code [] h = tt
frames_below code (f ∷ fs) h = (
  record {
    index = h.0.index;
    locals = all_below code.ins f.frame.locals h.0.locals;
    stack = all_below code.ins f.frame.stack h.0.stack;
  },
  frames_below code fs h.1,
)

module _ (f g : ℕ → Bool) (n : ℕ) (same : (at : ℕ) → at < n → f at ≡ g at) where
  living_same : (i k : ℕ) → i + k ≤ n → living f i k ≡ living g i k
  living_same i zero le = refl
  living_same i (suc k) le =
      let here : f i ≡ g i = same i (omega (arith, le)) in
      let rest : living f (suc i) k ≡ living g (suc i) k = living_same (suc i) k (omega (arith, le)) in
      λ j. cond (here j) (suc (rest j)) (rest j)

  pub place_same : (at : ℕ) → at ≤ n → place f at ≡ place g at
  place_same at le = living_same 0 at (omega (arith, le))

  type_same : (ty : VType) → IsBelow n ty → moved_type f ty ≡ moved_type g ty
  type_same (vtype.Uninit k) lt =
      let here : f k ≡ g k = same k lt in
      let to : place f k ≡ place g k = place_same k (omega (arith, lt)) in
      λ j. cond (here j) (vtype.Uninit (to j)) vtype.Top
  type_same vtype.Top h = refl
  type_same vtype.Int h = refl
  type_same vtype.Long h = refl
  type_same vtype.Null h = refl
  type_same vtype.UninitThis h = refl
  type_same (vtype.Object ty) h = refl

  stack_same : (tys : List VType) → AllByRecursion (IsBelow n) tys
      → map (moved_type f) tys ≡ map (moved_type g) tys
  stack_same [] h = refl
  stack_same (ty ∷ tys) h = λ j. type_same ty h.0 j ∷ stack_same tys h.1 j

  module _ (cut : ℕ → Bool) where
    locals_same : (slot : ℕ) (tys : List VType) → AllByRecursion (IsBelow n) tys
        → moved_locals f cut slot tys ≡ moved_locals g cut slot tys
    unfolding moved_locals
    locals_same slot [] h = refl
    locals_same slot (ty ∷ tys) h =
        λ j. cond (cut slot) (tops ty) (type_same ty h.0 j ∷ [])
        ++ locals_same (slot + words_of_type ty) tys h.1 j

    frame_same : (x : FrameAt) → AreBelow n x → moved_frame f cut x ≡ moved_frame g cut x
    frame_same x h =
        let to : place f x.index ≡ place g x.index = place_same x.index (let lt = h.index in omega (arith, lt)) in
        λ j. record {
          index = to j;
          frame = record {
            locals = cut_tops (locals_same 0 x.frame.locals h.locals j);
            stack = stack_same x.frame.stack h.stack j;
          };
        }

    module _ (led mark : ℕ → Bool) (alike : (at : ℕ) → at < n → led at ≡ mark at) (end : ℕ) where
      counts_same : (x : FrameAt) → AreBelow n x → counts f led x ≡ counts g mark x
      counts_same x h = λ j. same x.index h.index j || alike x.index h.index j

      next_same : (xs : List FrameAt) → AllByRecursion (AreBelow n) xs
          → next_place f led end xs ≡ next_place g mark end xs
      unfolding next_place
      next_same [] h = refl
      next_same (x ∷ xs) h =
          let to : place f x.index ≡ place g x.index =
          place_same x.index (let lt = h.0.index in omega (arith, lt)) in
          λ j. cond (counts_same x h.0 j) (to j) (next_same xs h.1 j)

      pub carried_same : (xs : List FrameAt) → AllByRecursion (AreBelow n) xs
          → carried f led cut end xs ≡ carried g mark cut end xs
      unfolding carried
      carried_same [] h = refl
      carried_same (x ∷ xs) h =
          let to : place f x.index ≡ place g x.index =
          place_same x.index (let lt = h.0.index in omega (arith, lt)) in
          λ j. cond (counts_same x h.0 j && not (to j == next_same xs h.1 j))
          (frame_same x h.0 j ∷ carried_same xs h.1 j) (carried_same xs h.1 j)
