-- A code names nothing with its carried frames but what it named.
use Rattle.std.proofs.Common.{◌≡◌, ℕ, suc, ◌+◌, Bool, true, false, cond, List, [], ◌∷◌, length, refl, subst, arith}
use Rattle.std.proofs.Common.{Some, slice_get}
use Rattle.std.specs.List.{AllByRecursion}
use Rattle.jv_base.proofs.Lists.{all_from}
use Rattle.class_model.specs.declared.frame.FrameAt.{FrameAt}
use Rattle.class_model.specs.declared.frame.VType.{VType}
use Rattle.class_model.specs.declared.frame.VType.TheVariants as vtype
use Rattle.code_edit.specs.Applied.{lives_of}
use Rattle.code_edit.specs.Flow.{is_target}
use Rattle.code_edit.specs.Rewriting.{place}
use Rattle.edit_laws.proofs.NamingLess.{edited_names_no_more}
use Rattle.frame_rebuild.specs.Carried.{carried, is_carried, moved_frame, moved_locals, moved_type}
use Rattle.frame_rebuild.specs.Rebuilt.{is_slot_cut}
use Rattle.swap_laws.specs.Swapped.{IsFrameOf, IsTypeOf, in_locals, in_stack, top, uninit}
use Rattle.rebuild_laws.specs.Laws.{RebuiltCodesNameLess}
use Rattle.rebuild_laws.proofs.Types.{cut_has, locals_have, stack_has}

module _ (lives is_led cut : ℕ → Bool) (end : ℕ) (frames : List FrameAt) where
  type_of : (ty : VType) → IsTypeOf frames ty → IsTypeOf frames (moved_type lives ty)
  type_of (vtype.Uninit k) h = by (lives k)
    where
      by : (b : Bool) → IsTypeOf frames (cond b (vtype.Uninit (place lives k)) vtype.Top)
      by true = uninit (place lives k) refl
      by false = top refl
  type_of vtype.Top h = h
  type_of vtype.Int h = h
  type_of vtype.Long h = h
  type_of vtype.Null h = h
  type_of vtype.UninitThis h = h
  type_of (vtype.Object ty) h = h

  frame_of : (k : ℕ) (f : FrameAt) → slice_get frames k ≡ Some f → IsFrameOf frames (moved_frame lives cut f)
  frame_of k f at = record {
    locals = cut_has (IsTypeOf frames) (moved_locals lives cut 0 f.frame.locals)
        (locals_have lives cut (IsTypeOf frames) (IsTypeOf frames) (top refl) type_of 0 f.frame.locals
        (all_from (IsTypeOf frames) f.frame.locals (λ j ty is. in_locals k j f at is)));
    stack = stack_has lives cut (IsTypeOf frames) (IsTypeOf frames) (top refl) type_of f.frame.stack
        (all_from (IsTypeOf frames) f.frame.stack (λ j ty is. in_stack k j f at is));
  }

  carried_of : (s : ℕ) (fs : List FrameAt)
      → ((k : ℕ) (f : FrameAt) → slice_get fs k ≡ Some f → slice_get frames (s + k) ≡ Some f)
      → AllByRecursion (IsFrameOf frames) (carried lives is_led cut end fs)
  unfolding carried
  carried_of s [] h = tt
  carried_of s (f ∷ fs) h =
      by (is_carried lives is_led end f fs)
      (carried_of (s + 1) fs (λ k g is. let next : s + suc k ≡ s + 1 + k = omega arith in
      subst (λ (j : ℕ). slice_get frames j ≡ Some g) next (h (suc k) g is)))
    where
      by : (b : Bool) → AllByRecursion (IsFrameOf frames) (carried lives is_led cut end fs)
          → AllByRecursion (IsFrameOf frames)
          (cond b (moved_frame lives cut f ∷ carried lives is_led cut end fs) (carried lives is_led cut end fs))
      by true r = (frame_of (s + 0) f (h 0 f refl), r)
      by false r = r

pub rebuilt_less : RebuiltCodesNameLess
rebuilt_less p acts code =
    let no_more = edited_names_no_more code (record { pass = p; acts = acts } ∷ []) in
    record {
      code = record { ins = no_more.ins; handlers = no_more.handlers };
      frames = carried_of (lives_of p acts code) (is_target code) (is_slot_cut acts code)
          (place (lives_of p acts code) (length code.ins)) code.frames 0 code.frames
          (λ k f is. let start : k ≡ 0 + k = omega arith in
          subst (λ (j : ℕ). slice_get code.frames j ≡ Some f) start is);
    }
