-- A code after right acts follows the format with the frames that are carried.
use Rattle.std.proofs.Common.{◌≡◌, ◌≤◌, ◌<◌, ℕ, Bool, true, false, cond, List, [], ◌∷◌, length, map, refl, sym, subst}
use Rattle.std.proofs.Common.{arith}
use Rattle.std.specs.List.{AllByRecursion}
use Rattle.jv_base.proofs.Lists.{all_weaker}
use Rattle.class_model.specs.Frames.{cut_tops, words_of_types}
use Rattle.class_model.specs.WellFormed.{IsGoodCode, IsGoodFrame, IsGoodType}
use Rattle.class_model.specs.declared.code.Code.{Code}
use Rattle.class_model.specs.declared.frame.FrameAt.{FrameAt}
use Rattle.class_model.specs.declared.frame.VType.{VType}
use Rattle.class_model.specs.declared.frame.VType.TheVariants as vtype
use Rattle.code_edit.specs.declared.act.Act.{Act}
use Rattle.code_edit.specs.declared.act.Pass.{Pass}
use Rattle.code_edit.specs.declared.act.Pass.TheVariants.{Reach, Const, Slots, Jumps}
use Rattle.code_edit.specs.Applied.{applied, lives_of}
use Rattle.code_edit.specs.Flow.{is_target}
use Rattle.code_edit.specs.Legal.{AreRightActs}
use Rattle.code_edit.specs.Rewriting.{place}
use Rattle.code_edit.specs.SoundCode.{IsSound}
use Rattle.edit_premises.proofs.Places.{place_le}
use Rattle.frame_rebuild.specs.Carried.{moved_frame, moved_locals, moved_type}
use Rattle.frame_rebuild.specs.Rebuilt.{is_slot_cut, rebuilt}
use Rattle.swap_laws.proofs.InFormat.{edited_good}
use Rattle.rebuild_laws.specs.Laws.{RebuiltCodesFollowFormat}
use Rattle.rebuild_laws.proofs.News.{applied_long, new_stays}
use Rattle.rebuild_laws.proofs.Standing.{carried_ascend, carried_has}
use Rattle.rebuild_laws.proofs.Types.{cut_has, cut_twice, cut_words, locals_have, locals_words, stack_has, stack_words}

module _ (p : Pass) (acts : List Act) (code : Code) (right : AreRightActs p acts code) where
  abbrev lives : ℕ → Bool
  lives = lives_of p acts code

  abbrev cut : ℕ → Bool
  cut = is_slot_cut acts code

  abbrev new : Code
  new = rebuilt p acts code

  type_good : (ty : VType) → IsGoodType code.ins ty → IsGoodType new.ins (moved_type lives ty)
  type_good (vtype.Uninit k) h = by (lives k) refl
    where
      by : (b : Bool) → lives k ≡ b → IsGoodType new.ins (cond b (vtype.Uninit (place lives k)) vtype.Top)
      by true l =
          let r = new_stays acts code k h.0 h.1 h.2 h.3 p right l in
          (r.0, h.1, r.1, r.2)
      by false l = tt
  type_good vtype.Top h = tt
  type_good vtype.Int h = tt
  type_good vtype.Long h = tt
  type_good vtype.Null h = tt
  type_good vtype.UninitThis h = tt
  type_good (vtype.Object ty) h = h

  frame_good : (f : FrameAt) → IsGoodFrame code f → place lives f.index < place lives (length code.ins)
      → IsGoodFrame new (moved_frame lives cut f)
  frame_good f h lt = record {
    index = subst (λ (n : ℕ). place lives f.index < n) (sym (applied_long p acts code)) lt;
    locals = cut_has (IsGoodType new.ins) (moved_locals lives cut 0 f.frame.locals)
        (locals_have lives cut (IsGoodType code.ins) (IsGoodType new.ins) tt type_good 0 f.frame.locals h.locals);
    cut = cut_twice (moved_locals lives cut 0 f.frame.locals);
    locals_fit =
        let less = cut_words (moved_locals lives cut 0 f.frame.locals) in
        let equal = locals_words lives cut 0 f.frame.locals in
        let fits = h.locals_fit in
        subst (λ (n : ℕ). words_of_types (cut_tops (moved_locals lives cut 0 f.frame.locals)) ≤ n) (room p)
        (omega (arith, less, equal, fits));
    stack = stack_has lives cut (IsGoodType code.ins) (IsGoodType new.ins) tt type_good f.frame.stack h.stack;
    stack_fits =
        let equal = stack_words lives f.frame.stack in
        let fits = h.stack_fits in
        subst (λ (n : ℕ). words_of_types (map (moved_type lives) f.frame.stack) ≤ n) (depth p)
        (omega (arith, equal, fits));
  }
    where
      room : (q : Pass) → code.max_locals ≡ (applied q acts code).max_locals
      room Reach = refl
      room Slots = refl
      room Jumps = refl
      room Const = refl

      depth : (q : Pass) → code.max_stack ≡ (applied q acts code).max_stack
      depth Reach = refl
      depth Slots = refl
      depth Jumps = refl
      depth Const = refl

  before : (fs : List FrameAt) → AllByRecursion (IsGoodFrame code) fs
      → AllByRecursion (λ (f : FrameAt). place lives f.index ≤ place lives (length code.ins)) fs
  before fs h = all_weaker (IsGoodFrame code)
      (λ (f : FrameAt). place lives f.index ≤ place lives (length code.ins))
      (λ f g. place_le lives f.index (length code.ins) (let lt = g.index in omega (arith, lt))) fs h

  rebuilt_good : IsSound code → IsGoodCode code → IsGoodCode new
  rebuilt_good sound good = after (edited_good_of sound good)
    where
      edited_good_of : IsSound code → IsGoodCode code → IsGoodCode (applied p acts code)
      edited_good_of sound good = edited_good (record { pass = p; acts = acts } ∷ []) code (right, tt) sound good

      after : IsGoodCode (applied p acts code) → IsGoodCode new
      after a = record {
        some = a.some;
        instructions = a.instructions;
        lines = a.lines;
        handlers = a.handlers;
        frames = carried_has lives (is_target code) cut (place lives (length code.ins)) (IsGoodFrame code)
            (IsGoodFrame new) frame_good code.frames good.ascending (before code.frames good.frames) good.frames;
        ascending = carried_ascend lives (is_target code) cut (place lives (length code.ins)) code.frames
            good.ascending (before code.frames good.frames);
      }

pub rebuilt_follows : RebuiltCodesFollowFormat
rebuilt_follows p acts code right sound good = rebuilt_good p acts code right sound good
