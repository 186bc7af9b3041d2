-- A code that changes in one pass, told by lists (the project's own; only the code's contracts need
-- it).
use Rattle.std.specs.Prelude.{ℕ, suc, List, [], ◌∷◌, map, Bool, Option, Some, None, if◌then◌else◌}
use Rattle.std.specs.List.{filter}
use Rattle.std.specs.Option.{unwrap_or}
use Rattle.class_model.specs.declared.code.Code.{Code}
use Rattle.class_model.specs.declared.code.Ins.{Ins}
use Rattle.class_model.specs.declared.op.Op.{Op}
use Rattle.class_model.specs.declared.op.Op.TheVariants as op
use Rattle.code_edit.specs.Rewriting.{is_open, moved_handler, retargeted, with_op}
use Rattle.code_edit.specs.Slots.{pop_of}
use Rattle.const_tables.specs.Folding.{fold_in}
use Rattle.edit_tables.specs.Marks.{has}
use Rattle.edit_tables.specs.Places.{counts_from, lives_in, place_in}

-- what stands in place of a branch that is skipped
abbrev pub skip_op : Op → Option Op
skip_op (op.Goto to) = Some op.Nop
skip_op (op.IfZero c to) = Some op.Pop
skip_op (op.IfNull null to) = Some op.Pop
skip_op (op.IfCmp c to) = Some op.Pop2
skip_op (op.IfRef eq to) = Some op.Pop2
skip_op o = None

-- what stands in place of a store that is cut without a push
abbrev pub cut_op : Op → Option Op
cut_op (op.Store k slot) = Some (pop_of k)
cut_op o = None

-- what stands in place of a branch or switch that is folded
abbrev pub goto_op : List ℕ → Option ℕ → Option Op
goto_op places None = None
goto_op places (Some to) = Some (op.Goto (place_in places to))

module _ (lives pops skips : List Bool) (folds : List (Option ℕ)) (aimed : ℕ → ℕ → ℕ → ℕ) where
  -- what stands in place of the operation at an index, where another one does
  abbrev pub other_op : List ℕ → ℕ → Op → Option Op
  other_op places at o =
      if has skips at then skip_op o else if has pops at then cut_op o
      else goto_op places (fold_in folds at)

  -- the operation at an index after the acts, its targets where they lead and then come to stand
  abbrev pub new_op : List ℕ → ℕ → Op → Op
  new_op places at o =
      unwrap_or (other_op places at o) (retargeted (λ which to. place_in places (aimed at which to)) o)

  -- the instructions that are left, the first one's index being at
  abbrev pub left_ins : List ℕ → ℕ → List Ins → List Ins
  left_ins places at [] = []
  left_ins places at (i ∷ ins) =
      if lives_in lives at
      then with_op (new_op places at) i ∷ left_ins places (suc at) ins
      else left_ins places (suc at) ins

  -- the code after the acts
  abbrev pub changed : Code → Code
  changed code =
      record code {
        ins = left_ins (counts_from 0 lives) 0 code.ins;
        handlers =
            filter is_open (map (moved_handler (place_in (counts_from 0 lives))) code.handlers);
        frames = [];
      }
