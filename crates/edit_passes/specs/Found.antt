-- The indices that control reaches, told as they are found (the project's own; only the code's
-- contracts need it).
use Rattle.std.specs.Prelude.{ℕ, suc, List, [], ◌∷◌, ◌++◌, not, ◌&&◌, ◌==◌, Option, Some, None, Bool}
use Rattle.std.specs.Prelude.{length, nat_lt, slice_get, if◌then◌else◌}
use Rattle.class_model.specs.declared.code.Code.{Code}
use Rattle.class_model.specs.declared.code.Handler.{Handler}
use Rattle.class_model.specs.declared.code.Ins.{Ins}
use Rattle.code_edit.specs.Flow.{successors_of}
use Rattle.edit_tables.specs.Marks.{has, none, put}
use Rattle.edit_tables.specs.Places.{counts_from, place_in}

-- of each index whether it was found, and those that were in their order
pub record Found : Type 0 where
  pub marks : List Bool
  pub order : List ℕ

abbrev pub found_as : List Bool → List ℕ → Found
found_as marks order = record { marks = marks; order = order }

-- one index more, unless it was found
abbrev pub with_one : ℕ → Found → Found
with_one at f =
    if nat_lt at (length f.marks) && not (has f.marks at)
    then found_as (put at f.marks) (f.order ++ at ∷ []) else f

abbrev pub with_all : List ℕ → Found → Found
with_all [] f = f
with_all (x ∷ xs) f = with_all xs (with_one x f)

-- where control goes on from an index that holds this, in a code of n instructions
abbrev pub leads_from : ℕ → ℕ → Option Ins → List ℕ
leads_from n at None = []
leads_from n at (Some i) = successors_of n at i.op

-- goes on from an index, if there is one
abbrev pub spread_on : (ℕ → Found) → Found → Option ℕ → Found
spread_on rest f None = f
spread_on rest f (Some at) = rest at

-- what control goes on to from those that were found, from that of this number on; from at most as
-- many as the list is long
abbrev pub spread : List Ins → Code → ℕ → Found → Found
spread [] code next f = f
spread (i ∷ ins) code next f =
    spread_on
    (λ at. spread ins code (suc next)
    (with_all (leads_from (length code.ins) at (slice_get code.ins at)) f)) f
    (slice_get f.order next)

-- the entries of handlers that cover some that were found, told by how many were found before an
-- index
abbrev pub with_entries : List ℕ → List Handler → Found → Found
with_entries places [] f = f
with_entries places (h ∷ handlers) f =
    with_entries places handlers
    (if nat_lt (place_in places h.from) (place_in places h.to) then with_one h.entry f else f)

abbrev pub entered : Code → Found → Found
entered code f = with_entries (counts_from 0 f.marks) code.handlers f

-- the one and the other in turn until no entry comes to it, at most as often as the list is long
abbrev pub rounds : List Ins → Code → Found → Found
rounds [] code f = f
rounds (i ∷ ins) code f =
    if length (entered code f).order == length f.order then entered code f
    else rounds ins code (spread code.ins code 0 (entered code f))

-- all of them
abbrev pub found_in : Code → Found
found_in code =
    rounds code.ins code
    (spread code.ins code 0 (with_one 0 (found_as (none (length code.ins)) [])))
