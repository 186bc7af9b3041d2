-- What instructions and handlers name, marked (the project's own; only the code's contracts need
-- it).
use Rattle.std.specs.Prelude.{ℕ, suc, List, [], ◌∷◌, Bool, nat_lt, if◌then◌else◌}
use Rattle.class_model.specs.declared.code.Handler.{Handler}
use Rattle.class_model.specs.declared.code.Ins.{Ins}
use Rattle.edit_tables.specs.Marks.{marked, put}
use Rattle.edit_tables.specs.Places.{lives_in, place_in}

-- what each instruction that lives names, the first one's index being at
abbrev pub spread : (ℕ → Ins → List ℕ) → List Bool → ℕ → List Ins → List Bool → List Bool
spread names lives at [] marks = marks
spread names lives at (i ∷ ins) marks =
    spread names lives (suc at) ins (if lives_in lives at then marked (names at i) marks else marks)

-- the entries of handlers that cover something that lives, told by where indices come to stand
abbrev pub entered : List ℕ → List Handler → List Bool → List Bool
entered places [] marks = marks
entered places (h ∷ handlers) marks =
    entered places handlers
    (if nat_lt (place_in places h.from) (place_in places h.to) then put h.entry marks else marks)
