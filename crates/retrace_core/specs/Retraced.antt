-- A trace with old names (ProGuard manual, "ReTrace"; where it says nothing, the project's own).
use Rattle.std.specs.Prelude.{ℕ, List, [], ◌∷◌, ◌++◌, length, map, drop, Option, Some, None, codes, ◌==◌}
use Rattle.std.specs.List.{slice_split}
use Rattle.std.specs.Str.Lines.{strip_carriage_return}
use Rattle.jv_base.specs.External.{dotted}
use Rattle.mapping_file.specs.declared.mapping.MapClass.{MapClass}
use Rattle.mapping_file.specs.declared.mapping.Mapping.{Mapping}
use Rattle.retrace_core.specs.Frames.{Frame, frame_of, line_of}
use Rattle.retrace_core.specs.Heads.{Head, head_of}
use Rattle.retrace_core.specs.OldNames.{class_named, old_methods, source_of}

-- the line of a frame in a class
abbrev pub frame_text : Frame → List ℕ → List ℕ
frame_text f source = f.blanks ++ (codes "at " ++ (f.class ++ (codes "." ++ (f.method ++ (codes "("
    ++ (source ++ (f.number ++ codes ")")))))))

-- the line of a frame in a class with an old name, where this is the old name of its method
abbrev pub old_frame_text : Frame → MapClass → List ℕ → List ℕ
old_frame_text f c method = frame_text (record f { class = dotted c.old; method = method }) (source_of c.old)

-- the lines of a frame, where its class has an old name: one for each old name that its method may have had
abbrev pub frame_retraced : List ℕ → Frame → Option MapClass → List (List ℕ)
frame_retraced line f None = line ∷ []
frame_retraced line f (Some c) =
    map (old_frame_text f c) (old_methods c f.method (line_of f.number))

-- the line of a thrown object, where its class has an old name
abbrev pub head_retraced : List ℕ → Head → Option MapClass → List ℕ
head_retraced line h None = line
head_retraced line h (Some c) = h.front ++ (dotted c.old ++ h.text)

-- a line that is no frame's
abbrev pub other_retraced : Mapping → List ℕ → Option Head → List ℕ
other_retraced m line None = line
other_retraced m line (Some h) = head_retraced line h (class_named m.classes h.class)

abbrev pub line_retraced_by : Mapping → List ℕ → Option Frame → List (List ℕ)
line_retraced_by m line None = other_retraced m line (head_of line) ∷ []
line_retraced_by m line (Some f) = frame_retraced line f (class_named m.classes f.class)

-- a line, without its end, with old names: one line or several
unfoldable pub line_retraced : Mapping → List ℕ → List (List ℕ)
line_retraced m line = line_retraced_by m line (frame_of line)

-- lines with something between them
unfoldable pub joined : List ℕ → List (List ℕ) → List ℕ
joined between [] = []
joined between (line ∷ []) = line
joined between (line ∷ next ∷ lines) = line ++ (between ++ joined between (next ∷ lines))

-- the end of a part that an LF follows: LF or CR LF
abbrev pub end_of : List ℕ → List ℕ
end_of part = drop (length (strip_carriage_return part)) part ++ 10 ∷ []

-- a line that ends with LF or CR LF: each that it becomes ends so
abbrev pub ended_retraced : Mapping → List ℕ → List ℕ
ended_retraced m part = joined (end_of part) (line_retraced m (strip_carriage_return part)) ++ end_of part

-- lines, of which the last has no end: of those that it becomes all but the last end with LF
unfoldable pub parts_retraced : Mapping → List (List ℕ) → List ℕ
parts_retraced m [] = []
parts_retraced m (part ∷ []) = joined (10 ∷ []) (line_retraced m part)
parts_retraced m (part ∷ next ∷ parts) = ended_retraced m part ++ parts_retraced m (next ∷ parts)

-- a trace with old names: each line by itself, and the ends of lines as they are
unfoldable pub retraced : Mapping → List ℕ → List ℕ
retraced m trace = parts_retraced m (slice_split (λ b. b == 10) trace)
