-- A trace of the output tells, with old names, what the input does, as a statement on all pairs (the project's own).
use Rattle.std.specs.Prelude.{◌≡◌, ◌⊎◌, ℕ, true, List, [], ◌∷◌, Some, IsSome}
use Rattle.std.specs.List.{AllByRecursion, AllZip, Contains}
use Rattle.jv_base.specs.External.{dotted}
use Rattle.class_model.specs.declared.class.Class.{Class}
use Rattle.keep_rules.specs.declared.rules.Rules.{Rules}
use Rattle.mapping_file.specs.declared.mapping.MapClass.{MapClass}
use Rattle.mapping_file.specs.declared.mapping.MapMethod.{MapMethod}
use Rattle.mapping_file.specs.declared.mapping.Mapping.{Mapping}
use Rattle.jvm_model.specs.Heap.{Object}
use Rattle.jvm_model.specs.Same.{Corr}
use Rattle.jvm_model.specs.Start.{ArePlain}
use Rattle.jvm_model.specs.State.{Frame, State, WentWrong, frames, status}
use Rattle.jvm_model.specs.Step.{run, start}
use Rattle.jvm_model.specs.Value.{Key, Value}
use Rattle.set_view.specs.ViewOf.{is_startable, view_of}
use Rattle.retrace_core.specs.Frames.{line_of}
use Rattle.retrace_core.specs.OldNames.{candidates, class_named, fitting, source_of}
use Rattle.retrace_core.specs.Retraced.{line_retraced}
use Rattle.image_laws.specs.TakenSet.TakenSet.{IsTaken}
use Rattle.pair_laws.specs.PairSame.Laws.{pair_names}
use Rattle.pair_laws.specs.PairSame.Pairs.{IsPair}
use Rattle.pair_laws.specs.PairTrace.FrameLines.{IsLineNumber, IsSource, frame_line}

-- no method with another old name has the new name of a frame's method in its class, and fits its line
abbrev pub NoOther : Mapping → Frame → Frame → List ℕ → Type 0
NoOther mapping f g number = (c : MapClass) → class_named mapping.classes (dotted g.method.class) ≡ Some c
    → AllByRecursion (λ (m : MapMethod). m.old ≡ f.method.name)
    (fitting (line_of number) (candidates c.methods g.method.name))

-- one of the lines that the line of a frame of the output becomes, with old names, is that of the frame of the input, at
-- the same number, which is a line of the code of the output, and with the source file that its class suggests; and where
-- no other method fits it is the only one
abbrev pub IsTold : List Class → Mapping → Frame → Frame → Type 0
IsTold output mapping f g = (source number : List ℕ) → IsSource source
    → IsLineNumber ((view_of output).code g.method) number
    → Contains (line_retraced mapping (frame_line g.method number source))
    (frame_line f.method number (source_of f.method.class))
    × (NoOther mapping f g number → line_retraced mapping (frame_line g.method number source)
    ≡ frame_line f.method number (source_of f.method.class) ∷ [])

-- so it is where the frame of the input is of a method with a code
abbrev pub IsRetraced : List Class → List Class → Mapping → Frame → Frame → Type 0
IsRetraced input output mapping f g = IsSome ((view_of input).code f.method) → IsTold output mapping f g

-- so it is of all frames of methods with codes, one by one, wherever both are in step
abbrev pub FramesRetrace : Type 0
FramesRetrace = (input output : List Class) (mapping : Mapping) (rules : Rules) → IsTaken input → IsTaken output
    → IsPair input output mapping rules → (s t : State)
    → Corr (view_of input) (view_of output) (pair_names input mapping) s t
    → AllZip (IsRetraced input output mapping) (frames s) (frames t)

-- in a run from an entry each frame is of a method with a code, unless the run has gone wrong
abbrev pub FramesHaveCodes : Type 0
FramesHaveCodes = (classes : List Class) → IsTaken classes → (entry : Key) → is_startable classes entry ≡ true
    → (heap : List Object) → ArePlain heap → (args : List Value) (n : ℕ)
    → (status (run (view_of classes) (start (view_of classes) entry heap args) n) ≡ WentWrong)
    ⊎ AllByRecursion (λ (f : Frame). IsSome ((view_of classes).code f.method))
    (frames (run (view_of classes) (start (view_of classes) entry heap args) n))

-- so the lines of all frames are told, wherever the output is in step with such a run of the input
abbrev pub RunsRetrace : Type 0
RunsRetrace = (input output : List Class) (mapping : Mapping) (rules : Rules) → IsTaken input → IsTaken output
    → IsPair input output mapping rules → (entry : Key) → is_startable input entry ≡ true → (heap : List Object)
    → ArePlain heap → (args : List Value) (n : ℕ) (t : State)
    → Corr (view_of input) (view_of output) (pair_names input mapping)
    (run (view_of input) (start (view_of input) entry heap args) n) t
    → AllZip (IsTold output mapping) (frames (run (view_of input) (start (view_of input) entry heap args) n)) (frames t)
