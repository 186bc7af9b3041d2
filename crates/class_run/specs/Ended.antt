-- What a run has come to (the project's own: what an interpreter tells of a run).
use Rattle.std.specs.Prelude.{ℕ, List, [], Option, Some, None, slice_get}
use Rattle.std.specs.Option.{option_map_or}
use Rattle.class_model.specs.declared.class.Class.{Class}
use Rattle.class_run.specs.Started.{started}
use Rattle.class_run.specs.declared.ended.Arg.{Arg}
use Rattle.class_run.specs.declared.ended.Back.{Back}
use Rattle.class_run.specs.declared.ended.Back.TheVariants as back
use Rattle.class_run.specs.declared.ended.End.{End}
use Rattle.class_run.specs.declared.ended.End.TheVariants as end
use Rattle.class_run.specs.declared.ended.Ended.{Ended}
use Rattle.jvm_model.specs.Heap.{Object, class_of}
use Rattle.jvm_model.specs.State.{HasReturned, HasThrown, Running, State, Status, WentWrong, status}
use Rattle.jvm_model.specs.Step.{run, start}
use Rattle.jvm_model.specs.Value.{Key, Value, Int, Long, Null, Ref, Lit}
use Rattle.set_view.specs.ViewOf.{view_of}

-- what an entry has returned, as it is told
abbrev pub back_of : Option Value → Back
back_of None = back.Nothing
back_of (Some (Int z)) = back.Int z
back_of (Some (Long z)) = back.Long z
back_of (Some Null) = back.Null
back_of (Some (Ref n)) = back.Ref n
back_of (Some (Lit units)) = back.Lit units

-- how the run has ended, objects being those of a heap
abbrev pub end_of : List Object → Status → End
end_of heap Running = end.Running
end_of heap (HasReturned value) = end.Returned (back_of value)
end_of heap (HasThrown n) = end.Threw (option_map_or class_of (slice_get heap n) []) n
end_of heap WentWrong = end.Wrong

-- what is told of a state
abbrev pub ended_of : State → Ended
ended_of s = record { printed = s.world.printed; how = end_of s.world.heap (status s) }

-- what a run of an entry of a set has come to after so many steps; the entry is a method that a run may begin with
-- (`is_startable`), and the arguments are of its parameters' types (the project's own)
abbrev pub ended_after : List Class → Key → List Arg → ℕ → Ended
ended_after classes entry args n =
    ended_of (run (view_of classes) (start (view_of classes) entry (started args).heap (started args).args) n)
