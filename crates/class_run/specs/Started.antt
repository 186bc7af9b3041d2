-- What a run of an entry begins with, by the arguments that it is given (the project's own).
use Rattle.std.specs.Prelude.{ℕ, ◌+◌, List, [], ◌∷◌, ◌++◌, length, map}
use Rattle.std.specs.List.{range_with_len}
use Rattle.class_run.specs.declared.ended.Arg.{Arg}
use Rattle.class_run.specs.declared.ended.Arg.TheVariants as arg
use Rattle.jvm_model.specs.Heap.{Array, Object, Str, string}
use Rattle.jvm_model.specs.Types.{class_type}
use Rattle.jvm_model.specs.Value.{Int, Long, Ref, Value}

-- the objects of a heap after the stream, and the arguments
pub record Started : Type 0 where
  pub heap : List Object
  pub args : List Value

-- some objects, and then a value in front of others
abbrev pub with : List Object → Value → Started → Started
with objects value rest = record { heap = objects ++ rest.heap; args = value ∷ rest.args }

-- The arguments, where the next object has the number n: a text is a new string, and texts are new strings and then
-- their array.
abbrev pub started_from : ℕ → List Arg → Started
started_from n [] = record { heap = []; args = [] }
started_from n (arg.Int z ∷ args) = with [] (Int z) (started_from n args)
started_from n (arg.Long z ∷ args) = with [] (Long z) (started_from n args)
started_from n (arg.Text units ∷ args) = with (Str units ∷ []) (Ref n) (started_from (n + 1) args)
started_from n (arg.Texts texts ∷ args) =
    with (map Str texts ++ Array (class_type string) (map Ref (range_with_len n (length texts))) ∷ [])
    (Ref (n + length texts)) (started_from (n + length texts + 1) args)

-- object 0 is the stream
abbrev pub started : List Arg → Started
started args = started_from 1 args
