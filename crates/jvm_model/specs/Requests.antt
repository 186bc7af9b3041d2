-- What each request is answered (JVMS 6.5).
use Rattle.std.specs.Prelude.{ℕ, List, Some}
use Rattle.jvm_model.specs.Answers.{Answer, Gives, Raises, of_some}
use Rattle.jvm_model.specs.Arrays.{get_in, length_in, new_array, new_arrays, on_array, put_in}
use Rattle.jvm_model.specs.Calls.{call_selected, call_special, called_static}
use Rattle.jvm_model.specs.Casts.{cast, instance_of}
use Rattle.jvm_model.specs.Fields.{get_field, get_static, new, put_field, put_static}
use Rattle.jvm_model.specs.Heap.{World}
use Rattle.jvm_model.specs.Instructions.{Request, Known, Raise, GetStatic, PutStatic, GetField, PutField, CallStatic}
use Rattle.jvm_model.specs.Instructions.{CallSpecial, CallVirtual, CallInterface, New, NewArray, NewArrays, ArrayLength}
use Rattle.jvm_model.specs.Instructions.{GetAt, PutAt, Cast, Test}
use Rattle.jvm_model.specs.Program.{Shape}

-- the answer to a method of this class
abbrev pub answer : Shape → (from : List ℕ) → World → Request → Answer
answer p from w (Known v) = Gives (Some v) w
answer p from w (Raise exception) = Raises exception
answer p from w (GetStatic r) = of_some (get_static w) (p.field r)
answer p from w (PutStatic r v) = of_some (put_static w v) (p.field r)
answer p from w (GetField r v) = of_some (get_field w v) (p.field r)
answer p from w (PutField r v x) = of_some (put_field w v x) (p.field r)
answer p from w (CallStatic r args) = of_some (called_static w args) (p.static_target r)
answer p from w (CallSpecial r args) = call_special p from w r args
answer p from w (CallVirtual r args) = call_selected p w r args
answer p from w (CallInterface r args) = call_selected p w r args
answer p from w (New class) = new w class
answer p from w (NewArray component n) = new_array w component n
answer p from w (NewArrays ty sizes) = new_arrays w ty sizes
answer p from w (ArrayLength v) = on_array w v (length_in w)
answer p from w (GetAt e v i) = on_array w v (get_in w e i)
answer p from w (PutAt e v i x) = on_array w v (put_in p w e i x)
answer p from w (Cast ty v) = cast p w ty v
answer p from w (Test ty v) = instance_of p w ty v
