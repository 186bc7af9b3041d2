-- Arrays (JVMS 6.5.newarray, 6.5.anewarray, 6.5.multianewarray, 6.5.arraylength, 6.5.xaload, 6.5.xastore).
use Rattle.std.specs.Prelude.{ℕ, ◌+◌, ◌*◌, ℤ, pos, negsuc, List, [], ◌∷◌, ◌++◌, map, length, replicate, Some, None}
use Rattle.std.specs.Prelude.{int_lt, nat_lt, slice_get, slice_set, if◌then◌else◌}
use Rattle.std.specs.Int.{w32, int_wrap}
use Rattle.std.specs.Int.RustNames.{unsigned_abs}
use Rattle.std.specs.List.{list_any, range_with_len}
use Rattle.jv_base.specs.declared.types.FieldType.{FieldType}
use Rattle.class_model.specs.declared.op.Elem.{Elem}
use Rattle.jvm_model.specs.Answers.{Answer, Gives, Raises, NoAnswer, of_some}
use Rattle.jvm_model.specs.Exceptions.{NullPointer, ArrayIndex, NegativeSize, ArrayStore}
use Rattle.jvm_model.specs.Fields.{put_on_heap}
use Rattle.jvm_model.specs.Heap.{Array, Object, World, newest, object_of, type_of, with_object}
use Rattle.jvm_model.specs.Program.{Shape}
use Rattle.jvm_model.specs.Types.{component_of, default_of, is_component, is_type_below, kind_of, stored}
use Rattle.jvm_model.specs.Value.{Value, Int, Long, Null, Ref}

-- an array of so many components with default values (JVMS 2.3, 2.4)
abbrev pub blank_array : FieldType → ℕ → Object
blank_array component n = Array component (replicate n (default_of (kind_of component)))

-- a new array; a negative size throws a NegativeArraySizeException (JVMS 6.5.newarray, 6.5.anewarray)
abbrev pub new_array : World → FieldType → ℤ → Answer
new_array w component (pos n) = put_on_heap w (blank_array component n)
new_array w component (negsuc n) = Raises NegativeSize

-- references to so many objects, from a number on
abbrev pub references_from : ℕ → ℕ → List Value
references_from first n = map Ref (range_with_len first n)

-- So many arrays of this type, from the number `first` on: their components are the arrays that follow them, and so on
-- for each further size (JVMS 6.5.multianewarray; that they are made dimension by dimension is the project's own).
abbrev pub arrays_from : ℕ → ℕ → FieldType → List ℕ → List Object
arrays_from first count ty [] = []
arrays_from first count ty (n ∷ []) = replicate count (blank_array (component_of ty) n)
arrays_from first count ty (n ∷ m ∷ ns) =
    map (λ i. Array (component_of ty) (references_from (first + count + i * n) n)) (range_with_len 0 count)
    ++ arrays_from (first + count) (count * n) (component_of ty) (m ∷ ns)

-- new arrays of several dimensions; none is made where a size is negative (JVMS 6.5.multianewarray)
abbrev pub new_arrays : World → FieldType → List ℤ → Answer
new_arrays w ty sizes =
    if list_any (λ z. int_lt z (pos 0)) sizes then Raises NegativeSize
    else Gives (Some (newest w)) (record w {
      heap = w.heap
          ++ arrays_from (length w.heap) 1 ty (map unsigned_abs sizes);
    })

-- what is done with an array, which isn't null
abbrev pub on_array : World → Value → (ℕ → Object → Answer) → Answer
on_array w (Ref n) f = of_some (f n) (slice_get w.heap n)
on_array w Null f = Raises NullPointer
on_array w _ f = NoAnswer

-- the length of an array; one past 2^31 - 1 wraps (JVMS 6.5.arraylength; a JVM has no such array)
abbrev pub length_in : World → ℕ → Object → Answer
length_in w n (Array component values) = Gives (Some (Int (int_wrap w32 (pos (length values))))) w
length_in w n _ = NoAnswer

-- the place of an index within an array of this length
abbrev pub at_index : ℤ → ℕ → (ℕ → Answer) → Answer
at_index (pos i) n f = if nat_lt i n then f i else Raises ArrayIndex
at_index (negsuc i) n f = Raises ArrayIndex

-- a component of an array (JVMS 6.5.iaload, 6.5.laload, 6.5.aaload, 6.5.baload, 6.5.caload, 6.5.saload)
abbrev pub get_in : World → Elem → ℤ → ℕ → Object → Answer
get_in w e i n (Array component values) =
    if is_component e component
    then at_index i (length values) (λ k. of_some (λ v. Gives (Some v) w) (slice_get values k))
    else NoAnswer
get_in w e i n _ = NoAnswer

-- the value may be a component: a number, null, or an object of the component type (JVMS 6.5.aastore)
abbrev pub if_storable : Shape → World → FieldType → Value → Answer → Answer
if_storable p w component (Int z) a = a
if_storable p w component (Long z) a = a
if_storable p w component Null a = a
if_storable p w component v a = of_some
    (λ o. if is_type_below p.is_sub (type_of o) component then a else Raises ArrayStore) (object_of w v)

-- the array with another component
abbrev pub put_value : World → ℕ → FieldType → List Value → ℕ → Value → Answer
put_value w n component values k v =
    Gives None (with_object w n (Array component (slice_set values k (stored component v))))

-- a value becomes a component; the index is tested before the type (JVMS 6.5.iastore, 6.5.lastore, 6.5.aastore,
-- 6.5.bastore, 6.5.castore, 6.5.sastore)
abbrev pub put_in : Shape → World → Elem → ℤ → Value → ℕ → Object → Answer
put_in p w e i v n (Array component values) =
    if is_component e component
    then at_index i (length values) (λ k. if_storable p w component v (put_value w n component values k v))
    else NoAnswer
put_in p w e i v n _ = NoAnswer
