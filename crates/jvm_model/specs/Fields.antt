-- Fields of classes and of instances (JVMS 6.5.getstatic, 6.5.putstatic, 6.5.getfield, 6.5.putfield, 6.5.new).
use Rattle.std.specs.Prelude.{ℕ, List, [], Some, None, slice_get, if◌then◌else◌}
use Rattle.std.specs.Option.{option_map_or}
use Rattle.jv_base.specs.Names.{is_text}
use Rattle.jvm_model.specs.Answers.{Answer, Gives, Raises, NoAnswer, of_some, once_initialised}
use Rattle.jvm_model.specs.Exceptions.{NullPointer}
use Rattle.jvm_model.specs.Heap.{Builder, Instance, Object, World, newest, string_builder, with_new, with_object}
use Rattle.jvm_model.specs.Types.{default_of, field_kind, field_type, stored}
use Rattle.jvm_model.specs.Value.{Key, Value, Null, Ref, set_key}

-- the default value of a field (JVMS 2.3, 2.4)
abbrev pub blank : Key → Value
blank k = option_map_or default_of (field_kind k.descriptor) Null

-- what a field holds when a value was stored
abbrev pub stored_in : Key → Value → Value
stored_in k v = option_map_or (λ ty. stored ty v) (field_type k.descriptor) v

-- the value of a static field (JVMS 6.5.getstatic)
abbrev pub get_static : World → Key → Answer
get_static w k = once_initialised w k.class (Gives (Some (w.statics k)) w)

-- a static field is set (JVMS 6.5.putstatic)
abbrev pub put_static : World → Value → Key → Answer
put_static w v k = once_initialised w k.class
    (Gives None (record w { statics = set_key w.statics k (stored_in k v) }))

-- a field of an object
abbrev pub get_from : World → Key → Object → Answer
get_from w k (Instance class fields message cause) = Gives (Some (fields k)) w
get_from w k _ = NoAnswer

-- the value of a field of an object, which isn't null (JVMS 6.5.getfield)
abbrev pub get_field : World → Value → Key → Answer
get_field w (Ref n) k = of_some (get_from w k) (slice_get w.heap n)
get_field w Null k = Raises NullPointer
get_field w _ k = NoAnswer

-- the same with another value in the field
abbrev pub put_into : World → ℕ → Value → Key → Object → Answer
put_into w n v k (Instance class fields message cause) =
    Gives None (with_object w n (Instance class (set_key fields k (stored_in k v)) message cause))
put_into w n v k _ = NoAnswer

-- a field of an object is set, which isn't null (JVMS 6.5.putfield)
abbrev pub put_field : World → Value → Value → Key → Answer
put_field w (Ref n) v k = of_some (put_into w n v k) (slice_get w.heap n)
put_field w Null v k = Raises NullPointer
put_field w _ v k = NoAnswer

-- an object of a class, with default values (JVMS 6.5.new)
abbrev pub fresh : List ℕ → Object
fresh class = if is_text class string_builder then Builder [] else Instance class blank Null Null

-- the object that is made goes to the heap
abbrev pub put_on_heap : World → Object → Answer
put_on_heap w o = Gives (Some (newest w)) (with_new w o)

-- a new object, when its class is initialised (JVMS 6.5.new)
abbrev pub new : World → List ℕ → Answer
new w class = once_initialised w class (put_on_heap w (fresh class))
