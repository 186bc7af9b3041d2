-- Whether an object is of a type (JVMS 6.5.checkcast, 6.5.instanceof).
use Rattle.std.specs.Prelude.{false, Some, if◌then◌else◌}
use Rattle.jv_base.specs.declared.types.FieldType.{FieldType}
use Rattle.jvm_model.specs.Answers.{Answer, Gives, Raises, of_some}
use Rattle.jvm_model.specs.Exceptions.{ClassCast}
use Rattle.jvm_model.specs.Heap.{World, object_of, type_of}
use Rattle.jvm_model.specs.Program.{Shape}
use Rattle.jvm_model.specs.Types.{is_type_below}
use Rattle.jvm_model.specs.Value.{Value, Null, truth}

-- the reference itself, where it is null or to an object of the type (JVMS 6.5.checkcast)
abbrev pub cast : Shape → World → FieldType → Value → Answer
cast p w ty Null = Gives (Some Null) w
cast p w ty v = of_some
    (λ o. if is_type_below p.is_sub (type_of o) ty then Gives (Some v) w else Raises ClassCast) (object_of w v)

-- whether it is to an object of the type; null is to none (JVMS 6.5.instanceof)
abbrev pub instance_of : Shape → World → FieldType → Value → Answer
instance_of p w ty Null = Gives (Some (truth false)) w
instance_of p w ty v = of_some (λ o. Gives (Some (truth (is_type_below p.is_sub (type_of o) ty))) w) (object_of w v)
