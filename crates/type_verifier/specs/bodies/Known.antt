-- The types that rules name (only the proof of the bodies needs it).
use Rattle.std.specs.Prelude.{◌≡◌, codes}
use Rattle.jv_base.specs.declared.types.Base.TheVariants as base
use Rattle.class_model.specs.declared.frame.VType.{VType}
use Rattle.type_verifier.specs.Assignable.{class_type}
use Rattle.type_verifier.specs.Rules.{array_of, array_of_base, object, string, throwable}

-- arrays of objects
abbrev pub objects : VType
objects = array_of (class_type (codes "java/lang/Object"))

pub record AreKnown (object_type string_type throwable_type object_array int_array long_array char_array
    short_array : VType) : Type 0 where
  pub object : object_type ≡ object
  pub string : string_type ≡ string
  pub throwable : throwable_type ≡ throwable
  pub objects : object_array ≡ objects
  pub ints : int_array ≡ array_of_base base.Int
  pub longs : long_array ≡ array_of_base base.Long
  pub chars : char_array ≡ array_of_base base.Char
  pub shorts : short_array ≡ array_of_base base.Short
