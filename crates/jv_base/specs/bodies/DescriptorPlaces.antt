-- What the reader of descriptors keeps, by places in the text
-- (only the proof of read_field_type and read_method_type needs it).
use Rattle.std.specs.Prelude.{◌≡◌, Bool, ℕ, ◌≤◌, List, slice_range, Option, Some, None}
use Rattle.std.specs.Str.{IsCharBoundary}
use Rattle.jv_base.specs.declared.types.Base.TheVariants.{Class}
use Rattle.jv_base.specs.Descriptors.{typed, Begun, brackets, name, Grown, more, whole, FieldRead, field_begun}
use Rattle.jv_base.specs.Descriptors.{field_whole, MethodPart, before, parameter, returned, behind, MethodRead}
use Rattle.jv_base.specs.Types.{argument_words}
use Rattle.jv_base.specs.declared.descriptors as kept
use Rattle.jv_base.specs.declared.descriptors.Begun.TheVariants as begun
use Rattle.jv_base.specs.declared.descriptors.Grown.TheVariants as grown
use Rattle.jv_base.specs.declared.descriptors.FieldRead.TheVariants as field
use Rattle.jv_base.specs.declared.descriptors.MethodPart.TheVariants as part

-- a type that is begun before a place: the class name is what stands from its place on
abbrev pub begun_at : List ℕ → ℕ → kept.Begun.Begun → Begun
begun_at text at (begun.Brackets dims) = brackets dims
begun_at text at (begun.Name dims from in_part) = name dims (slice_range text from at) in_part

abbrev pub grown_at : List ℕ → ℕ → Option kept.Grown.Grown → Option Grown
grown_at text at (Some (grown.More b)) = Some (more (begun_at text at b))
grown_at text at (Some (grown.Whole ty)) = Some (whole ty)
grown_at text at None = None

-- the class name begins between characters, not behind the place
abbrev pub IsPlaced : List ℕ → ℕ → kept.Begun.Begun → Type 0
IsPlaced text at (begun.Brackets dims) = Unit {0}
IsPlaced text at (begun.Name dims from in_part) = (from ≤ at) × IsCharBoundary text from

abbrev pub IsGrownPlaced : List ℕ → ℕ → Option kept.Grown.Grown → Type 0
IsGrownPlaced text at (Some (grown.More b)) = IsPlaced text at b
IsGrownPlaced text at (Some (grown.Whole ty)) = Unit {0}
IsGrownPlaced text at None = Unit {0}

abbrev pub field_at : List ℕ → ℕ → kept.FieldRead.FieldRead → FieldRead
field_at text at (field.Begun b) = field_begun (begun_at text at b)
field_at text at (field.Whole ty) = field_whole ty

abbrev pub IsFieldPlaced : List ℕ → ℕ → kept.FieldRead.FieldRead → Type 0
IsFieldPlaced text at (field.Begun b) = IsPlaced text at b
IsFieldPlaced text at (field.Whole ty) = Unit {0}

abbrev pub part_at : List ℕ → ℕ → kept.MethodPart.MethodPart → MethodPart
part_at text at part.Before = before
part_at text at (part.Parameter b) = parameter (begun_at text at b)
part_at text at (part.Returned b) = returned (begun_at text at b)
part_at text at (part.Behind ret) = behind ret

abbrev pub IsPartPlaced : List ℕ → ℕ → kept.MethodPart.MethodPart → Type 0
IsPartPlaced text at part.Before = Unit {0}
IsPartPlaced text at (part.Parameter b) = IsPlaced text at b
IsPartPlaced text at (part.Returned b) = IsPlaced text at b
IsPartPlaced text at (part.Behind ret) = Unit {0}

abbrev pub method_read_at : List ℕ → ℕ → kept.MethodRead.MethodRead → MethodRead
method_read_at text at m = record { args = m.parameters.types; part = part_at text at m.part }

-- the words are counted, and few enough
pub record AreCounted (parameters : kept.Parameters.Parameters) : Type 0 where
  pub counted : parameters.words ≡ argument_words parameters.types
  pub few : parameters.words ≤ 255

pub record IsMethodPlaced (text : List ℕ) (at : ℕ) (m : kept.MethodRead.MethodRead) : Type 0 where
  pub parameters : AreCounted m.parameters
  pub placed : IsPartPlaced text at m.part

abbrev pub method_next_at : List ℕ → ℕ → Option kept.MethodRead.MethodRead → Option MethodRead
method_next_at text at (Some m) = Some (method_read_at text at m)
method_next_at text at None = None

abbrev pub IsMethodNextPlaced : List ℕ → ℕ → Option kept.MethodRead.MethodRead → Type 0
IsMethodNextPlaced text at (Some m) = IsMethodPlaced text at m
IsMethodNextPlaced text at None = Unit {0}

abbrev pub class_whole : ℕ → Option (List ℕ) → Option Grown
class_whole dims (Some text) = Some (whole (typed dims (Class text)))
class_whole dims None = None

abbrev pub more_of : ℕ → ℕ → Option Bool → Option kept.Grown.Grown
more_of dims from (Some in_part) = Some (grown.More (begun.Name dims from in_part))
more_of dims from None = None

abbrev pub field_read_at : List ℕ → ℕ → Option kept.FieldRead.FieldRead → Option FieldRead
field_read_at text at (Some read) = Some (field_at text at read)
field_read_at text at None = None

abbrev pub IsFieldReadPlaced : List ℕ → ℕ → Option kept.FieldRead.FieldRead → Type 0
IsFieldReadPlaced text at (Some read) = IsFieldPlaced text at read
IsFieldReadPlaced text at None = Unit {0}

abbrev pub field_of : Option kept.Grown.Grown → Option kept.FieldRead.FieldRead
field_of (Some (grown.More b)) = Some (field.Begun b)
field_of (Some (grown.Whole ty)) = Some (field.Whole ty)
field_of None = None
