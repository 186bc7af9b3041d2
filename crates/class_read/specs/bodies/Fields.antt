-- Which attributes of a field are read, and what stands in them (JVMS 4.5; only the proof of read_class needs it).
use Rattle.std.specs.Prelude.{ℕ, Bool, true, List, codes, Option, Some, None, if◌then◌else◌}
use Rattle.jv_base.specs.Names.{is_text}
use Rattle.jv_base.specs.declared.types.FieldType.{FieldType}
use Rattle.format_reading.specs.Reader.{FormatReader, give}
use Rattle.class_model.specs.declared.pool.Entry.{Entry}
use Rattle.class_model.specs.ReadingAttributes.{once}
use Rattle.class_model.specs.ReadingCodeAttribute.{is_there}
use Rattle.class_model.specs.ReadingMembers.{FieldSeen, constant_seen, dropped}
use Rattle.class_read.specs.declared.fields.FieldAttribute.{FieldAttribute}
use Rattle.class_read.specs.declared.fields.FieldAttribute.TheVariants as known

-- the attribute of a name, if it is read
abbrev pub field_attribute : List ℕ → Option FieldAttribute
field_attribute name =
    if is_text name (codes "ConstantValue") then Some known.ConstantValue
    else if is_text name (codes "Synthetic") then Some known.Synthetic
    else if is_text name (codes "Deprecated") then Some known.Deprecated
    else None

-- its contents, of a length, behind what was seen before
abbrev pub field_contents : List Entry → Bool → FieldType → ℕ → ℕ → FieldSeen → FieldAttribute → FormatReader FieldSeen
field_contents pool static ty at n seen known.ConstantValue =
    once at (is_there seen.constant)
    (if static then constant_seen pool ty seen else dropped n (record seen { constant = Some None }))
field_contents pool static ty at n seen known.Synthetic = once at seen.synthetic
    (give (record seen { synthetic = true }))
field_contents pool static ty at n seen known.Deprecated = once at seen.deprecated
    (give (record seen { deprecated = true }))
