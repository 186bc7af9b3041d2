-- Which attributes of a class are read, and what stands in them (JVMS 4.1; only the proof of read_class needs it).
use Rattle.std.specs.Prelude.{ℕ, true, List, codes, Option, Some, None, if◌then◌else◌}
use Rattle.jv_base.specs.Names.{is_text}
use Rattle.format_reading.specs.Reader.{FormatReader, give}
use Rattle.class_model.specs.declared.pool.Entry.{Entry}
use Rattle.class_model.specs.ReadingAttributes.{once}
use Rattle.class_model.specs.ReadingCodeAttribute.{is_there}
use Rattle.class_model.specs.ReadingClass.{ClassSeen, source_seen}
use Rattle.class_read.specs.declared.class_attributes.ClassAttribute.{ClassAttribute}
use Rattle.class_read.specs.declared.class_attributes.ClassAttribute.TheVariants as known

-- the attribute of a name, if it is read (JVMS 4.7, table 4.7-C)
abbrev pub class_attribute : List ℕ → Option ClassAttribute
class_attribute name =
    if is_text name (codes "SourceFile") then Some known.SourceFile
    else if is_text name (codes "Synthetic") then Some known.Synthetic
    else if is_text name (codes "Deprecated") then Some known.Deprecated
    else None

-- its contents, behind what was seen before
abbrev pub class_contents : List Entry → ℕ → ClassSeen → ClassAttribute → FormatReader ClassSeen
class_contents pool at seen known.SourceFile = once at (is_there seen.source) (source_seen pool seen)
class_contents pool at seen known.Synthetic = once at seen.synthetic (give (record seen { synthetic = true }))
class_contents pool at seen known.Deprecated = once at seen.deprecated (give (record seen { deprecated = true }))
