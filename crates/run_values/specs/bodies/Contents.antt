-- What is kept of a value (only the proof of the bodies needs it).
use Rattle.jvm_model.specs.Value.{Int, Lit, Long, Null, Ref, Value}
use Rattle.run_values.specs.declared.value.Content.{Content}
use Rattle.run_values.specs.declared.value.Content.TheVariants as content

-- the value of a content
abbrev pub value_of : Content → Value
value_of (content.Int z) = Int z
value_of (content.Long z) = Long z
value_of content.Null = Null
value_of (content.Ref n) = Ref n
value_of (content.Lit units) = Lit units
