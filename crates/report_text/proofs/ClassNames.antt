-- A type that is a class.
use Rattle.std.proofs.Common.{◌≡◌, ℕ, List, append-nil}
use Rattle.jv_base.specs.External.{dotted, external_text, word_text}
use Rattle.jv_base.specs.declared.types.Base.TheVariants.{Class}

-- it is spelled as the name of the class
pub class_spelled : (name : List ℕ) → external_text (record { dims = 0; base = Class name }) ≡ dotted name
unfolding external_text word_text
class_spelled name = append-nil (dotted name)
