-- A Code, read part by part (JVMS 4.7.3; only the proof of read_class needs it).
use Rattle.std.specs.Prelude.{ℕ, List, Some, None}
use Rattle.format_reading.specs.Reader.{FormatReader, u2, u4, item, give, ◌>>=◌}
use Rattle.class_model.specs.declared.pool.Entry.{Entry}
use Rattle.class_model.specs.declared.frame.VType.{VType}
use Rattle.class_model.specs.ReadingCodeAttribute.{Body, code_length}
use Rattle.class_read.specs.declared.instructions.Instructions.{Instructions}
use Rattle.class_read.specs.declared.instructions.Instructions.TheVariants.{All, LeftOut}
use Rattle.class_read.specs.bodies.CodeAttributes.{behind_instructions}
use Rattle.class_read.specs.bodies.Instructions.{read_instructions}
use Rattle.class_read.specs.bodies.PassedOver.{passed_over}

-- what stands behind the instructions; where one is left out it is passed over
abbrev pub behind_read : List Entry → List VType → ℕ → ℕ → ℕ → Instructions → FormatReader Body
behind_read pool first max_stack max_locals end
    (All decoded) = behind_instructions pool first max_stack max_locals end decoded.starts decoded.ops
behind_read pool first max_stack max_locals end (LeftOut kind) = do
  passed ← passed_over
  give (None, Some kind)

-- the contents of the Code at an offset; first are the locals of the method's initial frame
unfoldable pub code_in_parts : List Entry → List VType → ℕ → FormatReader Body
code_in_parts pool first attribute = do
  max_stack ← u2
  max_locals ← u2
  n ← item u4 code_length
  read ← read_instructions pool attribute n
  behind_read pool first max_stack max_locals n read
