-- What stands behind the instructions of a code, read part by part.
use Rattle.std.proofs.Common.{◌≡◌, ℕ, List, Ok, Err, refl}
use Rattle.jv_base.specs.Place.{Place}
use Rattle.jv_base.specs.declared.outcome.Or.{Or}
use Rattle.jv_base.specs.declared.outcome.Or.TheVariants.{Fault, OutOfMemory}
use Rattle.format_reading.specs.declared.fault.FormatFault.{FormatFault}
use Rattle.format_reading.specs.Reader.{FormatReader, ReadsOr, bind, give}
use Rattle.class_model.specs.declared.pool.Entry.{Entry}
use Rattle.class_model.specs.declared.op.Op.{Op}
use Rattle.class_model.specs.declared.code.Handler.{Handler}
use Rattle.class_model.specs.declared.frame.VType.{VType}
use Rattle.class_model.specs.ReadingAttributes.{counted_attributes}
use Rattle.class_model.specs.ReadingFrames.{read_frames}
use Rattle.class_model.specs.ReadingCodeAttribute.{Body, CodeSeen, nothing_seen, known_of_code, read_handlers}
use Rattle.class_read.specs.bodies.CodeAttributes.{code_with, behind_instructions}

module _ (pool : List Entry) (first : List VType) (max_stack max_locals end : ℕ) (starts : List ℕ) (ops : List Op) where
  -- the attributes
  abbrev pub seen_behind : FormatReader CodeSeen
  seen_behind = counted_attributes pool
      (known_of_code (read_frames pool starts ops max_stack max_locals first)) nothing_seen

  -- at a fault in the attributes the whole is that fault
  pub attributes_end : (e : Or FormatFault) (new q p after : Place) (handlers : List Handler)
      → read_handlers pool starts end p ≡ Ok (handlers, after) → ReadsOr {T = CodeSeen} (Err e) new (seen_behind after)
      → ReadsOr {T = Body} (Err e) q (behind_instructions pool first max_stack max_locals end starts ops p)
  unfolding behind_instructions bind
  attributes_end OutOfMemory new q p after handlers h k = tt
  attributes_end (Fault f) new q p after handlers h k = rw (h, k) refl

  -- behind the attributes all is read
  pub is_read : (p after behind : Place) (handlers : List Handler) (seen : CodeSeen)
      → read_handlers pool starts end p ≡ Ok (handlers, after) → seen_behind after ≡ Ok (seen, behind)
      → behind_instructions pool first max_stack max_locals end starts ops p
      ≡ Ok (code_with max_stack max_locals starts ops handlers seen, behind)
  unfolding behind_instructions bind give
  is_read p after behind handlers seen h k = rw (h, k) refl
