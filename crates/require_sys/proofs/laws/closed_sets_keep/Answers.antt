-- Answers of `closed_sets_keep`: what its calls ask for, and what it promises.
use Rattle.require_sys.proofs.Closing.{class_in, field_in, method_in, supertypes_in}
use Rattle.require_sys.proofs.Running.{selected_in}
use Rattle.require_sys.proofs.laws.closed_sets_keep.Goals as goal

pub returns : goal.returns
returns c = record {
  supertypes = supertypes_in;
  class = class_in;
  field = field_in;
  method = method_in;
  selected = selected_in;
}
