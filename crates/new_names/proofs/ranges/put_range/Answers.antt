-- Answers of `put_range`: what its calls ask for, and what it promises.
use Rattle.std.proofs.Common.{refl}
use Rattle.jv_base.specs.Types.{method_text}
use Rattle.new_names.specs.NewNames.{is_same}
use Rattle.new_names.proofs.Inserted.{put_found, same_Decides}
use Rattle.new_names.proofs.ranges.put_range.Goals as goal

pub returns : goal.returns
returns c = put_found is_same same_Decides c.insert.result c.args.table.now c.insert.new.self
    (c.args.line.now.old, method_text c.args.line.now.ty) (c.in_ok-clone.field-0, c.in_ok-method_text.field-0)
    c.args.line.now.lines c.args.line.now.lines c.insert.ensures
    (λ i. (c.in_ok-clone.ensures.cases i, c.in_ok-method_text.ensures.written i)) refl
