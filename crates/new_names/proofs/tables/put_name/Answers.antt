-- Answers of `put_name`: what its calls ask for, and what it promises.
use Rattle.jv_base.specs.Names.{is_text}
use Rattle.jv_base.proofs.Equality.{text_Decides}
use Rattle.new_names.proofs.Inserted.{put_found}
use Rattle.new_names.proofs.tables.put_name.Goals as goal

pub returns : goal.returns
returns c = put_found is_text text_Decides c.insert.result c.args.table.now c.insert.new.self c.args.old.now
    c.in_ok-clone.field-0 c.args.new.now c.in_ok-clone-2.field-0 c.insert.ensures c.in_ok-clone.ensures.cases
    c.in_ok-clone-2.ensures.cases
