-- Answers of `put_line`: what its calls ask for, and what it promises.
use Rattle.std.proofs.Common.{ap, refl, ◌∙◌}
use Rattle.std.proofs.lemmas.Result.{on_ok_weaker}
use Rattle.std.specs.Borrow.{Bor}
use Rattle.std.specs.Option.{option_map}
use Rattle.jv_base.specs.Names.{is_text}
use Rattle.jv_base.proofs.Equality.{text_Decides}
use Rattle.mapping_file.specs.declared.mapping.MapClass.{MapClass}
use Rattle.new_names.proofs.Inserted.{put_found}
use Rattle.new_names.proofs.Telling.{map_cond}
use Rattle.new_names.proofs.tables.put_line.Goals as goal

pub returns : goal.returns
returns c =
    let found = put_found is_text text_Decides c.insert.result c.args.table.now c.insert.new.self c.args.old c.args.old
    c.args.line c.args.line c.insert.ensures refl refl in
    on_ok_weaker c.insert.result
    (λ each name. ap (option_map (λ (l : Bor MapClass). l.now)) (each name)
    ∙ map_cond (λ (l : Bor MapClass). l.now) _ _ _)
    found
