-- Answers of `is_same_code`: what its calls ask for, and what it promises.
use Rattle.class_rename.specs.Renamed.{renamed_handler}
use Rattle.std.proofs.Common.{map, ap, sym, ◌∙◌}
use Rattle.new_names.specs.NewNames.{names_of}
use Rattle.pair_clauses.proofs.Bodies.{ok_on, same_code}
use Rattle.pair_clauses.proofs.codes.is_same_code.Goals as goal

pub returns : goal.returns
returns c =
    let handlers = ap (map (renamed_handler (names_of c.args.names.now))) (sym c.as_slice-old.ensures)
    ∙ c.is_mapped_handlers.ensures.0 c.if-not-is_mapped_handlers.false ∙ c.as_slice-new.ensures in
    ok_on c.is_mapped_code.result
    (same_code c.args.names.now c.args.lines c.args.code.now c.args.out.now c.as_slice.result.now
    c.as_slice-2.result.now c.as_slice.ensures c.as_slice-2.ensures handlers) c.is_mapped_code.ensures
