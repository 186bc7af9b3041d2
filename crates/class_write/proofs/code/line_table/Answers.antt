-- Answers of `line_table`: what its calls ask for, and what it promises.
use Rattle.class_write.proofs.CodeLengths.{table_short}
use Rattle.class_write.proofs.code.line_table.Goals as goal

pub returns-clause-short : goal.returns-clause-short
returns-clause-short c =
    rw (c.in_ok-put_line_rows.ensures, c.in_ok-put_u2.ensures, c.new-table.ensures.items)
    (table_short c.args.places.now c.args.ins.now c.line_count.result c.requires.count)
