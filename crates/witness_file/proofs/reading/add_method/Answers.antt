-- Answers of `add_method`: what its calls ask for, and what it promises.
use Rattle.witness_file.proofs.MethodsTold.{method_keeps}
use Rattle.witness_file.proofs.reading.add_method.Goals as goal

pub returns-clause-table : goal.returns-clause-table
returns-clause-table c = method_keeps c.args.table.now c.put_method.new.table c.args.read.now c.begin_method.new.read
    c.args.class c.args.name c.args.ty
    c.in_ok-is_new.ensures.put c.in_ok-begin_method.ensures c.requires
