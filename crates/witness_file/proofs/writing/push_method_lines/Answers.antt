-- Answers of `push_method_lines`: what its calls ask for, and what it promises.
use Rattle.witness_file.proofs.Texts.{method_pushed}
use Rattle.witness_file.proofs.writing.push_method_lines.Goals as goal

pub returns : goal.returns
returns c = method_pushed c.push_steps.result c.args.method.now c.as_slice.result.now c.args.out.now.items
    c.push_method_line.new.out.items
    c.push_steps.new.out.items c.as_slice.ensures c.in_ok-push_method_line.ensures c.push_steps.ensures
