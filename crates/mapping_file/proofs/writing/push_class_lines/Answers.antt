-- Answers of `push_class_lines`: what its calls ask for, and what it promises.
use Rattle.mapping_file.proofs.Canonical.{class_pushed}
use Rattle.mapping_file.proofs.writing.push_class_lines.Goals as goal

pub returns : goal.returns
returns c = class_pushed c.push_method_lines.result c.args.class.now c.as_slice.result.now c.as_slice-2.result.now
    c.args.out.now.items
    c.push_class_line.new.out.items c.push_field_lines.new.out.items c.push_method_lines.new.out.items
    c.as_slice.ensures c.as_slice-2.ensures
    c.in_ok-push_class_line.ensures c.in_ok-push_field_lines.ensures c.push_method_lines.ensures
