-- Answers of `push_class_within`: what its calls ask for, and what it promises.
use Rattle.std.proofs.Common.{◌++◌, ◌∙◌, ap}
use Rattle.mapping_file.proofs.Limits.{class_pushed_within}
use Rattle.mapping_file.proofs.writing.push_class_within.Goals as goal

pub returns : goal.returns
returns c = class_pushed_within c.push_methods_within.result c.args.limit c.args.class.now c.as_slice.result.now
    c.as_slice-2.result.now c.args.out.now.items c.push_class_line.new.out.items c.push_fields_within.new.out.items
    c.push_methods_within.new.out.items c.as_slice.ensures c.as_slice-2.ensures c.in_ok-push_class_line.ensures
    c.in_ok-push_fields_within.ensures c.push_methods_within.ensures
