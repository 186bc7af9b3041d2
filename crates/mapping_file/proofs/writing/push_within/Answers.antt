-- Answers of `push_within`: what its calls ask for, and what it promises.
use Rattle.std.proofs.Common.{arith}
use Rattle.std.specs.List.{flat_map}
use Rattle.mapping_file.specs.Mappings.{class_lines, ended_line, mapping_text}
use Rattle.mapping_file.specs.declared.mapping.MapClass.{MapClass}
use Rattle.mapping_file.proofs.Limits.{stops}
use Rattle.mapping_file.proofs.writing.push_within.Goals as goal

pub returns-then-len-limit : goal.returns-then-len-limit
unfolding mapping_text
returns-then-len-limit c =
    stops (λ (m : MapClass). flat_map ended_line (class_lines m)) c.args.map.now.classes c.loop-class.class-index
    c.args.limit c.args.out.now.items c.loop-class.out.items c.loop-class.invariant
    (omega (arith, c.if-len-limit.true, c.len.ensures))
