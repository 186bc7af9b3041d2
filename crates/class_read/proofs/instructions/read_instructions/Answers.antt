-- Answers of `read_instructions`: what its calls ask for, and what it promises.
use Rattle.std.proofs.Common.{◌≡◌, ◌-◌, ◌≤◌, ℕ, IfOk, ap, subst, ◌∙◌, arith}
use Rattle.code_read.specs.Decoded.{code_decoded}
use Rattle.class_read.specs.declared.instructions.Instructions.{Instructions}
use Rattle.class_read.specs.bodies.Instructions.{in_file, count_of}
use Rattle.class_read.proofs.PartOfCode.{with_place, part_read, part_ends, taken_behind, due_read, ends_read}
use Rattle.class_read.proofs.instructions.read_instructions.Goals as goal

pub returns-in_err-code-clause-read : goal.returns-in_err-code-clause-read
returns-in_err-code-clause-read c =
    ends_read c.from_residual.result c.take.new.self _ c.in_err-code.field-0.0 c.from_residual.ensures.1
    (part_ends c.args.pool.now c.args.attribute c.args.length c.args.cursor.now c.in_err-code.field-0.0
    c.in_err-code.ensures.taken.0)

pub returns : goal.returns
returns c =
    let f = c.in_ok-code.ensures in
    let d = c.decoded.ensures in
    let read = part_read c.args.pool.now c.args.attribute c.args.length c.args.cursor.now c.take.new.self
    c.in_ok-code.code.now d.bytes c.requires f.taken in
    let behind = taken_behind c.args.length c.args.cursor.now c.take.new.self c.in_ok-code.code.now f.taken in
    let from : c.args.cursor.now.at ≡ c.place.result - c.args.length = omega (arith, behind, c.place.ensures) in
    record {
      read = due_read c.decoded.result c.take.new.self _ _ d.exact
          (read ∙ ap (λ (at : ℕ). with_place c.take.new.self (in_file at
          (code_decoded c.args.pool.now c.in_ok-code.code.now))) from);
      count = subst (λ (n : ℕ). IfOk c.decoded.result (λ (read : Instructions). count_of read ≤ n)) f.length d.count;
    }
