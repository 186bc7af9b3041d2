-- Answers of `begun`: what its calls ask for, and what it promises.
use Rattle.std.proofs.Common.{rules, ◌≡◌, ◌≤◌, true, false, eqb, ◌||◌, Result, sym, ap, subst, ◌∙◌}
use Rattle.std.specs.Prelude.{is_some}
use Rattle.format_reading.specs.Reader.{ReadsOr, FormatReader, onwards}
use Rattle.format_reading.specs.declared.fault.FormatKind.{FormatKind}
use Rattle.class_model.specs.Opcodes.{plain_op}
use Rattle.class_model.specs.ReadingCode.{Read}
use Rattle.code_read.specs.Meaning.{meaning_of_read}
use Rattle.code_read.proofs.Begun.{IsOther, begun_other, begun_load, is_19_or_20}
use Rattle.code_read.proofs.instruction.begun.Goals as goal

pub returns-in-16 : goal.returns-in-16
returns-in-16 c = λ offset. rw c.in-16.is (c.bipush.ensures c.args.pool.now)

pub returns-in-17 : goal.returns-in-17
returns-in-17 c = λ offset. rw c.in-17.is (c.sipush.ensures c.args.pool.now)

pub returns-in-19 : goal.returns-in-19
returns-in-19 c = λ offset.
    let pool = c.args.pool.now in
    let code = c.args.opcode in
    let plain : is_some (plain_op code) ≡ false = ap is_some (sym c.plain_op.ensures ∙ c.in_default.is) in
    let bipush : eqb code 0x10 ≡ false = search rules in
    let sipush : eqb code 0x11 ≡ false = search rules in
    let ldc : eqb code 0x12 ≡ false = search rules in
    let low : 19 ≤ code = search rules in
    let high : code ≤ 20 = search rules in
    let is : (eqb code 0x13 || eqb code 0x14) ≡ true = is_19_or_20 code low high in
    subst (λ (r : Result (FormatReader Read) FormatKind). ReadsOr c.ldc_wide.result c.ldc_wide.new.cursor
    (meaning_of_read pool (onwards offset r c.args.cursor.now)))
    (sym (begun_load pool c.args.at code plain bipush sipush ldc is)) c.ldc_wide.ensures

pub returns-in_default-opcode : goal.returns-in_default-opcode
returns-in_default-opcode c = λ offset.
    let pool = c.args.pool.now in
    let o : IsOther c.args.opcode = record {
      plain = ap is_some (sym c.plain_op.ensures ∙ c.in_default.is);
      bipush = search rules;
      sipush = search rules;
      ldc = search rules;
      ldc_w = search rules;
      ldc2_w = search rules;
      iinc = search rules;
      wide = search rules;
      goto_w = search rules;
      tableswitch = search rules;
      lookupswitch = search rules;
      invokeinterface = search rules;
      newarray = search rules;
      multianewarray = search rules;
      invokedynamic = search rules;
    } in
    subst (λ (r : Result (FormatReader Read) FormatKind). ReadsOr c.begun_by_table.result c.begun_by_table.new.cursor
    (meaning_of_read pool (onwards offset r c.args.cursor.now))) (sym (begun_other pool c.args.at c.args.opcode o))
    (c.begun_by_table.ensures offset)
