-- Answers of `lookup_switch`: what its calls ask for, and what it promises.
use Rattle.std.proofs.Common.{rules, ◌≡◌, Ok, Result, ap, sym, subst, ◌∙◌}
use Rattle.jv_base.specs.Place.{Place}
use Rattle.format_reading.specs.Reader.{ReadsOr, bytes, u4, or_cut}
use Rattle.format_reading.specs.declared.fault.FormatFault.{FormatFault}
use Rattle.class_model.specs.InstructionStructure.{pad_length}
use Rattle.class_model.specs.ReadingCode.{Read, lookup_count}
use Rattle.code_read.specs.Meaning.{meaning_of_read}
use Rattle.code_read.proofs.Loops.{lookup_switch_is}
use Rattle.code_read.proofs.instruction.lookup_switch.Goals as goal

pub returns : goal.returns
unfolding bytes u4
returns c = λ pool.
    let p = c.args.cursor.now in
    let pad = c.in_ok-take.field-0.now in
    let padded : bytes (pad_length c.args.at) p
    ≡ Ok (pad, c.take.new.self) = ap (λ n. bytes n p) (sym c.pad_length.ensures)
    ∙ ap or_cut c.in_ok-take.ensures.taken in
    let default : u4 c.take.new.self
    ≡ Ok (c.in_ok-default.default, c.u4.new.self) = ap or_cut c.in_ok-default.ensures in
    let count : u4 c.u4.new.self ≡ Ok (c.in_ok-count.count, c.u4-2.new.self) = ap or_cut c.in_ok-count.ensures in
    let fits : lookup_count c.in_ok-count.count ≡ Ok c.in_ok-count.count = search rules in
    let is = lookup_switch_is c.args.at c.in_ok-default.default c.in_ok-count.count pad p c.take.new.self c.u4.new.self
    c.u4-2.new.self padded default count fits in
    subst (λ (r : Result (Read × Place) FormatFault). ReadsOr c.lookup_matches.result c.lookup_matches.new.cursor
    (meaning_of_read pool r)) (sym is) (c.lookup_matches.ensures pool pad)
