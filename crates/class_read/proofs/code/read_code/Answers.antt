-- Answers of `read_code`: what its calls ask for, and what it promises.
use Rattle.std.proofs.Common.{List, Result, sym, ap, subst, ◌∙◌}
use Rattle.jv_base.specs.Place.{Place}
use Rattle.format_reading.specs.Reader.{ReadsOr}
use Rattle.format_reading.specs.declared.fault.FormatFault.{FormatFault}
use Rattle.class_model.specs.declared.frame.VType.{VType}
use Rattle.class_model.specs.ReadingCodeAttribute.{Body}
use Rattle.class_read.specs.bodies.Codes.{code_in_parts}
use Rattle.class_read.proofs.CodeSteps.{parts_are}
use Rattle.class_read.proofs.code.read_code.Goals as goal

pub returns : goal.returns
returns c =
    let pool = c.args.pool.now in
    let at = c.args.attribute in
    let p = c.args.cursor.now in
    subst (λ (due : Result (Body × Place) FormatFault). ReadsOr c.code_in_parts.result c.code_in_parts.new.cursor due)
    (ap (λ (first : List VType). code_in_parts pool first at p) c.in_ok-first.ensures.locals
    ∙ sym (parts_are pool _ at p)) c.code_in_parts.ensures
