-- Answers of `illegal_edit`: what its calls ask for, and what it promises.
use Rattle.std.proofs.Common.{sym, ◌∙◌, arith}
use Rattle.jv_base.proofs.Lists.{all_at}
use Rattle.pair_clauses.proofs.Zipped.{beyond}
use Rattle.pair_edits.specs.Edits.{ClassEditIllegal}
use Rattle.pair_edits.specs.Sound.{HasSoundCodes}
use Rattle.pair_edits.proofs.Finding.{found_here, found_none, found_on}
use Rattle.pair_edits.proofs.illegal.illegal_edit.Goals as goal

pub illegal_in-requires : goal.illegal_in-requires
illegal_in-requires c = record {
  sound = all_at HasSoundCodes c.args.input.now c.loop-number.number c.class.result.now
      c.requires.sound c.class.ensures.is;
}

pub returns : goal.returns
returns c = found_none (ClassEditIllegal c.args.entries.now) c.args.input.now c.loop-number.number
    c.loop-number.invariant (beyond c.args.input.now c.loop-number.number (omega arith))

pub returns-then-is_some : goal.returns-then-is_some
returns-then-is_some c = found_here (ClassEditIllegal c.args.entries.now) c.args.input.now c.loop-number.number
    c.loop-number.invariant c.class.result.now c.class.ensures.is c.in_ok-found.found
    (sym c.is_some.ensures ∙ c.if-is_some.true) c.in_ok-found.ensures

pub loop-number-preserved : goal.loop-number-preserved
loop-number-preserved c = found_on (ClassEditIllegal c.args.entries.now) c.args.input.now c.loop-number.number
    c.loop-number.invariant c.class.result.now c.class.ensures.is c.in_ok-found.found
    (sym c.is_some.ensures ∙ c.if-is_some.false) c.in_ok-found.ensures
