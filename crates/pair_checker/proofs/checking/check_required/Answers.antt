-- Answers of `check_required`: what its calls ask for, and what it promises.
use Rattle.std.proofs.lemmas.Result.{err_from_is_err_and}
use Rattle.pair_checker.proofs.Reading.{matched, refused_by_files}
use Rattle.pair_checker.proofs.Sounding.{accepted_sound}
use Rattle.pair_checker.proofs.checking.check_required.Goals as goal

pub returns-in_err-set : goal.returns-in_err-set
returns-in_err-set c =
    let p = err_from_is_err_and c.from_residual.result c.from_residual.ensures.1 in
    let told = c.args.told.now in
    rw (p.1, p.2) (refused_by_files c.args.input.now c.args.output.now told.mapping.now told.rules.now told.witness.now
    c.in_err-set.field-0.0 c.in_err-set.ensures)

pub returns : goal.returns
returns c =
    let told = c.args.told.now in
    matched c.args.input.now c.args.output.now told.mapping.now told.rules.now told.witness.now c.in_ok-set.set
    c.check_set.result c.in_ok-set.ensures c.check_set.ensures

pub check_set-requires-clause-sound : goal.check_set-requires-clause-sound
check_set-requires-clause-sound c =
    accepted_sound c.requires.accepted.0 c.args.input.now c.requires.accepted.1
