-- Answers of `known_of`: what its calls ask for, and what it promises.
use Rattle.std.proofs.Common.{refl, sym, ◌∙◌}
use Rattle.std.proofs.lemmas.Bool.{not-true}
use Rattle.link_check.proofs.overriding.inherited.known_of.Goals as goal

pub returns : goal.returns
returns c = record {
  start = c.start_of.ensures;
  plain = λ is. (
    c.args.number,
    c.class.result.now,
    refl,
    c.class.ensures.is,
    sym c.has_final_method.ensures
        ∙ not-true c.has_final_method.result is,
  );
  fits = c.fits.ensures;
}
