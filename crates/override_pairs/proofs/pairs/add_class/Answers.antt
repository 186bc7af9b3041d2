-- Answers of `add_class`: what its calls ask for, and what it promises.
use Rattle.std.proofs.Common.{List, ap, map, sym, subst, ◌∙◌}
use Rattle.std.specs.Prelude.{OnOk}
use Rattle.std.proofs.lemmas.Option.{slice_get_within}
use Rattle.mark_core.specs.declared.system.Pair.{Pair}
use Rattle.class_pool.specs.declared.id.ClassId.TheVariants.{Prog}
use Rattle.override_pairs.specs.bodies.Counting.{AddsPairs}
use Rattle.override_pairs.proofs.CountedPairs.{class_is}
use Rattle.override_pairs.proofs.pairs.add_class.Goals as goal

pub add_above-requires-clause-there : goal.add_above-requires-clause-there
add_above-requires-clause-there c =
    slice_get_within c.args.numbered.now.set.now c.args.number c.args.class.now c.requires.there

pub returns-clause-pairs : goal.returns-clause-pairs
returns-clause-pairs c =
    subst (λ (t : List Pair). OnOk c.add_above.result (AddsPairs c.args.pairs.now t c.add_above.new.pairs))
    (class_is c.args.numbered.now.set.now c.args.number c.top-top.result c.args.class.now c.as_slice.result.now
    (sym c.is_interface.ensures ∙ c.if-is_interface.false) c.top-top.ensures
    (ap (map Prog) c.as_slice.ensures.value ∙ c.in_ok-supers.ensures.are))
    c.add_above.ensures.pairs
