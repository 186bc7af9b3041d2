-- Answers of `ClassesByName::number_of`: what its calls ask for, and what it promises.
use Rattle.std.proofs.Common.{◌∙◌, length, ◌<◌, sym, ap, arith}
use Rattle.std.specs.List.{position}
use Rattle.jv_base.specs.Names.{is_text}
use Rattle.class_model.specs.declared.class.Class.{Class}
use Rattle.class_pool.proofs.Counting.{classes_counted}
use Rattle.class_pool.proofs.Naming.{number_found, number_below}
use Rattle.class_pool.proofs.set.lookup.ClassesByName.number_of.Goals as goal

pub returns-in_err-number-clause-found : goal.returns-in_err-number-clause-found
returns-in_err-number-clause-found c =
    c.from_residual.ensures
    ∙ sym (sym (number_found c.self.inside.classes c.self.inside.names c.args.name.now c.self.invariant.0)
    ∙ sym c.place.ensures.found ∙ c.in_err-number.was)
    ∙ ap (position (λ (x : Class). is_text c.args.name.now x.name)) c.self.view_is

pub overflow_cast-result : goal.overflow_cast-result
overflow_cast-result c =
    let below : c.in_ok-number.number < length c.self.inside.classes =
    number_below c.self.inside.classes c.args.name.now c.in_ok-number.number
    (sym (number_found c.self.inside.classes c.self.inside.names c.args.name.now c.self.invariant.0)
    ∙ sym c.place.ensures.found ∙ c.in_ok-number.was) in
    let few = classes_counted c.self.inside.classes in
    omega (arith, below, few, c.self.invariant.1)

pub returns-clause-found : goal.returns-clause-found
returns-clause-found c =
    sym (sym (number_found c.self.inside.classes c.self.inside.names c.args.name.now c.self.invariant.0)
    ∙ sym c.place.ensures.found ∙ c.in_ok-number.was)
    ∙ ap (position (λ (x : Class). is_text c.args.name.now x.name)) c.self.view_is
