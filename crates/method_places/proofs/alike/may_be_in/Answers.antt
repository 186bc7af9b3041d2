-- Answers of `may_be_in`: what its calls ask for, and what it promises.
use Rattle.std.proofs.Common.{◌∙◌, subst, sym}
use Rattle.method_places.specs.bodies.Alike.{Knows}
use Rattle.method_places.specs.declared.alike.Group.{Group}
use Rattle.method_places.proofs.Having.{none_like}
use Rattle.method_places.proofs.alike.may_be_in.Goals as goal

pub returns-in-Of : goal.returns-in-Of
returns-in-Of c said m known alike =
    let of_group = subst (λ (g : Group). Knows c.args.set.now g m) c.in-Of.is known in
    none_like c.args.set.now c.args.id c.args.at c.in-Of.one.now c.lib_is.result c.requires.method c.lib_is.ensures
    said (sym alike ∙ of_group.0)
