-- Answers of `build`: what its calls ask for, and what it promises.
use Rattle.std.proofs.Common.{◌∙◌, subst}
use Rattle.std.proofs.lemmas.Result.{err_from_is_err_and}
use Rattle.class_pool.specs.Supertypes.{NoCycle}
use Rattle.class_pool.proofs.CycleLaws.{first_are, hierarchy_built, names_built, none_cyclic}
use Rattle.class_pool.proofs.ObjectLaws.{has_object}
use Rattle.class_pool.proofs.hierarchy.building.build.Goals as goal

pub set_of-requires-clause-object : goal.set_of-requires-clause-object
set_of-requires-clause-object c =
    has_object c.args.files c.in_ok-classes.classes c.in_ok-classes.ensures.0 c.in_ok-check_hierarchy.ensures.0
    c.in_ok-classes.ensures.1

pub returns-in_err-classes : goal.returns-in_err-classes
returns-in_err-classes c =
    let p =
    err_from_is_err_and c.from_residual.result c.from_residual.ensures.1 in
    rw (p.1, p.2) (names_built c.args.files c.in_err-classes.field-0.0 c.in_err-classes.ensures)

pub returns-in_err-check_hierarchy : goal.returns-in_err-check_hierarchy
returns-in_err-check_hierarchy c =
    let p =
    err_from_is_err_and c.from_residual-in_err-check_hierarchy.result
    c.from_residual-in_err-check_hierarchy.ensures.1 in
    rw (p.1, p.2)
    (hierarchy_built c.args.files c.in_ok-classes.classes c.in_err-check_hierarchy.field-0.0 c.in_ok-classes.ensures.0
    c.in_ok-classes.ensures.1 c.in_err-check_hierarchy.ensures)

pub returns : goal.returns
returns c =
    let is = c.in_ok-classes.ensures.1 in (
      first_are c.args.files c.in_ok-classes.classes c.in_ok-classes.ensures.0 c.in_ok-check_hierarchy.ensures.0 is,
      subst NoCycle is (none_cyclic c.in_ok-classes.classes c.in_ok-check_hierarchy.ensures.1),
      c.in_ok-set_of.ensures ∙ is,
    )
