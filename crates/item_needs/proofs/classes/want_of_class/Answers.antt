-- Answers of `want_of_class`: what its calls ask for, and what it promises.
use Rattle.std.proofs.Common.{◌++◌}
use Rattle.require_sys.specs.Requires.{called_wants, initialisation_wants, rule_wants, super_wants}
use Rattle.item_numbers.proofs.Gathering.{and_then}
use Rattle.item_needs.proofs.classes.want_of_class.Goals as goal

pub returns : goal.returns
returns c =
    let n = c.args.number in
    let kept = c.args.kept.now in
    let class = c.args.class.now in
    and_then c.want_called.result c.args.wants.now c.want_supertypes.new.wants c.want_called.new.wants
    (super_wants c.args.wants.now.classes class)
    (λ cs. initialisation_wants cs n ++ (rule_wants cs kept n
    ++ called_wants cs n class)) c.in_ok-want_supertypes.ensures
    (and_then c.want_called.result c.want_supertypes.new.wants c.want_initialisation.new.wants c.want_called.new.wants
    (initialisation_wants c.want_supertypes.new.wants.classes n)
    (λ cs. rule_wants cs kept n ++ called_wants cs n class) c.in_ok-want_initialisation.ensures
    (and_then c.want_called.result c.want_initialisation.new.wants c.want_asked.new.wants c.want_called.new.wants
    (rule_wants c.want_initialisation.new.wants.classes kept n)
    (λ cs. called_wants cs n class) c.in_ok-want_asked.ensures
    c.want_called.ensures))
