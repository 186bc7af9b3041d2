-- Answers of `SuperclassesIterator::next`: what its calls ask for, and what it promises.
use Rattle.std.proofs.Common.{◌≡◌, ◌∙◌, [], sym, ap}
use Rattle.std.specs.Option.{option_map_or}
use Rattle.class_pool.specs.Walk.{upwards}
use Rattle.class_pool.proofs.Climbing.{goes, upwards_none, yields}
use Rattle.class_pool.proofs.upwards.SuperclassesIterator.next.Goals as goal

pub returns-then-self-eq0-clause-steps : goal.returns-then-self-eq0-clause-steps
returns-then-self-eq0-clause-steps c =
    let none : c.args.self.now ≡ [] =
    sym c.self.view_is
    ∙ ap (λ n. option_map_or (upwards n c.self.inside.set.now) c.self.inside.next []) c.if-self-eq0.true
    ∙ upwards_none c.self.inside.set.now c.self.inside.next in
    (none, none)

pub returns-clause-steps : goal.returns-clause-steps
returns-clause-steps c =
    yields c.self.inside.left c.self.inside.set.now c.args.self.now c.self.inside.next c.replace.new.dest
    c.replace.result c.in_ok-self.field-0
    c.if-self-eq0.false c.self.view_is c.in_ok-self.was c.replace.ensures.value
    (c.replace.ensures.after ∙ c.super_of-above.ensures)

pub returns-clause-goes : goal.returns-clause-goes
returns-clause-goes c =
    goes c.args.self.now _ c.replace.result
    (yields c.self.inside.left c.self.inside.set.now c.args.self.now c.self.inside.next c.replace.new.dest
    c.replace.result c.in_ok-self.field-0
    c.if-self-eq0.false c.self.view_is c.in_ok-self.was c.replace.ensures.value
    (c.replace.ensures.after ∙ c.super_of-above.ensures))
