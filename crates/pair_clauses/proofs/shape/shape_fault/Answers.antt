-- Answers of `shape_fault`: what its calls ask for, and what it promises.
use Rattle.std.proofs.Common.{◌≡◌, true, List, [], Option, None, Some, is_some, sym, ap, subst, ◌∙◌}
use Rattle.std.specs.Option.{option_or}
use Rattle.mapping_file.specs.declared.mapping.MapClass.{MapClass}
use Rattle.pair_clauses.specs.Finding.{first_place}
use Rattle.pair_clauses.specs.Shape.{lines_fault, unlined_fault}
use Rattle.pair_clauses.specs.bodies.Lines.{HasLines}
use Rattle.pair_clauses.specs.declared.place.Place.{Place}
use Rattle.pair_clauses.proofs.Bodies.{ok_on}
use Rattle.pair_clauses.proofs.Unlike.{none_there}
use Rattle.pair_clauses.proofs.shape.shape_fault.Goals as goal

or_found : (o a b : Option Place) → o ≡ a → is_some o ≡ true → o ≡ option_or a b
or_found None a b e h = absurd cc
or_found (Some p) a b e h = ap (λ (x : Option Place). option_or x b) e

or_on : (a b o : Option Place) → None ≡ a → o ≡ b → o ≡ option_or a b
or_on a b o e f = f ∙ ap (λ (x : Option Place). option_or x b) e

pub returns-then-is_some : goal.returns-then-is_some
returns-then-is_some c =
    let lines = c.args.mapping.now.classes in
    or_found c.in_ok-found.found (lines_fault c.args.input.now c.args.output.now [] lines)
    (first_place (unlined_fault lines) c.args.output.now)
    (c.in_ok-found.ensures.found (record {
      old_classes = c.new.ensures;
      new_classes = c.new-2.ensures;
      fields = c.new-3.ensures;
      methods = c.new-4.ensures;
    })
    ∙ ap (λ (ls : List MapClass). lines_fault c.args.input.now c.args.output.now [] ls) c.as_slice.ensures)
    (sym c.is_some.ensures ∙ c.if-is_some.true)

pub returns : goal.returns
returns c =
    let lines = c.args.mapping.now.classes in
    let none = none_there c.in_ok-found.found (sym c.is_some.ensures ∙ c.if-is_some.false) in
    let right = sym none ∙ c.in_ok-found.ensures.found (record {
      old_classes = c.new.ensures;
      new_classes = c.new-2.ensures;
      fields = c.new-3.ensures;
      methods = c.new-4.ensures;
    })
    ∙ ap (λ (ls : List MapClass). lines_fault c.args.input.now c.args.output.now [] ls) c.as_slice.ensures in
    let seen = subst (λ (ls : List MapClass). HasLines c.lines_fault.new.seen ls) c.as_slice.ensures
    (c.in_ok-found.ensures.seen (record {
      old_classes = c.new.ensures;
      new_classes = c.new-2.ensures;
      fields = c.new-3.ensures;
      methods = c.new-4.ensures;
    }) none) in
    ok_on c.unlined_fault.result
    (λ found e. or_on (lines_fault c.args.input.now c.args.output.now [] lines)
    (first_place (unlined_fault lines) c.args.output.now) found right e)
    (c.unlined_fault.ensures lines seen.new_classes)
