-- Answers of `Known::argument_types`: what its calls ask for, and what it promises.
use Rattle.std.proofs.Common.{◌≡◌, ℕ, List, Option, Some, None, Bor, sym, ap, ◌∙◌, rules}
use Rattle.text_lines.specs.Cut.{cut, parts_copied}
use Rattle.text_lines.proofs.Arguments.{goes_on, stops, ends, ends_not, shorter, arguments_is}
use Rattle.text_lines.proofs.known.Known.argument_types.Goals as goal

pub returns-then-not-branch : goal.returns-then-not-branch
returns-then-not-branch c = stops c.loop-first.rest.now c.in-Some.first.now c.in-Some.others.now c.loop-first.types
    c.push_type.new.types c.in_ok-push_type.field-0 _
    (sym c.cut.ensures ∙ ap parts_copied c.in-Some.is) c.if-not-branch.true c.in_ok-push_type.ensures
    c.loop-first.invariant.read
    ∙ arguments_is c.args.text.now (sym c.if-is_empty.false ∙ c.is_empty.ensures)

pub loop-first-smaller : goal.loop-first-smaller
loop-first-smaller c = shorter c.loop-first.rest.now c.in-Some.first.now c.in-Some.others.now
    (sym c.cut.ensures ∙ ap parts_copied c.in-Some.is)

pub loop-first-preserved : goal.loop-first-preserved
loop-first-preserved c = record {
  utf8 = search rules;
  read = goes_on c.loop-first.rest.now c.in-Some.first.now c.in-Some.others.now c.loop-first.types c.push_type.new.types
      c.in_ok-push_type.field-0 _
      (sym c.cut.ensures ∙ ap parts_copied c.in-Some.is) c.if-not-branch.false c.in_ok-push_type.ensures
      c.loop-first.invariant.read;
}

pub returns-then-not-branch-2 : goal.returns-then-not-branch-2
returns-then-not-branch-2 c = ends_not c.loop-first.rest.now c.loop-first.types c.push_type-2.new.types
    c.in_ok-push_type-2.field-0 _
    (sym c.cut.ensures ∙ ap parts_copied c.in_default.is) c.if-not-branch-2.true c.in_ok-push_type-2.ensures
    c.loop-first.invariant.read
    ∙ arguments_is c.args.text.now (sym c.if-is_empty.false ∙ c.is_empty.ensures)

pub returns : goal.returns
returns c = ends c.loop-first.rest.now c.loop-first.types c.push_type-2.new.types c.in_ok-push_type-2.field-0 _
    (sym c.cut.ensures ∙ ap parts_copied c.in_default.is) c.if-not-branch-2.false c.in_ok-push_type-2.ensures
    c.loop-first.invariant.read
    ∙ arguments_is c.args.text.now (sym c.if-is_empty.false ∙ c.is_empty.ensures)
