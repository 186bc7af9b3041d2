-- Answers of `empty_lists`: what its calls ask for, and what it promises.
use Rattle.std.proofs.Common.{◌≡◌, List, [], length, sym, subst, ap, ◌∙◌, arith}
use Rattle.std.specs.List.{All}
use Rattle.std.proofs.lemmas.List.{length_push}
use Rattle.std.proofs.lemmas.List.Elements.{All-nil, All-push}
use Rattle.mark_core.specs.declared.system.Pair.{Pair}
use Rattle.why_kept.proofs.by_item.empty_lists.Goals as goal

-- the list is empty
abbrev IsNone : List Pair → Type 0
IsNone list = list ≡ []

pub fill-init : goal.fill-init
fill-init c = record {
  few = (let none = ap length c.in_ok-lists.ensures.items in omega (arith, none));
  empty = subst (All IsNone) (sym c.in_ok-lists.ensures.items) (All-nil IsNone);
}

pub fill-preserved : goal.fill-preserved
fill-preserved c = record {
  few = (let longer = ap length c.in_ok-push.ensures.items ∙ length_push c.fill.lists.items c.new.result in
      omega (arith, longer, c.fill-test.true, c.len.ensures));
  empty = subst (All IsNone) (sym c.in_ok-push.ensures.items)
      (All-push IsNone c.fill.lists.items c.new.result c.fill.invariant.empty c.new.ensures);
}
