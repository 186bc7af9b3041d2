-- Answers of `+named_by_all`: what its calls ask for, and what it promises.
use Rattle.std.proofs.lemmas.Result.{IfOk-weaker}
use Rattle.std.proofs.Common.{List, subst}
use Rattle.const_tables.specs.declared.facts.Stretch.{Stretch}
use Rattle.const_tables.specs.Stretches.{IsJoined}
use Rattle.const_tables.proofs.Naming.{of_halves}
use Rattle.const_tables.proofs.facts.+named_by_all.Goals as goal

pub returns : goal.returns
returns t c =
    IfOk-weaker c.joined.result _ _
    (λ all h. of_halves c.args.number _ c.args.acts.now c.split_at.result.0.now
    c.split_at.result.1.now c.in_ok-former.former.items c.in_ok-latter.latter.items all.items
    c.split_at.ensures.front c.split_at.ensures.back c.in_ok-former.ensures c.in_ok-latter.ensures
    (subst (λ (xs : List Stretch). IsJoined xs c.in_ok-latter.latter.items all.items)
    c.deref.ensures.value
    (subst (λ (xs : List Stretch). IsJoined c.deref.result.now xs all.items) c.deref-2.ensures.value
    h))) c.joined.ensures
