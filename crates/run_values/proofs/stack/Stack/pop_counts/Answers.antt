-- Answers of `Stack::pop_counts`: what its calls ask for, and what it promises.
use Rattle.std.proofs.Common.{rules, arith, ◌∙◌, ap, sym, ◌-◌, ◌+◌, [], ◌∷◌, ℤ, List, reverse}
use Rattle.std.proofs.lemmas.Int.{to_z-of_z}
use mir.Syntax.{w32}
use mir.Val.{SFits}
use Rattle.std.proofs.lemmas.List.{reverse-append}
use Rattle.jvm_model.specs.Stack.{counts_above}
use Rattle.run_values.proofs.Counts.{counts_next, counts_none}
use Rattle.run_values.proofs.stack.Stack.pop_counts.Goals as goal

pub returns-in_default : goal.returns-in_default
returns-in_default c = sym c.loop.invariant
    ∙ counts_none (c.args.count - c.loop.counter) (reverse c.loop.taken.items) c.loop.self (omega arith)
    c.in_default.ensures

pub loop-preserved : goal.loop-preserved
loop-preserved c = let f : SFits w32 c.in-Some.number = search rules in
    rw (c.in_ok-push.ensures.items, to_z-of_z w32 c.in-Some.number f)
    (ap (λ (zs : List ℤ). counts_above (c.args.count - (c.loop.counter + 1)) zs c.pop_int.new.self)
    (reverse-append c.loop.taken.items (c.in-Some.number ∷ []))
    ∙ counts_next (c.args.count - c.loop.counter) (c.args.count - (c.loop.counter + 1)) (reverse c.loop.taken.items)
    c.loop.self c.pop_int.new.self c.in-Some.number (omega arith) c.in-Some.ensures ∙ c.loop.invariant)
