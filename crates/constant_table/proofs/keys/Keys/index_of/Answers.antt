-- Answers of `Keys::index_of`: what its calls ask for, and what it promises.
use Rattle.std.proofs.Common.{rules, ◌≡◌, ◌+◌, List, length, sym, subst, ◌∙◌}
use Rattle.constant_table.specs.declared.key.Key.{Key}
use Rattle.constant_table.specs.bodies.Keys.{index_in}
use Rattle.constant_table.specs.bodies.Indices.{index_at}
use Rattle.constant_table.proofs.Kept.{found_at, missing_at}
use Rattle.constant_table.proofs.keys.Keys.index_of.Goals as goal

pub returns-in-Some : goal.returns-in-Some
returns-in-Some c =
    let k = c.args.key in
    subst (λ (ks : List Key). c.in-Some.index ≡ index_in ks k) c.self.view_is
    (found_at c.self.inside.keys.items (index_at c.self.inside.indices) k c.self.invariant c.in-Some.index
    (sym c.in-Some.is ∙ c.get.ensures))

pub returns-in-None : goal.returns-in-None
returns-in-None c =
    let k = c.args.key in
    let e : c.len.result ≡ length c.self.inside.keys.items = search rules in
    subst (λ (ks : List Key). c.len.result + 1 ≡ index_in ks k) c.self.view_is
    (missing_at c.self.inside.keys.items (index_at c.self.inside.indices) k c.self.invariant c.len.result
    (sym c.in-None.is ∙ c.get.ensures) e)
