-- Answers of `Met::meet`: what its calls ask for, and what it promises.
use Rattle.std.proofs.Common.{rules, ◌≡◌, ◌∙◌, ◌++◌, [], ◌∷◌, length, sym, subst}
use Rattle.class_pool.specs.bodies.Marked.{Classes, IsBelow}
use Rattle.class_pool.specs.Walk.{each_once}
use Rattle.class_pool.proofs.Marking.{mark_at, met_before, met_first}
use Rattle.class_pool.proofs.hierarchy.met.Met.meet.Goals as goal

pub returns-then-index-clause-ids : goal.returns-then-index-clause-ids
returns-then-index-clause-ids c =
    let low : IsBelow (length c.self.inside.marks.items) c.args.id.now = subst
    (λ (s : Classes). IsBelow s.count c.args.id.now) (sym c.self.view_is) c.requires.below in
    subst (λ (s : Classes). s.ids ≡ s.ids ++ each_once s.ids (c.args.id.now ∷ [])) c.self.view_is
    (met_before c.self.inside.marks.items c.self.inside.ids c.args.id.now c.self.invariant low
    (mark_at c.self.inside.marks.items c.args.id.now c.number-place.result _ _ c.number-place.ensures low
    c.index.ensures c.if-index.true))

pub returns-clause-ids : goal.returns-clause-ids
returns-clause-ids c =
    let low : IsBelow (length c.self.inside.marks.items) c.args.id.now = subst
    (λ (s : Classes). IsBelow s.count c.args.id.now) (sym c.self.view_is) c.requires.below in
    let put : c.push.new.self ≡ c.self.inside.ids ++ c.args.id.now ∷ [] = search rules in
    subst (λ (s : Classes). c.push.new.self ≡ s.ids ++ each_once s.ids (c.args.id.now ∷ [])) c.self.view_is
    (put ∙ met_first c.self.inside.marks.items c.self.inside.ids c.args.id.now c.self.invariant low
    (mark_at c.self.inside.marks.items c.args.id.now c.number-place.result _ _ c.number-place.ensures low
    c.index.ensures c.if-index.false))
