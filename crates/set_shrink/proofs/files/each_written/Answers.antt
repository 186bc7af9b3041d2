-- Answers of `each_written`: what its calls ask for, and what it promises.
use Rattle.std.proofs.Common.{◌∙◌, ℕ, List, ap, map, subst, sym}
use Rattle.std.specs.List.{All, AllByRecursion}
use Rattle.rayon.specs.Lists.{vec_items}
use Rattle.attribute_filter.specs.Filtered.{filtered}
use Rattle.attribute_filter.specs.declared.filter.AttributeFilter.{AttributeFilter}
use Rattle.class_laws.specs.SpellingLaws.{IsWritable}
use Rattle.class_model.specs.declared.class.Class.{Class}
use Rattle.set_shrink.specs.bodies.Steps.{AreEachWritten}
use Rattle.set_shrink.proofs.Written.{all_changed, each_is}
use Rattle.set_shrink.proofs.files.each_written.Goals as goal

pub returns : goal.returns
returns g c =
    let classes = c.args.classes in
    let all = c.in_ok-all.all.items in
    let filter = c.map.result.f.1.now in
    let directory = c.map.result.f.2.now in
    let h = c.in_ok-all.ensures in
    let chain = h.1 in
    let items = ap (λ it. vec_items it.base) c.map.ensures.base
    ∙ (ap (λ it. vec_items it) c.with_min_len.ensures.base ∙ c.into_par_iter.ensures ∙ c.into_vec.ensures) in
    subst (λ (d : List ℕ). AreEachWritten d (map (filtered c.args.filter.now) classes) all)
    (ap (λ f. f.2.now) c.map.ensures.f)
    (subst (λ (kept : AttributeFilter). AreEachWritten directory (map (filtered kept) classes) all)
    (ap (λ f. f.1.now) c.map.ensures.f)
    (each_is filter directory classes chain.0 h.0 all (chain.1 ∙ items) h.2 chain.2))

pub collect-requires-clause-ready : goal.collect-requires-clause-ready
collect-requires-clause-ready g c κs within =
    let classes = c.args.classes in
    let filter = c.map.result.f.1.now in
    let items = ap (λ it. vec_items it.base) c.map.ensures.base
    ∙ (ap (λ it. vec_items it) c.with_min_len.ensures.base ∙ c.into_par_iter.ensures ∙ c.into_vec.ensures) in
    let writable = subst (λ (kept : AttributeFilter). AllByRecursion IsWritable (map (filtered kept) classes))
    (sym (ap (λ f. f.1.now) c.map.ensures.f)) c.requires.writable in
    let each = subst (λ (l : List Class). All (λ (class : Class). IsWritable (filtered filter class)) l) (sym items)
    (all_changed IsWritable (filtered filter) classes writable) in
    λ k d lt. (each k d lt, λ y p. tt)
