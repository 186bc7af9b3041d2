-- Answers of `optimise_parts`: what its calls ask for, and what it promises.
use Rattle.std.proofs.Common.{◌≡◌, ◌∙◌, List, ap, max, subst, sym, arith}
use Rattle.std.specs.Borrow.{Bor}
use Rattle.std.specs.List.{All}
use Rattle.std.specs.Prelude.{IfOk}
use Rattle.std.specs.declared.alloc.Global.{Global}
use Rattle.std.specs.declared.vec.Vec.{Vec}
use Rattle.rayon.proofs.ToStd.{slice-AllZip}
use Rattle.rayon.specs.Lists.{chunks_of}
use Rattle.jv_base.specs.declared.outcome.OutOfMemory.{OutOfMemory}
use Rattle.class_model.specs.declared.class.Class.{Class}
use Rattle.pass_driver.specs.bodies.Parts.{ArePartsDone, CanBeDone, IsPartDone}
use Rattle.pass_driver.specs.declared.optimising.Optimised.{Optimised}
use Rattle.pass_driver.specs.declared.spots.Spot.{Spot}
use Rattle.pass_driver.proofs.Parting.{collected, parts_of, pieces_can}
use Rattle.pass_driver.proofs.optimising.optimise_parts.Goals as goal

pub returns : goal.returns
returns g c =
    let size = c.args.size in
    let spots = c.args.spots.now in
    let some = c.requires.size in
    let least : max size 1 ≡ size = omega arith in
    let slice = ap (λ it. it.base.slice.now) c.map.ensures.base
    ∙ (ap (λ it. it.slice.now) c.with_min_len.ensures.base ∙ c.par_chunks.ensures.slice) in
    let sized = ap (λ it. max it.base.size 1) c.map.ensures.base
    ∙ (ap (λ it. max it.size 1) c.with_min_len.ensures.base ∙ ap (λ n. max n 1) c.par_chunks.ensures.size ∙ least) in
    let pieces : chunks_of (max c.map.result.base.base.size 1) c.map.result.base.base.slice.now ≡ chunks_of size spots =
    λ i. chunks_of (sized i) (slice i) in
    let h = c.in_ok-parts.ensures in
    let chain = h.1 in
    let set : List Class = c.map.result.f.2.now in
    subst (λ (classes : List Class). IfOk c.in_ok-parts.parts
    (λ (v : Vec Optimised Global). ArePartsDone classes spots v.items))
    (ap (λ f. f.2.now) c.map.ensures.f)
    (parts_of set spots size some c.in_ok-parts.parts
    (collected OutOfMemory (IsPartDone set) (chunks_of size spots) h.0 c.in_ok-parts.parts
    (slice-AllZip chain.0 (chunks_of size spots) (chain.1 ∙ pieces) (λ x r. IfOk r (IsPartDone set x)) h.0 chain.2) h.2))

pub collect-requires-clause-ready : goal.collect-requires-clause-ready
collect-requires-clause-ready g c κs within =
    let size = c.args.size in
    let spots = c.args.spots.now in
    let some = c.requires.size in
    let least : max size 1 ≡ size = omega arith in
    let slice = ap (λ it. it.base.slice.now) c.map.ensures.base
    ∙ (ap (λ it. it.slice.now) c.with_min_len.ensures.base ∙ c.par_chunks.ensures.slice) in
    let sized = ap (λ it. max it.base.size 1) c.map.ensures.base
    ∙ (ap (λ it. max it.size 1) c.with_min_len.ensures.base ∙ ap (λ n. max n 1) c.par_chunks.ensures.size ∙ least) in
    let pieces : chunks_of (max c.map.result.base.base.size 1) c.map.result.base.base.slice.now ≡ chunks_of size spots =
    λ i. chunks_of (sized i) (slice i) in
    let given : CanBeDone c.args.checker.now c.args.set.now spots = (c.requires.same, c.requires.there, c.requires.formed, c.requires.typed) in
    let can : CanBeDone c.map.result.f.1.now c.map.result.f.2.now spots =
    subst (λ (known : List Class). CanBeDone known c.map.result.f.2.now spots) (sym (ap (λ f. f.1.now) c.map.ensures.f))
    (subst (λ (classes : List Class). CanBeDone c.args.checker.now classes spots)
    (sym (ap (λ f. f.2.now) c.map.ensures.f)) given) in
    let each = subst (λ (l : List (List Spot)). All (λ (v : List Spot). (x : Bor (List Spot)) → x.now ≡ v
    → CanBeDone c.map.result.f.1.now c.map.result.f.2.now x.now) l) (sym pieces)
    (pieces_can c.map.result.f.1.now c.map.result.f.2.now spots size some can) in
    λ k d lt x e. (each k d lt x e, λ y p. tt)
