-- Answers of `OldMethods::candidates`: what its calls ask for, and what it promises.
use Rattle.std.proofs.Common.{◌≡◌, ◌+◌, ◌-◌, ◌<◌, ℕ, List, length, map, slice_get, Some, refl, sym, ap}
use Rattle.std.proofs.Common.{subst, ◌∙◌, arith}
use Rattle.std.proofs.lemmas.List.{map-append}
use Rattle.std.proofs.lemmas.Option.{slice_get_read}
use Rattle.std.specs.Borrow.{Bor}
use Rattle.mapping_file.specs.declared.mapping.MapMethod.{MapMethod}
use Rattle.retrace_core.specs.bodies.Linked.{AreLinked, Leads}
use Rattle.retrace_core.proofs.Links.{Walked, walk_on}
use Rattle.std.specs.BTreeMap.{BTreeMap}
use Rattle.retrace_core.proofs.tables.OldMethods.candidates.Goals as goal

-- a method leads to the next with its new name
next : (methods : List MapMethod) (firsts : BTreeMap (Bor (List ℕ)) ℕ) (nexts : List ℕ) (place there : ℕ) (m : MapMethod)
    → AreLinked methods 0 firsts nexts → place < length methods → slice_get methods place ≡ Some m
    → slice_get nexts (length methods - 1 - place) ≡ Some there → Leads methods m.new (place + 1) there
next methods firsts nexts place there m linked low at get = linked.next place there m at (omega arith) get

pub loop-place-smaller : goal.loop-place-smaller
loop-place-smaller c =
    let methods = c.self.inside.methods.now in
    let nexts = c.self.inside.nexts.items in
    let place = c.loop-place.place in
    let there = c.index-place.result.now in
    let m = c.index-methods-place.result in
    let low : place < length methods = c.loop-place-test.true in
    let l = next methods c.self.inside.firsts nexts place there m c.self.invariant low
    (slice_get_read methods (length methods) place m refl low c.index-methods-place.is)
    (slice_get_read nexts (length nexts) (length methods - 1 - place) there refl
    (omega (arith, low, c.self.invariant.count)) c.index-place.ensures) in
    let less : length methods - there < length methods - place = omega (arith, l.behind, l.within, low) in less

pub loop-place-preserved : goal.loop-place-preserved
loop-place-preserved c =
    let methods = c.self.inside.methods.now in
    let nexts = c.self.inside.nexts.items in
    let place = c.loop-place.place in
    let there = c.index-place.result.now in
    let m = c.index-methods-place.result in
    let low : place < length methods = c.loop-place-test.true in
    let at : slice_get methods place ≡ Some m =
    slice_get_read methods (length methods) place m refl low c.index-methods-place.is in
    let l = next methods c.self.inside.firsts nexts place there m c.self.invariant low at
    (slice_get_read nexts (length nexts) (length methods - 1 - place) there refl
    (omega (arith, low, c.self.invariant.count)) c.index-place.ensures) in
    let now : List (Bor MapMethod) → List MapMethod = map (λ (x : Bor MapMethod). x.now) in
    subst (λ (ms : List MapMethod). Walked methods c.args.name.now ms there)
    (sym (ap now c.in_ok-push.ensures.items ∙ map-append (λ (x : Bor MapMethod). x.now) c.loop-place.found.items _))
    (walk_on methods (now c.loop-place.found.items) c.args.name.now place there m at c.loop-place.invariant l)
