-- Answers of `take_all`: what its calls ask for, and what it promises.
use Rattle.std.proofs.Common.{◌≡◌, ◌+◌, ◌<◌, ◌∷◌, [], length, ◌∙◌, sym, subst, ap, arith, rules}
use Rattle.std.specs.List.{Contains}
use Rattle.std.proofs.lemmas.Grind.{common_steps}
use Rattle.std.proofs.lemmas.List.{length_push}
use Rattle.std.proofs.lemmas.List.Elements.{All-contains, Contains-push}
use Rattle.why_kept.specs.bodies.Searching.{ArePresent, level_in}
use Rattle.why_kept.proofs.Growing.{present_grows}
use Rattle.why_kept.proofs.Listing.{all_front}
use Rattle.why_kept.proofs.Rounds.{none_left, open_after}
use Rattle.why_kept.proofs.search.take_all.Goals as goal

pub take-requires-clause-sound : goal.take-requires-clause-sound
take-requires-clause-sound c = c.loop-item.invariant.opened.sound

pub take-requires-clause-item : goal.take-requires-clause-item
take-requires-clause-item c =
    (All-contains (λ x. (x < c.args.sys.now.n) × (level_in c.args.sys.now c.loop-item.search x + 1 ≡ c.args.level))
    c.loop-item.present.items c.in-Some.item c.loop-item.invariant.present
    (subst (λ l. Contains l c.in-Some.item) (sym c.in-Some.ensures.items)
    (Contains-push c.pop.new.self.items c.in-Some.item))).0

pub take-requires-clause-before : goal.take-requires-clause-before
take-requires-clause-before c =
    (All-contains (λ x. (x < c.args.sys.now.n) × (level_in c.args.sys.now c.loop-item.search x + 1 ≡ c.args.level))
    c.loop-item.present.items c.in-Some.item c.loop-item.invariant.present
    (subst (λ l. Contains l c.in-Some.item) (sym c.in-Some.ensures.items)
    (Contains-push c.pop.new.self.items c.in-Some.item))).1

pub take-requires-clause-few : goal.take-requires-clause-few
take-requires-clause-few c =
    let longer = ap length c.in-Some.ensures.items ∙ length_push c.pop.new.self.items c.in-Some.item in
    let same = c.loop-item.invariant.left in
    let fewer = c.loop-item.invariant.fewer in
    omega (arith, longer, same, fewer, c.requires.few)

pub loop-item-preserved : goal.loop-item-preserved
loop-item-preserved c =
    let sys = c.args.sys.now in
    let old = c.loop-item.search in
    let new = c.take.new.search in
    let rest = c.pop.new.self.items in
    let item = c.in-Some.item in
    let grows = c.in_ok-take.ensures.grows in
    let longer = ap length c.in-Some.ensures.items ∙ length_push rest item in
    let fewer = c.loop-item.invariant.fewer in
    let here = All-contains (λ x. (x < sys.n) × (level_in sys old x + 1 ≡ c.args.level)) c.loop-item.present.items item
    c.loop-item.invariant.present
    (subst (λ l. Contains l item) (sym c.in-Some.ensures.items) (Contains-push rest item)) in
    record {
      opened = open_after sys old new c.args.level item c.loop-item.present.items rest c.loop-item.invariant.opened
          c.in-Some.ensures.items here.1 (omega (arith, c.requires.few, fewer, longer)) c.in_ok-take.ensures.sound grows
          c.in_ok-take.ensures.needs c.in_ok-take.ensures.pairs;
      present = present_grows sys old new c.args.level rest grows (omega (arith, c.requires.few, fewer, longer))
          (all_front (λ x. (x < sys.n) × (level_in sys old x + 1 ≡ c.args.level)) rest (item ∷ [])
          (subst (λ l. ArePresent sys c.args.level l old) c.in-Some.ensures.items c.loop-item.invariant.present));
      fewer = omega (arith, longer, fewer);
      left = grows.left ∙ c.loop-item.invariant.left;
    }

pub returns-clause-opened : goal.returns-clause-opened
returns-clause-opened c =
    let empty : length c.loop-item.present.items ≡ 0 = first_of (search rules, grind (arith, common_steps)) in
    none_left c.args.sys.now c.args.level c.loop-item.present.items c.loop-item.search c.loop-item.invariant.opened empty
