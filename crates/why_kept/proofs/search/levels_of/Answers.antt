-- Answers of `levels_of`: what its calls ask for, and what it promises.
use Rattle.std.proofs.Common.{◌≡◌, ◌+◌, ◌<◌, ◌≤◌, ◌++◌, [], ℕ, length, get_or, replicate, refl, sym, subst, ap, arith}
use Rattle.std.proofs.Common.{rules}
use Rattle.std.specs.List.{All}
use Rattle.std.proofs.lemmas.Grind.{common_steps}
use Rattle.std.proofs.lemmas.List.Elements.{Contains-get_or}
use Rattle.why_kept.specs.Derivations.{IsDerivedAt}
use Rattle.why_kept.specs.Levels.{HasLevel, IsCertified, level_of}
use Rattle.why_kept.specs.declared.search.Search.{Search}
use Rattle.why_kept.specs.bodies.Searching.{ArePresent, AreNear, IsOpen, left}
use Rattle.why_kept.proofs.Deriving.{seed_derived}
use Rattle.why_kept.proofs.Rounds.{certified_at_end, left_first, open_first, most_all, open_round, present_round}
use Rattle.why_kept.proofs.Rounds.{sound_first}
use Rattle.why_kept.proofs.search.levels_of.Goals as goal

pub find_all-requires-clause-sound : goal.find_all-requires-clause-sound
find_all-requires-clause-sound c =
    let levels : c.in_ok-vec.field-0.items ≡ replicate c.args.sys.now.n c.args.sys.now.n = search rules in
    sound_first c.args.sys.now (record { levels = c.in_ok-vec.field-0; found = c.new.result }) levels c.new.ensures.items

pub find_all-requires-clause-due : goal.find_all-requires-clause-due
find_all-requires-clause-due c =
    subst (All (λ x. IsDerivedAt c.args.sys.now x 0)) (sym c.as_slice.ensures)
    (λ k d lt. seed_derived c.args.sys.now (get_or c.args.sys.now.seeds k d) (Contains-get_or c.args.sys.now.seeds k d lt))

pub find_all-requires-clause-few : goal.find_all-requires-clause-few
find_all-requires-clause-few c =
    let levels : c.in_ok-vec.field-0.items ≡ replicate c.args.sys.now.n c.args.sys.now.n = search rules in
    let first = left_first c.args.sys.now (record { levels = c.in_ok-vec.field-0; found = c.new.result }) levels
    c.new.ensures.items in
    omega (arith, first)

pub rounds-init : goal.rounds-init
rounds-init c =
    let levels : c.in_ok-vec.field-0.items ≡ replicate c.args.sys.now.n c.args.sys.now.n = search rules in
    let first : Search = record { levels = c.in_ok-vec.field-0; found = c.new.result } in
    let count = left_first c.args.sys.now first levels c.new.ensures.items in
    let same = c.in_ok-find_all.ensures.grows.left in
    record {
      opened = open_first c.args.sys.now first levels c.new.ensures.items c.find_all.new.search
          c.in_ok-find_all.ensures.sound c.in_ok-find_all.ensures.grows
          (subst (AreNear c.args.sys.now c.find_all.new.search 0) c.as_slice.ensures c.in_ok-find_all.ensures.near);
      few = omega (arith, count, same);
    }

pub take_all-requires-clause-opened : goal.take_all-requires-clause-opened
take_all-requires-clause-opened c =
    let new : Search = record { levels = c.rounds.search.levels; found = c.replace-present.new.dest } in
    let was : c.replace-present.result.items ≡ c.rounds.search.found.items = search rules in
    let none : c.replace-present.new.dest.items ≡ [] = search rules in
    subst (λ l. IsOpen c.args.sys.now (c.rounds.level + 1) (l ++ new.found.items) new) (sym was)
    (open_round c.args.sys.now c.rounds.search new c.rounds.level c.rounds.invariant.opened refl none)

pub take_all-requires-clause-present : goal.take_all-requires-clause-present
take_all-requires-clause-present c =
    let new : Search = record { levels = c.rounds.search.levels; found = c.replace-present.new.dest } in
    let was : c.replace-present.result.items ≡ c.rounds.search.found.items = search rules in
    let none : c.replace-present.new.dest.items ≡ [] = search rules in
    subst (λ l. ArePresent c.args.sys.now (c.rounds.level + 1) l new) (sym was)
    (present_round c.args.sys.now c.rounds.search new c.rounds.level c.rounds.invariant.opened refl none)

pub take_all-requires-clause-few : goal.take_all-requires-clause-few
take_all-requires-clause-few c =
    let was : c.replace-present.result.items ≡ c.rounds.search.found.items = search rules in
    let none : c.replace-present.new.dest.items ≡ [] = search rules in
    let count = ap length was in
    let empty = ap length none in
    omega (arith, count, empty, c.rounds.invariant.few)

pub rounds-preserved : goal.rounds-preserved
rounds-preserved c =
    let was : c.replace-present.result.items ≡ c.rounds.search.found.items = search rules in
    let none : c.replace-present.new.dest.items ≡ [] = search rules in
    let some : 0 < length c.rounds.search.found.items = first_of (search rules, grind (arith, common_steps)) in
    let empty = ap length none in
    let same = c.in_ok-take_all.ensures.left in
    record {
      opened = c.in_ok-take_all.ensures.opened;
      few = omega (arith, empty, some, same, c.rounds.invariant.few);
    }

pub rounds-smaller : goal.rounds-smaller
rounds-smaller c =
    let none : c.replace-present.new.dest.items ≡ [] = search rules in
    let some : 0 < length c.rounds.search.found.items = first_of (search rules, grind (arith, common_steps)) in
    let empty = ap length none in
    let same = c.in_ok-take_all.ensures.left in
    let less : left c.args.sys.now c.take_all.new.search < left c.args.sys.now c.rounds.search = omega
    (arith, empty, some, same) in
    less

pub returns-clause-certified : goal.returns-clause-certified
returns-clause-certified c =
    let empty : length c.rounds.search.found.items ≡ 0 = first_of (search rules, grind (arith, common_steps)) in
    subst (IsCertified c.args.sys.now) (sym c.from_vec.ensures)
    (certified_at_end c.args.sys.now c.rounds.search c.rounds.level c.rounds.invariant.opened empty)

pub returns-clause-most : goal.returns-clause-most
returns-clause-most c =
    subst (All (λ level. level ≤ c.args.sys.now.n)) (sym c.from_vec.ensures)
    (most_all c.args.sys.now c.rounds.search c.rounds.level c.rounds.invariant.opened.sound)

pub returns-clause-reached : goal.returns-clause-reached
returns-clause-reached c =
    subst (λ levels. (x : ℕ) → HasLevel c.args.sys.now levels x
    → IsDerivedAt c.args.sys.now x (level_of c.args.sys.now levels x)) (sym c.from_vec.ensures)
    c.rounds.invariant.opened.sound.derived
