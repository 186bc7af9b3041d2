-- Answers of `find`: what its calls ask for, and what it promises.
use Rattle.std.proofs.Common.{◌≡◌, ◌<◌, refl, sym, subst, arith}
use Rattle.std.specs.Vec.{with_item}
use Rattle.why_kept.specs.bodies.Searching.{level_in}
use Rattle.why_kept.proofs.Finding.{grows_after, near_after, read_unset, some_left, sound_after}
use Rattle.why_kept.proofs.search.find.Goals as goal

is_unset : (c : goal.In_ok-push) → level_in c.args.sys.now c.args.search.now c.args.item ≡ c.args.sys.now.n
is_unset c =
    read_unset c.args.sys.now c.args.search.now c.args.level c.args.item _ c.requires.sound c.requires.item c.index.ensures
    c.if-index-sys.true

is_low : (c : goal.In_ok-push) → c.args.level < c.args.sys.now.n
is_low c =
    let one = some_left c.args.sys.now c.args.search.now c.args.item
    (subst (λ k. c.args.item < k) (sym c.requires.sound.count) c.requires.item) (is_unset c) in
    omega (arith, one, c.requires.few)

pub returns-in_ok-push-clause-sound : goal.returns-in_ok-push-clause-sound
returns-in_ok-push-clause-sound c =
    sound_after c.args.sys.now c.args.search.now
    (record { levels = with_item c.args.search.now.levels c.args.item c.args.level; found = c.push.new.self })
    c.args.level c.args.item c.requires.sound c.requires.item (is_low c) (is_unset c) refl c.in_ok-push.ensures.items
    c.requires.due

pub returns-in_ok-push-clause-grows : goal.returns-in_ok-push-clause-grows
returns-in_ok-push-clause-grows c =
    grows_after c.args.sys.now c.args.search.now
    (record { levels = with_item c.args.search.now.levels c.args.item c.args.level; found = c.push.new.self })
    c.args.level c.args.item c.requires.sound c.requires.item (is_low c) (is_unset c) refl c.in_ok-push.ensures.items

pub returns-in_ok-push-clause-near : goal.returns-in_ok-push-clause-near
returns-in_ok-push-clause-near c =
    near_after c.args.sys.now c.args.search.now
    (record { levels = with_item c.args.search.now.levels c.args.item c.args.level; found = c.push.new.self })
    c.args.level c.args.item c.requires.sound c.requires.item (is_low c) (is_unset c) refl c.in_ok-push.ensures.items
