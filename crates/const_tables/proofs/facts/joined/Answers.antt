-- Answers of `joined`: what its calls ask for, and what it promises.
use Rattle.std.proofs.Common.{◌≡◌, ◌∙◌, ◌++◌, ◌+◌, [], ◌∷◌, Some, None, rules, sym, ap, subst}
use Rattle.std.specs.Prelude.{slice_get}
use Rattle.std.specs.Option.{option_or}
use Rattle.const_tables.specs.declared.facts.Next.TheVariants.{Former, Latter}
use Rattle.const_tables.specs.Stretches.{next_of}
use Rattle.const_tables.proofs.Joining.{IsJoining, ends, says, with_former, with_latter}
use Rattle.const_tables.proofs.facts.joined.Goals as goal

pub loop-next-preserved-in-Continue-1 : goal.loop-next-preserved-in-Continue-1
loop-next-preserved-in-Continue-1 c =
    let former = c.args.former.now in
    let latter = c.args.latter.now in
    let x = c.in-Former.stretch in
    let next : next_of (slice_get former c.loop-next.one) (slice_get latter c.loop-next.other)
    ≡ Some (Former x) =
    (λ i. next_of (sym c.stretch_at.ensures i) (sym c.stretch_at-in-loop-next.ensures i))
    ∙ sym c.next_of.ensures ∙ c.in-Some.is ∙ ap Some c.in-Former.is in
    let pushed : c.push.new.self.items
    ≡ c.loop-next.all.items ++ says x (option_or x.first c.loop-next.second) ∷ [] = search rules in
    subst (IsJoining former latter (c.loop-next.one + 1) c.loop-next.other x.first
    c.loop-next.second) (sym pushed)
    (with_former former latter c.loop-next.one c.loop-next.other c.loop-next.first
    c.loop-next.second c.loop-next.all.items c.requires.former c.requires.latter
    c.loop-next.invariant x next)

pub loop-next-preserved : goal.loop-next-preserved
loop-next-preserved c =
    let former = c.args.former.now in
    let latter = c.args.latter.now in
    let y = c.in-Latter.stretch in
    let next : next_of (slice_get former c.loop-next.one) (slice_get latter c.loop-next.other)
    ≡ Some (Latter y) =
    (λ i. next_of (sym c.stretch_at.ensures i) (sym c.stretch_at-in-loop-next.ensures i))
    ∙ sym c.next_of.ensures ∙ c.in-Some.is ∙ ap Some c.in-Latter.is in
    let pushed : c.push-in-Latter.new.self.items
    ≡ c.loop-next.all.items ++ says y (option_or c.loop-next.first y.first) ∷ [] = search rules in
    subst (IsJoining former latter c.loop-next.one (c.loop-next.other + 1) c.loop-next.first
    y.first) (sym pushed)
    (with_latter former latter c.loop-next.one c.loop-next.other c.loop-next.first
    c.loop-next.second c.loop-next.all.items c.requires.former c.requires.latter
    c.loop-next.invariant y next)

pub returns : goal.returns
returns c =
    let former = c.args.former.now in
    let latter = c.args.latter.now in
    let next : next_of (slice_get former c.loop-next.one) (slice_get latter c.loop-next.other)
    ≡ None =
    (λ i. next_of (sym c.stretch_at.ensures i) (sym c.stretch_at-in-loop-next.ensures i))
    ∙ sym c.next_of.ensures ∙ c.in_default.is in
    ends former latter c.loop-next.one c.loop-next.other c.loop-next.first c.loop-next.second
    c.loop-next.all.items c.requires.former c.requires.latter c.loop-next.invariant next
