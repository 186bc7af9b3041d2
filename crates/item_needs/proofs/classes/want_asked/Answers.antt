-- Answers of `want_asked`: what its calls ask for, and what it promises.
use Rattle.std.proofs.Common.{All, List, ℕ, ◌<◌, length, map, subst, sym}
use Rattle.std.specs.Prelude.{OnOk, ◌≡◌}
use Rattle.class_pool.specs.Found.{rows_in}
use Rattle.class_pool.specs.declared.id.ClassId.TheVariants.{Prog}
use Rattle.require_sys.specs.Requires.{OfMember}
use Rattle.item_numbers.specs.bodies.Wanting.{wanting}
use Rattle.item_needs.proofs.classes.want_asked.Goals as goal

pub want_members-requires-clause-members : goal.want_members-requires-clause-members
want_members-requires-clause-members c =
    subst (λ (ks : List ℕ). All (λ k. k < length (rows_in c.args.wants.now.classes (Prog c.args.number))) ks)
    (sym c.asked_of.ensures) (c.requires.members c.args.number)

pub returns : goal.returns
returns c =
    subst (λ (ks : List ℕ). OnOk c.want_members.result (c.want_members.new.wants ≡ wanting c.args.wants.now
    (map (λ k. OfMember (record { class = Prog c.args.number; index = k })) ks))) c.asked_of.ensures
    c.want_members.ensures
