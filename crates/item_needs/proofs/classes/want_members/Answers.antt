-- Answers of `want_members`: what its calls ask for, and what it promises.
use Rattle.std.proofs.Common.{List, ℕ, ap, get_or, subst, sym}
use Rattle.std.proofs.lemmas.List.{get_or_default}
use Rattle.class_model.specs.declared.class.Class.{Class}
use Rattle.class_pool.specs.Found.{IsMember}
use Rattle.class_pool.specs.declared.id.ClassId.TheVariants.{Prog}
use Rattle.require_sys.specs.Requires.{OfMember}
use Rattle.item_numbers.specs.bodies.Wanting.{Wanted}
use Rattle.item_numbers.proofs.Gathering.{more_mapped}
use Rattle.require_sys.proofs.Numbering.{member_listed}
use Rattle.item_needs.proofs.classes.want_members.Goals as goal

pub want_numbered-requires : goal.want_numbered-requires
want_numbered-requires c =
    subst (λ (cs : List Class). IsMember cs (record {
      class = Prog c.args.number;
      index = get_or c.args.members.now
          c.loop-index.index-index 0;
    }))
    (sym (ap (λ (w : Wanted). w.classes) c.loop-index.invariant))
    (member_listed c.args.wants.now.classes c.args.number c.args.members.now c.loop-index.index-index
    (get_or c.args.members.now c.loop-index.index-index 0) c.requires.there c.requires.members c.loop-index-test.true
    (get_or_default c.args.members.now c.loop-index.index-index 0 _ c.loop-index-test.true))

pub loop-index-preserved : goal.loop-index-preserved
loop-index-preserved c =
    more_mapped (λ (k : ℕ). OfMember (record { class = Prog c.args.number; index = k })) c.args.members.now
    c.loop-index.index-index (get_or c.args.members.now c.loop-index.index-index 0) c.args.wants.now
    c.loop-index.wants _
    c.loop-index-test.true (get_or_default c.args.members.now c.loop-index.index-index 0 _ c.loop-index-test.true)
    c.loop-index.invariant c.in_ok-want_numbered.ensures
