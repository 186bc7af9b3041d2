-- Answers of `want_called`: what its calls ask for, and what it promises.
use Rattle.std.proofs.Common.{List, ap, subst, sym, ◌∙◌}
use Rattle.std.specs.Prelude.{OnOk, ◌≡◌}
use Rattle.std.specs.List.{flat_map}
use Rattle.class_model.specs.declared.class.Class.{Class}
use Rattle.class_pool.specs.Walk.{supers}
use Rattle.class_pool.specs.declared.id.ClassId.TheVariants.{Prog}
use Rattle.require_sys.specs.Requires.{Item, library_supers}
use Rattle.item_numbers.specs.bodies.Selecting.{called_by}
use Rattle.item_numbers.specs.bodies.Wanting.{wanting}
use Rattle.item_needs.proofs.CalledMethods.{by_library, called_is}
use Rattle.item_needs.proofs.classes.want_called.Goals as goal

pub returns : goal.returns
returns c =
    let classes = c.args.wants.now.classes in
    let top = c.top-top.result in
    subst (λ (t : List Item). OnOk c.want_called_by.result (c.want_called_by.new.wants ≡ wanting c.args.wants.now t))
    (ap (flat_map (called_by classes top))
    (c.as_slice.ensures.value ∙ c.in_ok-libraries.ensures
    ∙ ap (λ (cs : List Class). library_supers cs (Prog c.library_top.result)) c.set.ensures
    ∙ sym c.library_top.ensures.same)
    ∙ by_library classes top (supers classes (Prog top))
    ∙ called_is classes c.args.number top c.args.class.now (sym c.is_interface.ensures ∙ c.if-is_interface.false)
    c.top-top.ensures)
    c.want_called_by.ensures
