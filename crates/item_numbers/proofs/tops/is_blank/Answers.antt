-- Answers of `is_blank`: what its calls ask for, and what it promises.
use Rattle.std.proofs.Common.{sym, ◌∙◌}
use Rattle.class_pool.specs.Walk.{own_superinterfaces}
use Rattle.class_pool.specs.declared.id.ClassId.TheVariants.{Prog}
use Rattle.item_numbers.proofs.Looking.{own_empty}
use Rattle.item_numbers.proofs.tops.is_blank.Goals as goal

pub returns : goal.returns
returns c said = record {
  own = own_empty (own_superinterfaces c.args.set.now (Prog c.args.number)) c.own_superinterfaces.result.now
      c.is_empty.result c.own_superinterfaces.ensures.are c.is_empty.ensures said;
  methods = c.has_instance_method.ensures c.if-has_instance_method.false;
  above = sym c.is_interface.ensures ∙ c.if-is_interface.false;
}
