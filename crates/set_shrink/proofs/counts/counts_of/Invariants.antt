use Rattle.std.proofs.Common.{◌≡◌, length, take}
use Rattle.std.specs.List.{sum_by}
use Rattle.class_model.specs.declared.class.Class.{Class}
use Rattle.set_shrink.proofs.counts.counts_of.Given as goal

abbrev pub invariant-loop-class : goal.invariant-loop-class
invariant-loop-class l = record {
  fields : l.fields ≡ sum_by (λ (c : Class). length c.fields) (take l.class-index l.classes);
  methods : l.methods ≡ sum_by (λ (c : Class). length c.methods) (take l.class-index l.classes);
}
