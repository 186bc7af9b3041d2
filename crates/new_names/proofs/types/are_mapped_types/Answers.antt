-- Answers of `are_mapped_types`: what its calls ask for, and what it promises.
use Rattle.std.proofs.Common.{refl, arith}
use Rattle.class_rename.specs.Renamed.{renamed_type}
use Rattle.new_names.specs.NewNames.{names_of}
use Rattle.new_names.proofs.Comparing.{alike, all_alike, all_left, apart, unlike}
use Rattle.new_names.proofs.types.are_mapped_types.Goals as goal

pub returns-then-old-new : goal.returns-then-old-new
returns-then-old-new c = (
  (λ t. absurd cc),
  (λ e. absurd (apart (renamed_type (names_of c.args.names.now)) c.args.old.now c.args.new.now c.if-old-new.true
      e)),
)

pub loop-index-init : goal.loop-index-init
loop-index-init c = record {
  lengths = c.if-old-new.false;
  left = all_left (renamed_type (names_of c.args.names.now)) c.args.old.now c.args.new.now;
}

pub returns-then-not-is_mapped_type : goal.returns-then-not-is_mapped_type
returns-then-not-is_mapped_type c = (
  (λ t. absurd cc),
  (λ e. absurd (unlike (renamed_type (names_of c.args.names.now)) c.args.old.now c.args.new.now c.loop-index.index
      c.index-old-index.result
      c.index-new-index.result (omega arith) (omega (arith, c.loop-index.invariant.lengths)) c.index-old-index.is
      c.index-new-index.is (λ s. let t = c.if-not-is_mapped_type.ensures.1 s in cc) c.loop-index.invariant.left e)),
)

pub loop-index-preserved : goal.loop-index-preserved
loop-index-preserved c = record {
  lengths = c.loop-index.invariant.lengths;
  left = alike (renamed_type (names_of c.args.names.now)) c.args.old.now c.args.new.now c.loop-index.index
      c.index-old-index.result
      c.index-new-index.result (omega arith) (omega (arith, c.loop-index.invariant.lengths)) c.index-old-index.is
      c.index-new-index.is (c.if-not-is_mapped_type.ensures.0 refl) c.loop-index.invariant.left;
}

pub returns : goal.returns
returns c = (
  (λ t. all_alike (renamed_type (names_of c.args.names.now)) c.args.old.now c.args.new.now c.loop-index.index
      (omega arith) c.loop-index.invariant.lengths
      c.loop-index.invariant.left),
  (λ e. refl),
)
