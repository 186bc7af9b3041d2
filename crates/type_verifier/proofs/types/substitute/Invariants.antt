use Rattle.std.proofs.Common.{◌≡◌, drop, take}
use Rattle.class_model.specs.Frames.{words_of_type, words_of_types}
use Rattle.type_verifier.specs.Effects.{substituted}
use Rattle.type_verifier.proofs.types.substitute.Given as goal

abbrev pub invariant-loop-index : goal.invariant-loop-index
invariant-loop-index l = record {
  front : take l.index l.types ≡ substituted l.old l.new (take l.index l.fn.types);
  rest : drop l.index l.types ≡ drop l.index l.fn.types;
  words : words_of_type l.new ≡ 1 → words_of_types l.types ≡ words_of_types l.fn.types;
}
