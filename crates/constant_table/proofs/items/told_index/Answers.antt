-- Answers of `told_index`: what its calls ask for, and what it promises.
use Rattle.std.proofs.Common.{◌≡◌, ◌≤◌, length, sym, arith}
use Rattle.std.specs.List.{position_or_len}
use Rattle.std.proofs.lemmas.List.{length-map}
use Rattle.std.proofs.lemmas.List.Sums.{prefix_len-le-length}
use Rattle.class_model.specs.CanonicalPool.{same, index_of}
use Rattle.constant_table.specs.bodies.Keys.{constant_of, constants_of}
use Rattle.constant_table.proofs.Told.{key_there}
use Rattle.constant_table.proofs.items.told_index.Goals as goal

pub overflow_cast-result : goal.overflow_cast-result
overflow_cast-result c =
    let texts = c.args.texts.now in
    let k = constant_of texts c.args.key in
    let cs = constants_of texts c.args.keys.now in
    let e : c.index_of_key.result
    ≡ index_of cs k = c.index_of_key.ensures k
    (sym (key_there texts c.args.key c.requires.keys.distinct c.requires.key)) in
    let within : position_or_len (same k) cs ≤ length cs = prefix_len-le-length _ cs in
    let count : length cs ≡ length c.args.keys.now = length-map c.args.keys.now (constant_of texts) in
    rw e (omega (arith, within, count, c.requires.count))

pub returns : goal.returns
returns c =
    let texts = c.args.texts.now in
    c.index_of_key.ensures (constant_of texts c.args.key)
    (sym (key_there texts c.args.key c.requires.keys.distinct c.requires.key))
