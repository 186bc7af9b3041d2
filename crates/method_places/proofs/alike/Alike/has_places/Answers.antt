-- Answers of `Alike::has_places`: what its calls ask for, and what it promises.
use Rattle.std.proofs.Common.{◌-◌, ◌∙◌, ◌<◌, arith, length, sym}
use Rattle.std.proofs.lemmas.Bool.{eqb-true}
use Rattle.std.proofs.lemmas.List.{get_or_default}
use Rattle.method_places.proofs.Having.{all_placed}
use Rattle.method_places.proofs.alike.Alike.has_places.Goals as goal

pub returns : goal.returns
returns c said =
    let keys = c.args.self.now.keys.items in
    let count = c.len-count.result in
    let within : count - 1 < length keys =
    omega (arith, c.if-count-eq0.false, c.if-count-len.false, c.len.ensures) in
    all_placed keys c.args.self.now.groups.items count (omega (arith, c.len-count.ensures))
    (omega (arith, c.if-count-eq0.false)) (omega (arith, c.if-count-len.false, c.len.ensures))
    (get_or_default keys (count - 1) 0 c.index.result.now within ∙ sym c.index.ensures
    ∙ eqb-true c.index.result.now 18446744073709551615 said)
