-- Answers of `Table::get`: what its calls ask for, and what it promises.
use Rattle.std.proofs.Common.{List, ◌∙◌, get_or, ap}
use Rattle.key_table.proofs.Found.{no_value, value_of_place}
use Rattle.key_table.proofs.table.Table.get.Goals as goal

pub returns-in-Some : goal.returns-in-Some
returns-in-Some g c =
    let e = c.index.result.now in
    value_of_place (g.K.PartialEq.eq c.args.key.now) c.args.self.now c.in-Some.place e c.in-Some.ensures.within
    c.in-Some.ensures.found
    (c.index.ensures ∙ ap (λ (es : List _). get_or es c.in-Some.place e) c.self.view_is)

pub returns-in-None : goal.returns-in-None
returns-in-None g c = no_value (g.K.PartialEq.eq c.args.key.now) c.args.self.now c.in-None.ensures.found
