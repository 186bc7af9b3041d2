-- Answers of `SeenNames::put`: what its calls ask for, and what it promises.
use Rattle.jv_base.specs.Names.{is_text}
use Rattle.jv_base.proofs.Equality.{text_Decides}
use Rattle.pair_clauses.proofs.SeenLaw.{is_new_among, seen_more}
use Rattle.pair_clauses.proofs.seen.SeenNames.put.Goals as goal

pub returns-clause-is_new : goal.returns-clause-is_new
returns-clause-is_new c = λ names has. is_new_among is_text c.insert.result c.args.self.now.names names
    c.args.name.now c.in_ok-clone.field-0 c.insert.ensures.is_new c.in_ok-clone.ensures.cases has

pub returns-clause-put : goal.returns-clause-put
returns-clause-put c = λ names has. seen_more is_text text_Decides c.insert.result c.args.self.now.names
    c.insert.new.self names c.args.name.now c.in_ok-clone.field-0 c.insert.ensures.keys c.in_ok-clone.ensures.cases has
