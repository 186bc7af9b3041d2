-- Answers of `slash_in`: what its calls ask for, and what it promises.
use Rattle.path_text.proofs.Segments.{inside_or_none, first_or_none, only_or_some}
use Rattle.path_text.proofs.paths.slash_in.Goals as goal

pub returns-clause-inside : goal.returns-clause-inside
returns-clause-inside c = inside_or_none c.args.text.now c.first_slash.result c.first_slash.ensures

pub returns-clause-first : goal.returns-clause-first
returns-clause-first c = first_or_none c.args.text.now c.first_slash.result c.first_slash.ensures

pub returns-clause-only : goal.returns-clause-only
returns-clause-only c = only_or_some c.args.text.now c.first_slash.result c.first_slash.ensures
