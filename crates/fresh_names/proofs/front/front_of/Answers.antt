-- Answers of `front_of`: what its calls ask for, and what it promises.
use Rattle.fresh_names.proofs.Fronts.{front_split}
use Rattle.fresh_names.proofs.front.front_of.Goals as goal

pub front_in-requires : goal.front_in-requires
front_in-requires c = front_split c.as_str-text.result.now c.rsplit_once-split.result c.rsplit_once-split.ensures.cases
