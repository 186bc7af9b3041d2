-- What readers are computed with, for attributes that unfold it.
use Rattle.std.specs.Prelude.{⊤}
use Rattle.keep_rules.specs.Reader.{bind, give, if_ahead, if_next}
use Rattle.keep_rules.specs.Specifications.{name_above}

-- one reader behind another, by the word that comes next
unfoldable pub steps : ⊤
unfolding bind give if_ahead if_next
steps = tt

-- the same, and what stands above a class
unfoldable pub steps_above : ⊤
unfolding steps name_above
steps_above = tt
