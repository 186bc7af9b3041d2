-- Answers of `shapes_stay`: what its calls ask for, and what it promises.
use Rattle.shape_laws.proofs.BareSets.{same_shape}
use Rattle.shape_laws.proofs.Shape.{shape_of_is}
use Rattle.shape_laws.proofs.laws.shapes_stay.Goals as goal

pub returns-clause-members : goal.returns-clause-members
returns-clause-members c = shape_of_is

pub returns-clause-codes : goal.returns-clause-codes
returns-clause-codes c = same_shape
