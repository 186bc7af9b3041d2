-- Answers of `Numbered::class_item`: what its calls ask for, and what it promises.
use Rattle.require_sys.proofs.Numbering.{item_found}
use Rattle.item_numbers.proofs.numbered.Numbered.class_item.Goals as goal

pub returns : goal.returns
returns c =
    item_found c.args.self.now.set.now c.args.self.now.starts c.args.number c.index.result.now c.args.self.now.are
    c.requires c.index.ensures
