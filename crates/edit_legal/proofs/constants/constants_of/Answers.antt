-- Answers of `constants_of`: what its calls ask for, and what it promises.
use Rattle.std.proofs.Common.{◌∙◌}
use Rattle.edit_legal.proofs.Lengths.{unfolded_few}
use Rattle.edit_legal.proofs.constants.constants_of.Goals as goal

pub still_aimed-requires : goal.still_aimed-requires
still_aimed-requires c =
    unfolded_few c.deref.result.now c.deref-4.result.now c.args.code.now 4294967295
    (c.deref-4.ensures.value ∙ c.in_ok-lives.ensures) c.requires
