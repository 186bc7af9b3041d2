use Rattle.std.proofs.Common.{◌≡◌, take}
use Rattle.pair_checker.proofs.checking.copied.Given as goal

abbrev pub invariant-loop-file : goal.invariant-loop-file
invariant-loop-file l = l.copies ≡ take l.file-index l.files
