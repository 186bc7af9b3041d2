-- Answers of `placed`: what its calls ask for, and what it promises.
use Rattle.std.proofs.Common.{◌≡◌, ◌∙◌, ap, sym, arith}
use Rattle.gen_classes.specs.Generated.{Placed, caller_class, file_of, plain_class, put_file}
use Rattle.gen_classes.proofs.Placing.{one_more, placed_below}
use Rattle.gen_classes.proofs.files.placed.Goals as goal

pub loop-number-preserved : goal.loop-number-preserved
loop-number-preserved c =
    let n = c.args.n in
    let number = c.loop-number.number in (
      omega (arith, c.loop-number-test.true),
      c.in_ok-place_pair.ensures
          ∙ (ap (λ (made : Placed). put_file (put_file made (file_of (caller_class n number))) (file_of (plain_class number)))
          c.loop-number.invariant.1 ∙ sym (one_more n number)),
    )

pub returns : goal.returns
returns c =
    let n = c.args.n in
    let number = c.loop-number.number in
    let all : number ≡ n = omega (arith, c.loop-number-test.false, c.loop-number.invariant.0) in
    c.loop-number.invariant.1 ∙ ap (placed_below n) all
