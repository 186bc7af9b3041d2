-- Answers of `args_in`: what its calls ask for, and what it promises.
use Rattle.std.proofs.Common.{◌-◌, take, drop, length, sym, ◌∙◌, rules}
use Rattle.run_command.proofs.Taking.{all_taken, no_argument, opened, rest_refused, rest_taken, takes_one, wants_word}
use Rattle.run_command.specs.Arguments.{args_in}
use Rattle.run_command.proofs.arguments.args_in.Goals as goal

pub returns-then-takes_rest : goal.returns-then-takes_rest
returns-then-takes_rest c =
    let others = c.loop-others.others.now in
    rest_taken (args_in c.args.types.now c.args.words.now) c.loop-others.args c.ty-item.result others
    (take (length others - 1) (drop 1 others)) c.loop-others.left.now
    (opened others c.ty-item.result c.in-len1-up.len_at_least c.ty-item.is) c.loop-others.invariant c.push.new.self
    c.in-Some.texts (sym c.takes_rest.ensures ∙ c.if-takes_rest.true) (sym c.in-Some.is ∙ c.in_ok-texts.ensures)
    (search rules)

pub returns-in_default-2 : goal.returns-in_default-2
returns-in_default-2 c =
    let others = c.loop-others.others.now in
    rest_refused (args_in c.args.types.now c.args.words.now) c.loop-others.args c.ty-item.result others
    (take (length others - 1) (drop 1 others)) c.loop-others.left.now
    (opened others c.ty-item.result c.in-len1-up.len_at_least c.ty-item.is) c.loop-others.invariant
    (sym c.takes_rest.ensures ∙ c.if-takes_rest.true) (sym c.in_default-2.is ∙ c.in_ok-texts.ensures)

pub returns-in_default-left : goal.returns-in_default-left
returns-in_default-left c =
    let others = c.loop-others.others.now in
    wants_word (args_in c.args.types.now c.args.words.now) c.loop-others.args c.ty-item.result others
    (take (length others - 1) (drop 1 others)) c.loop-others.left.now
    (opened others c.ty-item.result c.in-len1-up.len_at_least c.ty-item.is) c.loop-others.invariant
    (sym c.takes_rest.ensures ∙ c.if-takes_rest.false) c.in_default-left.len_below

pub returns-in_default-3 : goal.returns-in_default-3
returns-in_default-3 c =
    let others = c.loop-others.others.now in
    let left = c.loop-others.left.now in
    no_argument (args_in c.args.types.now c.args.words.now) c.loop-others.args c.ty-item.result others
    (take (length others - 1) (drop 1 others)) left
    (opened others c.ty-item.result c.in-len1-up.len_at_least c.ty-item.is) c.loop-others.invariant
    c.word-item.result (take (length left - 1) (drop 1 left)) (sym c.takes_rest.ensures ∙ c.if-takes_rest.false)
    (opened left c.word-item.result c.in-len1-up-left.len_at_least c.word-item.is)
    (sym c.in_default-3.is ∙ c.in_ok-arg.ensures)

pub loop-others-preserved : goal.loop-others-preserved
loop-others-preserved c =
    let others = c.loop-others.others.now in
    let left = c.loop-others.left.now in
    takes_one (args_in c.args.types.now c.args.words.now) c.loop-others.args c.ty-item.result others
    (take (length others - 1) (drop 1 others)) left
    (opened others c.ty-item.result c.in-len1-up.len_at_least c.ty-item.is) c.loop-others.invariant
    c.word-item.result (take (length left - 1) (drop 1 left)) c.in-Some-2.arg c.push-in-len1-up.new.self
    (sym c.takes_rest.ensures ∙ c.if-takes_rest.false)
    (opened left c.word-item.result c.in-len1-up-left.len_at_least c.word-item.is)
    (sym c.in-Some-2.is ∙ c.in_ok-arg.ensures) (search rules)

pub returns : goal.returns
returns c =
    c.whole.ensures
    ∙ all_taken (args_in c.args.types.now c.args.words.now) c.loop-others.args c.loop-others.others.now
    c.loop-others.left.now c.in_default.len_below c.loop-others.invariant
