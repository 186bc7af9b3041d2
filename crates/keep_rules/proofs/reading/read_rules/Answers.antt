-- Answers of `read_rules`: what its calls ask for, and what it promises.
use Rattle.std.proofs.Common.{◌≡◌, ℕ, List, take, drop, ap, ◌∙◌}
use Rattle.std.specs.List.{position_or_len}
use Rattle.std.proofs.lemmas.Result.{err_from_is_err_and}
use Rattle.conf_words.specs.declared.splitting.Word.{Word}
use Rattle.keep_rules.specs.Reading.{word_is_option}
use Rattle.keep_rules.proofs.OptionSteps.{rules_stray, rules_err, rules_done}
use Rattle.keep_rules.proofs.reading.read_rules.Goals as goal

-- where words are cut
front_of : (given words front : List Word) (n : ℕ) → front ≡ take n given → n ≡ position_or_len word_is_option given
    → given ≡ words → front ≡ take (position_or_len word_is_option words) words
front_of given words front n f e g = f ∙ ap (λ (k : ℕ). take k given) e
    ∙ ap (λ (ws : List Word). take (position_or_len word_is_option ws) ws) g

rest_of : (given words rest : List Word) (n : ℕ) → rest ≡ drop n given → n ≡ position_or_len word_is_option given
    → given ≡ words → rest ≡ drop (position_or_len word_is_option words) words
rest_of given words rest n f e g = f ∙ ap (λ (k : ℕ). drop k given) e
    ∙ ap (λ (ws : List Word). drop (position_or_len word_is_option ws) ws) g

pub returns-in_err-none_left : goal.returns-in_err-none_left
returns-in_err-none_left c =
    let p = err_from_is_err_and c.from_residual.result c.from_residual.ensures.1 in
    let f = front_of _ c.args.words.now c.split_at.result.0.now _ c.split_at.ensures.front c.option_in.ensures.at
    c.as_slice-words.ensures in
    rw (p.1, p.2)
    (rules_stray c.in_err-none_left.field-0.0 c.args.words.now c.split_at.result.0.now c.args.witness.now f
    c.in_err-none_left.ensures)

pub returns-in_err-draft : goal.returns-in_err-draft
returns-in_err-draft c =
    let p = err_from_is_err_and c.from_residual-in_err-draft.result c.from_residual-in_err-draft.ensures.1 in
    let f = front_of _ c.args.words.now c.split_at.result.0.now _ c.split_at.ensures.front c.option_in.ensures.at
    c.as_slice-words.ensures in
    let s = rest_of _ c.args.words.now c.split_at.result.1.now _ c.split_at.ensures.back c.option_in.ensures.at
    c.as_slice-words.ensures in
    rw (p.1, p.2)
    (rules_err c.in_err-draft.field-0.0 c.args.words.now c.split_at.result.0.now c.split_at.result.1.now
    c.args.witness.now f s c.in_ok-none_left.ensures c.in_err-draft.ensures)

pub returns : goal.returns
returns c =
    let f = front_of _ c.args.words.now c.split_at.result.0.now _ c.split_at.ensures.front c.option_in.ensures.at
    c.as_slice-words.ensures in
    let s = rest_of _ c.args.words.now c.split_at.result.1.now _ c.split_at.ensures.back c.option_in.ensures.at
    c.as_slice-words.ensures in
    rw (rules_done c.args.words.now c.split_at.result.0.now c.split_at.result.1.now c.args.witness.now
    c.in_ok-draft.draft f s c.in_ok-none_left.ensures c.in_ok-draft.ensures)
    c.finished.ensures
