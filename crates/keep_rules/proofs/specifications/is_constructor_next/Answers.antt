-- Answers of `is_constructor_next`: what its calls ask for, and what it promises.
use Rattle.std.proofs.Common.{◌≡◌, ◌&&◌, Bool, true, false, sym, ap, ◌∙◌, codes}
use Rattle.jv_base.specs.Names.{is_text}
use Rattle.keep_rules.specs.Texts.{is_constructor}
use Rattle.keep_rules.specs.Reader.{next_passes}
use Rattle.keep_rules.proofs.Loops.{and_passes}
use Rattle.keep_rules.proofs.specifications.is_constructor_next.Goals as goal

pub returns-then-is_next : goal.returns-then-is_next
returns-then-is_next c =
    let yes : next_passes (λ word. is_text word (codes "(")) c.args.words.now ≡ true = sym c.is_next.ensures
    ∙ c.if-is_next.true in
    c.is_constructor.ensures
    ∙ ap (λ (b : Bool). b && is_constructor c.args.names.now c.args.first.now) (sym yes)
    ∙ and_passes (is_constructor c.args.names.now c.args.first.now) (λ word. is_text word (codes "(")) c.args.words.now

pub returns-else-is_next : goal.returns-else-is_next
returns-else-is_next c =
    let no : next_passes (λ word. is_text word (codes "(")) c.args.words.now ≡ false = sym c.is_next.ensures
    ∙ c.if-is_next.false in
    c.if-is_next.false
    ∙ ap (λ (b : Bool). b && is_constructor c.args.names.now c.args.first.now) (sym no)
    ∙ and_passes (is_constructor c.args.names.now c.args.first.now) (λ word. is_text word (codes "(")) c.args.words.now
