-- Answers of `is_any_next`: what its calls ask for, and what it promises.
use Rattle.std.proofs.Common.{◌≡◌, ◌&&◌, Bool, false, sym, ap, ◌∙◌, codes}
use Rattle.jv_base.specs.Names.{is_text}
use Rattle.keep_rules.specs.Texts.{is_any_member}
use Rattle.keep_rules.specs.Reader.{next_passes}
use Rattle.keep_rules.proofs.Loops.{passes_and}
use Rattle.keep_rules.proofs.specifications.is_any_next.Goals as goal

pub returns-else-is_any_member : goal.returns-else-is_any_member
returns-else-is_any_member c =
    let no : is_any_member c.args.first.now ≡ false = sym c.is_any_member.ensures ∙ c.if-is_any_member.false in
    c.if-is_any_member.false
    ∙ sym (passes_and (is_any_member c.args.first.now) (λ word. is_text word (codes ";")) c.args.words.now
    ∙ ap (λ (b : Bool). b && next_passes (λ word. is_text word (codes ";")) c.args.words.now) no)
