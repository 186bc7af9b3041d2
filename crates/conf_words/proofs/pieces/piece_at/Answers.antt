-- Answers of `piece_at`: what its calls ask for, and what it promises.
use Rattle.std.proofs.Common.{sym, ◌∙◌, refl}
use Rattle.conf_words.specs.declared.kinds.Kind.TheVariants.{LineEnd, Blank, Mark}
use Rattle.conf_words.proofs.Cutting.{cut_kind}
use Rattle.conf_words.proofs.Seeing.{comment_seen}
use Rattle.conf_words.proofs.pieces.piece_at.Goals as goal

pub passed_over-requires : goal.passed_over-requires
passed_over-requires c = cut_kind c.args.text.now c.args.first LineEnd c.utf8.text c.requires
    (sym c.kind_of.ensures ∙ c.in-LineEnd.is) refl

pub passed_over-requires-in-Blank : goal.passed_over-requires-in-Blank
passed_over-requires-in-Blank c = cut_kind c.args.text.now c.args.first Blank c.utf8.text c.requires
    (sym c.kind_of.ensures ∙ c.in-Blank.is) refl

pub word_of-requires : goal.word_of-requires
word_of-requires c = cut_kind c.args.text.now c.args.first Mark c.utf8.text c.requires
    (sym c.kind_of.ensures ∙ c.in-Mark.is) refl

pub returns-in-Hash : goal.returns-in-Hash
returns-in-Hash c = comment_seen c.args.text.now c.args.first _ _ _ c.requires (sym c.kind_of.ensures ∙ c.in-Hash.is)
    c.passed_over-in-Hash.ensures.word c.passed_over-in-Hash.ensures.lines
    (rw c.line_len.ensures.len at c.passed_over-in-Hash.ensures.rest)
