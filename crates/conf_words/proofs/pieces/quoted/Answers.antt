-- Answers of `quoted`: what its calls ask for, and what it promises.
use Rattle.std.proofs.Common.{refl, sym, ◌∙◌, drop}
use Rattle.std.proofs.lemmas.Str.{IsUtf8-drop}
use Rattle.conf_words.specs.declared.kinds.Kind.TheVariants.{Quote}
use Rattle.conf_words.proofs.Cutting.{cut_kind}
use Rattle.conf_words.proofs.Seeing.{open_to_end, cut_quote, cut_behind}
use Rattle.conf_words.proofs.pieces.quoted.Goals as goal

pub split_at-requires : goal.split_at-requires
split_at-requires c = cut_kind c.args.text.now c.args.quote Quote c.utf8.text c.requires.first c.requires.kind refl

pub returns-in_err-end : goal.returns-in_err-end
returns-in_err-end c =
    let none = sym c.quote_end.ensures ∙ c.in_err-end.was in
    rw (
      c.from_residual.ensures,
      open_to_end c.args.quote (drop 1 c.args.text.now) c.requires.kind
          (rw c.split_at.ensures.back at none),
    ) refl

pub split_at-requires-2 : goal.split_at-requires-2
split_at-requires-2 c = cut_quote c.args.quote c.split_at.result.1.now c.in_ok-end.end c.requires.kind
    (sym c.quote_end.ensures ∙ c.in_ok-end.was)

pub split_at-requires-3 : goal.split_at-requires-3
split_at-requires-3 c =
    let u = IsUtf8-drop c.args.text.now 1 c.utf8.text
    (cut_kind c.args.text.now c.args.quote Quote c.utf8.text c.requires.first c.requires.kind refl) in
    rw c.split_at-2.ensures.back
    (cut_behind c.args.quote c.split_at.result.1.now c.in_ok-end.end (rw c.split_at.ensures.back u) c.requires.kind
    (sym c.quote_end.ensures ∙ c.in_ok-end.was)
    (rw c.as_bytes.ensures.value at c.if-as_bytes-end.false))
