-- Answers of `words`: what its calls ask for, and what it promises.
use Rattle.std.proofs.Common.{◌≡◌, ℕ, Bool, true, false, List, Err, refl, sym, ap, ◌∙◌}
use Rattle.std.specs.Str.{IsUtf8, is_utf8}
use Rattle.std.specs.Str.Lossy.{utf8_valid_len}
use Rattle.std.proofs.lemmas.Str.{is_utf8-from_IsUtf8, IsUtf8-from_is_utf8}
use Rattle.conf_words.specs.declared.splitting.WordFault.TheVariants.{NotUtf8}
use Rattle.conf_words.specs.Reading.{words_at, words_of_bytes}
use Rattle.conf_words.proofs.splitting.words.Goals as goal

text_read : (bytes : List ℕ) → IsUtf8 bytes → words_of_bytes bytes ≡ words_at 0 1 bytes
text_read bytes u = rw (is_utf8-from_IsUtf8 bytes u) refl

no_text_by : (bytes : List ℕ) (b : Bool) → is_utf8 bytes ≡ b → (IsUtf8 bytes → ⊥) → is_utf8 bytes ≡ false
no_text_by bytes true e h = absurd (h (IsUtf8-from_is_utf8 bytes e))
no_text_by bytes false e h = e

no_text : (bytes : List ℕ) (n : ℕ) → (IsUtf8 bytes → ⊥) → n ≡ utf8_valid_len bytes
    → words_of_bytes bytes ≡ Err (NotUtf8 n)
no_text bytes n h e = rw (no_text_by bytes (is_utf8 bytes) refl h, e) refl

pub returns-in-Ok : goal.returns-in-Ok
returns-in-Ok c =
    let k : words_of_bytes c.args.bytes.now ≡ words_at 0 1 c.in-Ok.text.now =
    text_read c.args.bytes.now c.in-Ok.ensures.cases.1
    ∙ ap (words_at 0 1) (sym c.in-Ok.ensures.cases.0) in
    rw k c.words_in.ensures

pub returns-in-Err : goal.returns-in-Err
returns-in-Err c = no_text c.args.bytes.now c.valid_up_to.result c.in-Err.ensures.cases.0
    (c.valid_up_to.ensures ∙ c.in-Err.ensures.valid_len)
