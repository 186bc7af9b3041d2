-- Answers of `words_in`: what its calls ask for, and what it promises.
use Rattle.std.proofs.Common.{rules, ◌≡◌, ℕ, List, [], ◌∷◌, Result, Ok, Some, None, refl, sym, ap, ◌∙◌, arith}
use Rattle.std.specs.Prelude.{slice_get}
use Rattle.std.proofs.lemmas.List.{append-nil}
use Rattle.conf_words.specs.declared.splitting.Word.{Word}
use Rattle.conf_words.specs.declared.splitting.WordFault.{WordFault}
use Rattle.conf_words.specs.Reading.{words_at, with_words}
use Rattle.conf_words.specs.bodies.Seen.{parts_seen}
use Rattle.conf_words.proofs.Parsed.{with_both, nothing_read}
use Rattle.conf_words.proofs.Seeing.{step, step_open}
use Rattle.conf_words.proofs.splitting.words_in.Goals as goal

pub returns-in_default-piece_at : goal.returns-in_default-piece_at
returns-in_default-piece_at c =
    let s : slice_get c.loop-first.rest.now 0 ≡ Some c.in-Some.first.now =
    rw c.as_bytes.ensures.value at (sym c.in-Some.ensures.value) in
    sym c.loop-first.invariant.read
    ∙ ap (with_words c.loop-first.words) (step_open c.loop-first.line c.loop-first.rest.now c.in-Some.first.now s
    c.in_default-piece_at.ensures)

pub loop-first-smaller : goal.loop-first-smaller
loop-first-smaller c =
    let s : slice_get c.loop-first.rest.now 0 ≡ Some c.in-Some.first.now =
    rw c.as_bytes.ensures.value at (sym c.in-Some.ensures.value) in
    let k = step c.loop-first.line c.loop-first.rest.now c.in-Some.first.now (parts_seen c.in-Some-piece_at.piece) s
    c.in-Some-piece_at.ensures in
    k.shorter

pub loop-first-preserved : goal.loop-first-preserved
loop-first-preserved c =
    let s : slice_get c.loop-first.rest.now 0 ≡ Some c.in-Some.first.now =
    rw c.as_bytes.ensures.value at (sym c.in-Some.ensures.value) in
    let k = step c.loop-first.line c.loop-first.rest.now c.in-Some.first.now (parts_seen c.in-Some-piece_at.piece) s
    c.in-Some-piece_at.ensures in
    record {
      read = rw c.in_ok-push_word.ensures (sym (with_both c.loop-first.words _ _) ∙ ap (with_words c.loop-first.words)
          (sym k.read) ∙ c.loop-first.invariant.read);
      lines = omega (arith, k.lines, c.loop-first.invariant.lines);
      utf8 = search rules;
    }

nothing_left : (rest : List ℕ) → slice_get rest 0 ≡ None → rest ≡ []
nothing_left [] h = refl
nothing_left (b ∷ rest) h = absurd cc

pub returns : goal.returns
returns c =
    let none : slice_get c.loop-first.rest.now 0 ≡ None =
    rw c.as_bytes.ensures.value at (sym c.in_default.ensures.value) in
    sym c.loop-first.invariant.read
    ∙ ap (with_words c.loop-first.words) (ap (words_at 0 c.loop-first.line) (nothing_left c.loop-first.rest.now none)
    ∙ nothing_read c.loop-first.line)
    ∙ ap (λ (w : List Word). let R : Result (List Word) WordFault = Ok w in R) (append-nil c.loop-first.words)
