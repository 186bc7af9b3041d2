-- What is read is what a text has (the project's own: laws of the definitions).
use Rattle.std.specs.Prelude.{◌≡◌, ◌↔◌, ℕ, List, Ok, Err}
use Rattle.conf_words.specs.declared.splitting.Word.{Word}
use Rattle.conf_words.specs.declared.splitting.WordFault.TheVariants.{QuoteOpen}
use Rattle.conf_words.specs.Pieces.{HasWords, LeavesOpen}
use Rattle.conf_words.specs.Reading.{words_at}

-- the words that are read are those that the text has
abbrev pub ReadsItsWords : Type 0
ReadsItsWords = (text : List ℕ) (words : List Word) → (words_at 0 1 text ≡ Ok words) ↔ HasWords text words

-- a quote is told as open exactly where the text leaves it open
abbrev pub TellsOpenQuotes : Type 0
TellsOpenQuotes = (text : List ℕ) (line : ℕ) → (words_at 0 1 text ≡ Err (QuoteOpen line)) ↔ LeavesOpen text line
