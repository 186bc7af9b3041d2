-- The summary of a shrink (the project's own: what the command says).
use Rattle.std.specs.Prelude.{ℕ, List, ◌++◌, codes}
use Rattle.std.specs.Fmt.{decimal}
use Rattle.set_shrink.specs.declared.counts.Counts.{Counts}

-- a word, how many were read and how many are kept
abbrev pub count_line : List ℕ → ℕ → ℕ → List ℕ
count_line word read kept = word ++ (codes " " ++ (decimal read ++ (codes " " ++ (decimal kept ++ codes "\n"))))

-- a line each for classes, fields and methods, and for how many methods were edited and how many were left as they were
-- because their edited code isn't typed
abbrev pub summary_text : Counts → Counts → ℕ → ℕ → List ℕ
summary_text read kept edited fallback =
    count_line (codes "classes") read.classes kept.classes
    ++ (count_line (codes "fields") read.fields kept.fields
    ++ (count_line (codes "methods") read.methods kept.methods
    ++ (codes "edited " ++ (decimal edited ++ (codes "\nfallback " ++ (decimal fallback ++ codes "\n"))))))
