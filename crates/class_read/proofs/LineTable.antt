-- The table of the lines of offsets has for each the line that the rows tell.
use Rattle.std.proofs.Common.{◌≡◌, ℕ, zero, suc, ◌+◌, ◌<◌, ◌≤◌, ◌⊎◌, inl, inr, Bool, true, false, cond, eqb, leb, ltb}
use Rattle.std.proofs.Common.{List, [], ◌∷◌, ◌++◌, length, Option, Some, None, refl, sym, ap, ◌∙◌, append_assoc, arith}
use Rattle.std.specs.Prelude.{fold}
use Rattle.std.specs.List.{AllByRecursion}
use Rattle.std.proofs.lemmas.List.{append-nil}
use Rattle.std.proofs.lemmas.Bool.{eq-eqb, ne_eqb, le-leb, lt-leb, ltb-true, ltb-false, cases_order}
use Rattle.frame_read.specs.bodies.Numbers.{found, first_of_two}
use Rattle.class_model.specs.declared.op.Op.{Op}
use Rattle.class_model.specs.declared.code.Ins.{Ins}
use Rattle.class_model.specs.LineNumbers.{LineNumber, is_nearer, nearer, line_at}
use Rattle.class_model.proofs.FirstOfTwo.{or_none}
use Rattle.class_laws.proofs.RowLine.{number}
use Rattle.class_read.specs.bodies.Lines.{lined_by, lined, last_there, line_there, carried, past, offsets_up_to}

-- ---- the line at an offset is that of a row that starts there, or the line at the offset before

-- the row that counts starts at or before an offset
abbrev Within : ℕ → Option LineNumber → Type 0
Within n None = Unit {0}
Within n (Some row) = row.start_pc ≤ n

nearer_than : (n : ℕ) (best : Option LineNumber) (row : LineNumber) → Within n best → n ≤ row.start_pc
    → is_nearer best row ≡ true
nearer_than n None row w le = refl
nearer_than n (Some best) row w le = le-leb best.start_pc row.start_pc (omega (arith, w, le))

chosen_within : (n : ℕ) (b : Bool) (best : Option LineNumber) (row : LineNumber) → Within n best → row.start_pc ≤ n
    → Within n (cond b (Some row) best)
chosen_within n true best row w le = le
chosen_within n false best row w le = w

-- behind the same rows: which row counts behind an offset and at it, and the line of the last row that starts behind it
abbrev Apart : ℕ → Option LineNumber → Option LineNumber → Option ℕ → Type 0
Apart n here before line =
    ((line ≡ None) × (here ≡ before) × Within n before)
    ⊎ ((row : LineNumber) × (line ≡ Some row.line_number) × (here ≡ Some row) × (row.start_pc ≡ suc n))

here_within : (n : ℕ) (here before : Option LineNumber) (line : Option ℕ) → Apart n here before line
    → Within (suc n) here
here_within n here None line (inl h) = rw h.1 tt
here_within n here (Some before) line (inl h) = rw h.1
    (let w : before.start_pc ≤ n = h.2 in let k : before.start_pc ≤ suc n = omega (arith, w) in k)
here_within n here before line (inr h) = rw h.2 (let e = h.3 in let k : h.0.start_pc ≤ suc n = omega (arith, e) in k)

next_by : (n : ℕ) (here before : Option LineNumber) (line : Option ℕ) (row : LineNumber)
    → (row.start_pc ≡ suc n) ⊎ ((row.start_pc < suc n) ⊎ (suc n < row.start_pc)) → Apart n here before line
    → Apart n (nearer (suc n) here row) (nearer n before row) (last_there (suc n) line row)
next_by n here before line row (inl e) h =
    let there : eqb (suc n) row.start_pc ≡ true = eq-eqb (suc n) row.start_pc (sym e) in
    let counts : leb row.start_pc (suc n) ≡ true = le-leb row.start_pc (suc n) (omega (arith, e)) in
    let best : is_nearer here row
    ≡ true = nearer_than (suc n) here row (here_within n here before line h) (omega (arith, e)) in
    rw (there, counts, best) (inr (row, refl, refl, e))
next_by n here before line row (inr (inl lt)) (inl h) =
    let there : eqb (suc n) row.start_pc ≡ false = ne_eqb (suc n) row.start_pc (λ e. omega (arith, e, lt)) in
    let counts : leb row.start_pc (suc n) ≡ true = le-leb row.start_pc (suc n) (omega (arith, lt)) in
    let counted : leb row.start_pc n ≡ true = le-leb row.start_pc n (omega (arith, lt)) in
    rw (there, counts, counted, h.1)
    (inl (h.0, refl, chosen_within n (is_nearer before row) before row h.2 (omega (arith, lt))))
next_by n here before line row (inr (inl lt)) (inr h) =
    let there : eqb (suc n) row.start_pc ≡ false = ne_eqb (suc n) row.start_pc (λ e. omega (arith, e, lt)) in
    let e = h.3 in
    let counts : leb row.start_pc (suc n) ≡ true = le-leb row.start_pc (suc n) (omega (arith, lt)) in
    let behind : leb h.0.start_pc row.start_pc ≡ false = lt-leb h.0.start_pc row.start_pc (omega (arith, lt, e)) in
    rw (there, counts, h.2, behind) (inr (h.0, h.1, refl, e))
next_by n here before line row (inr (inr gt)) h =
    let there : eqb (suc n) row.start_pc ≡ false = ne_eqb (suc n) row.start_pc (λ e. omega (arith, e, gt)) in
    let counts : leb row.start_pc (suc n) ≡ false = lt-leb row.start_pc (suc n) gt in
    let counted : leb row.start_pc n ≡ false = lt-leb row.start_pc n (omega (arith, gt)) in
    rw (there, counts, counted) h

apart : (n : ℕ) (rows : List LineNumber) (here before : Option LineNumber) (line : Option ℕ) → Apart n here before line
    → Apart n (fold (nearer (suc n)) here rows) (fold (nearer n) before rows) (fold (last_there (suc n)) line rows)
apart n [] here before line h = h
apart n (row ∷ rows) here before line h =
    apart n rows (nearer (suc n) here row) (nearer n before row) (last_there (suc n) line row)
    (next_by n here before line row (cases_order row.start_pc (suc n)) h)

line_of : (n : ℕ) (here before : Option LineNumber) (line : Option ℕ) → Apart n here before line
    → number here ≡ first_of_two line (number before)
line_of n here before line (inl h) = rw (h.0, h.1) refl
line_of n here before line (inr h) = rw (h.1, h.2) refl

-- behind the same rows: which row counts at offset 0, and the line of the last row that starts there
first_by : (best : Option LineNumber) (line : Option ℕ) (row : LineNumber)
    → (row.start_pc ≡ 0) ⊎ ((row.start_pc < 0) ⊎ (0 < row.start_pc)) → (line ≡ number best) × Within 0 best
    → (last_there 0 line row ≡ number (nearer 0 best row)) × Within 0 (nearer 0 best row)
first_by best line row (inl e) h =
    let there : eqb 0 row.start_pc ≡ true = eq-eqb 0 row.start_pc (sym e) in
    let counts : leb row.start_pc 0 ≡ true = le-leb row.start_pc 0 (omega (arith, e)) in
    let nearest : is_nearer best row ≡ true = nearer_than 0 best row h.1 (omega arith) in
    rw (there, counts, nearest) (refl, omega (arith, e))
first_by best line row (inr (inl lt)) h = absurd (omega (arith, lt))
first_by best line row (inr (inr gt)) h =
    let there : eqb 0 row.start_pc ≡ false = ne_eqb 0 row.start_pc (λ e. omega (arith, e, gt)) in
    let counts : leb row.start_pc 0 ≡ false = lt-leb row.start_pc 0 gt in
    rw (there, counts) h

first : (rows : List LineNumber) (best : Option LineNumber) (line : Option ℕ) → (line ≡ number best) × Within 0 best
    → fold (last_there 0) line rows ≡ number (fold (nearer 0) best rows)
first [] best line h = h.0
first (row ∷ rows) best line h = first rows (nearer 0 best row) (last_there 0 line row)
    (first_by best line row (cases_order row.start_pc 0) h)

-- the line at the offset before one
abbrev line_before : List LineNumber → ℕ → Option ℕ
line_before rows zero = None
line_before rows (suc n) = line_at rows n

line_here : (rows : List LineNumber) (n : ℕ) → first_of_two (line_there rows n) (line_before rows n) ≡ line_at rows n
line_here rows zero = or_none (line_there rows 0) ∙ first rows None None (refl, tt)
line_here rows (suc n) = sym
    (line_of n (fold (nearer (suc n)) None rows) (fold (nearer n) None rows) (line_there rows (suc n))
    (apart n rows None None None (inl (refl, refl, tt))))

-- ---- the table

full : (rows : List LineNumber) (lines : List (Option ℕ)) (k : ℕ) (before : Option ℕ) → before ≡ line_before rows k
    → ((j : ℕ) → j < length lines → found lines j ≡ line_there rows (k + j))
    → (j : ℕ) → j < length lines → found (carried before lines) j ≡ line_at rows (k + j)
full rows [] k before b h j lt = absurd (omega (arith, lt))
full rows (line ∷ lines) k before b h zero lt =
    let here : k + 0 ≡ k = omega arith in
    let there : line ≡ line_there rows k = h 0 lt ∙ ap (line_there rows) here in
    rw (there, b, here) (line_here rows k)
full rows (line ∷ lines) k before b h (suc j) lt =
    let here : k + 0 ≡ k = omega arith in
    let there : line ≡ line_there rows k = h 0 (omega arith) ∙ ap (line_there rows) here in
    let next : first_of_two line before ≡ line_at rows k = rw (there, b) (line_here rows k) in
    let moved : suc k + j ≡ k + suc j = omega arith in
    full rows lines (suc k) (first_of_two line before) next
    (λ i below. h (suc i) (omega (arith, below))
    ∙ ap (line_there rows) (let m : k + suc i ≡ suc k + i = omega arith in m)) j (omega (arith, lt))
    ∙ ap (line_at rows) moved

lined_same : (f g : ℕ → Option ℕ) (count : ℕ) → ((offset : ℕ) → offset < count → f offset ≡ g offset)
    → (starts : List ℕ) (ops : List Op) → AllByRecursion (λ start. start < count) starts
    → lined_by f starts ops ≡ lined_by g starts ops
lined_same f g count same [] ops below = refl
lined_same f g count same (start ∷ starts) [] below = refl
lined_same f g count same (start ∷ starts) (o ∷ ops) below =
    ap (λ (line : Option ℕ). let ins : Ins = record { op = o; line = line } in ins ∷ lined_by f starts ops)
    (same start below.0)
    ∙ ap (λ (others : List Ins). let ins : Ins = record { op = o; line = g start } in ins ∷ others)
    (lined_same f g count same starts ops below.1)

past_both : (count start : ℕ) → (count ≤ past count start) × (start < past count start)
past_both count start = by_test (ltb start count) refl
  where
    by_test : (b : Bool) → ltb start count ≡ b → (count ≤ past count start) × (start < past count start)
    by_test true h = let lt = ltb-true start count h in rw h (omega arith, lt)
    by_test false h = let le = ltb-false start count h in rw h (omega (arith, le), omega arith)

-- all of them are below
all_below : (count : ℕ) (starts : List ℕ)
    → (count ≤ fold past count starts) × AllByRecursion (λ start. start < fold past count starts) starts
all_below count [] = (omega arith, tt)
all_below count (start ∷ starts) =
    let both = past_both count start in
    let others = all_below (past count start) starts in
    let le = others.0 in
    let counted = both.0 in
    let there = both.1 in
    (omega (arith, counted, le), (omega (arith, there, le), others.1))

-- the lines by the table are those by the rows
pub by_table : (rows : List LineNumber) (lines : List (Option ℕ)) (count : ℕ) (starts : List ℕ) (ops : List Op)
    → length lines ≡ count → ((offset : ℕ) → offset < count → found lines offset ≡ line_there rows offset)
    → count ≡ offsets_up_to starts → lined_by (found (carried None lines)) starts ops ≡ lined rows starts ops
by_table rows lines count starts ops long there up_to =
    lined_same (found (carried None lines)) (line_at rows) count is_line starts ops (rw up_to (all_below 0 starts).1)
  where
    zero_more : (n : ℕ) → 0 + n ≡ n
    zero_more n = omega arith

    is_line : (offset : ℕ) → offset < count → found (carried None lines) offset ≡ line_at rows offset
    is_line offset lt =
        full rows lines 0 None refl (λ j l. there j (omega (arith, l, long))
        ∙ ap (line_there rows) (sym (zero_more j))) offset (omega (arith, lt, long))
        ∙ ap (line_at rows) (zero_more offset)

-- ---- the loop over the instructions

-- one more has its line
pub one_more : (f : ℕ → Option ℕ) (front : List Ins) (start : ℕ) (starts : List ℕ) (o : Op) (ops : List Op)
    (line : Option ℕ) (total : List Ins) → line ≡ f start
    → front ++ lined_by f (start ∷ starts) (o ∷ ops) ≡ total
    → (let ins : Ins = record { op = o; line = line } in front ++ ins ∷ []) ++ lined_by f starts ops ≡ total
one_more f front start starts o ops line total is so_far =
    rw is (let ins : Ins = record { op = o; line = f start } in append_assoc front (ins ∷ []) (lined_by f starts ops)
    ∙ so_far)

-- without instructions nothing is left
pub no_more : (f : ℕ → Option ℕ) (front : List Ins) (starts : List ℕ) (total : List Ins)
    → front ++ lined_by f starts [] ≡ total → front ≡ total
no_more f front [] total so_far = sym (append-nil front) ∙ so_far
no_more f front (start ∷ starts) total so_far = sym (append-nil front) ∙ so_far
