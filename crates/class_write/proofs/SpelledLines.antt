-- Rows of lines as they are written stand for the lines of the instructions (JVMS 4.7.12).
use Rattle.std.proofs.Common.{◌≡◌, ℕ, suc, ◌+◌, ◌^◌, ◌<◌, ◌≤◌, Bool, true, false, not, cond, eqb, leb, List, [], ◌∷◌}
use Rattle.std.proofs.Common.{◌++◌, length, map, get_or, Option, Some, None, refl, ap, ◌∙◌, arith, subst, sym}
use Rattle.std.specs.Prelude.{codes, AllPairs, IfSome, IsSome, fold, slice_index}
use Rattle.std.specs.List.{AllByRecursion}
use Rattle.std.proofs.lemmas.Bool.{ne_eqb, eqb-true, le-leb, lt-leb}
use Rattle.std.proofs.lemmas.List.{append-nil, length-append}
use Rattle.class_laws.proofs.RowLine.{number}
use Rattle.class_model.specs.declared.constant.PoolConstant.{PoolConstant}
use Rattle.class_model.specs.declared.code.Ins.{Ins}
use Rattle.class_model.specs.declared.op.Op.{Op}
use Rattle.class_model.specs.InstructionStructure.{info_bytes}
use Rattle.class_model.specs.LineNumbers.{AreLineTables, LineNumber, FitsLine, nearer, line_at}
use Rattle.class_model.specs.ReadingCodeAttribute.{with_lines}
use Rattle.class_model.specs.CanonicalCode.{op_info, size_of, infos_from}
use Rattle.class_model.specs.CanonicalClass.{attribute, line_table, is_some_item, is_new_line, line_row, line_rows_from}
use Rattle.class_model.specs.CanonicalClass.{line_rows}
use Rattle.class_model.specs.WellFormed.{LinesGoOn}
use Rattle.class_model.proofs.BackSizes.{info_is_there, size_is}
use Rattle.class_model.proofs.BackPlaces.{begins}
use Rattle.class_model.proofs.BackCode.{op_in}
use Rattle.class_laws.proofs.SpelledLists.{all_both}

-- it lies at or before an offset
abbrev IsBefore : Option LineNumber → ℕ → Type 0
IsBefore best at = IfSome best (λ (row : LineNumber). row.start_pc ≤ at)

before_more : (best : Option LineNumber) (at next : ℕ) → at ≤ next → IsBefore best at → IsBefore best next
before_more None at next le h = tt
before_more (Some row) at next le h = omega (arith, le, h)

-- ---- one row

-- what is nearest behind the row of an instruction at an offset
abbrev now : Option LineNumber → Option ℕ → ℕ → Option ℕ → Option LineNumber
now best before at None = best
now best before at (Some line) = cond (is_new_line before line)
    (Some (record { start_pc = at; line_number = line })) best

taken : (best : Option LineNumber) (at start line : ℕ) → at ≤ start → IsBefore best at
    → nearer start best (record { start_pc = at; line_number = line })
    ≡ Some (record { start_pc = at; line_number = line })
taken None at start line le h = rw (le-leb at start le) refl
taken (Some row) at start line le h = rw (le-leb at start le, le-leb row.start_pc at h) refl

-- for an instruction at it or behind
row_counts : (best : Option LineNumber) (before : Option ℕ) (at start : ℕ) (line : Option ℕ) (rest : List LineNumber)
    → at ≤ start → IsBefore best at
    → fold (nearer start) best (line_row before at line ++ rest) ≡ fold (nearer start) (now best before at line) rest
row_counts best before at start None rest le h = refl
row_counts best before at start (Some line) rest le h = by (is_new_line before line)
  where
    by : (b : Bool) → fold (nearer start) best (cond b (record { start_pc = at; line_number = line } ∷ []) [] ++ rest)
        ≡ fold (nearer start) (cond b (let o : Option LineNumber = Some
        (record { start_pc = at; line_number = line }) in o) best) rest
    by true = ap (λ (o : Option LineNumber). fold (nearer start) o rest) (taken best at start line le h)
    by false = refl

-- for one before it
row_passed : (best : Option LineNumber) (before : Option ℕ) (at start : ℕ) (line : Option ℕ) (rest : List LineNumber)
    → start < at → fold (nearer start) best (line_row before at line ++ rest) ≡ fold (nearer start) best rest
row_passed best before at start None rest lt = refl
row_passed best before at start (Some line) rest lt = by (is_new_line before line)
  where
    by : (b : Bool) → fold (nearer start) best (cond b (record { start_pc = at; line_number = line } ∷ []) [] ++ rest)
        ≡ fold (nearer start) best rest
    by true = let e : leb at start ≡ false = lt-leb _ _ lt in rw e refl
    by false = refl

now_before : (best : Option LineNumber) (before : Option ℕ) (at : ℕ) (line : Option ℕ) → IsBefore best at
    → IsBefore (now best before at line) at
now_before best before at None h = h
now_before best before at (Some line) h = by (is_new_line before line)
  where
    by : (b : Bool) → IsBefore (cond b (Some (record { start_pc = at; line_number = line })) best) at
    by true = omega arith
    by false = h

-- lines go on behind one that is there
abbrev GoesOn : Option ℕ → Option ℕ → Type 0
GoesOn before line = IsSome before → IsSome line

now_line : (best : Option LineNumber) (before : Option ℕ) (at : ℕ) (line : Option ℕ) → GoesOn before line
    → number best ≡ before → number (now best before at line) ≡ line
now_line best None at None on h = h
now_line best (Some b) at None on h = absurd (let e = on refl in cc)
now_line best None at (Some line) on h = refl
now_line best (Some b) at (Some line) on h = by (eqb b line) refl
  where
    by : (e : Bool) → eqb b line ≡ e
        → number (cond (not e) (Some (record { start_pc = at; line_number = line })) best) ≡ Some line
    by true e = h ∙ ap (λ (n : ℕ). Some n) (eqb-true b line e)
    by false e = refl

-- ---- all rows

-- each line goes on behind the one before
abbrev Follow : Option ℕ → List Ins → Type 0
Follow before [] = Unit {0}
Follow before (i ∷ ins) = GoesOn before i.line × Follow i.line ins

tail_pairs : (i : Ins) (ins : List Ins) → AllPairs LinesGoOn (i ∷ ins) → AllPairs LinesGoOn ins
tail_pairs i ins pairs = λ a b d lt within. pairs (suc a) (suc b) d (omega (arith, lt)) (omega (arith, within))

follow_on : (i : Ins) (ins : List Ins) → AllPairs LinesGoOn (i ∷ ins) → Follow i.line ins
follow_on i [] pairs = tt
follow_on i (next ∷ ins) pairs =
    (pairs 0 1 i (omega arith) (omega arith), follow_on next ins (tail_pairs i (next ∷ ins) pairs))

follow_all : (ins : List Ins) → AllPairs LinesGoOn ins → Follow None ins
follow_all [] pairs = tt
follow_all (i ∷ ins) pairs = ((λ e. absurd cc), follow_on i ins pairs)

module _ (pool : List PoolConstant) (all : List ℕ) where
  -- the instructions from number n on, the first at an offset, are at these places
  abbrev AreAt : ℕ → ℕ → List Ins → Type 0
  AreAt n at ins = (j : ℕ) → j < length ins → slice_index all (n + j) ≡ get_or (begins pool ins at) j 0

  at_first : (n at : ℕ) (i : Ins) (ins : List Ins) → AreAt n at (i ∷ ins) → slice_index all n ≡ at
  at_first n at i ins h = ap (slice_index all) (let e : n ≡ n + 0 = omega arith in e) ∙ h 0 (omega arith)

  at_rest : (n at : ℕ) (i : Ins) (ins : List Ins) → AreAt n at (i ∷ ins) → AreAt (n + 1) (at + size_of pool at i.op) ins
  at_rest n at i ins h = λ j lt. ap (slice_index all) (let e : n + 1 + j ≡ n + suc j = omega arith in e)
      ∙ h (suc j) (omega (arith, lt))

  some_size : (at : ℕ) (o : Op) → 0 < size_of pool at o
  some_size at o = info_is_there (op_info pool (λ to. 0) at o)

  rows_passed : (ins : List Ins) (n at start : ℕ) (best : Option LineNumber) (before : Option ℕ) → AreAt n at ins
      → start < at → fold (nearer start) best (line_rows_from before all n ins) ≡ best
  rows_passed [] n at start best before are lt = refl
  rows_passed (i ∷ ins) n at start best before are lt =
      let next = at + size_of pool at i.op in
      ap (λ (k : ℕ). fold (nearer start) best (line_row before k i.line ++ line_rows_from i.line all (n + 1) ins))
      (at_first n at i ins are)
      ∙ row_passed best before at start i.line (line_rows_from i.line all (n + 1) ins) lt
      ∙ rows_passed ins (n + 1) next start best i.line (at_rest n at i ins are) (omega (arith, lt))

  -- what is found in all rows is found in those from here on
  abbrev IsFrom : List LineNumber → ℕ → Option LineNumber → List LineNumber → Type 0
  IsFrom rows at best rest = (start : ℕ) → at ≤ start → fold (nearer start) None rows ≡ fold (nearer start) best rest

  lines_by : (rows : List LineNumber) (ins : List Ins) (n at : ℕ) (best : Option LineNumber) (before : Option ℕ)
      → AreAt n at ins → Follow before ins → IsBefore best at → number best ≡ before
      → IsFrom rows at best (line_rows_from before all n ins)
      → with_lines rows at (infos_from pool all at ins) (map op_in ins) ≡ ins
  lines_by rows [] n at best before are follow low is from = refl
  lines_by rows (i ∷ ins) n at best before are follow low is from =
      let some = some_size at i.op in
      let next = at + size_of pool at i.op in
      let info = op_info pool (slice_index all) at i.op in
      let size : length (info_bytes info) ≡ size_of pool at i.op = size_is pool (slice_index all) at i.op in
      let rest = line_rows_from i.line all (n + 1) ins in
      let best_now = now best before at i.line in
      let here : (start : ℕ) → at ≤ start → fold (nearer start) None rows ≡ fold (nearer start) best_now rest =
      λ start le. from start le
      ∙ ap (λ (k : ℕ). fold (nearer start) best (line_row before k i.line ++ rest)) (at_first n at i ins are)
      ∙ row_counts best before at start i.line rest le low in
      let line : line_at rows at ≡ i.line =
      ap number (here at (omega arith) ∙ rows_passed ins (n + 1) next at best_now i.line (at_rest n at i ins are)
      (omega (arith, some))) ∙ now_line best before at i.line follow.0 is in
      let others : with_lines rows next (infos_from pool all next ins) (map op_in ins) ≡ ins =
      lines_by rows ins (n + 1) next best_now i.line (at_rest n at i ins are) follow.1
      (before_more best_now at next (omega arith) (now_before best before at i.line low))
      (now_line best before at i.line follow.0 is)
      (λ start le. here start (omega (arith, le))) in
      ap (λ (k : ℕ). let j : Ins = record { op = i.op; line = line_at rows at } in j ∷ with_lines rows (at + k)
      (infos_from pool all next ins) (map op_in ins)) size
      ∙ ap (λ (l : Option ℕ). let j : Ins = record { op = i.op; line = l } in j ∷ with_lines rows next
      (infos_from pool all next ins) (map op_in ins)) line
      ∙ ap (λ (js : List Ins). i ∷ js) others

  -- the instructions with the lines of their rows
  pub lines_back : (ins : List Ins) → AllPairs LinesGoOn ins → AreAt 0 0 ins
      → with_lines (line_rows None all ins) 0 (infos_from pool all 0 ins) (map op_in ins) ≡ ins
  lines_back ins go are = lines_by (line_rows None all ins) ins 0 0 None None are (follow_all ins go) tt refl
      (λ start le. refl)

-- ---- the table

-- there are as many rows, whatever the places
row_count : (a b : ℕ) (before line : Option ℕ) → length (line_row before a line) ≡ length (line_row before b line)
row_count a b before None = refl
row_count a b before (Some line) = by (is_new_line before line)
  where
    by : (s : Bool) → length (cond s (record { start_pc = a; line_number = line } ∷ [])
        (let r : List LineNumber = [] in r))
        ≡ length (cond s (record { start_pc = b; line_number = line } ∷ []) (let r : List LineNumber = [] in r))
    by true = refl
    by false = refl

rows_counted : (all other : List ℕ) (before : Option ℕ) (n : ℕ) (ins : List Ins)
    → length (line_rows_from before all n ins) ≡ length (line_rows_from before other n ins)
rows_counted all other before n [] = refl
rows_counted all other before n (i ∷ ins) =
    omega (
      arith,
      length-append (line_row before (slice_index all n) i.line)
          (line_rows_from i.line all (n + 1) ins),
      length-append (line_row before (slice_index other n) i.line)
          (line_rows_from i.line other (n + 1) ins),
      row_count (slice_index all n)
          (slice_index other n) before i.line,
      rows_counted all other i.line (n + 1) ins,
    )

pub lines_counted : (all : List ℕ) (ins : List Ins) → length (line_rows None all ins) ≡ length (line_rows None [] ins)
lines_counted all ins = rows_counted all [] None 0 ins

-- both numbers of each row fit
row_fits : (before : Option ℕ) (at : ℕ) (line : Option ℕ) → at < 2 ^ 16 → IfSome line (λ n. n < 2 ^ 16)
    → AllByRecursion FitsLine (line_row before at line)
row_fits before at None low is = tt
row_fits before at (Some line) low is = by (is_new_line before line)
  where
    by : (s : Bool) → AllByRecursion FitsLine (cond s (record { start_pc = at; line_number = line } ∷ []) [])
    by true = ((low, is), tt)
    by false = tt

module _ (pool : List PoolConstant) (all : List ℕ) where
  pub rows_fit : (ins : List Ins) (before : Option ℕ) (n : ℕ)
      → ((j : ℕ) → j < length ins → slice_index all (n + j) < 2 ^ 16)
      → AllByRecursion (λ (i : Ins). IfSome i.line (λ m. m < 2 ^ 16)) ins
      → AllByRecursion FitsLine (line_rows_from before all n ins)
  rows_fit [] before n low is = tt
  rows_fit (i ∷ ins) before n low is =
      let here : slice_index all n < 2 ^ 16 = subst (λ (k : ℕ). slice_index all k < 2 ^ 16)
      (let e : n + 0 ≡ n = omega arith in e) (low 0 (omega arith)) in
      all_both FitsLine (line_row before (slice_index all n) i.line) (line_rows_from i.line all (n + 1) ins)
      (row_fits before (slice_index all n) i.line here is.0)
      (rows_fit ins i.line (n + 1)
      (λ j lt. subst (λ (k : ℕ). slice_index all k < 2 ^ 16) (let e : n + suc j ≡ n + 1 + j = omega arith in e)
      (low (suc j) (omega (arith, lt)))) is.1)

  -- the attribute of rows, which is written where there are some
  table_by : (b : Bool) (rows : List LineNumber) → is_some_item rows ≡ b → length rows < 2 ^ 16
      → AllByRecursion FitsLine rows
      → AreLineTables (attribute pool b (codes "LineNumberTable") (line_table pool rows)) rows
  table_by true rows e few fit =
      (rows, [], record { is = refl; count_fits = few; fit = fit }, refl, sym (append-nil rows))
  table_by false rows e few fit = none rows e
    where
      none : (rows : List LineNumber) → is_some_item rows ≡ false → rows ≡ []
      none [] e = refl
      none (row ∷ rows) e = absurd
          (let f : eqb (length (row ∷ rows)) 0 ≡ false = ne_eqb _ _ (λ z. absurd (omega (arith, z))) in let g : true
          ≡ false = sym (ap not f) ∙ e in cc)

  pub table_is : (rows : List LineNumber) → length rows < 2 ^ 16 → AllByRecursion FitsLine rows
      → AreLineTables (attribute pool (is_some_item rows) (codes "LineNumberTable") (line_table pool rows)) rows
  table_is rows few fit = table_by (is_some_item rows) rows refl few fit
