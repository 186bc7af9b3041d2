-- Lines go on, places ascend, and types without the Tops at their end (JVMS 4.7.3, 4.7.4, 4.7.12).
use Rattle.std.proofs.Common.{◌≡◌, ℕ, zero, suc, ◌+◌, ◌^◌, ◌<◌, ◌≤◌, Bool, true, false, cond, ◌&&◌, leb, List, [], ◌∷◌}
use Rattle.std.proofs.Common.{◌++◌, length, get_or, Option, Some, None, refl, sym, ap, subst, ◌∙◌, arith}
use Rattle.std.specs.Prelude.{AllPairs, IfSome, is_some, fold, option_map}
use Rattle.std.specs.List.{AllByRecursion, flat_map}
use Rattle.std.proofs.lemmas.Bool.{leb-true, le-leb}
use Rattle.std.proofs.lemmas.List.{length-append}
use Rattle.format_reading.specs.Spelling.{AllStand}
use Rattle.class_model.specs.declared.pool.Entry.{Entry}
use Rattle.class_model.specs.declared.code.Ins.{Ins}
use Rattle.class_model.specs.declared.frame.VType.{VType}
use Rattle.class_model.specs.declared.frame.VType.TheVariants as vtype
use Rattle.class_model.specs.Structure.{AttributeInfo}
use Rattle.class_model.specs.InstructionStructure.{Info, info_bytes, starts_from}
use Rattle.class_model.specs.LineNumbers.{LineNumber, FitsLine, AreLineTables, nearer, is_nearer, line_at}
use Rattle.class_model.specs.Frames.{words_of_type, words_of_types, before_cut, cut_tops}
use Rattle.class_model.specs.CodeAttribute.{IsIns}
use Rattle.class_model.specs.WellFormed.{LinesGoOn}
use Rattle.class_model.proofs.BackSizes.{info_is_there}
use Rattle.class_laws.proofs.SpelledLists.{all_both}
use Rattle.class_laws.proofs.FrameWords.{words_more}

-- ---- lines

-- a line is told behind where one was
later_by : (s t : ℕ) (best other : Option LineNumber) (row : LineNumber) → s ≤ t
    → (is_some best ≡ true → is_some other ≡ true) → is_some (nearer s best row) ≡ true
    → is_some (nearer t other row) ≡ true
later_by s t best (Some o) row le h k = by (leb row.start_pc t && is_nearer (Some o) row)
  where
    by : (b : Bool) → is_some (cond b (Some row) (Some o)) ≡ true
    by true = refl
    by false = refl
later_by s t (Some b) None row le h k = absurd (let e = h refl in cc)
later_by s t None None row le h k = by (leb row.start_pc s) refl k
  where
    by : (b : Bool) → leb row.start_pc s ≡ b → is_some (cond (b && true) (Some row) None) ≡ true
        → is_some (cond (leb row.start_pc t && true) (Some row) None) ≡ true
    by true e g = let l : row.start_pc ≤ s = leb-true _ _ e in rw (le-leb row.start_pc t (omega (arith, l, le))) refl
    by false e g = absurd cc

later_all : (s t : ℕ) (rows : List LineNumber) (best other : Option LineNumber) → s ≤ t
    → (is_some best ≡ true → is_some other ≡ true) → is_some (fold (nearer s) best rows) ≡ true
    → is_some (fold (nearer t) other rows) ≡ true
later_all s t [] best other le h k = h k
later_all s t (row ∷ rows) best other le h k = later_all s t rows (nearer s best row) (nearer t other row) le
    (later_by s t best other row le h) k

some_line : (o : Option LineNumber) → is_some (option_map (λ (row : LineNumber). row.line_number) o) ≡ is_some o
some_line None = refl
some_line (Some row) = refl

line_later : (rows : List LineNumber) (s t : ℕ) → s ≤ t → is_some (line_at rows s) ≡ true
    → is_some (line_at rows t) ≡ true
line_later rows s t le h = some_line (fold (nearer t) None rows)
    ∙ later_all s t rows None None le (λ e. e) (sym (some_line (fold (nearer s) None rows)) ∙ h)

-- a line has two bytes
fold_fits : (s : ℕ) (rows : List LineNumber) (best : Option LineNumber) → AllByRecursion FitsLine rows
    → IfSome best FitsLine → IfSome (fold (nearer s) best rows) FitsLine
fold_fits s [] best h k = k
fold_fits s (row ∷ rows) best h k = fold_fits s rows (nearer s best row) h.1
    (by (leb row.start_pc s && is_nearer best row))
  where
    by : (b : Bool) → IfSome (cond b (Some row) best) FitsLine
    by true = h.0
    by false = k

pub line_fits : (rows : List LineNumber) (s : ℕ) → AllByRecursion FitsLine rows
    → IfSome (line_at rows s) (λ n. n < 2 ^ 16)
line_fits rows s h = by (fold (nearer s) None rows) (fold_fits s rows None h tt)
  where
    by : (o : Option LineNumber) → IfSome o FitsLine
        → IfSome (option_map (λ (row : LineNumber). row.line_number) o) (λ n. n < 2 ^ 16)
    by None h = tt
    by (Some row) h = h.1

pub tables_fit : (all : List AttributeInfo) (rows : List LineNumber) → AreLineTables all rows
    → AllByRecursion FitsLine rows
tables_fit [] rows h = subst (λ (l : List LineNumber). AllByRecursion FitsLine l) (sym h) tt
tables_fit (a ∷ others) rows h = subst (λ (l : List LineNumber). AllByRecursion FitsLine l) (sym h.4)
    (all_both FitsLine h.0 h.1 h.2.fit (tables_fit others h.1 h.3))

-- ---- places

pub starts_long : (infos : List Info) (at : ℕ) → length (starts_from at infos) ≡ length infos
starts_long [] at = refl
starts_long (info ∷ infos) at = ap suc (starts_long infos (at + length (info_bytes info)))

pub stand_long : {A : Type 0} (P : ℕ → Info → A → Type 0) (infos : List Info) (xs : List A) (at : ℕ)
    → AllStand info_bytes P at infos xs → length infos ≡ length xs
stand_long P [] [] at h = refl
stand_long P [] (x ∷ xs) at h = absurd h
stand_long P (info ∷ infos) [] at h = absurd h
stand_long P (info ∷ infos) (x ∷ xs) at h = ap suc (stand_long P infos xs (at + length (info_bytes info)) h.1)

-- where instructions begin, and the end
abbrev pub ends_from : ℕ → List Info → List ℕ
ends_from at infos = starts_from at infos ++ (at + length (flat_map info_bytes infos)) ∷ []

ends_more : (info : Info) (infos : List Info) (at k : ℕ)
    → get_or (ends_from at (info ∷ infos)) (suc k) 0 ≡ get_or (ends_from (at + length (info_bytes info)) infos) k 0
ends_more info infos at k =
    let e : at + length (info_bytes info ++ flat_map info_bytes infos)
    ≡ at + length (info_bytes info) + length (flat_map info_bytes infos) = omega
    (arith, length-append (info_bytes info) (flat_map info_bytes infos)) in
    ap (λ (m : ℕ). get_or (starts_from (at + length (info_bytes info)) infos ++ m ∷ []) k 0) e

ends_after : (infos : List Info) (at k : ℕ) → k ≤ length infos → at ≤ get_or (ends_from at infos) k 0
ends_after [] at zero le = omega arith
ends_after [] at (suc k) le = absurd (omega (arith, le))
ends_after (info ∷ infos) at zero le = omega arith
ends_after (info ∷ infos) at (suc k) le = let h = ends_after infos (at + length (info_bytes info)) k
    (omega (arith, le)) in omega (arith, h, ends_more info infos at k)

pub ends_ascend : (infos : List Info) (at j k : ℕ) → j < k → k ≤ length infos
    → get_or (ends_from at infos) j 0 < get_or (ends_from at infos) k 0
ends_ascend [] at j k lt le = absurd (omega (arith, lt, le))
ends_ascend (info ∷ infos) at j zero lt le = absurd (omega (arith, lt))
ends_ascend (info ∷ infos) at zero (suc k) lt le =
    let some = info_is_there info in
    let h = ends_after infos (at + length (info_bytes info)) k (omega (arith, le)) in
    omega (arith, some, h, ends_more info infos at k)
ends_ascend (info ∷ infos) at (suc j) (suc k) lt le =
    let h = ends_ascend infos (at + length (info_bytes info)) j k (omega (arith, lt)) (omega (arith, le)) in
    omega (arith, h, ends_more info infos at j, ends_more info infos at k)

pub starts_ascend : (infos : List Info) (at j k : ℕ) → j < k → k < length infos
    → get_or (starts_from at infos) j 0 < get_or (starts_from at infos) k 0
starts_ascend [] at j k lt le = absurd (omega (arith, le))
starts_ascend (info ∷ infos) at j zero lt le = absurd (omega (arith, lt))
starts_ascend (info ∷ infos) at zero (suc k) lt le = let h = after infos (at + length (info_bytes info)) k
    (omega (arith, le)) in omega (arith, h, info_is_there info)
  where
    after : (infos : List Info) (at k : ℕ) → k < length infos → at ≤ get_or (starts_from at infos) k 0
    after [] at k le = absurd (omega (arith, le))
    after (info ∷ infos) at zero le = omega arith
    after (info ∷ infos) at (suc k) le = let h = after infos (at + length (info_bytes info)) k
        (omega (arith, le)) in omega (arith, h)
starts_ascend (info ∷ infos) at (suc j) (suc k) lt le = starts_ascend infos (at + length (info_bytes info)) j k
    (omega (arith, lt)) (omega (arith, le))

-- ---- instructions with their lines

module _ (pool : List Entry) (starts : List ℕ) (lines : List LineNumber) where
  line_is : (infos : List Info) (ins : List Ins) (at k : ℕ) (d : Ins)
      → AllStand info_bytes (IsIns pool starts lines) at infos ins → k < length ins
      → (get_or ins k d).line ≡ line_at lines (get_or (starts_from at infos) k 0)
  line_is [] [] at k d h lt = absurd (omega (arith, lt))
  line_is [] (i ∷ ins) at k d h lt = absurd h
  line_is (info ∷ infos) [] at k d h lt = absurd h
  line_is (info ∷ infos) (i ∷ ins) at zero d h lt = h.0.1
  line_is (info ∷ infos) (i ∷ ins) at (suc k) d h lt = line_is infos ins (at + length (info_bytes info)) k d h.1
      (omega (arith, lt))

  pub lines_go_on : (infos : List Info) (ins : List Ins) → AllStand info_bytes (IsIns pool starts lines) 0 infos ins
      → AllPairs LinesGoOn ins
  lines_go_on infos ins h i j d lt within some =
      let n = stand_long (IsIns pool starts lines) infos ins 0 h in
      let a = line_is infos ins 0 i d h (omega (arith, lt, within)) in
      let b = line_is infos ins 0 j d h within in
      let le = starts_ascend infos 0 i j lt (omega (arith, n, within)) in
      ap is_some b ∙ line_later lines (get_or (starts_from 0 infos) i 0) (get_or (starts_from 0 infos) j 0)
      (omega (arith, le)) (sym (ap is_some a) ∙ some)

-- ---- types

-- the types without the Tops at their end
cut_by : (P : VType → Type 0) (ty : VType) (types : List VType) → P ty → AllByRecursion P types
    → AllByRecursion P (before_cut ty types)
cut_by P vtype.Top [] p h = tt
cut_by P vtype.Top (t ∷ ts) p h = (p, h)
cut_by P vtype.Int types p h = (p, h)
cut_by P vtype.Long types p h = (p, h)
cut_by P vtype.Null types p h = (p, h)
cut_by P vtype.UninitThis types p h = (p, h)
cut_by P (vtype.Object ty) types p h = (p, h)
cut_by P (vtype.Uninit n) types p h = (p, h)

pub all_cut : (P : VType → Type 0) (types : List VType) → AllByRecursion P types → AllByRecursion P (cut_tops types)
all_cut P [] h = tt
all_cut P (ty ∷ types) h = cut_by P ty (cut_tops types) h.0 (all_cut P types h.1)

again_by : (ty : VType) (types : List VType) → cut_tops types ≡ types
    → cut_tops (before_cut ty types) ≡ before_cut ty types
again_by vtype.Top [] e = refl
again_by vtype.Top (t ∷ ts) e = ap (before_cut vtype.Top) e
again_by vtype.Int types e = ap (before_cut vtype.Int) e
again_by vtype.Long types e = ap (before_cut vtype.Long) e
again_by vtype.Null types e = ap (before_cut vtype.Null) e
again_by vtype.UninitThis types e = ap (before_cut vtype.UninitThis) e
again_by (vtype.Object ty) types e = ap (before_cut (vtype.Object ty)) e
again_by (vtype.Uninit n) types e = ap (before_cut (vtype.Uninit n)) e

pub cut_again : (types : List VType) → cut_tops (cut_tops types) ≡ cut_tops types
cut_again [] = refl
cut_again (ty ∷ types) = again_by ty (cut_tops types) (cut_again types)

cut_less : (ty : VType) (types : List VType)
    → words_of_types (before_cut ty types) ≤ words_of_type ty + words_of_types types
cut_less vtype.Top [] = omega arith
cut_less vtype.Top (t ∷ ts) = omega (arith, words_more vtype.Top (t ∷ ts))
cut_less vtype.Int types = omega (arith, words_more vtype.Int types)
cut_less vtype.Long types = omega (arith, words_more vtype.Long types)
cut_less vtype.Null types = omega (arith, words_more vtype.Null types)
cut_less vtype.UninitThis types = omega (arith, words_more vtype.UninitThis types)
cut_less (vtype.Object ty) types = omega (arith, words_more (vtype.Object ty) types)
cut_less (vtype.Uninit n) types = omega (arith, words_more (vtype.Uninit n) types)

pub words_cut : (types : List VType) → words_of_types (cut_tops types) ≤ words_of_types types
words_cut [] = omega arith
words_cut (ty ∷ types) = omega (arith, cut_less ty (cut_tops types), words_cut types, words_more ty types)

-- ---- pairs

-- one before others
pub pairs_more : {A : Type 0} (R : A → A → Type 0) (x : A) (xs : List A) → AllByRecursion (R x) xs → AllPairs R xs
    → AllPairs R (x ∷ xs)
pairs_more R x xs h k i zero d lt within = absurd (omega (arith, lt))
pairs_more R x xs h k zero (suc j) d lt within = at xs j h (omega (arith, within))
  where
    at : (ys : List _) (m : ℕ) → AllByRecursion (R x) ys → m < length ys → R x (get_or ys m d)
    at [] m g l = absurd (omega (arith, l))
    at (y ∷ ys) zero g l = g.0
    at (y ∷ ys) (suc m) g l = at ys m g.1 (omega (arith, l))
pairs_more R x xs h k (suc i) (suc j) d lt within = k i j d (omega (arith, lt)) (omega (arith, within))
