-- The range of lines, line by line.
use Rattle.std.specs.List.{cons_option}
use Rattle.std.proofs.lemmas.List.{take_more}
use Rattle.std.proofs.lemmas.List.Elements.{filter_map-append}
use Rattle.class_model.specs.declared.code.Ins.{Ins}
use Rattle.std.proofs.Common.{◌≡◌, ℕ, ◌+◌, ◌<◌, List, [], ◌∷◌, ◌++◌, length, get_or, take, filter_map, fold, Option}
use Rattle.std.proofs.Common.{Some, None, refl, sym, ap, ◌∙◌}
use Rattle.mapping_file.specs.declared.mapping.Range.{Range}
use Rattle.rename_map.specs.MappingOf.{range_of, widened}
use Rattle.rename_map.specs.bodies.Widening.{with_line}

fold_last : (range : Range) (lines : List ℕ) (line : ℕ)
    → fold widened range (lines ++ line ∷ []) ≡ widened (fold widened range lines) line
fold_last range [] line = refl
fold_last range (l ∷ lines) line = fold_last (widened range l) lines line

-- one line more
pub range_more : (lines : List ℕ) (line : ℕ) → range_of (lines ++ line ∷ []) ≡ Some (with_line (range_of lines) line)
range_more [] line = refl
range_more (l ∷ lines) line = ap Some (fold_last (record { first = l; last = l }) lines line)

one_line : (o : Option ℕ) (line : Ins → Option ℕ) (x : Ins) → line x ≡ o → filter_map line (x ∷ []) ≡ cons_option o []
one_line None line x is = ap (λ (o : Option ℕ). cons_option o []) is
one_line (Some n) line x is = ap (λ (o : Option ℕ). cons_option o []) is

-- the lines of one instruction more
pub lines_more : (xs : List Ins) (i : ℕ) (x : Ins) → i < length xs → x ≡ get_or xs i x
    → filter_map (λ (n : Ins). n.line) (take i xs) ++ cons_option x.line []
    ≡ filter_map (λ (n : Ins). n.line) (take (i + 1) xs)
lines_more xs i x below is =
    ap (λ (y : Ins). filter_map (λ (n : Ins). n.line) (take i xs) ++ cons_option y.line []) is
    ∙ ap (λ (l : List ℕ). filter_map (λ (n : Ins). n.line) (take i xs) ++ l)
    (sym (one_line (get_or xs i x).line (λ (n : Ins). n.line) (get_or xs i x) refl))
    ∙ sym (filter_map-append (λ (n : Ins). n.line) (take i xs) (get_or xs i x ∷ []))
    ∙ ap (filter_map (λ (n : Ins). n.line)) (sym (take_more xs i x below))
