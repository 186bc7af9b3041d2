-- The attributes of a Code are read exactly where they are spelled (JVMS 4.7.4, 4.7.12), where the frames are.
use Rattle.std.proofs.Common.{◌≡◌, ℕ, ◌+◌, ◌^◌, ◌<◌, Bool, true, false, cond, List, [], ◌∷◌, ◌++◌, length, Option, Some}
use Rattle.std.proofs.Common.{codes, refl, sym, ap, subst, ◌∙◌, append_assoc}
use Rattle.std.specs.Int.{w16, to_be_bytes}
use Rattle.std.specs.List.{AllByRecursion, flat_map}
use Rattle.std.proofs.lemmas.List.{append-nil}
use Rattle.jv_base.specs.Names.{is_text}
use Rattle.format_reading.specs.Reader.{FormatReader, u2, bind, give, many}
use Rattle.format_reading.specs.Spelling.{Spells, AllStand}
use Rattle.format_reading.proofs.Exact.{Exact, as_raw, bind_exact, map_exact, many_exact, u2_exact}
use Rattle.class_model.specs.declared.pool.Entry.{Entry}
use Rattle.class_model.specs.declared.frame.FrameAt.{FrameAt}
use Rattle.class_model.specs.Structure.{AttributeInfo, attribute_info}
use Rattle.class_model.specs.LineNumbers.{LineNumber, line_number, FitsLine, IsLineTable, AreLineTables}
use Rattle.class_model.specs.Attributes.{named, IsAttribute, AreAttributes, Single}
use Rattle.class_model.specs.ReadingAttributes.{counted_attributes, read_line, line_number_table}
use Rattle.class_model.specs.ReadingCodeAttribute.{CodeSeen, nothing_seen, is_there, known_of_code}
use Rattle.class_model.proofs.AttributeLaw.{text, as_text, as_told, Does, Knows, Step, Steps, once_exact, counted_exact}
use Rattle.class_model.proofs.SeenLaw.{Chain, each_found, chain_found, Once, single_found, single_only, not_named}
use Rattle.class_model.proofs.SeenLaw.{is_first, other_name, not_there, knows_if}

-- ---- lines

-- a row of lines
line_exact : Exact read_line (Spells line_number (λ _ row y. FitsLine row × (y ≡ row)))
line_exact = as_raw line_number _ (λ v. record { start_pc = v.0; line_number = v.1 })
    (λ row. (row.start_pc, row.line_number))
    (λ at v y h. (refl, ((h.1.0, h.2.1.0), h.2.2 ∙ (λ i. record { start_pc = h.1.1 i; line_number = h.2.1.1 i }))))
    (λ at row y h. (refl, (row.start_pc, (h.0.0, refl), (row.line_number, (h.0.1, refl), h.1))))
    (bind_exact (λ start_pc. bind u2 (λ number. give (made start_pc number))) (to_be_bytes w16)
    (λ start_pc _ n y. (x : ℕ) × ((n < 2 ^ 16) × (x ≡ n)) × (y ≡ made start_pc x)) u2_exact
    (λ start_pc. map_exact (made start_pc) u2_exact))
  where
    made : ℕ → ℕ → LineNumber
    made start_pc number = record { start_pc = start_pc; line_number = number }

-- each row is itself
rows_there : (at : ℕ) (rows ys : List LineNumber)
    → AllStand line_number (λ _ row y. FitsLine row × (y ≡ row)) at rows ys → AllByRecursion FitsLine rows × (ys ≡ rows)
rows_there at [] [] h = (tt, refl)
rows_there at [] (y ∷ ys) h = absurd h
rows_there at (r ∷ rs) [] h = absurd h
rows_there at (r ∷ rs) (y ∷ ys) h = let o = rows_there (at + length (line_number r)) rs ys h.1 in
    ((h.0.0, o.0), λ j. h.0.1 j ∷ o.1 j)

rows_back : (at : ℕ) (rows : List LineNumber) → AllByRecursion FitsLine rows
    → AllStand line_number (λ _ row y. FitsLine row × (y ≡ row)) at rows rows
rows_back at [] h = tt
rows_back at (r ∷ rs) h = ((h.0, refl), rows_back (at + length (line_number r)) rs h.1)

-- the contents of a LineNumberTable
lines_exact : Exact line_number_table (Spells text (λ _ info rows. IsLineTable info rows))
unfolding line_number_table
lines_exact = as_told (λ _ info rows. IsLineTable info rows)
    (λ at info rows h. let o = rows_there (at + 2) h.0.1 rows h.2.2.1 in
    let n : length h.0.1 ≡ h.0.0 = h.2.2.0 ∙ h.2.1.1 in record {
      is = h.1 ∙ ap (λ (m : ℕ). to_be_bytes w16 m ++ flat_map line_number h.0.1) (sym n)
          ∙ ap (λ (rs : List LineNumber). to_be_bytes w16 (length rs) ++ flat_map line_number rs) (sym o.1);
      count_fits = subst (λ (rs : List LineNumber). length rs < 2 ^ 16) (sym o.1)
          (subst (λ (m : ℕ). m < 2 ^ 16) (sym n) h.2.1.0);
      fit = subst (λ (rs : List LineNumber). AllByRecursion FitsLine rs) (sym o.1) o.0;
    })
    (λ at info rows h. (
      (length rows, rows),
      h.is,
      (
        length rows,
        (h.count_fits, refl),
        (refl, rows_back (at + 2) rows h.fit),
      ),
    ))
    (as_text (bind_exact (λ n. many n read_line) (flat_map line_number)
    (λ n at rows ys. (length rows ≡ n)
    × AllStand line_number (λ _ row y. FitsLine row × (y ≡ row)) at rows ys) u2_exact
    (λ n. many_exact n line_exact)))

-- ---- what is seen

-- the frames of a code, with whether one names a float or a double
abbrev pub Frames : Type 0
Frames = Bool × List FrameAt

-- with rows of lines, or with frames
abbrev with_lines : CodeSeen → List LineNumber → CodeSeen
with_lines seen now = record seen { lines = now }

abbrev with_map : CodeSeen → Option Frames → CodeSeen
with_map seen now = record seen { map = now }

-- one more table of lines
abbrev pub MoreLines : List LineNumber → List ℕ → List LineNumber → Type 0
MoreLines before info now = (rows : List LineNumber) × IsLineTable info rows × (now ≡ before ++ rows)

-- what an attribute of a code does to what was seen of those before
abbrev CodeDoes : (List ℕ → Frames → Type 0) → Does CodeSeen
CodeDoes F at name n seen info out =
    cond (is_text name (codes "LineNumberTable"))
    ((rows : List LineNumber) × IsLineTable info rows × (out ≡ with_lines seen (seen.lines ++ rows)))
    (cond (is_text name (codes "StackMapTable"))
    ((is_there seen.map ≡ false) × ((map : Frames) × F info map × (out ≡ with_map seen (Some map))))
    (out ≡ seen))

lines_changes : (F : List ℕ → Frames → Type 0) (at : ℕ) (units : List ℕ) (n : ℕ) (seen : CodeSeen) (info : List ℕ)
    (out : CodeSeen) → is_text units (codes "LineNumberTable") ≡ true → CodeDoes F at units n seen info out
    → MoreLines seen.lines info out.lines
lines_changes F at units n seen info out e h = let d = rw e at h in (d.0, d.1, ap (λ (s : CodeSeen). s.lines) d.2)

lines_stays : (F : List ℕ → Frames → Type 0) (at : ℕ) (units : List ℕ) (n : ℕ) (seen : CodeSeen) (info : List ℕ)
    (out : CodeSeen) → is_text units (codes "LineNumberTable") ≡ false → CodeDoes F at units n seen info out
    → out.lines ≡ seen.lines
lines_stays F at units n seen info out e h = by (is_text units (codes "StackMapTable")) (rw e at h)
  where
    by : (b : Bool) → cond b ((is_there seen.map ≡ false) × ((map : Frames) × F info map
        × (out ≡ with_map seen (Some map)))) (out ≡ seen) → out.lines ≡ seen.lines
    by true d = ap (λ (s : CodeSeen). s.lines) d.1.2
    by false d = ap (λ (s : CodeSeen). s.lines) d

map_changes : (F : List ℕ → Frames → Type 0) (at : ℕ) (units : List ℕ) (n : ℕ) (seen : CodeSeen) (info : List ℕ)
    (out : CodeSeen) → is_text units (codes "StackMapTable") ≡ true → CodeDoes F at units n seen info out
    → Once F seen.map info out.map
map_changes F at units n seen info out e h =
    let d = rw (other_name units (codes "StackMapTable") (codes "LineNumberTable") e refl, e) at h in
    (not_there seen.map d.0, d.1.0, d.1.1, ap (λ (s : CodeSeen). s.map) d.1.2)

map_stays : (F : List ℕ → Frames → Type 0) (at : ℕ) (units : List ℕ) (n : ℕ) (seen : CodeSeen) (info : List ℕ)
    (out : CodeSeen) → is_text units (codes "StackMapTable") ≡ false → CodeDoes F at units n seen info out
    → out.map ≡ seen.map
map_stays F at units n seen info out e h = by (is_text units (codes "LineNumberTable")) (rw e at h)
  where
    by : (b : Bool) → cond b ((rows : List LineNumber) × IsLineTable info rows
        × (out ≡ with_lines seen (seen.lines ++ rows))) (out ≡ seen) → out.map ≡ seen.map
    by true d = ap (λ (s : CodeSeen). s.map) d.2
    by false d = ap (λ (s : CodeSeen). s.map) d

-- tables of lines one behind the other are all their rows
tables_found : (all : List AttributeInfo) (before out : List LineNumber) → Chain MoreLines before all out
    → (rows : List LineNumber) × AreLineTables all rows × (out ≡ before ++ rows)
tables_found [] before out h = ([], refl, h ∙ sym (append-nil before))
tables_found (a ∷ others) before out h =
    let o = tables_found others h.0 out h.2 in
    let m = h.1 in (
      m.0 ++ o.0,
      (m.0, o.0, m.1, o.1, refl),
      o.2 ∙ ap (λ (l : List LineNumber). l ++ o.0) m.2
          ∙ append_assoc before m.0 o.0,
    )

tables_only : (all : List AttributeInfo) (before rows : List LineNumber) → AreLineTables all rows
    → Chain MoreLines before all (before ++ rows)
tables_only [] before rows h = ap (λ (l : List LineNumber). before ++ l) h ∙ append-nil before
tables_only (a ∷ others) before rows h =
    let o = tables_only others (before ++ h.0) h.1 h.3 in
    let same : (before ++ h.0) ++ h.1 ≡ before ++ rows = append_assoc before h.0 h.1
    ∙ ap (λ (l : List LineNumber). before ++ l) (sym h.4) in
    (before ++ h.0, (h.0, h.2, refl), subst (λ (l : List LineNumber). Chain MoreLines (before ++ h.0) others l) same o)

-- what was seen at the end
pub record AreCodeAttributes (pool : List Entry) (F : List ℕ → Frames → Type 0) (all : List AttributeInfo)
    (out : CodeSeen) : Type 0 where
  pub attributes : AreAttributes pool all
  pub lines : AreLineTables (named pool (codes "LineNumberTable") all) out.lines
  pub map : Single F (named pool (codes "StackMapTable") all) out.map

code_seen_found : (pool : List Entry) (F : List ℕ → Frames → Type 0) (at : ℕ) (all : List AttributeInfo)
    (out : CodeSeen) → length all < 2 ^ 16 → Steps pool (CodeDoes F) at all nothing_seen out
    → AreCodeAttributes pool F all out
code_seen_found pool F at all out few h =
    let t = tables_found (named pool (codes "LineNumberTable") all) [] out.lines
    (chain_found pool (CodeDoes F) (codes "LineNumberTable") (λ (s : CodeSeen). s.lines) MoreLines (lines_changes F)
    (lines_stays F) at all nothing_seen out h) in
    record {
      attributes = record { count_fits = few; each = each_found pool (CodeDoes F) at all nothing_seen out h };
      lines = subst (λ (l : List LineNumber). AreLineTables (named pool (codes "LineNumberTable") all) l) (sym t.2) t.1;
      map = single_found F (named pool (codes "StackMapTable") all) out.map
          (chain_found pool (CodeDoes F) (codes "StackMapTable") (λ (s : CodeSeen). s.map) (Once F) (map_changes F)
          (map_stays F) at all nothing_seen out h);
    }

-- ---- and the other way

abbrev Seen : List Entry → (List ℕ → Frames → Type 0) → List AttributeInfo → CodeSeen → CodeSeen → Type 0
Seen pool F all seen out = Chain MoreLines seen.lines (named pool (codes "LineNumberTable") all) out.lines
    × Chain (Once F) seen.map (named pool (codes "StackMapTable") all) out.map

code_steps : (pool : List Entry) (F : List ℕ → Frames → Type 0) (at : ℕ) (all : List AttributeInfo)
    (seen out : CodeSeen) → AllByRecursion (IsAttribute pool) all → Seen pool F all seen out
    → Steps pool (CodeDoes F) at all seen out
code_steps pool F at [] seen out each h = λ i. record { lines = h.0 i; map = h.1 i }
code_steps pool F at (a ∷ rest) seen out each h =
    by (is_text units (codes "LineNumberTable")) (is_text units (codes "StackMapTable")) refl refl
    (λ now k. code_steps pool F (at + length (attribute_info a)) rest now out each.1 k)
  where
    units : List ℕ
    units = each.0.name

    skipped : (name : List ℕ) → is_text units name ≡ false → named pool name (a ∷ rest) ≡ named pool name rest
    skipped name e = not_named pool name units a rest each.0.named e

    taken : (name : List ℕ) → is_text units name ≡ true → named pool name (a ∷ rest) ≡ a ∷ named pool name rest
    taken name e = is_first pool name units a rest each.0.named e

    step : (now : CodeSeen) → CodeDoes F at units (length a.info) seen a.info now → Step pool (CodeDoes F) at a seen now
    step now does = (each.0.index_fits, units, each.0.named, each.0.length_fits, does)

    lines_on : is_text units (codes "LineNumberTable") ≡ false
        → Chain MoreLines seen.lines (named pool (codes "LineNumberTable") rest) out.lines
    lines_on e = subst (λ (l : List AttributeInfo). Chain MoreLines seen.lines l out.lines)
        (skipped (codes "LineNumberTable") e) h.0

    map_on : is_text units (codes "StackMapTable") ≡ false
        → Chain (Once F) seen.map (named pool (codes "StackMapTable") rest) out.map
    map_on e = subst (λ (l : List AttributeInfo). Chain (Once F) seen.map l out.map)
        (skipped (codes "StackMapTable") e) h.1

    by : (l m : Bool) → is_text units (codes "LineNumberTable") ≡ l → is_text units (codes "StackMapTable") ≡ m
        → ((now : CodeSeen) → Seen pool F rest now out
        → Steps pool (CodeDoes F) (at + length (attribute_info a)) rest now out)
        → Steps pool (CodeDoes F) at (a ∷ rest) seen out
    by true m el em others =
        let k = subst (λ (l : List AttributeInfo). Chain MoreLines seen.lines l out.lines)
        (taken (codes "LineNumberTable") el) h.0 in
        let now : CodeSeen = with_lines seen k.0 in
        let does : CodeDoes F at units (length a.info) seen a.info now = rw el
        (k.1.0, k.1.1, ap (with_lines seen) k.1.2) in (
          now,
          step now does,
          others now
              (k.2, map_on (other_name units (codes "LineNumberTable") (codes "StackMapTable") el refl)),
        )
    by false true el em others =
        let k = subst (λ (l : List AttributeInfo). Chain (Once F) seen.map l out.map)
        (taken (codes "StackMapTable") em) h.1 in
        let now : CodeSeen = with_map seen k.0 in
        let does : CodeDoes F at units (length a.info) seen a.info now = rw (el, em)
        (ap is_there k.1.0, (k.1.1, k.1.2, ap (with_map seen) k.1.3)) in
        (now, step now does, others now (lines_on el, k.2))
    by false false el em others =
        let does : CodeDoes F at units (length a.info) seen a.info seen = rw (el, em) refl in
        (seen, step seen does, others seen (lines_on el, map_on em))

-- ---- what is known

code_knows : (F : List ℕ → Frames → Type 0) (frames : FormatReader Frames)
    → Exact frames (Spells text (λ _ info map. F info map)) → (at : ℕ) (name : List ℕ) (n : ℕ) (seen : CodeSeen)
    → Knows (known_of_code frames at name n seen) n seen (CodeDoes F at name n seen)
code_knows F frames exact at name n seen =
    knows_if (is_text name (codes "LineNumberTable")) _ _ n seen _ _
    (as_told (λ _ info out. (rows : List LineNumber) × IsLineTable info rows
    × (out ≡ with_lines seen (seen.lines ++ rows))) (λ k info out h. h) (λ k info out h. h)
    (map_exact (λ (rows : List LineNumber). with_lines seen (seen.lines ++ rows)) lines_exact))
    (knows_if (is_text name (codes "StackMapTable")) _ _ n seen
    (λ info out. (is_there seen.map ≡ false) × ((map : Frames) × F info map × (out ≡ with_map seen (Some map))))
    (λ info out. out ≡ seen)
    (once_exact at (is_there seen.map)
    (as_told (λ _ info out. (map : Frames) × F info map × (out ≡ with_map seen (Some map))) (λ k info out h. h)
    (λ k info out h. h) (map_exact (λ (map : Frames). with_map seen (Some map)) exact)))
    (λ info out. ((λ e. e), (λ e. e))))

-- the attributes of a code, behind their count
pub code_attributes_exact : (pool : List Entry) (F : List ℕ → Frames → Type 0) (frames : FormatReader Frames)
    → Exact frames (Spells text (λ _ info map. F info map))
    → Exact (counted_attributes pool (known_of_code frames) nothing_seen)
    (Spells (λ all. to_be_bytes w16 (length all) ++ flat_map attribute_info all)
    (λ _ all out. AreCodeAttributes pool F all out))
code_attributes_exact pool F frames exact = as_raw _ _ (λ all. all) (λ all. all)
    (λ at all out h. (refl, code_seen_found pool F (at + 2) all out h.0 h.1))
    (λ at all out h. (
      refl,
      (
        h.attributes.count_fits,
        code_steps pool F (at + 2) all nothing_seen out h.attributes.each (
          tables_only (named pool (codes "LineNumberTable") all) [] out.lines h.lines,
          single_only F
              (named pool (codes "StackMapTable") all) out.map h.map,
        ),
      ),
    ))
    (counted_exact pool (known_of_code frames) (CodeDoes F)
    (λ at name n seen. code_knows F frames exact at name n seen) nothing_seen)
