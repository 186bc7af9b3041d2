-- The attributes of a class are read exactly where they are spelled (JVMS 4.7.8, 4.7.10, 4.7.15).
use Rattle.std.proofs.Common.{◌≡◌, ℕ, ◌+◌, ◌^◌, ◌<◌, Bool, true, false, cond, List, [], ◌∷◌, ◌++◌, length, Option, Some}
use Rattle.std.proofs.Common.{codes, refl, sym, ap, subst, ◌∙◌}
use Rattle.std.specs.Int.{w16, to_be_bytes}
use Rattle.std.specs.List.{AllByRecursion, flat_map}
use Rattle.jv_base.specs.Names.{is_text}
use Rattle.format_reading.specs.declared.fault.FormatKind.TheVariants as bad
use Rattle.format_reading.specs.Spelling.{Spells}
use Rattle.format_reading.proofs.Exact.{Exact, as_raw, item_exact, map_exact, u2_exact}
use Rattle.class_model.specs.declared.pool.Entry.{Entry}
use Rattle.class_model.specs.Pool.{units_at}
use Rattle.class_model.specs.Structure.{AttributeInfo, attribute_info}
use Rattle.class_model.specs.Attributes.{named, IsAttribute, AreAttributes, Single, IsMark, IsSourceFile}
use Rattle.class_model.specs.Lookups.{due}
use Rattle.class_model.specs.ReadingAttributes.{counted_attributes, source_file}
use Rattle.class_model.specs.ReadingCodeAttribute.{is_there}
use Rattle.class_model.specs.ReadingClass.{ClassSeen, no_class_attribute, known_of_class}
use Rattle.class_model.proofs.AttributeLaw.{text, as_text, as_told, Does, Knows, Step, Steps, once_exact, counted_exact}
use Rattle.class_model.proofs.SeenLaw.{Chain, each_found, chain_found, Once, single_found, single_only, Marks}
use Rattle.class_model.proofs.SeenLaw.{mark_found, mark_only, not_named, is_first, other_name, not_there, knows_if}
use Rattle.class_model.proofs.SeenLaw.{give_text}
use Rattle.class_model.proofs.NameLaw.{due_is}

-- SourceFile
source_exact : (pool : List Entry)
    → Exact (source_file pool) (Spells text (λ _ info units. IsSourceFile pool info units))
source_exact pool = as_told (λ _ info units. IsSourceFile pool info units)
    (λ at info units h. (
      h.0,
      h.2.1.0,
      h.1,
      due_is bad.BadIndex (units_at pool h.0) units
          (ap (λ (k : ℕ). due bad.BadIndex (units_at pool k)) (sym h.2.1.1) ∙ h.2.2),
    ))
    (λ at info units h. (h.0, h.2, (h.0, (h.1, refl), ap (due bad.BadIndex) h.3)))
    (as_text (item_exact (λ index. due bad.BadIndex (units_at pool index)) u2_exact))

-- what an attribute of a class does to what was seen of those before
abbrev ClassDoes : List Entry → Does ClassSeen
ClassDoes pool at name n seen info out =
    cond (is_text name (codes "SourceFile"))
    ((is_there seen.source ≡ false)
    × ((units : List ℕ) × IsSourceFile pool info units × (out ≡ record seen { source = Some units })))
    (cond (is_text name (codes "Synthetic"))
    ((seen.synthetic ≡ false) × ((info ≡ []) × (out ≡ record seen { synthetic = true })))
    (cond (is_text name (codes "Deprecated"))
    ((seen.deprecated ≡ false) × ((info ≡ []) × (out ≡ record seen { deprecated = true })))
    (out ≡ seen)))

class_knows : (pool : List Entry) (at : ℕ) (name : List ℕ) (n : ℕ) (seen : ClassSeen)
    → Knows (known_of_class pool at name n seen) n seen (ClassDoes pool at name n seen)
class_knows pool at name n seen =
    knows_if (is_text name (codes "SourceFile")) _ _ n seen _ _
    (once_exact at (is_there seen.source)
    (as_told (λ _ info out. (units : List ℕ) × IsSourceFile pool info units
    × (out ≡ record seen { source = Some units }))
    (λ at info out h. h) (λ at info out h. h)
    (map_exact (λ (units : List ℕ). let S : ClassSeen = record seen { source = Some units } in S) (source_exact pool))))
    (knows_if (is_text name (codes "Synthetic")) _ _ n seen _ _
    (once_exact at seen.synthetic (give_text (record seen { synthetic = true })))
    (knows_if (is_text name (codes "Deprecated")) _ _ n seen
    (λ info out. (seen.deprecated ≡ false) × ((info ≡ []) × (out ≡ record seen { deprecated = true })))
    (λ info out. out ≡ seen)
    (once_exact at seen.deprecated (give_text (record seen { deprecated = true })))
    (λ info out. ((λ e. e), (λ e. e)))))

-- ---- what is seen of each name

-- what was seen at the end
pub record AreClassAttributes (pool : List Entry) (all : List AttributeInfo) (out : ClassSeen) : Type 0 where
  pub attributes : AreAttributes pool all
  pub source : Single (IsSourceFile pool) (named pool (codes "SourceFile") all) out.source
  pub synthetic : IsMark (named pool (codes "Synthetic") all) out.synthetic
  pub deprecated : IsMark (named pool (codes "Deprecated") all) out.deprecated

-- what one attribute does to each part of what was seen
source_changes : (pool : List Entry) (at : ℕ) (units : List ℕ) (n : ℕ) (seen : ClassSeen) (info : List ℕ)
    (out : ClassSeen) → is_text units (codes "SourceFile") ≡ true → ClassDoes pool at units n seen info out
    → Once (IsSourceFile pool) seen.source info out.source
source_changes pool at units n seen info out e h = let d = rw e at h in
    (not_there seen.source d.0, d.1.0, d.1.1, ap (λ (s : ClassSeen). s.source) d.1.2)

source_stays : (pool : List Entry) (at : ℕ) (units : List ℕ) (n : ℕ) (seen : ClassSeen) (info : List ℕ)
    (out : ClassSeen) → is_text units (codes "SourceFile") ≡ false → ClassDoes pool at units n seen info out
    → out.source ≡ seen.source
source_stays pool at units n seen info out e h = by (is_text units (codes "Synthetic"))
    (is_text units (codes "Deprecated")) (rw e at h)
  where
    by : (a b : Bool) → cond a ((seen.synthetic ≡ false) × ((info ≡ []) × (out ≡ record seen { synthetic = true })))
        (cond b ((seen.deprecated ≡ false) × ((info ≡ []) × (out ≡ record seen { deprecated = true }))) (out ≡ seen))
        → out.source ≡ seen.source
    by true b d = ap (λ (s : ClassSeen). s.source) d.1.1
    by false true d = ap (λ (s : ClassSeen). s.source) d.1.1
    by false false d = ap (λ (s : ClassSeen). s.source) d

synthetic_changes : (pool : List Entry) (at : ℕ) (units : List ℕ) (n : ℕ) (seen : ClassSeen) (info : List ℕ)
    (out : ClassSeen) → is_text units (codes "Synthetic") ≡ true → ClassDoes pool at units n seen info out
    → Marks seen.synthetic info out.synthetic
synthetic_changes pool at units n seen info out e h =
    let d = rw (other_name units (codes "Synthetic") (codes "SourceFile") e refl, e) at h in
    (d.0, d.1.0, ap (λ (s : ClassSeen). s.synthetic) d.1.1)

synthetic_stays : (pool : List Entry) (at : ℕ) (units : List ℕ) (n : ℕ) (seen : ClassSeen) (info : List ℕ)
    (out : ClassSeen) → is_text units (codes "Synthetic") ≡ false → ClassDoes pool at units n seen info out
    → out.synthetic ≡ seen.synthetic
synthetic_stays pool at units n seen info out e h = by (is_text units (codes "SourceFile"))
    (is_text units (codes "Deprecated")) (rw e at h)
  where
    by : (a b : Bool) → cond a ((is_there seen.source ≡ false)
        × ((units : List ℕ) × IsSourceFile pool info units × (out ≡ record seen { source = Some units })))
        (cond b ((seen.deprecated ≡ false) × ((info ≡ []) × (out ≡ record seen { deprecated = true }))) (out ≡ seen))
        → out.synthetic ≡ seen.synthetic
    by true b d = ap (λ (s : ClassSeen). s.synthetic) d.1.2
    by false true d = ap (λ (s : ClassSeen). s.synthetic) d.1.1
    by false false d = ap (λ (s : ClassSeen). s.synthetic) d

deprecated_changes : (pool : List Entry) (at : ℕ) (units : List ℕ) (n : ℕ) (seen : ClassSeen) (info : List ℕ)
    (out : ClassSeen) → is_text units (codes "Deprecated") ≡ true → ClassDoes pool at units n seen info out
    → Marks seen.deprecated info out.deprecated
deprecated_changes pool at units n seen info out e h =
    let d = rw (
      other_name units (codes "Deprecated") (codes "SourceFile") e refl,
      other_name units (codes "Deprecated")
          (codes "Synthetic") e refl,
      e,
    ) at h in (d.0, d.1.0, ap (λ (s : ClassSeen). s.deprecated) d.1.1)

deprecated_stays : (pool : List Entry) (at : ℕ) (units : List ℕ) (n : ℕ) (seen : ClassSeen) (info : List ℕ)
    (out : ClassSeen) → is_text units (codes "Deprecated") ≡ false → ClassDoes pool at units n seen info out
    → out.deprecated ≡ seen.deprecated
deprecated_stays pool at units n seen info out e h = by (is_text units (codes "SourceFile"))
    (is_text units (codes "Synthetic")) (rw e at h)
  where
    by : (a b : Bool) → cond a ((is_there seen.source ≡ false)
        × ((units : List ℕ) × IsSourceFile pool info units × (out ≡ record seen { source = Some units })))
        (cond b ((seen.synthetic ≡ false) × ((info ≡ []) × (out ≡ record seen { synthetic = true }))) (out ≡ seen))
        → out.deprecated ≡ seen.deprecated
    by true b d = ap (λ (s : ClassSeen). s.deprecated) d.1.2
    by false true d = ap (λ (s : ClassSeen). s.deprecated) d.1.1
    by false false d = ap (λ (s : ClassSeen). s.deprecated) d

-- the attributes of each name say what is seen of it
class_seen_found : (pool : List Entry) (at : ℕ) (all : List AttributeInfo) (out : ClassSeen) → length all < 2 ^ 16
    → Steps pool (ClassDoes pool) at all no_class_attribute out → AreClassAttributes pool all out
class_seen_found pool at all out few h = record {
  attributes = record { count_fits = few; each = each_found pool (ClassDoes pool) at all no_class_attribute out h };
  source = single_found (IsSourceFile pool) (named pool (codes "SourceFile") all) out.source
      (chain_found pool (ClassDoes pool) (codes "SourceFile") (λ (s : ClassSeen). s.source) (Once (IsSourceFile pool))
      (source_changes pool) (source_stays pool) at all no_class_attribute out h);
  synthetic = mark_found (named pool (codes "Synthetic") all) out.synthetic
      (chain_found pool (ClassDoes pool) (codes "Synthetic") (λ (s : ClassSeen). s.synthetic) Marks
      (synthetic_changes pool) (synthetic_stays pool) at all no_class_attribute out h);
  deprecated = mark_found (named pool (codes "Deprecated") all) out.deprecated
      (chain_found pool (ClassDoes pool) (codes "Deprecated") (λ (s : ClassSeen). s.deprecated) Marks
      (deprecated_changes pool) (deprecated_stays pool) at all no_class_attribute out h);
}

-- ---- and the other way

-- the attributes of each name, from what was seen to the end
abbrev Seen : List Entry → List AttributeInfo → ClassSeen → ClassSeen → Type 0
Seen pool all seen out = Chain (Once (IsSourceFile pool)) seen.source (named pool (codes "SourceFile") all) out.source
    × Chain Marks seen.synthetic (named pool (codes "Synthetic") all) out.synthetic
    × Chain Marks seen.deprecated (named pool (codes "Deprecated") all) out.deprecated

class_steps : (pool : List Entry) (at : ℕ) (all : List AttributeInfo) (seen out : ClassSeen)
    → AllByRecursion (IsAttribute pool) all → Seen pool all seen out → Steps pool (ClassDoes pool) at all seen out
class_steps pool at [] seen out each h = λ i. record { source = h.0 i; synthetic = h.1 i; deprecated = h.2 i }
class_steps pool at (a ∷ rest) seen out each h =
    by (is_text units (codes "SourceFile")) (is_text units (codes "Synthetic"))
    (is_text units (codes "Deprecated")) refl refl refl
    (λ now k. class_steps pool (at + length (attribute_info a)) rest now out each.1 k)
  where
    units : List ℕ
    units = each.0.name

    skipped : (name : List ℕ) → is_text units name ≡ false → named pool name (a ∷ rest) ≡ named pool name rest
    skipped name e = not_named pool name units a rest each.0.named e

    taken : (name : List ℕ) → is_text units name ≡ true → named pool name (a ∷ rest) ≡ a ∷ named pool name rest
    taken name e = is_first pool name units a rest each.0.named e

    step : (now : ClassSeen) → ClassDoes pool at units (length a.info) seen a.info now
        → Step pool (ClassDoes pool) at a seen now
    step now does = (each.0.index_fits, units, each.0.named, each.0.length_fits, does)

    source_on : (name : List ℕ) → is_text units name ≡ true → is_text name (codes "SourceFile") ≡ false
        → Chain (Once (IsSourceFile pool)) seen.source (named pool (codes "SourceFile") rest) out.source
    source_on name e differ = subst
        (λ (l : List AttributeInfo). Chain (Once (IsSourceFile pool)) seen.source l out.source)
        (skipped (codes "SourceFile") (other_name units name (codes "SourceFile") e differ)) h.0

    synthetic_on : is_text units (codes "Synthetic") ≡ false
        → Chain Marks seen.synthetic (named pool (codes "Synthetic") rest) out.synthetic
    synthetic_on e = subst (λ (l : List AttributeInfo). Chain Marks seen.synthetic l out.synthetic)
        (skipped (codes "Synthetic") e) h.1

    deprecated_on : is_text units (codes "Deprecated") ≡ false
        → Chain Marks seen.deprecated (named pool (codes "Deprecated") rest) out.deprecated
    deprecated_on e = subst (λ (l : List AttributeInfo). Chain Marks seen.deprecated l out.deprecated)
        (skipped (codes "Deprecated") e) h.2

    by : (s y d : Bool) → is_text units (codes "SourceFile") ≡ s → is_text units (codes "Synthetic") ≡ y
        → is_text units (codes "Deprecated") ≡ d
        → ((now : ClassSeen) → Seen pool rest now out
        → Steps pool (ClassDoes pool) (at + length (attribute_info a)) rest now out)
        → Steps pool (ClassDoes pool) at (a ∷ rest) seen out
    by true y d es ey ed others =
        let c = subst (λ (l : List AttributeInfo). Chain (Once (IsSourceFile pool)) seen.source l out.source)
        (taken (codes "SourceFile") es) h.0 in
        let now : ClassSeen = record seen { source = c.0 } in
        let does : ClassDoes pool at units (length a.info) seen a.info now = rw es (
          ap is_there c.1.0,
          (
            c.1.1,
            c.1.2,
            ap (λ (o : Option
                (List ℕ)). let S : ClassSeen = record seen { source = o } in S) c.1.3,
          ),
        ) in (
          now,
          step now does,
          others now (
            c.2,
            synthetic_on (other_name units (codes "SourceFile") (codes "Synthetic") es refl),
            deprecated_on
                (other_name units (codes "SourceFile") (codes "Deprecated") es refl),
          ),
        )
    by false true d es ey ed others =
        let c = subst (λ (l : List AttributeInfo). Chain Marks seen.synthetic l out.synthetic)
        (taken (codes "Synthetic") ey) h.1 in
        let now : ClassSeen = record seen { synthetic = c.0 } in
        let does : ClassDoes pool at units (length a.info) seen a.info now = rw (es, ey)
        (c.1.0, (c.1.1, ap (λ (o : Bool). let S : ClassSeen = record seen { synthetic = o } in S) c.1.2)) in (
          now,
          step now does,
          others now (
            source_on (codes "Synthetic") ey refl,
            c.2,
            deprecated_on
                (other_name units (codes "Synthetic") (codes "Deprecated") ey refl),
          ),
        )
    by false false true es ey ed others =
        let c = subst (λ (l : List AttributeInfo). Chain Marks seen.deprecated l out.deprecated)
        (taken (codes "Deprecated") ed) h.2 in
        let now : ClassSeen = record seen { deprecated = c.0 } in
        let does : ClassDoes pool at units (length a.info) seen a.info now = rw (es, ey, ed)
        (c.1.0, (c.1.1, ap (λ (o : Bool). let S : ClassSeen = record seen { deprecated = o } in S) c.1.2)) in
        (now, step now does, others now (source_on (codes "Deprecated") ed refl, synthetic_on ey, c.2))
    by false false false es ey ed others =
        let does : ClassDoes pool at units (length a.info) seen a.info seen = rw (es, ey, ed) refl in (
          seen,
          step seen does,
          others seen (
            subst (λ (l : List AttributeInfo). Chain (Once (IsSourceFile pool)) seen.source l out.source)
                (skipped (codes "SourceFile") es) h.0,
            synthetic_on ey,
            deprecated_on ed,
          ),
        )

-- the attributes of a class, behind their count, are read exactly where they are spelled
pub class_attributes_exact : (pool : List Entry)
    → Exact (counted_attributes pool (known_of_class pool) no_class_attribute)
    (Spells (λ all. to_be_bytes w16 (length all) ++ flat_map attribute_info all)
    (λ _ all out. AreClassAttributes pool all out))
class_attributes_exact pool = as_raw _ _ (λ all. all) (λ all. all)
    (λ at all out h. (refl, class_seen_found pool (at + 2) all out h.0 h.1))
    (λ at all out h. (
      refl,
      (
        h.attributes.count_fits,
        class_steps pool (at + 2) all no_class_attribute out h.attributes.each (
          single_only (IsSourceFile pool) (named pool (codes "SourceFile") all) out.source h.source,
          mark_only
              (named pool (codes "Synthetic") all) out.synthetic h.synthetic,
          mark_only
              (named pool (codes "Deprecated") all) out.deprecated h.deprecated,
        ),
      ),
    ))
    (counted_exact pool (known_of_class pool) (ClassDoes pool)
    (λ at name n seen. class_knows pool at name n seen) no_class_attribute)
