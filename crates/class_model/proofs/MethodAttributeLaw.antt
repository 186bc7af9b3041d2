-- The attributes of a method are read exactly where they are spelled (JVMS 4.7.3, 4.7.5, 4.7.8, 4.7.15), where Code is.
use Rattle.std.proofs.Common.{◌≡◌, ℕ, ◌+◌, ◌^◌, ◌<◌, Bool, true, false, cond, List, [], ◌∷◌, ◌++◌, length, Option, Some}
use Rattle.std.proofs.Common.{None, Ok, codes, refl, sym, ap, subst, ◌∙◌}
use Rattle.std.specs.Int.{w16, to_be_bytes}
use Rattle.std.specs.List.{AllByRecursion, AllZip, flat_map}
use Rattle.jv_base.specs.Names.{is_text}
use Rattle.format_reading.specs.declared.fault.FormatKind.TheVariants as bad
use Rattle.format_reading.specs.Reader.{FormatReader, u2, item, bind, many}
use Rattle.format_reading.specs.Spelling.{Spells, AllStand}
use Rattle.format_reading.proofs.Exact.{Exact, as_raw, bind_exact, item_exact, map_exact, many_exact, settle_exact}
use Rattle.format_reading.proofs.Exact.{u2_exact}
use Rattle.class_model.specs.declared.pool.Entry.{Entry}
use Rattle.class_model.specs.Pool.{IsClassAt}
use Rattle.class_model.specs.Structure.{AttributeInfo, attribute_info}
use Rattle.class_model.specs.Attributes.{named, IsAttribute, AreAttributes, Single, IsMark, IsExceptions}
use Rattle.class_model.specs.Lookups.{test, class_at}
use Rattle.class_model.specs.ReadingAttributes.{counted_attributes, once, exceptions}
use Rattle.class_model.specs.ReadingCodeAttribute.{Body, is_there}
use Rattle.class_model.specs.ReadingMembers.{MethodSeen, no_method_attribute, code_seen, one_code, known_of_method}
use Rattle.class_model.proofs.NameLaw.{HaveUnits}
use Rattle.class_model.proofs.LookupLaw.{class_found, class_only}
use Rattle.class_model.proofs.AttributeLaw.{text, as_text, as_told, Does, Knows, Step, Steps, once_exact, counted_exact}
use Rattle.class_model.proofs.SeenLaw.{Chain, each_found, chain_found, Once, single_found, single_only, Marks}
use Rattle.class_model.proofs.SeenLaw.{mark_found, mark_only, not_named, is_first, other_name, not_there, knows_if}
use Rattle.class_model.proofs.SeenLaw.{give_text}

-- ---- Exceptions

-- each index leads to its class
classes_found : (pool : List Entry) (at : ℕ) (raws : List ℕ) (classes : List (List ℕ)) → HaveUnits pool
    → AllStand (to_be_bytes w16)
    (λ _ raw name. (index : ℕ) × ((raw < 2 ^ 16) × (index ≡ raw)) × (class_at pool index ≡ Ok name)) at raws classes
    → AllZip (IsClassAt pool) raws classes
classes_found pool at [] [] units h = tt
classes_found pool at [] (c ∷ cs) units h = absurd h
classes_found pool at (r ∷ rs) [] units h = absurd h
classes_found pool at (r ∷ rs) (c ∷ cs) units h =
    let f = class_found pool r c units (ap (class_at pool) (sym h.0.1.1) ∙ h.0.2) in
    ((h.0.1.0, f.0, f.1), classes_found pool (at + length (to_be_bytes w16 r)) rs cs units h.1)

classes_only : (pool : List Entry) (at : ℕ) (raws : List ℕ) (classes : List (List ℕ))
    → AllZip (IsClassAt pool) raws classes
    → AllStand (to_be_bytes w16)
    (λ _ raw name. (index : ℕ) × ((raw < 2 ^ 16) × (index ≡ raw)) × (class_at pool index ≡ Ok name)) at raws classes
classes_only pool at [] [] h = tt
classes_only pool at [] (c ∷ cs) h = absurd h
classes_only pool at (r ∷ rs) [] h = absurd h
classes_only pool at (r ∷ rs) (c ∷ cs) h =
    ((r, (h.0.0, refl), class_only pool r c h.0.1 h.0.2), classes_only pool (at + length (to_be_bytes w16 r)) rs cs h.1)

-- so many classes by their indices
pub classes_exact : (pool : List Entry) (n : ℕ) → HaveUnits pool
    → Exact (many n (item u2 (class_at pool)))
    (Spells (flat_map (to_be_bytes w16)) (λ _ raws classes. (length raws ≡ n) × AllZip (IsClassAt pool) raws classes))
classes_exact pool n units = as_raw (flat_map (to_be_bytes w16)) _ (λ raws. raws) (λ raws. raws)
    (λ at raws classes h. (refl, (h.0, classes_found pool at raws classes units h.1)))
    (λ at raws classes h. (refl, (h.0, classes_only pool at raws classes h.1)))
    (many_exact n (item_exact (class_at pool) u2_exact))

-- classes behind their count
pub counted_classes_exact : (pool : List Entry) → HaveUnits pool
    → Exact (bind u2 (λ n. many n (item u2 (class_at pool))))
    (Spells (λ raws. to_be_bytes w16 (length raws) ++ flat_map (to_be_bytes w16) raws)
    (λ _ raws classes. (length raws < 2 ^ 16) × AllZip (IsClassAt pool) raws classes))
counted_classes_exact pool units = as_raw _ _ (λ w. w.1) (λ raws. (length raws, raws))
    (λ at w classes h.
    let n : length w.1 ≡ w.0 = h.2.0 ∙ h.1.1 in (
      ap (λ (m : ℕ). to_be_bytes w16 m ++ flat_map (to_be_bytes w16) w.1) (sym n),
      (subst (λ (m : ℕ). m < 2 ^ 16) (sym n) h.1.0, h.2.1),
    ))
    (λ at raws classes h. (refl, (length raws, (h.0, refl), (refl, h.1))))
    (bind_exact (λ n. many n (item u2 (class_at pool))) (flat_map (to_be_bytes w16))
    (λ n _ raws classes. (length raws ≡ n) × AllZip (IsClassAt pool) raws classes) u2_exact
    (λ n. classes_exact pool n units))

-- the contents of Exceptions
exceptions_exact : (pool : List Entry) → HaveUnits pool
    → Exact (exceptions pool) (Spells text (λ _ info classes. IsExceptions pool info classes))
unfolding exceptions
exceptions_exact pool units = as_told (λ _ info classes. IsExceptions pool info classes)
    (λ at info classes h. record { indices = h.0; is = h.1; count_fits = h.2.0; each = h.2.1 })
    (λ at info classes h. (h.indices, h.is, (h.count_fits, h.each)))
    (as_text (counted_classes_exact pool units))

-- ---- what is seen

-- what was seen, with one part of it anew
abbrev with_body : MethodSeen → Option Body → MethodSeen
with_body seen now = record seen { body = now }

abbrev with_throws : MethodSeen → Option (List (List ℕ)) → MethodSeen
with_throws seen now = record seen { throws = now }

abbrev with_synthetic : MethodSeen → Bool → MethodSeen
with_synthetic seen now = record seen { synthetic = now }

abbrev with_deprecated : MethodSeen → Bool → MethodSeen
with_deprecated seen now = record seen { deprecated = now }

-- a Code that stands once, where there may be one, whose contents are told by B
abbrev pub OneCode : Bool → (List ℕ → Body → Type 0) → Option Body → List ℕ → Option Body → Type 0
OneCode wanted B before info now = (before ≡ None) × (wanted ≡ true) × (body : Body) × B info body × (now ≡ Some body)

-- what an attribute of a method does to what was seen of those before
abbrev MethodDoes : List Entry → Bool → (List ℕ → Body → Type 0) → Does MethodSeen
MethodDoes pool wanted B at name n seen info out =
    cond (is_text name (codes "Code"))
    ((wanted ≡ true) × ((is_there seen.body ≡ false) × ((body : Body) × B info body
    × (out ≡ with_body seen (Some body)))))
    (cond (is_text name (codes "Exceptions"))
    ((is_there seen.throws ≡ false)
    × ((classes : List (List ℕ)) × IsExceptions pool info classes × (out ≡ with_throws seen (Some classes))))
    (cond (is_text name (codes "Synthetic"))
    ((seen.synthetic ≡ false) × ((info ≡ []) × (out ≡ with_synthetic seen true)))
    (cond (is_text name (codes "Deprecated"))
    ((seen.deprecated ≡ false) × ((info ≡ []) × (out ≡ with_deprecated seen true)))
    (out ≡ seen))))

body_changes : (pool : List Entry) (wanted : Bool) (B : List ℕ → Body → Type 0) (at : ℕ) (units : List ℕ) (n : ℕ)
    (seen : MethodSeen) (info : List ℕ) (out : MethodSeen) → is_text units (codes "Code") ≡ true
    → MethodDoes pool wanted B at units n seen info out → OneCode wanted B seen.body info out.body
body_changes pool wanted B at units n seen info out e h =
    let d = rw e at h in (not_there seen.body d.1.0, d.0, d.1.1.0, d.1.1.1, ap (λ (s : MethodSeen). s.body) d.1.1.2)

body_stays : (pool : List Entry) (wanted : Bool) (B : List ℕ → Body → Type 0) (at : ℕ) (units : List ℕ) (n : ℕ)
    (seen : MethodSeen) (info : List ℕ) (out : MethodSeen) → is_text units (codes "Code") ≡ false
    → MethodDoes pool wanted B at units n seen info out → out.body ≡ seen.body
body_stays pool wanted B at units n seen info out e h = by (is_text units (codes "Exceptions"))
    (is_text units (codes "Synthetic")) (is_text units (codes "Deprecated")) (rw e at h)
  where
    by : (a b c : Bool) → (cond a ((is_there seen.throws ≡ false)
        × ((classes : List (List ℕ)) × IsExceptions pool info classes × (out ≡ with_throws seen (Some classes))))
        (cond b ((seen.synthetic ≡ false) × ((info ≡ []) × (out ≡ with_synthetic seen true)))
        (cond c ((seen.deprecated ≡ false) × ((info ≡ []) × (out ≡ with_deprecated seen true))) (out ≡ seen))))
        → out.body ≡ seen.body
    by true b c d = ap (λ (s : MethodSeen). s.body) d.1.2
    by false true c d = ap (λ (s : MethodSeen). s.body) d.1.1
    by false false true d = ap (λ (s : MethodSeen). s.body) d.1.1
    by false false false d = ap (λ (s : MethodSeen). s.body) d

throws_changes : (pool : List Entry) (wanted : Bool) (B : List ℕ → Body → Type 0) (at : ℕ) (units : List ℕ) (n : ℕ)
    (seen : MethodSeen) (info : List ℕ) (out : MethodSeen) → is_text units (codes "Exceptions") ≡ true
    → MethodDoes pool wanted B at units n seen info out → Once (IsExceptions pool) seen.throws info out.throws
throws_changes pool wanted B at units n seen info out e h =
    let d = rw (other_name units (codes "Exceptions") (codes "Code") e refl, e) at h in
    (not_there seen.throws d.0, d.1.0, d.1.1, ap (λ (s : MethodSeen). s.throws) d.1.2)

throws_stays : (pool : List Entry) (wanted : Bool) (B : List ℕ → Body → Type 0) (at : ℕ) (units : List ℕ) (n : ℕ)
    (seen : MethodSeen) (info : List ℕ) (out : MethodSeen) → is_text units (codes "Exceptions") ≡ false
    → MethodDoes pool wanted B at units n seen info out → out.throws ≡ seen.throws
throws_stays pool wanted B at units n seen info out e h = by (is_text units (codes "Code"))
    (is_text units (codes "Synthetic")) (is_text units (codes "Deprecated")) (rw e at h)
  where
    by : (a b c : Bool) → (cond a ((wanted ≡ true) × ((is_there seen.body ≡ false)
        × ((body : Body) × B info body × (out ≡ with_body seen (Some body)))))
        (cond b ((seen.synthetic ≡ false) × ((info ≡ []) × (out ≡ with_synthetic seen true)))
        (cond c ((seen.deprecated ≡ false) × ((info ≡ []) × (out ≡ with_deprecated seen true))) (out ≡ seen))))
        → out.throws ≡ seen.throws
    by true b c d = ap (λ (s : MethodSeen). s.throws) d.1.1.2
    by false true c d = ap (λ (s : MethodSeen). s.throws) d.1.1
    by false false true d = ap (λ (s : MethodSeen). s.throws) d.1.1
    by false false false d = ap (λ (s : MethodSeen). s.throws) d

synthetic_changes : (pool : List Entry) (wanted : Bool) (B : List ℕ → Body → Type 0) (at : ℕ) (units : List ℕ) (n : ℕ)
    (seen : MethodSeen) (info : List ℕ) (out : MethodSeen) → is_text units (codes "Synthetic") ≡ true
    → MethodDoes pool wanted B at units n seen info out → Marks seen.synthetic info out.synthetic
synthetic_changes pool wanted B at units n seen info out e h =
    let d = rw (
      other_name units (codes "Synthetic") (codes "Code") e refl,
      other_name units (codes "Synthetic")
          (codes "Exceptions") e refl,
      e,
    ) at h in (d.0, d.1.0, ap (λ (s : MethodSeen). s.synthetic) d.1.1)

synthetic_stays : (pool : List Entry) (wanted : Bool) (B : List ℕ → Body → Type 0) (at : ℕ) (units : List ℕ) (n : ℕ)
    (seen : MethodSeen) (info : List ℕ) (out : MethodSeen) → is_text units (codes "Synthetic") ≡ false
    → MethodDoes pool wanted B at units n seen info out → out.synthetic ≡ seen.synthetic
synthetic_stays pool wanted B at units n seen info out e h = by (is_text units (codes "Code"))
    (is_text units (codes "Exceptions")) (is_text units (codes "Deprecated")) (rw e at h)
  where
    by : (a b c : Bool) → (cond a ((wanted ≡ true) × ((is_there seen.body ≡ false)
        × ((body : Body) × B info body × (out ≡ with_body seen (Some body)))))
        (cond b ((is_there seen.throws ≡ false) × ((classes : List (List ℕ)) × IsExceptions pool info classes
        × (out ≡ with_throws seen (Some classes))))
        (cond c ((seen.deprecated ≡ false) × ((info ≡ []) × (out ≡ with_deprecated seen true))) (out ≡ seen))))
        → out.synthetic ≡ seen.synthetic
    by true b c d = ap (λ (s : MethodSeen). s.synthetic) d.1.1.2
    by false true c d = ap (λ (s : MethodSeen). s.synthetic) d.1.2
    by false false true d = ap (λ (s : MethodSeen). s.synthetic) d.1.1
    by false false false d = ap (λ (s : MethodSeen). s.synthetic) d

deprecated_changes : (pool : List Entry) (wanted : Bool) (B : List ℕ → Body → Type 0) (at : ℕ) (units : List ℕ) (n : ℕ)
    (seen : MethodSeen) (info : List ℕ) (out : MethodSeen) → is_text units (codes "Deprecated") ≡ true
    → MethodDoes pool wanted B at units n seen info out → Marks seen.deprecated info out.deprecated
deprecated_changes pool wanted B at units n seen info out e h =
    let d = rw (
      other_name units (codes "Deprecated") (codes "Code") e refl,
      other_name units (codes "Deprecated")
          (codes "Exceptions") e refl,
      other_name units (codes "Deprecated") (codes "Synthetic") e refl,
      e,
    ) at h in
    (d.0, d.1.0, ap (λ (s : MethodSeen). s.deprecated) d.1.1)

deprecated_stays : (pool : List Entry) (wanted : Bool) (B : List ℕ → Body → Type 0) (at : ℕ) (units : List ℕ) (n : ℕ)
    (seen : MethodSeen) (info : List ℕ) (out : MethodSeen) → is_text units (codes "Deprecated") ≡ false
    → MethodDoes pool wanted B at units n seen info out → out.deprecated ≡ seen.deprecated
deprecated_stays pool wanted B at units n seen info out e h = by (is_text units (codes "Code"))
    (is_text units (codes "Exceptions")) (is_text units (codes "Synthetic")) (rw e at h)
  where
    by : (a b c : Bool) → (cond a ((wanted ≡ true) × ((is_there seen.body ≡ false)
        × ((body : Body) × B info body × (out ≡ with_body seen (Some body)))))
        (cond b ((is_there seen.throws ≡ false) × ((classes : List (List ℕ)) × IsExceptions pool info classes
        × (out ≡ with_throws seen (Some classes))))
        (cond c ((seen.synthetic ≡ false) × ((info ≡ []) × (out ≡ with_synthetic seen true))) (out ≡ seen))))
        → out.deprecated ≡ seen.deprecated
    by true b c d = ap (λ (s : MethodSeen). s.deprecated) d.1.1.2
    by false true c d = ap (λ (s : MethodSeen). s.deprecated) d.1.2
    by false false true d = ap (λ (s : MethodSeen). s.deprecated) d.1.1
    by false false false d = ap (λ (s : MethodSeen). s.deprecated) d

-- what was seen at the end
pub record AreMethodAttributes (pool : List Entry) (wanted : Bool) (B : List ℕ → Body → Type 0)
    (all : List AttributeInfo) (out : MethodSeen) : Type 0 where
  pub attributes : AreAttributes pool all
  pub body : Chain (OneCode wanted B) None (named pool (codes "Code") all) out.body
  pub throws : Single (IsExceptions pool) (named pool (codes "Exceptions") all) out.throws
  pub synthetic : IsMark (named pool (codes "Synthetic") all) out.synthetic
  pub deprecated : IsMark (named pool (codes "Deprecated") all) out.deprecated

-- the attributes of each name say what is seen of it
method_seen_found : (pool : List Entry) (wanted : Bool) (B : List ℕ → Body → Type 0) (at : ℕ) (all : List AttributeInfo)
    (out : MethodSeen) → length all < 2 ^ 16 → Steps pool (MethodDoes pool wanted B) at all no_method_attribute out
    → AreMethodAttributes pool wanted B all out
method_seen_found pool wanted B at all out few h = record {
  attributes = record {
    count_fits = few;
    each = each_found pool
        (MethodDoes pool wanted B) at all no_method_attribute out h;
  };
  body = (chain_found pool (MethodDoes pool wanted B) (codes "Code") (λ (s : MethodSeen). s.body) (OneCode wanted B)
      (body_changes pool wanted B) (body_stays pool wanted B) at all no_method_attribute out h);
  throws = single_found (IsExceptions pool) (named pool (codes "Exceptions") all) out.throws
      (chain_found pool (MethodDoes pool wanted B) (codes "Exceptions") (λ (s : MethodSeen). s.throws)
      (Once (IsExceptions pool)) (throws_changes pool wanted B)
      (throws_stays pool wanted B) at all no_method_attribute out h);
  synthetic = mark_found (named pool (codes "Synthetic") all) out.synthetic
      (chain_found pool (MethodDoes pool wanted B) (codes "Synthetic") (λ (s : MethodSeen). s.synthetic) (Marks)
      (synthetic_changes pool wanted B) (synthetic_stays pool wanted B) at all no_method_attribute out h);
  deprecated = mark_found (named pool (codes "Deprecated") all) out.deprecated
      (chain_found pool (MethodDoes pool wanted B) (codes "Deprecated") (λ (s : MethodSeen). s.deprecated) (Marks)
      (deprecated_changes pool wanted B) (deprecated_stays pool wanted B) at all no_method_attribute out h);
}

-- ---- and the other way

-- the attributes of each name, from what was seen to the end
abbrev Seen : List Entry → Bool → (List ℕ → Body → Type 0) → List AttributeInfo → MethodSeen → MethodSeen → Type 0
Seen pool wanted B all seen out = Chain (OneCode wanted B) seen.body (named pool (codes "Code") all) out.body
    × Chain (Once (IsExceptions pool)) seen.throws (named pool (codes "Exceptions") all) out.throws
    × Chain Marks seen.synthetic (named pool (codes "Synthetic") all) out.synthetic
    × Chain Marks seen.deprecated (named pool (codes "Deprecated") all) out.deprecated

method_steps : (pool : List Entry) (wanted : Bool) (B : List ℕ → Body → Type 0) (at : ℕ) (all : List AttributeInfo)
    (seen out : MethodSeen) → AllByRecursion (IsAttribute pool) all → Seen pool wanted B all seen out
    → Steps pool (MethodDoes pool wanted B) at all seen out
method_steps pool wanted B at [] seen out each h = λ i. record
    { body = h.0 i; throws = h.1 i; synthetic = h.2 i; deprecated = h.3 i }
method_steps pool wanted B at (a ∷ rest) seen out each h =
    by (is_text units (codes "Code")) (is_text units (codes "Exceptions")) (is_text units (codes "Synthetic"))
    (is_text units (codes "Deprecated")) refl refl refl refl
    (λ now k. method_steps pool wanted B (at + length (attribute_info a)) rest now out each.1 k)
  where
    units : List ℕ
    units = each.0.name

    skipped : (name : List ℕ) → is_text units name ≡ false → named pool name (a ∷ rest) ≡ named pool name rest
    skipped name e = not_named pool name units a rest each.0.named e

    taken : (name : List ℕ) → is_text units name ≡ true → named pool name (a ∷ rest) ≡ a ∷ named pool name rest
    taken name e = is_first pool name units a rest each.0.named e

    step : (now : MethodSeen) → MethodDoes pool wanted B at units (length a.info) seen a.info now
        → Step pool (MethodDoes pool wanted B) at a seen now
    step now does = (each.0.index_fits, units, each.0.named, each.0.length_fits, does)

    body_on : is_text units (codes "Code") ≡ false
        → Chain (OneCode wanted B) seen.body (named pool (codes "Code") rest) out.body
    body_on e = subst (λ (l : List AttributeInfo). Chain (OneCode wanted B) seen.body l out.body)
        (skipped (codes "Code") e) h.0

    throws_on : is_text units (codes "Exceptions") ≡ false
        → Chain (Once (IsExceptions pool)) seen.throws (named pool (codes "Exceptions") rest) out.throws
    throws_on e = subst (λ (l : List AttributeInfo). Chain (Once (IsExceptions pool)) seen.throws l out.throws)
        (skipped (codes "Exceptions") e) h.1

    synthetic_on : is_text units (codes "Synthetic") ≡ false
        → Chain (Marks) seen.synthetic (named pool (codes "Synthetic") rest) out.synthetic
    synthetic_on e = subst (λ (l : List AttributeInfo). Chain (Marks) seen.synthetic l out.synthetic)
        (skipped (codes "Synthetic") e) h.2

    deprecated_on : is_text units (codes "Deprecated") ≡ false
        → Chain (Marks) seen.deprecated (named pool (codes "Deprecated") rest) out.deprecated
    deprecated_on e = subst (λ (l : List AttributeInfo). Chain (Marks) seen.deprecated l out.deprecated)
        (skipped (codes "Deprecated") e) h.3

    by : (c x y d : Bool) → is_text units (codes "Code") ≡ c → is_text units (codes "Exceptions") ≡ x
        → is_text units (codes "Synthetic") ≡ y → is_text units (codes "Deprecated") ≡ d
        → ((now : MethodSeen) → Seen pool wanted B rest now out
        → Steps pool (MethodDoes pool wanted B) (at + length (attribute_info a)) rest now out)
        → Steps pool (MethodDoes pool wanted B) at (a ∷ rest) seen out
    by true x y d ec ex ey ed others =
        let k = subst (λ (l : List AttributeInfo). Chain (OneCode wanted B) seen.body l out.body)
        (taken (codes "Code") ec) h.0 in
        let now : MethodSeen = with_body seen k.0 in
        let does : MethodDoes pool wanted B at units (length a.info) seen a.info now = rw ec
        (k.1.1, (ap is_there k.1.0, (k.1.2, k.1.3, ap (with_body seen) k.1.4))) in (
          now,
          step now does,
          others now (
            k.2,
            throws_on (other_name units (codes "Code") (codes "Exceptions") ec refl),
            synthetic_on
                (other_name units (codes "Code") (codes "Synthetic") ec refl),
            deprecated_on
                (other_name units (codes "Code") (codes "Deprecated") ec refl),
          ),
        )
    by false true y d ec ex ey ed others =
        let k = subst (λ (l : List AttributeInfo). Chain (Once (IsExceptions pool)) seen.throws l out.throws)
        (taken (codes "Exceptions") ex) h.1 in
        let now : MethodSeen = with_throws seen k.0 in
        let does : MethodDoes pool wanted B at units (length a.info) seen a.info now = rw (ec, ex)
        (ap is_there k.1.0, (k.1.1, k.1.2, ap (with_throws seen) k.1.3)) in (
          now,
          step now does,
          others now (
            body_on ec,
            k.2,
            synthetic_on
                (other_name units (codes "Exceptions") (codes "Synthetic") ex refl),
            deprecated_on
                (other_name units (codes "Exceptions") (codes "Deprecated") ex refl),
          ),
        )
    by false false true d ec ex ey ed others =
        let k = subst (λ (l : List AttributeInfo). Chain (Marks) seen.synthetic l out.synthetic)
        (taken (codes "Synthetic") ey) h.2 in
        let now : MethodSeen = with_synthetic seen k.0 in
        let does : MethodDoes pool wanted B at units (length a.info) seen a.info now = rw (ec, ex, ey)
        (k.1.0, (k.1.1, ap (with_synthetic seen) k.1.2)) in (
          now,
          step now does,
          others now (
            body_on ec,
            throws_on ex,
            k.2,
            deprecated_on
                (other_name units (codes "Synthetic") (codes "Deprecated") ey refl),
          ),
        )
    by false false false true ec ex ey ed others =
        let k = subst (λ (l : List AttributeInfo). Chain (Marks) seen.deprecated l out.deprecated)
        (taken (codes "Deprecated") ed) h.3 in
        let now : MethodSeen = with_deprecated seen k.0 in
        let does : MethodDoes pool wanted B at units (length a.info) seen a.info now = rw (ec, ex, ey, ed)
        (k.1.0, (k.1.1, ap (with_deprecated seen) k.1.2)) in
        (now, step now does, others now (body_on ec, throws_on ex, synthetic_on ey, k.2))
    by false false false false ec ex ey ed others =
        let does : MethodDoes pool wanted B at units (length a.info) seen a.info seen = rw (ec, ex, ey, ed) refl in
        (seen, step seen does, others seen (body_on ec, throws_on ex, synthetic_on ey, deprecated_on ed))

-- ---- what is known

-- a Code where there may be one
code_known : (wanted : Bool) (B : List ℕ → Body → Type 0) (at : ℕ) (code : FormatReader Body) (seen : MethodSeen)
    → Exact code (Spells text (λ _ info body. B info body))
    → Exact (one_code at wanted code seen)
    (Spells text (λ _ info out. (wanted ≡ true) × ((is_there seen.body ≡ false)
    × ((body : Body) × B info body × (out ≡ with_body seen (Some body))))))
code_known wanted B at code seen e = as_raw text _ (λ w. w.1) (λ info. (tt, info))
    (λ k w out h. (refl, (by wanted h.0 h.1, h.2)))
    (λ k info out h. (refl, (tt, ap (test bad.BadAttribute) h.0, h.1)))
    (bind_exact (λ allowed. once at (is_there seen.body) (code_seen code seen)) text
    (λ allowed _ info out. (is_there seen.body ≡ false)
    × ((body : Body) × B info body × (out ≡ with_body seen (Some body))))
    (settle_exact at (test bad.BadAttribute wanted))
    (λ allowed. once_exact at (is_there seen.body)
    (as_told (λ _ info out. (body : Body) × B info body × (out ≡ with_body seen (Some body))) (λ k info out h. h)
    (λ k info out h. h) (map_exact (λ (body : Body). with_body seen (Some body)) e))))
  where
    by : (b : Bool) (u : Unit {0}) → test bad.BadAttribute b ≡ Ok u → b ≡ true
    by true u h = refl
    by false u h = absurd cc

method_knows : (pool : List Entry) (wanted : Bool) (B : List ℕ → Body → Type 0) (code : ℕ → FormatReader Body)
    → HaveUnits pool → ((at : ℕ) → Exact (code at) (Spells text (λ _ info body. B info body)))
    → (at : ℕ) (name : List ℕ) (n : ℕ) (seen : MethodSeen)
    → Knows (known_of_method pool wanted code at name n seen) n seen (MethodDoes pool wanted B at name n seen)
method_knows pool wanted B code units exact at name n seen =
    knows_if (is_text name (codes "Code")) _ _ n seen _ _ (code_known wanted B at (code at) seen (exact at))
    (knows_if (is_text name (codes "Exceptions")) _ _ n seen _ _ (once_exact at (is_there seen.throws)
    (as_told (λ _ info out. (classes : List (List ℕ)) × IsExceptions pool info classes
    × (out ≡ with_throws seen (Some classes))) (λ k info out h. h) (λ k info out h. h)
    (map_exact (λ (classes : List (List ℕ)). with_throws seen (Some classes)) (exceptions_exact pool units))))
    (knows_if (is_text name (codes "Synthetic")) _ _ n seen _ _
    (once_exact at seen.synthetic (give_text (with_synthetic seen true)))
    (knows_if (is_text name (codes "Deprecated")) _ _ n seen
    (λ info out. (seen.deprecated ≡ false) × ((info ≡ []) × (out ≡ with_deprecated seen true)))
    (λ info out. out ≡ seen)
    (once_exact at seen.deprecated (give_text (with_deprecated seen true)))
    (λ info out. ((λ e. e), (λ e. e))))))

-- the attributes of a method, behind their count, are read exactly where they are spelled, where its code is
pub method_attributes_exact : (pool : List Entry) (wanted : Bool) (B : List ℕ → Body → Type 0)
    (code : ℕ → FormatReader Body)
    → HaveUnits pool → ((at : ℕ) → Exact (code at) (Spells text (λ _ info body. B info body)))
    → Exact (counted_attributes pool (known_of_method pool wanted code) no_method_attribute)
    (Spells (λ all. to_be_bytes w16 (length all) ++ flat_map attribute_info all)
    (λ _ all out. AreMethodAttributes pool wanted B all out))
method_attributes_exact pool wanted B code units exact = as_raw _ _ (λ all. all) (λ all. all)
    (λ at all out h. (refl, method_seen_found pool wanted B (at + 2) all out h.0 h.1))
    (λ at all out h. (
      refl,
      (
        h.attributes.count_fits,
        method_steps pool wanted B (at + 2) all no_method_attribute out h.attributes.each (
          h.body,
          single_only (IsExceptions pool)
              (named pool (codes "Exceptions") all) out.throws h.throws,
          mark_only
              (named pool (codes "Synthetic") all) out.synthetic h.synthetic,
          mark_only
              (named pool (codes "Deprecated") all) out.deprecated h.deprecated,
        ),
      ),
    ))
    (counted_exact pool (known_of_method pool wanted code) (MethodDoes pool wanted B)
    (λ at name n seen. method_knows pool wanted B code units exact at name n seen) no_method_attribute)
