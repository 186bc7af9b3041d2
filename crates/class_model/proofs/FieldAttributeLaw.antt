-- The attributes of a field are read exactly where they are spelled (JVMS 4.7.2, 4.7.8, 4.7.15).
use Rattle.std.proofs.Common.{◌≡◌, ℕ, ◌+◌, ◌^◌, ◌<◌, Bool, true, false, cond, List, [], ◌∷◌, ◌++◌, length, Option, Some}
use Rattle.std.proofs.Common.{None, codes, refl, sym, ap, subst, ◌∙◌}
use Rattle.std.specs.Int.{w16, to_be_bytes}
use Rattle.std.specs.List.{AllByRecursion, flat_map}
use Rattle.std.proofs.lemmas.List.{append-nil}
use Rattle.jv_base.specs.Names.{is_text}
use Rattle.jv_base.specs.declared.types.FieldType.{FieldType}
use Rattle.format_reading.specs.Reader.{give}
use Rattle.format_reading.specs.Spelling.{Spells}
use Rattle.format_reading.proofs.Exact.{Exact, as_raw, bind_exact, map_exact, give_exact, bytes_exact, nothing}
use Rattle.class_model.specs.declared.pool.Entry.{Entry}
use Rattle.class_model.specs.declared.class.Constant.{Constant}
use Rattle.class_model.specs.Structure.{AttributeInfo, attribute_info}
use Rattle.class_model.specs.Attributes.{named, IsAttribute, AreAttributes, IsMark, IsConstantValue, AreConstants}
use Rattle.class_model.specs.ReadingAttributes.{counted_attributes}
use Rattle.class_model.specs.ReadingCodeAttribute.{is_there}
use Rattle.class_model.specs.ReadingMembers.{FieldSeen, no_field_attribute, dropped, constant_seen, known_of_field}
use Rattle.class_model.specs.ReadingMembers.{constant_of}
use Rattle.class_model.proofs.AttributeLaw.{text, as_told, Does, Knows, Step, Steps, once_exact, counted_exact}
use Rattle.class_model.proofs.SeenLaw.{Chain, each_found, chain_found, Marks, mark_found, mark_only, not_named}
use Rattle.class_model.proofs.SeenLaw.{is_first, other_name, not_there, knows_if, give_text}
use Rattle.class_model.proofs.ConstantLaw.{AllNameRight, constant_exact}

-- what the contents of a ConstantValue say: the constant of a static field; else they are passed over
abbrev pub ConstantSays : List Entry → Bool → FieldType → ℕ → List ℕ → Option (Option Constant) → Type 0
ConstantSays pool static ty n info now = cond static
    ((value : Option Constant) × IsConstantValue pool ty info value × (now ≡ Some value))
    ((length info ≡ n) × (now ≡ Some None))

-- the same, whatever their length
abbrev pub ConstantTold : List Entry → Bool → FieldType → List ℕ → Option (Option Constant) → Type 0
ConstantTold pool static ty info now = cond static
    ((value : Option Constant) × IsConstantValue pool ty info value × (now ≡ Some value)) (now ≡ Some None)

told_of : (pool : List Entry) (static : Bool) (ty : FieldType) (n : ℕ) (info : List ℕ) (now : Option (Option Constant))
    → ConstantSays pool static ty n info now → ConstantTold pool static ty info now
told_of pool true ty n info now h = h
told_of pool false ty n info now h = h.1

says_of : (pool : List Entry) (static : Bool) (ty : FieldType) (info : List ℕ) (now : Option (Option Constant))
    → ConstantTold pool static ty info now → ConstantSays pool static ty (length info) info now
says_of pool true ty info now h = h
says_of pool false ty info now h = (refl, h)

-- a ConstantValue that stands once
abbrev pub ConstantOnce : List Entry → Bool → FieldType → Option (Option Constant) → List ℕ → Option (Option Constant)
    → Type 0
ConstantOnce pool static ty before info now = (before ≡ None) × ConstantTold pool static ty info now

-- with a constant seen
abbrev with_constant : FieldSeen → Option (Option Constant) → FieldSeen
with_constant seen now = record seen { constant = now }

-- what an attribute of a field does to what was seen of those before
abbrev FieldDoes : List Entry → Bool → FieldType → Does FieldSeen
FieldDoes pool static ty at name n seen info out =
    cond (is_text name (codes "ConstantValue"))
    ((is_there seen.constant ≡ false)
    × ((now : Option (Option Constant)) × ConstantSays pool static ty n info now × (out ≡ with_constant seen now)))
    (cond (is_text name (codes "Synthetic"))
    ((seen.synthetic ≡ false) × ((info ≡ []) × (out ≡ record seen { synthetic = true })))
    (cond (is_text name (codes "Deprecated"))
    ((seen.deprecated ≡ false) × ((info ≡ []) × (out ≡ record seen { deprecated = true })))
    (out ≡ seen)))

-- the constant of a static field, and that of another one
constant_known : (pool : List Entry) (static : Bool) (ty : FieldType) (n : ℕ) (seen : FieldSeen) → AllNameRight pool
    → Exact (cond static (constant_seen pool ty seen) (dropped n (record seen { constant = Some None })))
    (Spells text (λ _ info out. (now : Option (Option Constant)) × ConstantSays pool static ty n info now
    × (out ≡ with_constant seen now)))
constant_known pool true ty n seen right = as_told
    (λ _ info out. (now : Option (Option Constant)) × ConstantSays pool true ty n info now
    × (out ≡ with_constant seen now))
    (λ at info out h. (Some h.0, (h.0, h.1, refl), h.2))
    (λ at info out h. (h.1.0, h.1.1, h.2 ∙ ap (with_constant seen) h.1.2))
    (map_exact (λ (value : Option Constant). with_constant seen (Some value)) (constant_exact pool ty right))
constant_known pool false ty n seen right = as_raw text _ (λ w. w.0) (λ info. (info, tt))
    (λ at w out h. (append-nil w.0, (Some None, (h.1.0, refl), h.2)))
    (λ at info out h. (sym (append-nil info), (info, (h.1.0, refl), h.2 ∙ ap (with_constant seen) h.1.1)))
    (bind_exact (λ skipped. give (with_constant seen (Some None))) nothing
    (λ _ _ u out. out ≡ with_constant seen (Some None)) (bytes_exact n)
    (λ _. give_exact (with_constant seen (Some None))))

field_knows : (pool : List Entry) (static : Bool) (ty : FieldType) → AllNameRight pool
    → (at : ℕ) (name : List ℕ) (n : ℕ) (seen : FieldSeen)
    → Knows (known_of_field pool static ty at name n seen) n seen (FieldDoes pool static ty at name n seen)
field_knows pool static ty right at name n seen =
    knows_if (is_text name (codes "ConstantValue")) _ _ n seen _ _
    (once_exact at (is_there seen.constant) (constant_known pool static ty n seen right))
    (knows_if (is_text name (codes "Synthetic")) _ _ n seen _ _
    (once_exact at seen.synthetic (give_text (record seen { synthetic = true })))
    (knows_if (is_text name (codes "Deprecated")) _ _ n seen
    (λ info out. (seen.deprecated ≡ false) × ((info ≡ []) × (out ≡ record seen { deprecated = true })))
    (λ info out. out ≡ seen)
    (once_exact at seen.deprecated (give_text (record seen { deprecated = true })))
    (λ info out. ((λ e. e), (λ e. e)))))

-- ---- what is seen of each name

-- what was seen at the end
pub record AreFieldAttributes (pool : List Entry) (static : Bool) (ty : FieldType) (all : List AttributeInfo)
    (out : FieldSeen) : Type 0 where
  pub attributes : AreAttributes pool all
  pub constant : Chain (ConstantOnce pool static ty) None (named pool (codes "ConstantValue") all) out.constant
  pub synthetic : IsMark (named pool (codes "Synthetic") all) out.synthetic
  pub deprecated : IsMark (named pool (codes "Deprecated") all) out.deprecated

-- what one attribute does to each part of what was seen
constant_changes : (pool : List Entry) (static : Bool) (ty : FieldType) (at : ℕ) (units : List ℕ) (n : ℕ)
    (seen : FieldSeen) (info : List ℕ) (out : FieldSeen) → is_text units (codes "ConstantValue") ≡ true
    → FieldDoes pool static ty at units n seen info out → ConstantOnce pool static ty seen.constant info out.constant
constant_changes pool static ty at units n seen info out e h =
    let d = rw e at h in (
      not_there seen.constant d.0,
      subst (λ
          (now : Option (Option Constant)). ConstantTold pool static ty info now)
          (sym (ap (λ (s : FieldSeen). s.constant) d.1.2)) (told_of pool static ty n info d.1.0 d.1.1),
    )

constant_stays : (pool : List Entry) (static : Bool) (ty : FieldType) (at : ℕ) (units : List ℕ) (n : ℕ)
    (seen : FieldSeen) (info : List ℕ) (out : FieldSeen) → is_text units (codes "ConstantValue") ≡ false
    → FieldDoes pool static ty at units n seen info out → out.constant ≡ seen.constant
constant_stays pool static ty at units n seen info out e h = by (is_text units (codes "Synthetic"))
    (is_text units (codes "Deprecated")) (rw e at h)
  where
    by : (a b : Bool) → cond a ((seen.synthetic ≡ false) × ((info ≡ []) × (out ≡ record seen { synthetic = true })))
        (cond b ((seen.deprecated ≡ false) × ((info ≡ []) × (out ≡ record seen { deprecated = true }))) (out ≡ seen))
        → out.constant ≡ seen.constant
    by true b d = ap (λ (s : FieldSeen). s.constant) d.1.1
    by false true d = ap (λ (s : FieldSeen). s.constant) d.1.1
    by false false d = ap (λ (s : FieldSeen). s.constant) d

synthetic_changes : (pool : List Entry) (static : Bool) (ty : FieldType) (at : ℕ) (units : List ℕ) (n : ℕ)
    (seen : FieldSeen) (info : List ℕ) (out : FieldSeen) → is_text units (codes "Synthetic") ≡ true
    → FieldDoes pool static ty at units n seen info out → Marks seen.synthetic info out.synthetic
synthetic_changes pool static ty at units n seen info out e h =
    let d = rw (other_name units (codes "Synthetic") (codes "ConstantValue") e refl, e) at h in
    (d.0, d.1.0, ap (λ (s : FieldSeen). s.synthetic) d.1.1)

synthetic_stays : (pool : List Entry) (static : Bool) (ty : FieldType) (at : ℕ) (units : List ℕ) (n : ℕ)
    (seen : FieldSeen) (info : List ℕ) (out : FieldSeen) → is_text units (codes "Synthetic") ≡ false
    → FieldDoes pool static ty at units n seen info out → out.synthetic ≡ seen.synthetic
synthetic_stays pool static ty at units n seen info out e h = by (is_text units (codes "ConstantValue"))
    (is_text units (codes "Deprecated")) (rw e at h)
  where
    by : (a b : Bool) → cond a ((is_there seen.constant ≡ false)
        × ((now : Option (Option Constant)) × ConstantSays pool static ty n info now × (out ≡ with_constant seen now)))
        (cond b ((seen.deprecated ≡ false) × ((info ≡ []) × (out ≡ record seen { deprecated = true }))) (out ≡ seen))
        → out.synthetic ≡ seen.synthetic
    by true b d = ap (λ (s : FieldSeen). s.synthetic) d.1.2
    by false true d = ap (λ (s : FieldSeen). s.synthetic) d.1.1
    by false false d = ap (λ (s : FieldSeen). s.synthetic) d

deprecated_changes : (pool : List Entry) (static : Bool) (ty : FieldType) (at : ℕ) (units : List ℕ) (n : ℕ)
    (seen : FieldSeen) (info : List ℕ) (out : FieldSeen) → is_text units (codes "Deprecated") ≡ true
    → FieldDoes pool static ty at units n seen info out → Marks seen.deprecated info out.deprecated
deprecated_changes pool static ty at units n seen info out e h =
    let d = rw (
      other_name units (codes "Deprecated") (codes "ConstantValue") e refl,
      other_name units
          (codes "Deprecated") (codes "Synthetic") e refl,
      e,
    ) at h in
    (d.0, d.1.0, ap (λ (s : FieldSeen). s.deprecated) d.1.1)

deprecated_stays : (pool : List Entry) (static : Bool) (ty : FieldType) (at : ℕ) (units : List ℕ) (n : ℕ)
    (seen : FieldSeen) (info : List ℕ) (out : FieldSeen) → is_text units (codes "Deprecated") ≡ false
    → FieldDoes pool static ty at units n seen info out → out.deprecated ≡ seen.deprecated
deprecated_stays pool static ty at units n seen info out e h = by (is_text units (codes "ConstantValue"))
    (is_text units (codes "Synthetic")) (rw e at h)
  where
    by : (a b : Bool) → cond a ((is_there seen.constant ≡ false)
        × ((now : Option (Option Constant)) × ConstantSays pool static ty n info now × (out ≡ with_constant seen now)))
        (cond b ((seen.synthetic ≡ false) × ((info ≡ []) × (out ≡ record seen { synthetic = true }))) (out ≡ seen))
        → out.deprecated ≡ seen.deprecated
    by true b d = ap (λ (s : FieldSeen). s.deprecated) d.1.2
    by false true d = ap (λ (s : FieldSeen). s.deprecated) d.1.1
    by false false d = ap (λ (s : FieldSeen). s.deprecated) d

-- the attributes of each name say what is seen of it
field_seen_found : (pool : List Entry) (static : Bool) (ty : FieldType) (at : ℕ) (all : List AttributeInfo)
    (out : FieldSeen) → length all < 2 ^ 16 → Steps pool (FieldDoes pool static ty) at all no_field_attribute out
    → AreFieldAttributes pool static ty all out
field_seen_found pool static ty at all out few h = record {
  attributes = record {
    count_fits = few;
    each = each_found pool
        (FieldDoes pool static ty) at all no_field_attribute out h;
  };
  constant = (chain_found pool (FieldDoes pool static ty) (codes "ConstantValue") (λ (s : FieldSeen). s.constant)
      (ConstantOnce pool static ty) (constant_changes pool static ty)
      (constant_stays pool static ty) at all no_field_attribute out h);
  synthetic = mark_found (named pool (codes "Synthetic") all) out.synthetic
      (chain_found pool (FieldDoes pool static ty) (codes "Synthetic") (λ (s : FieldSeen). s.synthetic) Marks
      (synthetic_changes pool static ty) (synthetic_stays pool static ty) at all no_field_attribute out h);
  deprecated = mark_found (named pool (codes "Deprecated") all) out.deprecated
      (chain_found pool (FieldDoes pool static ty) (codes "Deprecated") (λ (s : FieldSeen). s.deprecated) Marks
      (deprecated_changes pool static ty) (deprecated_stays pool static ty) at all no_field_attribute out h);
}

-- ---- and the other way

-- the attributes of each name, from what was seen to the end
abbrev Seen : List Entry → Bool → FieldType → List AttributeInfo → FieldSeen → FieldSeen → Type 0
Seen pool static ty all seen out = Chain (ConstantOnce pool static ty) seen.constant
    (named pool (codes "ConstantValue") all) out.constant
    × Chain Marks seen.synthetic (named pool (codes "Synthetic") all) out.synthetic
    × Chain Marks seen.deprecated (named pool (codes "Deprecated") all) out.deprecated

field_steps : (pool : List Entry) (static : Bool) (ty : FieldType) (at : ℕ) (all : List AttributeInfo)
    (seen out : FieldSeen) → AllByRecursion (IsAttribute pool) all → Seen pool static ty all seen out
    → Steps pool (FieldDoes pool static ty) at all seen out
field_steps pool static ty at [] seen out each h =
    λ i. record { constant = h.0 i; synthetic = h.1 i; deprecated = h.2 i }
field_steps pool static ty at (a ∷ rest) seen out each h =
    by (is_text units (codes "ConstantValue")) (is_text units (codes "Synthetic"))
    (is_text units (codes "Deprecated")) refl refl refl
    (λ now k. field_steps pool static ty (at + length (attribute_info a)) rest now out each.1 k)
  where
    units : List ℕ
    units = each.0.name

    skipped : (name : List ℕ) → is_text units name ≡ false → named pool name (a ∷ rest) ≡ named pool name rest
    skipped name e = not_named pool name units a rest each.0.named e

    taken : (name : List ℕ) → is_text units name ≡ true → named pool name (a ∷ rest) ≡ a ∷ named pool name rest
    taken name e = is_first pool name units a rest each.0.named e

    step : (now : FieldSeen) → FieldDoes pool static ty at units (length a.info) seen a.info now
        → Step pool (FieldDoes pool static ty) at a seen now
    step now does = (each.0.index_fits, units, each.0.named, each.0.length_fits, does)

    constant_on : (name : List ℕ) → is_text units name ≡ true → is_text name (codes "ConstantValue") ≡ false
        → Chain (ConstantOnce pool static ty) seen.constant (named pool (codes "ConstantValue") rest) out.constant
    constant_on name e differ = subst
        (λ (l : List AttributeInfo). Chain (ConstantOnce pool static ty) seen.constant l out.constant)
        (skipped (codes "ConstantValue") (other_name units name (codes "ConstantValue") e differ)) h.0

    synthetic_on : is_text units (codes "Synthetic") ≡ false
        → Chain Marks seen.synthetic (named pool (codes "Synthetic") rest) out.synthetic
    synthetic_on e = subst (λ (l : List AttributeInfo). Chain Marks seen.synthetic l out.synthetic)
        (skipped (codes "Synthetic") e) h.1

    deprecated_on : is_text units (codes "Deprecated") ≡ false
        → Chain Marks seen.deprecated (named pool (codes "Deprecated") rest) out.deprecated
    deprecated_on e = subst (λ (l : List AttributeInfo). Chain Marks seen.deprecated l out.deprecated)
        (skipped (codes "Deprecated") e) h.2

    by : (s y d : Bool) → is_text units (codes "ConstantValue") ≡ s → is_text units (codes "Synthetic") ≡ y
        → is_text units (codes "Deprecated") ≡ d
        → ((now : FieldSeen) → Seen pool static ty rest now out
        → Steps pool (FieldDoes pool static ty) (at + length (attribute_info a)) rest now out)
        → Steps pool (FieldDoes pool static ty) at (a ∷ rest) seen out
    by true y d es ey ed others =
        let c = subst (λ (l : List AttributeInfo). Chain (ConstantOnce pool static ty) seen.constant l out.constant)
        (taken (codes "ConstantValue") es) h.0 in
        let now : FieldSeen = with_constant seen c.0 in
        let does : FieldDoes pool static ty at units (length a.info) seen a.info now = rw es
        (ap is_there c.1.0, (c.0, says_of pool static ty a.info c.0 c.1.1, refl)) in (
          now,
          step now does,
          others now (
            c.2,
            synthetic_on (other_name units (codes "ConstantValue") (codes "Synthetic") es refl),
            deprecated_on
                (other_name units (codes "ConstantValue") (codes "Deprecated") es refl),
          ),
        )
    by false true d es ey ed others =
        let c = subst (λ (l : List AttributeInfo). Chain Marks seen.synthetic l out.synthetic)
        (taken (codes "Synthetic") ey) h.1 in
        let now : FieldSeen = record seen { synthetic = c.0 } in
        let does : FieldDoes pool static ty at units (length a.info) seen a.info now = rw (es, ey)
        (c.1.0, (c.1.1, ap (λ (o : Bool). let S : FieldSeen = record seen { synthetic = o } in S) c.1.2)) in (
          now,
          step now does,
          others now (
            constant_on (codes "Synthetic") ey refl,
            c.2,
            deprecated_on
                (other_name units (codes "Synthetic") (codes "Deprecated") ey refl),
          ),
        )
    by false false true es ey ed others =
        let c = subst (λ (l : List AttributeInfo). Chain Marks seen.deprecated l out.deprecated)
        (taken (codes "Deprecated") ed) h.2 in
        let now : FieldSeen = record seen { deprecated = c.0 } in
        let does : FieldDoes pool static ty at units (length a.info) seen a.info now = rw (es, ey, ed)
        (c.1.0, (c.1.1, ap (λ (o : Bool). let S : FieldSeen = record seen { deprecated = o } in S) c.1.2)) in
        (now, step now does, others now (constant_on (codes "Deprecated") ed refl, synthetic_on ey, c.2))
    by false false false es ey ed others =
        let does : FieldDoes pool static ty at units (length a.info) seen a.info seen = rw (es, ey, ed) refl in (
          seen,
          step seen does,
          others seen (
            subst (λ (l : List AttributeInfo). Chain (ConstantOnce pool static ty) seen.constant l out.constant)
                (skipped (codes "ConstantValue") es) h.0,
            synthetic_on ey,
            deprecated_on ed,
          ),
        )

-- the attributes of a field, behind their count, are read exactly where they are spelled
pub field_attributes_exact : (pool : List Entry) (static : Bool) (ty : FieldType) → AllNameRight pool
    → Exact (counted_attributes pool (known_of_field pool static ty) no_field_attribute)
    (Spells (λ all. to_be_bytes w16 (length all) ++ flat_map attribute_info all)
    (λ _ all out. AreFieldAttributes pool static ty all out))
field_attributes_exact pool static ty right = as_raw _ _ (λ all. all) (λ all. all)
    (λ at all out h. (refl, field_seen_found pool static ty (at + 2) all out h.0 h.1))
    (λ at all out h. (
      refl,
      (
        h.attributes.count_fits,
        field_steps pool static ty (at + 2) all no_field_attribute out h.attributes.each (
          h.constant,
          mark_only (named pool (codes "Synthetic") all) out.synthetic h.synthetic,
          mark_only
              (named pool (codes "Deprecated") all) out.deprecated h.deprecated,
        ),
      ),
    ))
    (counted_exact pool (known_of_field pool static ty) (FieldDoes pool static ty)
    (λ at name n seen. field_knows pool static ty right at name n seen) no_field_attribute)

-- ---- the constant of the field

-- the constant that is seen is the field's
pub constants_found : (pool : List Entry) (static : Bool) (ty : FieldType) (all : List AttributeInfo)
    (seen : Option (Option Constant)) → Chain (ConstantOnce pool static ty) None all seen
    → AreConstants pool static ty all (constant_of seen)
constants_found pool static ty [] seen h = ap constant_of h
constants_found pool true ty (a ∷ []) seen h = subst
    (λ (o : Option (Option Constant)). IsConstantValue pool ty a.info (constant_of o)) (sym (h.2 ∙ h.1.1.2)) h.1.1.1
constants_found pool false ty (a ∷ []) seen h = ap constant_of (h.2 ∙ h.1.1)
constants_found pool true ty (a ∷ b ∷ others) seen h = let e : Some h.1.1.0 ≡ None = sym h.1.1.2 ∙ h.2.1.0 in absurd cc
constants_found pool false ty (a ∷ b ∷ others) seen h = let e : Some None ≡ None = sym h.1.1 ∙ h.2.1.0 in absurd cc

-- the constant of the field is seen
pub constants_only : (pool : List Entry) (static : Bool) (ty : FieldType) (all : List AttributeInfo)
    (value : Option Constant) → AreConstants pool static ty all value
    → (seen : Option (Option Constant)) × Chain (ConstantOnce pool static ty) None all seen × (constant_of seen ≡ value)
constants_only pool true ty [] value h = (None, refl, sym h)
constants_only pool false ty [] value h = (None, refl, sym h)
constants_only pool true ty (a ∷ []) value h = (Some value, (Some value, (refl, (value, h, refl)), refl), refl)
constants_only pool false ty (a ∷ []) value h = (Some None, (Some None, (refl, refl), refl), sym h)
constants_only pool true ty (a ∷ b ∷ others) value h = absurd h
constants_only pool false ty (a ∷ b ∷ others) value h = absurd h
