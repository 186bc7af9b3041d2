-- Codes beside one another, with their lines where these are kept.
use Rattle.std.proofs.Common.{◌≡◌, Bool, true, false, List, [], ◌∷◌, Option, Some, None, map, refl, sym, ap, subst, ◌∙◌}
use Rattle.std.specs.Prelude.{◌↔◌, IfOk, IsTrue, Result, Ok, Err, if◌then◌else◌}
use Rattle.class_model.specs.declared.class.Method.{Method}
use Rattle.class_model.specs.declared.code.Code.{Code}
use Rattle.class_model.specs.declared.code.Ins.{Ins}
use Rattle.attribute_filter.specs.Filtered.{code_kept, without_line, without_lines}
use Rattle.attribute_filter.specs.declared.filter.AttributeFilter.{AttributeFilter}
use Rattle.mapping_file.specs.declared.mapping.Mapping.{Mapping}
use Rattle.class_rename.specs.Renamed.{renamed_handler, renamed_ins}
use Rattle.new_names.specs.Mapped.{mapped_ins_if}
use Rattle.class_rename.specs.Names.{Names}
use Rattle.new_names.specs.NewNames.{names_of}
use Rattle.pair_clauses.specs.Codes.{AreSameCodes, IsSameCode}

-- what follows from what a clause says of the value
pub ok_on : {X E : Type 0} (r : Result X E) {P Q : X → Type 0} → ((x : X) → P x → Q x) → IfOk r P → IfOk r Q
ok_on (Ok x) f p = f x p
ok_on (Err e) f p = tt

module _ (names : Names) where
  with_lines : (ins : List Ins) → map (mapped_ins_if names true) ins ≡ map (renamed_ins names) ins
  with_lines [] = refl
  with_lines (i ∷ is) = ap (λ (xs : List Ins). renamed_ins names i ∷ xs) (with_lines is)

  bare : (ins : List Ins) → map (mapped_ins_if names false) ins ≡ map (renamed_ins names) (map without_line ins)
  bare [] = refl
  bare (i ∷ is) = ap (λ (xs : List Ins). renamed_ins names (without_line i) ∷ xs) (bare is)

-- the parts of a code are alike, and so is the code
pub same_code : (mapping : Mapping) (lines : Bool) (code out : Code) (old new : List Ins) → old ≡ code.ins
    → new ≡ out.ins
    → map (renamed_handler (names_of mapping)) code.handlers ≡ out.handlers → (same : Bool)
    → (IsTrue same ↔ (map (mapped_ins_if (names_of mapping) lines) old ≡ new))
    → IsTrue same ↔ IsSameCode mapping (if lines then code else without_lines code) out
same_code mapping true code out old new eo en handlers same answer = (
  (λ t. record {
    ins = sym (with_lines (names_of mapping) code.ins)
        ∙ ap (map (mapped_ins_if (names_of mapping) true)) (sym eo) ∙ answer.0 t ∙ en;
    handlers = handlers;
  }),
  (λ s. answer.1
      (ap (map (mapped_ins_if (names_of mapping) true)) eo ∙ with_lines (names_of mapping) code.ins ∙ s.ins ∙ sym en)),
)
same_code mapping false code out old new eo en handlers same answer = (
  (λ t. record {
    ins = sym (bare (names_of mapping) code.ins)
        ∙ ap (map (mapped_ins_if (names_of mapping) false)) (sym eo) ∙ answer.0 t ∙ en;
    handlers = handlers;
  }),
  (λ s. answer.1
      (ap (map (mapped_ins_if (names_of mapping) false)) eo ∙ bare (names_of mapping) code.ins ∙ s.ins ∙ sym en)),
)

-- a method that is there has a body exactly where some method that is there has
body_there : (there : Option Method) (m : Method) (F : Option Code → Type 0) → there ≡ Some m → (fact : Type 0)
    → (fact ↔ F m.code) → fact ↔ ((x : Method) × (there ≡ Some x) × F x.code)
body_there there m F is fact same = (
  (λ t. (m, is, same.0 t)),
  (λ s. let h : Some s.0 ≡ Some m = sym s.1 ∙ is in
      let e : s.0 ≡ m = cc in
      same.1 (subst (λ (y : Method). F y.code) e s.2)),
)

kept_some : (filter : AttributeFilter) (code : Code)
    → Some (if filter.line_numbers then code else without_lines code) ≡ code_kept filter (Some code)
kept_some filter code = by filter.line_numbers
  where
    by : (b : Bool)
        → Some (if b then code else without_lines code) ≡ (if b then Some code else Some (without_lines code))
    by true = refl
    by false = refl

module _ (mapping : Mapping) (filter : AttributeFilter) (there : Option Method) (m : Method) (is : there ≡ Some m)
    (old : Option Code) where
  -- two codes, which are alike or not
  pub both_bodies : (code out : Code) → old ≡ Some code → m.code ≡ Some out → (same : Bool)
      → (IsTrue same ↔ IsSameCode mapping (if filter.line_numbers then code else without_lines code) out)
      → IsTrue same ↔ ((x : Method) × (there ≡ Some x) × AreSameCodes mapping (code_kept filter old) x.code)
  both_bodies code out eo en same answer =
      let kept : Some (if filter.line_numbers then code else without_lines code) ≡ code_kept filter old =
      kept_some filter code ∙ ap (code_kept filter) (sym eo) in
      body_there there m (AreSameCodes mapping (code_kept filter old)) is (IsTrue same) (
      subst (λ (o : Option Code). IsTrue same ↔ AreSameCodes mapping (code_kept filter old) o) (sym en)
      (subst (λ (o : Option Code). IsTrue same ↔ AreSameCodes mapping o (Some out)) kept answer)
      )

  -- none on either side
  pub no_bodies : old ≡ None → m.code ≡ None
      → IsTrue true ↔ ((x : Method) × (there ≡ Some x) × AreSameCodes mapping (code_kept filter old) x.code)
  no_bodies eo en =
      let kept : None ≡ code_kept filter old = kept_none filter.line_numbers None ∙ ap (code_kept filter) (sym eo) in
      body_there there m (AreSameCodes mapping (code_kept filter old)) is (IsTrue true) (
      subst (λ (o : Option Code). IsTrue true ↔ AreSameCodes mapping (code_kept filter old) o) (sym en)
      (subst (λ (o : Option Code). IsTrue true ↔ AreSameCodes mapping o None) kept ((λ t. tt), (λ t. refl)))
      )
    where
      kept_none : (b : Bool) (none : Option Code) → none ≡ (if b then none else none)
      kept_none true none = refl
      kept_none false none = refl
