-- The methods whose codes the passes edit: new codes and entries of the witness are theirs, in the order of the set.
use Rattle.std.proofs.Common.{◌≡◌, ◌⊎◌, ◌<◌, inl, inr, ℕ, suc, ◌+◌, ◌&&◌, Bool, true, false, cond, List, [], ◌∷◌, ◌++◌}
use Rattle.std.proofs.Common.{map, length, take, Some, slice_get, is_some, refl, sym, ap, subst, ◌∙◌, arith}
use Rattle.std.specs.List.{AllByRecursion}
use Rattle.std.proofs.lemmas.Bool.{and_parts}
use Rattle.std.proofs.lemmas.List.Sums.{sum_by-cons}
use Rattle.jv_base.specs.Types.{method_text}
use Rattle.jv_base.proofs.Lists.{all_append}
use Rattle.class_model.specs.declared.class.Class.{Class}
use Rattle.class_model.specs.declared.class.Method.{Method}
use Rattle.class_model.specs.declared.code.Code.{Code}
use Rattle.class_pool.specs.Count.{items_of}
use Rattle.class_pool.specs.Items.{class_item}
use Rattle.code_edit.specs.declared.act.MethodEdits.{MethodEdits}
use Rattle.member_shrink.specs.Shrunk.{is_marked}
use Rattle.pass_driver.specs.Optimised.{AreDone, IsAt, class_spots, code_for, entry_for, method_spots, spots}
use Rattle.pass_driver.specs.Outcomes.{IsOutcome}
use Rattle.pass_driver.specs.Stepped.{AreSteps, has_act, stepped}
use Rattle.pass_driver.specs.declared.judging.Outcome.{Outcome}
use Rattle.pass_driver.specs.declared.judging.Outcome.TheVariants.{Own, Edited, Fallback}
use Rattle.pass_driver.specs.declared.optimising.NewCode.{NewCode}
use Rattle.pass_driver.specs.declared.spots.Spot.{Spot}
use Rattle.witness_file.specs.declared.witness.MethodWitness.{MethodWitness}

-- ---- the order of spots

-- class after class, method after method
abbrev pub IsBelow : Spot → Spot → Type 0
IsBelow s t = (s.class < t.class) ⊎ ((s.class ≡ t.class) × (s.method < t.method))

abbrev pub Ascend : List Spot → Type 0
Ascend [] = Unit {0}
Ascend (s ∷ spots) = AllByRecursion (IsBelow s) spots × Ascend spots

ascend_both : (xs ys : List Spot) → Ascend xs → Ascend ys → AllByRecursion (λ (s : Spot). AllByRecursion (IsBelow s) ys) xs
    → Ascend (xs ++ ys)
ascend_both [] ys first then_ys below = then_ys
ascend_both (x ∷ xs) ys first then_ys below =
    (all_append (IsBelow x) xs ys first.0 below.0, ascend_both xs ys first.1 then_ys below.1)

module _ (marks : List Bool) where
  -- what holds of each marked method with a code holds of each spot of a class
  method_all : (P : Spot → Type 0) (own item number : ℕ) (ms : List Method)
      → ((k : ℕ) (m : Method) → slice_get ms k ≡ Some m → is_marked marks (item + k) ≡ true
      → P (record { class = own; method = number + k }))
      → AllByRecursion P (method_spots marks own item number ms)
  method_all P own item number [] each = tt
  method_all P own item number (m ∷ ms) each =
      all_append P (cond (is_marked marks item && is_some m.code) (record { class = own; method = number } ∷ []) [])
      (method_spots marks own (suc item) (suc number) ms)
      (by (is_marked marks item && is_some m.code) refl)
      (method_all P own (suc item) (suc number) ms (λ k x at marked.
      let next : suc number + k ≡ number + suc k = omega arith in
      let same : suc item + k ≡ item + suc k = omega arith in
      subst (λ (i : ℕ). P (record { class = own; method = i })) (sym next)
      (each (suc k) x at (ap (is_marked marks) (sym same) ∙ marked))))
    where
      by : (b : Bool) → (is_marked marks item && is_some m.code) ≡ b
          → AllByRecursion P (cond b (record { class = own; method = number } ∷ []) [])
      by false is = tt
      by true is =
          let first : number + 0 ≡ number = omega arith in
          let here : item + 0 ≡ item = omega arith in (
            subst (λ (i : ℕ). P (record { class = own; method = i })) first
                (each 0 m refl (ap (is_marked marks) here
                ∙ (and_parts (is_marked marks item) (is_some m.code) is).0)),
            tt,
          )

  -- so it is of the spots of classes
  class_all : (P : Spot → Type 0) (own item : ℕ) (cs : List Class)
      → ((n : ℕ) (c : Class) → slice_get cs n ≡ Some c → (k : ℕ) (m : Method) → slice_get c.methods k ≡ Some m
      → is_marked marks (item + class_item cs n + 1 + (length c.fields + k)) ≡ true
      → P (record { class = own + n; method = k }))
      → AllByRecursion P (class_spots marks own item cs)
  class_all P own item [] each = tt
  class_all P own item (c ∷ cs) each =
      all_append P (method_spots marks own (item + 1 + length c.fields) 0 c.methods)
      (class_spots marks (suc own) (item + items_of c) cs)
      (method_all P own (item + 1 + length c.fields) 0 c.methods (λ k m at marked.
      let first : own + 0 ≡ own = omega arith in
      let number : 0 + k ≡ k = omega arith in
      let same : item + 1 + length c.fields + k ≡ item + 0 + 1 + (length c.fields + k) = omega arith in
      subst (λ (i : ℕ). P (record { class = own; method = i })) (sym number)
      (subst (λ (i : ℕ). P (record { class = i; method = k })) first
      (each 0 c refl k m at (ap (is_marked marks) (sym same) ∙ marked)))))
      (class_all P (suc own) (item + items_of c) cs (λ n d at k m in_methods marked.
      let next : suc own + n ≡ own + suc n = omega arith in
      let more : class_item (c ∷ cs) (suc n) ≡ items_of c + class_item cs n = sum_by-cons items_of c (take n cs) in
      let same : item + items_of c + class_item cs n + 1 + (length d.fields + k)
      ≡ item + class_item (c ∷ cs) (suc n) + 1 + (length d.fields + k) = omega (arith, more) in
      subst (λ (i : ℕ). P (record { class = i; method = k })) (sym next)
      (each (suc n) d at k m in_methods (ap (is_marked marks) (sym same) ∙ marked))))

  methods_ascend : (own item number : ℕ) (ms : List Method) → Ascend (method_spots marks own item number ms)
  methods_ascend own item number [] = tt
  methods_ascend own item number (m ∷ ms) =
      ascend_both (cond (is_marked marks item && is_some m.code) (record { class = own; method = number } ∷ []) [])
      (method_spots marks own (suc item) (suc number) ms)
      (alone (is_marked marks item && is_some m.code)) (methods_ascend own (suc item) (suc number) ms)
      (below (is_marked marks item && is_some m.code))
    where
      alone : (b : Bool) → Ascend (cond b (record { class = own; method = number } ∷ []) [])
      alone true = (tt, tt)
      alone false = tt

      below : (b : Bool)
          → AllByRecursion (λ (s : Spot). AllByRecursion (IsBelow s) (method_spots marks own (suc item) (suc number) ms))
          (cond b (record { class = own; method = number } ∷ []) [])
      below true = (
        method_all (IsBelow (record { class = own; method = number })) own (suc item) (suc number) ms
            (λ k x at marked. inr (refl, omega arith)),
        tt,
      )
      below false = tt

  classes_ascend : (own item : ℕ) (cs : List Class) → Ascend (class_spots marks own item cs)
  classes_ascend own item [] = tt
  classes_ascend own item (c ∷ cs) =
      ascend_both (method_spots marks own (item + 1 + length c.fields) 0 c.methods)
      (class_spots marks (suc own) (item + items_of c) cs)
      (methods_ascend own (item + 1 + length c.fields) 0 c.methods) (classes_ascend (suc own) (item + items_of c) cs)
      (method_all (λ (s : Spot). AllByRecursion (IsBelow s) (class_spots marks (suc own) (item + items_of c) cs)) own
      (item + 1 + length c.fields) 0 c.methods (λ k m at marked.
      class_all (IsBelow (record { class = own; method = 0 + k })) (suc own) (item + items_of c) cs
      (λ n d there j x in_methods is. inl (omega arith))))

-- spots ascend, each of a marked method
pub spots_ascend : (marks : List Bool) (classes : List Class) → Ascend (spots marks classes)
spots_ascend marks classes = classes_ascend marks 0 0 classes

-- a spot is that of a marked method
abbrev pub IsMarkedAt : List Bool → List Class → Spot → Type 0
IsMarkedAt marks classes s = (c : Class) × (m : Method) × (slice_get classes s.class ≡ Some c)
    × (slice_get c.methods s.method ≡ Some m)
    × (is_marked marks (class_item classes s.class + 1 + (length c.fields + s.method)) ≡ true)

pub spots_marked : (marks : List Bool) (classes : List Class)
    → AllByRecursion (IsMarkedAt marks classes) (spots marks classes)
spots_marked marks classes =
    class_all marks (IsMarkedAt marks classes) 0 0 classes (λ n c at k m in_methods marked.
    let place : 0 + n ≡ n = omega arith in
    let item : 0 + class_item classes n + 1 + (length c.fields + k) ≡ class_item classes n + 1 + (length c.fields + k) =
    omega arith in
    subst (λ (i : ℕ). IsMarkedAt marks classes (record { class = i; method = k })) (sym place)
    (c, m, at, in_methods, ap (is_marked marks) (sym item) ∙ marked))

-- ---- edited methods

-- a method whose code is edited: where it stands, its code, and the acts
pub record EditedMethod : Type 0 where
  pub spot : Spot
  pub class : Class
  pub method : Method
  pub own : Code
  pub edits : MethodEdits

abbrev pub new_of : EditedMethod → NewCode
new_of d = record { class = d.spot.class; method = d.spot.method; code = stepped d.edits.steps d.own }

abbrev pub entry_of : EditedMethod → MethodWitness
entry_of d = record { class = d.class.name; name = d.method.name; ty = method_text d.method.ty; edits = d.edits }

pub record IsEditedMethod (classes : List Class) (d : EditedMethod) : Type 0 where
  pub at : IsAt classes d.spot d.class d.method d.own
  pub steps : AreSteps d.edits.steps d.own
  pub act : has_act d.edits.steps ≡ true

-- they stand in the order of the set
abbrev pub AreOrdered : List EditedMethod → Type 0
AreOrdered [] = Unit {0}
AreOrdered (d ∷ ds) = AllByRecursion (λ (e : EditedMethod). IsBelow d.spot e.spot) ds × AreOrdered ds

-- the edited methods of spots
record Gathered (classes : List Class) (spots : List Spot) (codes : List NewCode) (entries : List MethodWitness) : Type 1
  where
    edited : List EditedMethod
    are : AllByRecursion (IsEditedMethod classes) edited
    codes_are : codes ≡ map new_of edited
    entries_are : entries ≡ map entry_of edited
    among : (P : Spot → Type 0) → AllByRecursion P spots → AllByRecursion (λ (d : EditedMethod). P d.spot) edited
    ordered : Ascend spots → AreOrdered edited

module _ (classes : List Class) where
  gather_one : (s : Spot) (spots : List Spot) (c : Class) (m : Method) (code : Code) → IsAt classes s c m code
      → (outcome : Outcome) → IsOutcome classes s.class s.method code outcome
      → (codes others : List NewCode) (entries behind : List MethodWitness) → Gathered classes spots others behind
      → codes ≡ code_for s outcome ++ others → entries ≡ entry_for c m outcome ++ behind
      → Gathered classes (s ∷ spots) codes entries
  gather_one s spots c m code at Own is codes others entries behind r has told = record {
    edited = r.edited;
    are = r.are;
    codes_are = has ∙ r.codes_are;
    entries_are = told ∙ r.entries_are;
    among = λ P all. r.among P all.1;
    ordered = λ o. r.ordered o.1;
  }
  gather_one s spots c m code at Fallback is codes others entries behind r has told = record {
    edited = r.edited;
    are = r.are;
    codes_are = has ∙ r.codes_are;
    entries_are = told ∙ r.entries_are;
    among = λ P all. r.among P all.1;
    ordered = λ o. r.ordered o.1;
  }
  gather_one s spots c m code at (Edited after edits) is codes others entries behind r has told =
      let d : EditedMethod = record { spot = s; class = c; method = m; own = code; edits = edits } in
      record {
        edited = d ∷ r.edited;
        are = (record { at = at; steps = is.0; act = is.1 }, r.are);
        codes_are = has ∙ (λ i. record { class = s.class; method = s.method; code = is.2 i } ∷ r.codes_are i);
        entries_are = told ∙ ap (λ (es : List MethodWitness). entry_of d ∷ es) r.entries_are;
        among = λ P all. (all.0, r.among P all.1);
        ordered = λ o. (r.among (IsBelow s) o.0, r.ordered o.1);
      }

  gathered : (spots : List Spot) (codes : List NewCode) (entries : List MethodWitness) (fallbacks : ℕ)
      → AreDone classes spots codes entries fallbacks → Gathered classes spots codes entries
  gathered [] codes entries fallbacks h = record {
    edited = [];
    are = tt;
    codes_are = h.0;
    entries_are = h.1;
    among = λ P all. tt;
    ordered = λ o. tt;
  }
  gathered (s ∷ spots) codes entries fallbacks h =
      gather_one s spots h.0 h.1 h.2 h.3 h.4 h.5 codes h.6 entries h.7 (gathered spots h.6 h.7 h.8 h.12) h.9 h.10

-- the edited methods of a set, as new codes and a witness tell them
pub record AreEdited (marks : List Bool) (classes : List Class) (codes : List NewCode) (entries : List MethodWitness)
    : Type 0 where
  pub edited : List EditedMethod
  pub are : AllByRecursion (IsEditedMethod classes) edited
  pub codes_are : codes ≡ map new_of edited
  pub entries_are : entries ≡ map entry_of edited
  pub marked : AllByRecursion (λ (d : EditedMethod). IsMarkedAt marks classes d.spot) edited
  pub ordered : AreOrdered edited

pub are_edited : (marks : List Bool) (classes : List Class) (codes : List NewCode) (entries : List MethodWitness)
    (fallbacks : ℕ) → AreDone classes (spots marks classes) codes entries fallbacks
    → AreEdited marks classes codes entries
are_edited marks classes codes entries fallbacks h =
    let g = gathered classes (spots marks classes) codes entries fallbacks h in
    record {
      edited = g.edited;
      are = g.are;
      codes_are = g.codes_are;
      entries_are = g.entries_are;
      marked = g.among (IsMarkedAt marks classes) (spots_marked marks classes);
      ordered = g.ordered (spots_ascend marks classes);
    }

-- none are edited of a set that stays as it is
pub none_edited : (marks : List Bool) (classes : List Class) → AreEdited marks classes [] []
none_edited marks classes =
    record { edited = []; are = tt; codes_are = refl; entries_are = refl; marked = tt; ordered = tt }
