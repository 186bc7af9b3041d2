-- Steps along chains of gotos come to their ends.
use Rattle.std.proofs.Common.{ℕ, zero, suc, ◌+◌, ◌-◌, ◌*◌, ◌<◌, ◌≤◌, List, [], ◌∷◌, Option, Some, None}
use Rattle.std.proofs.Common.{Bool, true, false, ◌≡◌, ◌⊎◌, inl, inr, refl, sym, ap, ◌∙◌, subst, arith}
use Rattle.std.specs.Prelude.{length, map, slice_get, slice_index_or, if◌then◌else◌}
use Rattle.std.specs.List.{AllByRecursion}
use Rattle.std.specs.Option.{option_map_or}
use Rattle.jv_base.proofs.Lists.{found_at}
use Rattle.class_model.specs.declared.code.Code.{Code}
use Rattle.class_model.specs.declared.code.Ins.{Ins}
use Rattle.class_model.specs.declared.op.Op.{Op}
use Rattle.class_model.specs.declared.op.Op.TheVariants as op
use Rattle.code_edit.specs.Flow.{of_ins, targets}
use Rattle.code_edit.specs.Jumps.{Leads, LeadsTo, is_goto}
use Rattle.code_edit.specs.Passes.{EndIs, TellsEnds}
use Rattle.code_edit.specs.Rewriting.{map_from}
use Rattle.code_edit.specs.SoundCode.{IsSound}
use Rattle.edit_passes.specs.Chains.{IsTable, doubled, ends_in, goes_to, step, stepped, steps_of}
use Rattle.edit_passes.specs.Chains.{walk}
use Rattle.edit_tables.proofs.Chains.{First, first_bound, leads_first}
use Rattle.edit_tables.proofs.Staying.{from_long}

-- ---- steps

goes_stays : (at : ℕ) (o : Op) → is_goto o ≡ false → goes_to at o ≡ at
goes_stays at (op.Goto to) e = absurd cc
goes_stays at o e = refl

goto_or_not : (o : Op) → ((to : ℕ) × (o ≡ op.Goto to)) ⊎ (is_goto o ≡ false)
goto_or_not (op.Goto to) = inl (to, refl)
goto_or_not o = inr refl

module _ (code : Code) where
  walk_more : (a b at : ℕ) → walk code (a + b) at ≡ walk code b (walk code a at)
  walk_more zero b at = let e : 0 + b ≡ b = omega arith in ap (λ n. walk code n at) e
  walk_more (suc a) b at =
      let e : suc a + b ≡ suc (a + b) = omega arith in
      ap (λ n. walk code n at) e ∙ walk_more a b (step code at)

  step_goto : (at to : ℕ) (i : Ins) → slice_get code.ins at ≡ Some i → i.op ≡ op.Goto to
      → step code at ≡ to
  step_goto at to i e o = ap (stepped at) e ∙ ap (goes_to at) o

  step_stays : (at : ℕ) → of_ins is_goto code at ≡ false → step code at ≡ at
  step_stays at none = by (slice_get code.ins at) none
    where
      by : (o : Option Ins) → option_map_or (λ (i : Ins). is_goto i.op) o false ≡ false
          → stepped at o ≡ at
      by None q = refl
      by (Some i) q = goes_stays at i.op q

  walk_stays : (n at : ℕ) → of_ins is_goto code at ≡ false → walk code n at ≡ at
  walk_stays zero at none = refl
  walk_stays (suc n) at none =
      ap (walk code n) (step_stays at none) ∙ walk_stays n at none

  walk_leads : (n from : ℕ) → LeadsTo code from (walk code n from)
  walk_leads zero from = (0, refl)
  walk_leads (suc n) from = by (slice_get code.ins from) refl (λ to. walk_leads n to)
    where
      goes : (i : Ins) → slice_get code.ins from ≡ Some i
          → ((to : ℕ) × (i.op ≡ op.Goto to)) ⊎ (is_goto i.op ≡ false)
          → ((to : ℕ) → LeadsTo code to (walk code n to))
          → LeadsTo code from (walk code n (step code from))
      goes i e (inl g) rest =
          let r = rest g.0 in
          let same = step_goto from g.0 i e g.1 in (
            suc r.0,
            (
              i,
              g.0,
              e,
              g.1,
              subst (λ t. Leads code r.0 g.0 (walk code n t)) (sym same) r.1,
            ),
          )
      goes i e (inr q) rest =
          let same : step code from ≡ from = ap (stepped from) e ∙ goes_stays from i.op q in
          subst (λ t. LeadsTo code from (walk code n t)) (sym same) (rest from)

      by : (o : Option Ins) → slice_get code.ins from ≡ o
          → ((to : ℕ) → LeadsTo code to (walk code n to))
          → LeadsTo code from (walk code n (step code from))
      by None e rest =
          let same : step code from ≡ from = ap (stepped from) e in
          subst (λ t. LeadsTo code from (walk code n t)) (sym same) (rest from)
      by (Some i) e rest = goes i e (goto_or_not i.op) rest

  first_walk : (to m from : ℕ) → First code to m from → walk code (suc m) from ≡ to
  first_walk to zero from x = step_goto from to x.0 x.1 x.2
  first_walk to (suc m) from x =
      ap (walk code (suc m)) (step_goto from x.0 x.1.0 x.1.1 x.1.2) ∙ first_walk to m x.0 x.3

  -- as many steps as there are instructions come to the end of a chain
  comes : (n from to k : ℕ) → length code.ins ≤ n → of_ins is_goto code to ≡ false
      → Leads code k from to → walk code n from ≡ to
  comes n from to zero le none l =
      ap (walk code n) l ∙ walk_stays n to none
  comes n from to (suc k) le none l =
      let f = leads_first code to k from l in
      let b = first_bound code to f.0 from f.1 in
      let e : n ≡ suc f.0 + (n - suc f.0) = omega (arith, b, le) in
      ap (λ m. walk code m from) e ∙ walk_more (suc f.0) (n - suc f.0) from
      ∙ ap (walk code (n - suc f.0)) (first_walk to f.0 from f.1)
      ∙ walk_stays (n - suc f.0) to none

  pub ends_told : (table : List ℕ) (n : ℕ) → length code.ins ≤ n → IsTable code n table
      → TellsEnds code (ends_in table code)
  ends_told table n le is from lt =
      by (of_ins is_goto code (slice_index_or table from from)) refl
    where
      read : slice_index_or table from from ≡ walk code n from
      read = is.at from lt

      by : (b : Bool) → of_ins is_goto code (slice_index_or table from from) ≡ b
          → EndIs code from (if b then None else Some (slice_index_or table from from))
      by true q = λ to end.
          let same = comes n from to end.0.0 le end.1 end.0.1 in
          let no : true ≡ false =
          sym q ∙ ap (of_ins is_goto code) (read ∙ same) ∙ end.1 in absurd cc
      by false q = (subst (LeadsTo code from) (sym read) (walk_leads n from), q)

-- ---- tables

from_read : (f : ℕ → Ins → ℕ) (j : ℕ) (ins : List Ins) (k d : ℕ) (i : Ins)
    → slice_get ins k ≡ Some i → slice_index_or (map_from f j ins) k d ≡ f (j + k) i
from_read f j [] k d i e = absurd cc
from_read f j (x ∷ ins) zero d i e =
    let same : x ≡ i = cc in
    let z : j ≡ j + 0 = omega arith in ap (f j) same ∙ ap (λ m. f m i) z
from_read f j (x ∷ ins) (suc k) d i e =
    let z : suc j + k ≡ j + suc k = omega arith in
    from_read f (suc j) ins k d i e ∙ ap (λ m. f m i) z

map_read : (g : ℕ → ℕ) (xs : List ℕ) (k d e : ℕ) → k < length xs
    → slice_index_or (map g xs) k d ≡ g (slice_index_or xs k e)
map_read g [] k d e lt = absurd (omega (arith, lt))
map_read g (x ∷ xs) zero d e lt = refl
map_read g (x ∷ xs) (suc k) d e lt = map_read g xs k d e (omega (arith, lt))

map_long : (g : ℕ → ℕ) (xs : List ℕ) → length (map g xs) ≡ length xs
map_long g [] = refl
map_long g (x ∷ xs) = ap suc (map_long g xs)

pub first_table : (code : Code) (table : List ℕ) → table ≡ steps_of code → IsTable code 1 table
first_table code table is = record {
  long = ap (λ (xs : List ℕ). length xs) is
      ∙ from_long (λ at (i : Ins). goes_to at i.op) 0 code.ins;
  at = λ k lt.
      let i = found_at code.ins k lt in
      let z : 0 + k ≡ k = omega arith in
      ap (λ (xs : List ℕ). slice_index_or xs k k) is
      ∙ from_read (λ at (i : Ins). goes_to at i.op) 0 code.ins k k i.0 i.1
      ∙ ap (λ m. goes_to m i.0.op) z ∙ sym (ap (stepped k) i.1);
}

module _ (code : Code) (sound : IsSound code) where
  step_below : (at : ℕ) → at < length code.ins → step code at < length code.ins
  step_below at lt = by (slice_get code.ins at) refl
    where
      goes : (i : Ins) → slice_get code.ins at ≡ Some i
          → ((to : ℕ) × (i.op ≡ op.Goto to)) ⊎ (is_goto i.op ≡ false)
          → goes_to at i.op < length code.ins
      goes i e (inl g) =
          let all = subst (λ o. AllByRecursion (λ t. t < length code.ins) (targets o)) g.1
          (sound.jump at i e) in
          subst (λ o. goes_to at o < length code.ins) (sym g.1) all.0
      goes i e (inr q) = subst (λ t. t < length code.ins) (sym (goes_stays at i.op q)) lt

      by : (o : Option Ins) → slice_get code.ins at ≡ o → stepped at o < length code.ins
      by None e = lt
      by (Some i) e = goes i e (goto_or_not i.op)

  walk_below : (n at : ℕ) → at < length code.ins → walk code n at < length code.ins
  walk_below zero at lt = lt
  walk_below (suc n) at lt = walk_below n (step code at) (step_below at lt)

  pub next_table : (n : ℕ) (table twice : List ℕ) → IsTable code n table → twice ≡ doubled table
      → IsTable code (n * 2) twice
  next_table n table twice is e = record {
    long = ap (λ (xs : List ℕ). length xs) e
        ∙ map_long (λ to. slice_index_or table to to) table ∙ is.long;
    at = λ k lt.
        let within : k < length table = subst (λ m. k < m) (sym is.long) lt in
        let far = walk_below n k lt in
        let both : n + n ≡ n * 2 = omega arith in
        ap (λ (xs : List ℕ). slice_index_or xs k k) e
        ∙ map_read (λ to. slice_index_or table to to) table k k k within
        ∙ ap (λ to. slice_index_or table to to) (is.at k lt)
        ∙ is.at (walk code n k) far ∙ sym (walk_more code n n k)
        ∙ ap (λ m. walk code m k) both;
  }
