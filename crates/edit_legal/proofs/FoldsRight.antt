-- Whether a branch or switch leads there by known ints.
use Rattle.std.proofs.Common.{ℕ, suc, ◌+◌, ◌-◌, ◌<◌, ◌≤◌, ℤ, List, [], ◌∷◌, Option, Some, None, Bool}
use Rattle.std.proofs.Common.{true, false, ◌≡◌, ◌⊎◌, inl, inr, refl, sym, ap, ◌∙◌, arith}
use Rattle.std.specs.Prelude.{length, nat_le, nat_lt, slice_get, ◌||◌, if◌then◌else◌}
use Rattle.std.specs.Option.{option_and_then, unwrap_or}
use Rattle.std.proofs.lemmas.Bool.Decides.{leb_tells}
use Rattle.class_model.specs.declared.code.Code.{Code}
use Rattle.class_model.specs.declared.code.Ins.{Ins}
use Rattle.class_model.specs.declared.op.Kind.TheVariants as kind
use Rattle.class_model.specs.declared.op.Op.{Op}
use Rattle.class_model.specs.declared.op.Op.TheVariants as op
use Rattle.code_edit.specs.declared.act.Act.{Act}
use Rattle.code_edit.specs.Constants.{OneFold, TwoFold, const_at, const_by, const_of, is_fold, is_two}
use Rattle.code_edit.specs.Deciding.{Count, NoOperand, OneOperand, TwoOperands, decided, operands}
use Rattle.code_edit.specs.Flow.{is_target}
use Rattle.const_tables.specs.declared.facts.Stretch.{Stretch}
use Rattle.const_tables.specs.FirstFacts.{AreFirst}
use Rattle.const_tables.proofs.FirstActs.{ints_tell}
use Rattle.edit_premises.proofs.Places.{get_below}
use Rattle.edit_legal.specs.Decidable.{const_in, const_ins, const_op, is_place, leads_by, one_leads}
use Rattle.edit_legal.specs.Decidable.{two_lead}
use Rattle.edit_tables.proofs.Marking.{targets_marked}
use Rattle.edit_tables.proofs.Telling.{Tells, numbers_same, same_number, tells}
use Rattle.edit_tables.specs.Marks.{has, target_marks}

no_or : (a b : Bool) → (a || b) ≡ false → (a ≡ false) × (b ≡ false)
no_or true b e = absurd cc
no_or false b e = (refl, e)

or_no : (a b : Bool) → a ≡ false → b ≡ false → (a || b) ≡ false
or_no true b p q = absurd cc
or_no false b p q = q

not_below : (a b : ℕ) → nat_lt a b ≡ false → b ≤ a
not_below a b e = by (leb_tells (suc a) b)
  where
    by : ((nat_le (suc a) b ≡ true) × (suc a ≤ b)) ⊎ ((nat_le (suc a) b ≡ false) × (b < suc a))
        → b ≤ a
    by (inl q) = absurd (let no : true ≡ false = sym q.0 ∙ e in cc)
    by (inr q) = omega (arith, q.1)

below_not : (a b : ℕ) → b ≤ a → nat_lt a b ≡ false
below_not a b le = by (leb_tells (suc a) b)
  where
    by : ((nat_le (suc a) b ≡ true) × (suc a ≤ b)) ⊎ ((nat_le (suc a) b ≡ false) × (b < suc a))
        → nat_lt a b ≡ false
    by (inl q) = absurd (omega (arith, le, q.1))
    by (inr q) = q.0

one_count : (o : Op) (z : ℤ) (p : Option ℕ) → decided o (z ∷ []) ≡ Some p → operands o ≡ OneOperand
one_count (op.IfZero c t) z p e = refl
one_count (op.TableSwitch low t ts) z p e = refl
one_count (op.LookupSwitch t cs) z p e = refl
one_count o z p e = absurd cc

two_count : (o : Op) (b a : ℤ) (p : Option ℕ) → decided o (b ∷ a ∷ []) ≡ Some p
    → operands o ≡ TwoOperands
two_count (op.IfCmp c t) b a p e = refl
two_count o b a p e = absurd cc

is_there : (f : Option ℕ) (to : ℕ) → is_place f to ≡ true → f ≡ Some to
is_there None to e = absurd cc
is_there (Some t) to e = ap Some (numbers_same t to e)

there_is : (f : Option ℕ) (to : ℕ) → f ≡ Some to → is_place f to ≡ true
there_is f to e = ap (λ g. is_place g to) e ∙ same_number to

module _ (code : Code) (acts : List Act) (facts : List Stretch) (first : AreFirst 0 acts facts)
  where
    abbrev marks : List Bool
    marks = target_marks code

    const_same : (at : ℕ) → const_in code acts facts marks at ≡ const_at acts code at
    const_same at = by (slice_get code.ins at)
      where
        ops : (o : Op) → const_op facts acts at o ≡ const_of acts at o
        ops (op.PushInt v) = refl
        ops (op.Load kind.Int slot) = ints_tell slot at acts facts first
        ops o = refl

        by : (i : Option Ins) → const_ins facts acts at i ≡ const_by acts at i
        by None = refl
        by (Some i) = ops i.op

    module _ (at to : ℕ) (i : Ins) (e : slice_get code.ins at ≡ Some i) where
      abbrev Right : Type 0
      Right = OneFold acts code at to ⊎ TwoFold acts code at to

      lt : at < length code.ins
      lt = get_below code.ins at i e

      target_is : has marks at ≡ is_target code at
      target_is = targets_marked code at lt

      before_is : has marks (at - 1) ≡ is_target code (at - 1)
      before_is = targets_marked code (at - 1) (omega (arith, lt))

      -- where a known int leads
      abbrev by_one : Option ℤ → Option ℕ
      by_one k = option_and_then (λ z. option_and_then (λ p. Some (unwrap_or p (at + 1)))
          (decided i.op (z ∷ []))) k

      abbrev by_two : Option ℤ → Option ℤ → Option ℕ
      by_two k l = option_and_then (λ a. option_and_then (λ b. option_and_then
          (λ p. Some (unwrap_or p (at + 1))) (decided i.op (b ∷ a ∷ []))) l) k

      one_there : one_leads code acts facts marks at i.op ≡ Some to → Right
      one_there h = by (nat_lt at 1 || has marks at) refl h
        where
          lands : (z : ℤ) → const_in code acts facts marks (at - 1) ≡ Some z → 1 ≤ at
              → has marks at ≡ false → (d : Option (Option ℕ)) → decided i.op (z ∷ []) ≡ d
              → option_and_then (λ p. Some (unwrap_or p (at + 1))) d ≡ Some to → Right
          lands z k behind free None d q = absurd cc
          lands z k behind free (Some p) d q =
              let leads : unwrap_or p (at + 1) ≡ to = cc in
              inl (record {
                ins = i;
                here = e;
                behind = behind;
                value = z;
                is = sym (const_same (at - 1)) ∙ k;
                free = sym target_is ∙ free;
                point = p;
                decides = d;
                leads = leads;
              })

          known : (k : Option ℤ) → const_in code acts facts marks (at - 1) ≡ k → 1 ≤ at
              → has marks at ≡ false → by_one k ≡ Some to → Right
          known None k behind free q = absurd cc
          known (Some z) k behind free q =
              lands z k behind free (decided i.op (z ∷ [])) refl q

          by : (b : Bool) → (nat_lt at 1 || has marks at) ≡ b
              → (if b then None else by_one (const_in code acts facts marks (at - 1))) ≡ Some to
              → Right
          by true q h = absurd cc
          by false q h =
              let free = no_or _ _ q in
              known (const_in code acts facts marks (at - 1)) refl (not_below at 1 free.0) free.1 h

      two_there : two_lead code acts facts marks at i.op ≡ Some to → Right
      two_there h = by (nat_lt at 2 || (has marks at || has marks (at - 1))) refl h
        where
          lands : (a b : ℤ) → const_in code acts facts marks (at - 2) ≡ Some a
              → const_in code acts facts marks (at - 1) ≡ Some b → 2 ≤ at → has marks at ≡ false
              → has marks (at - 1) ≡ false → (d : Option (Option ℕ))
              → decided i.op (b ∷ a ∷ []) ≡ d
              → option_and_then (λ p. Some (unwrap_or p (at + 1))) d ≡ Some to → Right
          lands a b k l behind free second None d q = absurd cc
          lands a b k l behind free second (Some p) d q =
              let leads : unwrap_or p (at + 1) ≡ to = cc in
              inr (record {
                ins = i;
                here = e;
                behind = behind;
                first = a;
                first_is = sym (const_same (at - 2)) ∙ k;
                second = b;
                second_is = sym (const_same (at - 1)) ∙ l;
                free = sym target_is ∙ free;
                second_free = sym before_is ∙ second;
                point = p;
                decides = d;
                leads = leads;
              })

          known : (k l : Option ℤ) → const_in code acts facts marks (at - 2) ≡ k
              → const_in code acts facts marks (at - 1) ≡ l → 2 ≤ at → has marks at ≡ false
              → has marks (at - 1) ≡ false → by_two k l ≡ Some to → Right
          known None l p q behind free second h = absurd cc
          known (Some a) None p q behind free second h = absurd cc
          known (Some a) (Some b) p q behind free second h =
              lands a b p q behind free second (decided i.op (b ∷ a ∷ [])) refl h

          by : (b : Bool) → (nat_lt at 2 || (has marks at || has marks (at - 1))) ≡ b
              → (if b then None else by_two (const_in code acts facts marks (at - 2))
              (const_in code acts facts marks (at - 1))) ≡ Some to → Right
          by true q h = absurd cc
          by false q h =
              let near = no_or _ _ q in
              let free = no_or _ _ near.1 in
              known (const_in code acts facts marks (at - 2))
              (const_in code acts facts marks (at - 1)) refl refl (not_below at 2 near.0) free.0
              free.1 h

      there_one : OneFold acts code at to → one_leads code acts facts marks at i.op ≡ Some to
      there_one f =
          let one : Some i ≡ Some f.ins = sym e ∙ f.here in
          let ins : i ≡ f.ins = cc in
          ap (λ b. if b then None else by_one (const_in code acts facts marks (at - 1)))
          (or_no _ _ (below_not at 1 f.behind) (target_is ∙ f.free))
          ∙ ap by_one (const_same (at - 1) ∙ f.is)
          ∙ ap (option_and_then (λ p. Some (unwrap_or p (at + 1))))
          (ap (λ (x : Ins). decided x.op (f.value ∷ [])) ins ∙ f.decides) ∙ ap Some f.leads

      there_two : TwoFold acts code at to → two_lead code acts facts marks at i.op ≡ Some to
      there_two f =
          let one : Some i ≡ Some f.ins = sym e ∙ f.here in
          let ins : i ≡ f.ins = cc in
          ap (λ b. if b then None else by_two (const_in code acts facts marks (at - 2))
          (const_in code acts facts marks (at - 1)))
          (or_no _ _ (below_not at 2 f.behind)
          (or_no _ _ (target_is ∙ f.free) (before_is ∙ f.second_free)))
          ∙ (λ j. by_two ((const_same (at - 2) ∙ f.first_is) j)
          ((const_same (at - 1) ∙ f.second_is) j))
          ∙ ap (option_and_then (λ p. Some (unwrap_or p (at + 1))))
          (ap (λ (x : Ins). decided x.op (f.second ∷ f.first ∷ [])) ins ∙ f.decides)
          ∙ ap Some f.leads

      -- how many operands a fold takes
      count_one : OneFold acts code at to → operands i.op ≡ OneOperand
      count_one f =
          let one : Some i ≡ Some f.ins = sym e ∙ f.here in
          let ins : i ≡ f.ins = cc in
          ap (λ (x : Ins). operands x.op) ins ∙ one_count f.ins.op f.value f.point f.decides

      count_two : TwoFold acts code at to → operands i.op ≡ TwoOperands
      count_two f =
          let one : Some i ≡ Some f.ins = sym e ∙ f.here in
          let ins : i ≡ f.ins = cc in
          ap (λ (x : Ins). operands x.op) ins
          ∙ two_count f.ins.op f.second f.first f.point f.decides

      there : (c : Count) → operands i.op ≡ c
          → leads_by code acts facts marks c at i.op ≡ Some to → Right
      there OneOperand q h = one_there h
      there TwoOperands q h = two_there h
      there NoOperand q h = absurd cc

      back : (c : Count) → operands i.op ≡ c → Right
          → leads_by code acts facts marks c at i.op ≡ Some to
      back OneOperand q (inl f) = there_one f
      back OneOperand q (inr f) = absurd (let no : OneOperand ≡ TwoOperands = sym q ∙ count_two f in cc)
      back TwoOperands q (inl f) = absurd (let no : TwoOperands ≡ OneOperand = sym q ∙ count_one f in cc)
      back TwoOperands q (inr f) = there_two f
      back NoOperand q (inl f) = absurd (let no : NoOperand ≡ OneOperand = sym q ∙ count_one f in cc)
      back NoOperand q (inr f) = absurd (let no : NoOperand ≡ TwoOperands = sym q ∙ count_two f in cc)

      pub right_tells :
          Tells (is_place (leads_by code acts facts marks (operands i.op) at i.op) to) Right
      right_tells = tells _ _
          (λ h. there (operands i.op) refl (is_there _ to h))
          (λ r. there_is _ to (back (operands i.op) refl r))

      -- a right fold stands behind its operands
      pub one_behind : Right → is_fold (operands i.op) ≡ true → 1 ≤ at
      one_behind (inl f) h = f.behind
      one_behind (inr f) h = let far = f.behind in omega (arith, far)

      pub two_behind : Right → is_two (operands i.op) ≡ true → 2 ≤ at
      two_behind (inl f) h =
          absurd (let no : true ≡ false = sym h ∙ ap is_two (count_one f) in cc)
      two_behind (inr f) h = f.behind
