-- Legal acts on constants fold branches, and leave out what does nothing then.
use Rattle.std.proofs.Common.{ℕ, ◌+◌, ◌-◌, ◌<◌, ◌≤◌, List, [], ◌∷◌, Option, Some, None, Bool}
use Rattle.std.proofs.Common.{true, false, IsTrue, ◌≡◌, ◌≢◌, ◌⊎◌, inl, inr}
use Rattle.std.proofs.Common.{refl, sym, ap, ◌∙◌, subst, arith}
use Rattle.std.specs.Prelude.{ℤ, pos, negsuc, ◌-ℤ◌, not, map, slice_get, nat_le, ◌==◌, ◌&&◌, ◌||◌}
use Rattle.std.specs.Prelude.{if◌then◌else◌}
use Rattle.std.specs.List.{AllByRecursion, Contains, find}
use Rattle.std.specs.Option.{option_map, unwrap_or}
use Rattle.std.specs.Ordering.{int_eq}
use Rattle.std.specs.Cmp.{signed_Decides}
use Rattle.std.proofs.lemmas.Bool.Decides.{eqb_tells, leb_tells}
use Rattle.std.proofs.lemmas.List.Elements.{All-contains, All-weaker, All-contains_itself}
use Rattle.std.proofs.lemmas.List.Elements.{Contains-append_left, Contains-append_right}
use Rattle.std.proofs.lemmas.List.Elements.{Contains-push}
use Rattle.std.proofs.lemmas.Option.{get_or_from_slice_get, slice_get_within}
use Rattle.class_model.specs.declared.code.Code.{Code}
use Rattle.class_model.specs.declared.code.Handler.{Handler}
use Rattle.class_model.specs.declared.code.Ins.{Ins}
use Rattle.class_model.specs.declared.op.Case.{Case}
use Rattle.class_model.specs.declared.op.Kind.TheVariants as kind
use Rattle.class_model.specs.declared.op.Op.{Op}
use Rattle.class_model.specs.declared.op.Op.TheVariants as op
use Rattle.code_edit.specs.declared.act.Act.{Act}
use Rattle.code_edit.specs.declared.act.Act.TheVariants as act
use Rattle.jvm_model.specs.Mapped.{OptionCorr}
use Rattle.code_edit.specs.Deciding.{Count, NoOperand, OneOperand, TwoOperands, decided}
use Rattle.code_edit.specs.Deciding.{lookup_case, operands, table_case, taken}
use Rattle.code_edit.specs.Facts.{IsSupported, is_int}
use Rattle.code_edit.specs.Flow.{is_target, targets}
use Rattle.edit_premises.specs.Compacts.{Compacts}
use Rattle.code_edit.specs.Rewriting.{rewritten, with_op}
use Rattle.edit_premises.proofs.Places.{map_from_get}
use Rattle.edit_premises.proofs.Retargeted.{all_closed}
use Rattle.code_edit.specs.Constants.{AreLegalConst, IsLegalConst, IsPlace, OneFold, TwoFold}
use Rattle.code_edit.specs.Constants.{const_at, const_by, const_of, count, count_by, fact_at}
use Rattle.code_edit.specs.Constants.{facts_of, fold_to, folded, folded_code, goes, is_fold}
use Rattle.code_edit.specs.Constants.{is_next, is_operand, is_two, landed, new_op}
use Rattle.edit_premises.specs.Folding.{FoldIns, FoldOp, Folds, Lands, goes as to_target, loads}
use Rattle.edit_premises.specs.Folding.{pushes, stays}
use Rattle.edit_premises.proofs.OwnAims.{head_in, tail_in}
use Rattle.edit_premises.proofs.Targets.{entries_marked, jumps_marked}

unequal : {P : Type 0} → true ≡ false → P
unequal e = absurd cc

-- ---- what is decided

one_operand : (o : Op) (z : ℤ) (p : Option ℕ) → decided o (z ∷ []) ≡ Some p
    → operands o ≡ OneOperand
one_operand (op.IfZero c t) z p e = refl
one_operand (op.TableSwitch low t ts) z p e = refl
one_operand (op.LookupSwitch t cs) z p e = refl
one_operand o z p e = absurd cc

two_operands : (o : Op) (b a : ℤ) (p : Option ℕ) → decided o (b ∷ a ∷ []) ≡ Some p
    → operands o ≡ TwoOperands
two_operands (op.IfCmp c t) b a p e = refl
two_operands o b a p e = absurd cc

-- a branch pushes nothing
no_const : (acts : List Act) (at : ℕ) (o : Op) (zs : List ℤ) (p : Option ℕ) → decided o zs ≡ Some p
    → const_of acts at o ≡ None
no_const acts at (op.PushInt v) zs p e = absurd cc
no_const acts at (op.Load k x) zs p e = absurd cc
no_const acts at o zs p e = refl

-- where the cases of a lookupswitch lead
abbrev case_targets : List Case → List ℕ
case_targets cases = map (λ (c : Case). c.to) cases

if_in : (b : Bool) (t u : ℕ) → taken b t ≡ Some u → Contains (t ∷ []) u
if_in true t u e = let s : t ≡ u = cc in subst (Contains (t ∷ [])) s (head_in t [])
if_in false t u e = absurd cc

at_in : (ts : List ℕ) (n u : ℕ) → slice_get ts n ≡ Some u → Contains ts u
at_in ts n u e = (n, slice_get_within ts n u e, get_or_from_slice_get ts n u u e)

else_in : (o : Option ℕ) (t : ℕ) (ts : List ℕ) (u : ℕ) → ((v : ℕ) → o ≡ Some v → Contains ts v)
    → unwrap_or o t ≡ u
    → Contains (t ∷ ts) u
else_in None t ts u h e = subst (Contains (t ∷ ts)) e (head_in t ts)
else_in (Some v) t ts u h e = subst (Contains (t ∷ ts)) e (tail_in t ts v (h v refl))

table_in : (ts : List ℕ) (z : ℤ) (v : ℕ) → table_case ts z ≡ Some v → Contains ts v
table_in ts (pos n) v e = at_in ts n v e
table_in ts (negsuc n) v e = absurd cc

case_in : (cs : List Case) (z : ℤ) (v : ℕ) → lookup_case cs z ≡ Some v
    → Contains (case_targets cs) v
case_in [] z v e = absurd cc
case_in (c ∷ cs) z v e = by (int_eq c.key z) e (case_in cs z v)
  where
    by : (b : Bool) → option_map (λ (k : Case). k.to)
        (if b then Some c else find (λ (k : Case). int_eq k.key z) cs) ≡ Some v
        → (lookup_case cs z ≡ Some v → Contains (case_targets cs) v)
        → Contains (c.to ∷ case_targets cs) v
    by true q r = let s : c.to ≡ v = cc in
        subst (Contains (c.to ∷ case_targets cs)) s (head_in c.to (case_targets cs))
    by false q r = tail_in c.to (case_targets cs) v (r q)

-- where it leads is a target
pub decided_in : (o : Op) (zs : List ℤ) (t : ℕ) → decided o zs ≡ Some (Some t)
    → Contains (targets o) t
decided_in (op.IfZero c to) (a ∷ []) t e = if_in _ to t (inner _ _ e)
  where
    inner : (x y : Option ℕ) → Some x ≡ Some y → x ≡ y
    inner x y h = cc
decided_in (op.IfCmp c to) (b ∷ a ∷ []) t e = if_in _ to t (inner _ _ e)
  where
    inner : (x y : Option ℕ) → Some x ≡ Some y → x ≡ y
    inner x y h = cc
decided_in (op.TableSwitch low other ts) (z ∷ []) t e =
    else_in (table_case ts (z -ℤ low)) other ts t (table_in ts (z -ℤ low)) (inner _ _ e)
  where
    inner : (x y : ℕ) → ◌≡◌ {A = Option (Option ℕ)} (Some (Some x)) (Some (Some y)) → x ≡ y
    inner x y h = cc
decided_in (op.LookupSwitch other cs) (z ∷ []) t e =
    else_in (lookup_case cs z) other (case_targets cs) t (case_in cs z) (inner _ _ e)
  where
    inner : (x y : ℕ) → ◌≡◌ {A = Option (Option ℕ)} (Some (Some x)) (Some (Some y)) → x ≡ y
    inner x y h = cc
decided_in o zs t e = absurd cc

module _ (acts : List Act) (code : Code) (legal : AreLegalConst acts code) where
  -- ---- facts

  place_of : (xs : List Act) → AllByRecursion (IsLegalConst acts code) xs → (slot at : ℕ) (z : ℤ)
      → fact_at xs slot at ≡ Some z → IsPlace acts code slot at z
  place_of [] h slot at z e = absurd cc
  place_of (act.Fact from to s v ∷ xs) h slot at z e =
      by (eqb_tells slot s) (leb_tells from at) (leb_tells at to) (place_of xs h.1 slot at z)
    where
      rest : (b : Bool) → b ≡ false → (if b then Some v else fact_at xs slot at) ≡ Some z
          → fact_at xs slot at ≡ Some z
      rest true q w = unequal q
      rest false q w = w

      found : (b : Bool) → b ≡ true → (if b then Some v else fact_at xs slot at) ≡ Some z → v ≡ z
      found true q w = cc
      found false q w = unequal (sym q)

      all_true : (a b c : Bool) → a ≡ true → b ≡ true → c ≡ true → (a && (b && c)) ≡ true
      all_true true true true x y w = refl
      all_true false b c x y w = absurd cc
      all_true true false c x y w = absurd cc
      all_true true true false x y w = absurd cc

      first_false : (a b c : Bool) → a ≡ false → (a && (b && c)) ≡ false
      first_false true b c x = absurd cc
      first_false false b c x = refl

      second_false : (a b c : Bool) → b ≡ false → (a && (b && c)) ≡ false
      second_false true true c x = absurd cc
      second_false true false c x = refl
      second_false false b c x = refl

      third_false : (a b c : Bool) → c ≡ false → (a && (b && c)) ≡ false
      third_false true true true x = absurd cc
      third_false true true false x = refl
      third_false true false c x = refl
      third_false false b c x = refl

      by : (((slot == s) ≡ true) × (slot ≡ s)) ⊎ (((slot == s) ≡ false) × (slot ≢ s))
          → ((nat_le from at ≡ true) × (from ≤ at)) ⊎ ((nat_le from at ≡ false) × (at < from))
          → ((nat_le at to ≡ true) × (at ≤ to)) ⊎ ((nat_le at to ≡ false) × (to < at))
          → (fact_at xs slot at ≡ Some z → IsPlace acts code slot at z)
          → IsPlace acts code slot at z
      by (inl a) (inl b) (inl c) r =
          let same : v ≡ z = found ((slot == s) && (nat_le from at && nat_le at to))
          (all_true (slot == s) (nat_le from at) (nat_le at to) a.0 b.0 c.0) e in
          subst (IsPlace acts code slot at) same
          (subst (λ x. IsPlace acts code x at v) (sym a.1) (h.0.1 at b.1 c.1))
      by (inl a) (inl b) (inr c) r = r
          (rest ((slot == s) && (nat_le from at && nat_le at to))
          (third_false (slot == s) (nat_le from at) (nat_le at to) c.0) e)
      by (inl a) (inr b) c r = r
          (rest ((slot == s) && (nat_le from at && nat_le at to))
          (second_false (slot == s) (nat_le from at) (nat_le at to) b.0) e)
      by (inr a) b c r = r
          (rest ((slot == s) && (nat_le from at && nat_le at to))
          (first_false (slot == s) (nat_le from at) (nat_le at to) a.0) e)
  place_of (act.Fold a b ∷ xs) h slot at z e = place_of xs h.1 slot at z e
  place_of (act.Drop a b ∷ xs) h slot at z e = absurd h.0
  place_of (act.Cut a ∷ xs) h slot at z e = absurd h.0
  place_of (act.Aim a w b ∷ xs) h slot at z e = absurd h.0
  place_of (act.Skip a ∷ xs) h slot at z e = absurd h.0

  int_is : (o : Option ℤ) (z : ℤ) → IsTrue (is_int o z) → o ≡ Some z
  int_is None z e = absurd cc
  int_is (Some v) z e = ap (λ n. Some n) ((signed_Decides v z).0 e)

  is_the_int : (o : Option ℤ) (z : ℤ) → o ≡ Some z → IsTrue (is_int o z)
  is_the_int o z e = subst (λ x. IsTrue (is_int x z)) (sym e) ((signed_Decides z z).1 refl)

  place_at : (slot at : ℕ) (z : ℤ) → IsTrue (facts_of acts slot at z) → IsPlace acts code slot at z
  place_at slot at z e = place_of acts legal slot at z (int_is (fact_at acts slot at) z e)

  pub are_supported : (slot : ℕ) → IsSupported code slot (facts_of acts slot)
  are_supported slot = record {
    within = λ i z e. (place_at slot i z e).below;
    first = λ z e. (place_at slot 0 z e).inside refl;
    handlers = All-weaker (Contains code.handlers)
        (λ (h : Handler). (z : ℤ) → IsTrue (facts_of acts slot h.entry z) → ⊥)
        (λ h k z e. All-contains (λ (g : Handler). g.entry ≢ h.entry) code.handlers h
        (place_at slot h.entry z e).handlers k refl)
        code.handlers (All-contains_itself code.handlers);
    flows = λ p i z lt next e. (place_at slot i z e).supported p lt next;
  }

  -- ---- folds

  -- what is at an index
  pub data Here (at : ℕ) : Type 0 where
    no_fold : fold_to acts at ≡ None → count acts code at ≡ NoOperand → Here at
    one_here : (to : ℕ) → fold_to acts at ≡ Some to → OneFold acts code at to
        → count acts code at ≡ OneOperand → Here at
    two_here : (to : ℕ) → fold_to acts at ≡ Some to → TwoFold acts code at to
        → count acts code at ≡ TwoOperands → Here at

  fold_of : (xs : List Act) → AllByRecursion (IsLegalConst acts code) xs → (at to : ℕ)
      → fold_to xs at ≡ Some to
      → OneFold acts code at to ⊎ TwoFold acts code at to
  fold_of [] h at to e = absurd cc
  fold_of (act.Fold place there ∷ xs) h at to e = by (eqb_tells at place) (fold_of xs h.1 at to)
    where
      by : (((at == place) ≡ true) × (at ≡ place)) ⊎ (((at == place) ≡ false) × (at ≢ place))
          → (fold_to xs at ≡ Some to → OneFold acts code at to ⊎ TwoFold acts code at to)
          → OneFold acts code at to ⊎ TwoFold acts code at to
      by (inl a) r =
          let q : Some there ≡ Some to = sym (ap (λ b. if b then Some there else fold_to xs at) a.0)
          ∙ e in
          let same : there ≡ to = cc in
          subst (λ x. OneFold acts code at x ⊎ TwoFold acts code at x) same
          (subst (λ x. OneFold acts code x there ⊎ TwoFold acts code x there) (sym a.1) h.0)
      by (inr a) r = r (sym (ap (λ b. if b then Some there else fold_to xs at) a.0) ∙ e)
  fold_of (act.Fact a b s v ∷ xs) h at to e = fold_of xs h.1 at to e
  fold_of (act.Drop a b ∷ xs) h at to e = absurd h.0
  fold_of (act.Cut a ∷ xs) h at to e = absurd h.0
  fold_of (act.Aim a w b ∷ xs) h at to e = absurd h.0
  fold_of (act.Skip a ∷ xs) h at to e = absurd h.0

  pub here : (at : ℕ) → Here at
  here at = by (fold_to acts at) refl
    where
      count_is : (to : ℕ) (i : Ins) → fold_to acts at ≡ Some to → slice_get code.ins at ≡ Some i
          → count acts code at ≡ operands i.op
      count_is to i e h = ap (λ f. count_by f (slice_get code.ins at)) e ∙ ap (count_by (Some to)) h

      which : (to : ℕ) → fold_to acts at ≡ Some to
          → OneFold acts code at to ⊎ TwoFold acts code at to → Here at
      which to e (inl f) = one_here to e f
          (count_is to f.ins e f.here ∙ one_operand f.ins.op f.value f.point f.decides)
      which to e (inr f) = two_here to e f
          (count_is to f.ins e f.here ∙ two_operands f.ins.op f.second f.first f.point f.decides)

      by : (o : Option ℕ) → fold_to acts at ≡ o → Here at
      by None e = no_fold e (ap (λ f. count_by f (slice_get code.ins at)) e)
      by (Some to) e = which to e (fold_of acts legal at to e)

  -- ---- what the old stack has more

  abbrev known : ℕ → ℤ
  known at = unwrap_or (const_at acts code at) (pos 0)

  known_is : (at : ℕ) (z : ℤ) → const_at acts code at ≡ Some z → known at ≡ z
  known_is at z e = ap (λ o. unwrap_or o (pos 0)) e

  abbrev extra_by : Count → Count → ℤ → ℤ → List ℤ
  extra_by TwoOperands n b a = b ∷ a ∷ []
  extra_by OneOperand n b a = b ∷ []
  extra_by NoOperand TwoOperands b a = b ∷ []
  extra_by NoOperand n b a = []

  abbrev extra : ℕ → List ℤ
  extra at = extra_by (count acts code at) (count acts code (at + 1)) (known (at - 1))
      (known (at - 2))

  extra_is : (at : ℕ) (x y : Count) → count acts code at ≡ x → count acts code (at + 1) ≡ y
      → extra at ≡ extra_by x y (known (at - 1)) (known (at - 2))
  extra_is at x y e f =
      ap (λ c. extra_by c (count acts code (at + 1)) (known (at - 1)) (known (at - 2))) e
      ∙ ap (λ c. extra_by x c (known (at - 1)) (known (at - 2))) f

  -- no operand is before
  bare : (at : ℕ) → count acts code at ≡ NoOperand → is_two (count acts code (at + 1)) ≡ false
      → extra at ≡ []
  bare at e f = extra_is at NoOperand (count acts code (at + 1)) e refl
      ∙ by (count acts code (at + 1)) f
    where
      by : (y : Count) → is_two y ≡ false
          → extra_by NoOperand y (known (at - 1)) (known (at - 2)) ≡ []
      by NoOperand q = refl
      by OneOperand q = refl
      by TwoOperands q = unequal q

  -- where control comes from elsewhere too
  marked_bare : (t : ℕ) → is_target code t ≡ true → extra t ≡ []
  marked_bare t m = by (here t) (here (t + 1))
    where
      by : Here t → Here (t + 1) → extra t ≡ []
      by (one_here to e f c) n = unequal (sym m ∙ f.free)
      by (two_here to e f c) n = unequal (sym m ∙ f.free)
      by (no_fold e c) (two_here to g f d) =
          let same : t + 1 - 1 ≡ t = omega arith in
          unequal (sym m ∙ sym (ap (λ x. is_target code x) same) ∙ f.second_free)
      by (no_fold e c) (one_here to g f d) = bare t c (ap is_two d)
      by (no_fold e c) (no_fold g d) = bare t c (ap is_two d)

  first_bare : extra 0 ≡ []
  first_bare = by (here 0) (here (0 + 1))
    where
      by : Here 0 → Here (0 + 1) → extra 0 ≡ []
      by (one_here to e f c) n = absurd (omega (arith, f.behind))
      by (two_here to e f c) n = absurd (omega (arith, f.behind))
      by (no_fold e c) (two_here to g f d) = absurd (omega (arith, f.behind))
      by (no_fold e c) (one_here to g f d) = bare 0 c (ap is_two d)
      by (no_fold e c) (no_fold g d) = bare 0 c (ap is_two d)

  -- ---- one instruction

  operand_like : (at : ℕ) (o : Op) (z : ℤ) (o' : Op) → const_of acts at o ≡ Some z
      → extra (at + 1) ≡ z ∷ extra at → o' ≡ op.Nop
      → FoldOp (facts_of acts) extra at o o'
  operand_like at (op.PushInt v) z o' e x q =
      let same : v ≡ z = cc in pushes z (ap (λ n. op.PushInt n) same) x q
  operand_like at (op.Load kind.Int slot) z o' e x q = loads slot z refl
      (is_the_int (fact_at acts slot at) z e) x q
  operand_like at o z o' e x q = absurd cc

  module _ (at : ℕ) (i : Ins) (is : slice_get code.ins at ≡ Some i) where
    abbrev New : Op → Type 0
    New o' = FoldOp (facts_of acts) extra at i.op o'

    -- the instruction at the index is known to push
    const_here : (n : ℕ) (z : ℤ) → n ≡ at → const_at acts code n ≡ Some z
        → const_of acts at i.op ≡ Some z
    const_here n z e h = sym (ap (const_by acts at) is) ∙ sym (ap (const_at acts code) e) ∙ h

    no_branch : (zs : List ℤ) (p : Option ℕ) → decided i.op zs ≡ Some p → (z : ℤ)
        → const_of acts at i.op ≡ Some z → ⊥
    no_branch zs p d z h = let q : None ≡ Some z = sym (no_const acts at i.op zs p d) ∙ h in cc

    -- a branch that is folded
    branch : (to : ℕ) → fold_to acts at ≡ Some to → (j : Ins) → slice_get code.ins at ≡ Some j
        → (zs : List ℤ) (p : Option ℕ)
        → decided j.op zs ≡ Some p → unwrap_or p (at + 1) ≡ to → extra at ≡ zs → Here (at + 1)
        → Here (at + 1 + 1)
        → New (folded acts code at i.op)
    branch to e j h zs p d l x n m =
        let same : Some j ≡ Some i = sym h ∙ is in
        let same' : j ≡ i = cc in
        let d' : decided i.op zs ≡ Some p = subst (λ (k : Ins). decided k.op zs ≡ Some p) same' d in
        by n m d'
      where
        lands : (b : Bool) → (to == at + 1) ≡ b → Lands at to (if b then op.Nop else op.Goto to)
        lands false q = inl refl
        lands true q = inr (equal (eqb_tells to (at + 1)) q, refl)
          where
            equal : (((to == at + 1) ≡ true) × (to ≡ at + 1))
                ⊎ (((to == at + 1) ≡ false) × (to ≢ at + 1)) → (to == at + 1) ≡ true → to ≡ at + 1
            equal (inl a) q = a.1
            equal (inr a) q = unequal (sym q ∙ a.0)

        there : (r : Option ℕ) → decided i.op zs ≡ Some r → extra (at + 1) ≡ []
            → extra (unwrap_or r (at + 1)) ≡ []
        there None d next = next
        there (Some t) d next =
            marked_bare t (All-contains (λ t. is_target code t ≡ true) (targets i.op) t
            (jumps_marked code at i is)
            (decided_in i.op zs t d))

        result : is_operand acts code at ≡ false → decided i.op zs ≡ Some p → extra (at + 1) ≡ []
            → New (folded acts code at i.op)
        result free d next =
            subst New (sym (ap (λ b. new_op b (fold_to acts at) at i.op) free
            ∙ ap (landed at i.op) e))
            (to_target p (ap (decided i.op) x ∙ d) (there p d next)
            (subst (λ t. Lands at t (landed at i.op (Some to))) (sym l)
            (lands (to == at + 1) refl)))

        by : Here (at + 1) → Here (at + 1 + 1) → decided i.op zs ≡ Some p
            → New (folded acts code at i.op)
        by (one_here t g f c) m d = absurd
            (no_branch zs p d f.value (const_here (at + 1 - 1) f.value (omega arith) f.is))
        by (two_here t g f c) m d = absurd
            (no_branch zs p d f.second (const_here (at + 1 - 1) f.second (omega arith) f.second_is))
        by (no_fold g c) (two_here t k f c2) d =
            absurd (no_branch zs p d f.first
            (const_here (at + 1 + 1 - 2) f.first (omega arith) f.first_is))
        by (no_fold g c) (one_here t k f c2) d =
            result (ap (λ q. is_fold q || is_two (count acts code (at + 1 + 1))) c ∙ ap is_two c2) d
            (bare (at + 1) c (ap is_two c2))
        by (no_fold g c) (no_fold k c2) d =
            result (ap (λ q. is_fold q || is_two (count acts code (at + 1 + 1))) c ∙ ap is_two c2) d
            (bare (at + 1) c (ap is_two c2))

    -- an operand that goes
    operand : is_operand acts code at ≡ true → (z : ℤ) → const_of acts at i.op ≡ Some z
        → extra (at + 1) ≡ z ∷ extra at
        → New (folded acts code at i.op)
    operand gone z e x =
        operand_like at i.op z (folded acts code at i.op) e x
        (ap (λ b. new_op b (fold_to acts at) at i.op) gone)

    kept : fold_to acts at ≡ None → is_operand acts code at ≡ false → extra at ≡ []
        → extra (at + 1) ≡ []
        → New (folded acts code at i.op)
    kept none free x y =
        stays x y (ap (λ b. new_op b (fold_to acts at) at i.op) free ∙ ap (landed at i.op) none)

    new_at : Here at → Here (at + 1) → Here (at + 1 + 1) → New (folded acts code at i.op)
    new_at (one_here to e f c) n m =
        branch to e f.ins f.here (f.value ∷ []) f.point f.decides f.leads
        (extra_is at OneOperand (count acts code (at + 1)) c refl
        ∙ ap (λ z. z ∷ []) (known_is (at - 1) f.value f.is)) n m
    new_at (two_here to e f c) n m =
        branch to e f.ins f.here (f.second ∷ f.first ∷ []) f.point f.decides f.leads
        (extra_is at TwoOperands (count acts code (at + 1)) c refl
        ∙ (ap (λ z. z ∷ known (at - 2) ∷ []) (known_is (at - 1) f.second f.second_is)
        ∙ ap (λ z. f.second ∷ z ∷ []) (known_is (at - 2) f.first f.first_is))) n m
    new_at (no_fold e c) (one_here to g f d) m =
        operand (ap (λ q. is_fold q || is_two (count acts code (at + 1 + 1))) d) f.value
        (const_here (at + 1 - 1) f.value (omega arith) f.is)
        (extra_is (at + 1) OneOperand (count acts code (at + 1 + 1)) d refl
        ∙ (ap (λ z. z ∷ []) (known_is (at + 1 - 1) f.value f.is)
        ∙ ap (λ l. f.value ∷ l) (sym (bare at c (ap is_two d)))))
    new_at (no_fold e c) (two_here to g f d) m =
        let same : at + 1 - 2 ≡ at - 1 = omega arith in
        operand (ap (λ q. is_fold q || is_two (count acts code (at + 1 + 1))) d) f.second
        (const_here (at + 1 - 1) f.second (omega arith) f.second_is)
        (extra_is (at + 1) TwoOperands (count acts code (at + 1 + 1)) d refl
        ∙ (ap (λ z. z ∷ known (at + 1 - 2) ∷ []) (known_is (at + 1 - 1) f.second f.second_is)
        ∙ (ap (λ n. f.second ∷ known n ∷ []) same
        ∙ ap (λ l. f.second ∷ l) (sym (extra_is at NoOperand TwoOperands c d)))))
    new_at (no_fold e c) (no_fold g d) (two_here to k f c2) =
        operand (ap (λ q. is_fold q || is_two (count acts code (at + 1 + 1))) d ∙ ap is_two c2)
        f.first
        (const_here (at + 1 + 1 - 2) f.first (omega arith) f.first_is)
        (extra_is (at + 1) NoOperand TwoOperands d c2
        ∙ (let same : at + 1 - 1 ≡ at + 1 + 1 - 2 = omega arith in
        ap (λ n. known n ∷ []) same
        ∙ (ap (λ z. z ∷ []) (known_is (at + 1 + 1 - 2) f.first f.first_is)
        ∙ ap (λ l. f.first ∷ l) (sym (bare at c (ap is_two d))))))
    new_at (no_fold e c) (no_fold g d) (one_here to k f c2) =
        kept e (ap (λ q. is_fold q || is_two (count acts code (at + 1 + 1))) d ∙ ap is_two c2)
        (bare at c (ap is_two d)) (bare (at + 1) d (ap is_two c2))
    new_at (no_fold e c) (no_fold g d) (no_fold k c2) =
        kept e (ap (λ q. is_fold q || is_two (count acts code (at + 1 + 1))) d ∙ ap is_two c2)
        (bare at c (ap is_two d)) (bare (at + 1) d (ap is_two c2))

  -- ---- the code

  ins_at : (at : ℕ) → slice_get (rewritten (folded acts code) code).ins at
      ≡ option_map (with_op (folded acts code at)) (slice_get code.ins at)
  ins_at at =
      let e : 0 + at ≡ at = omega arith in
      map_from_get (λ k (i : Ins). with_op (folded acts code k) i) 0 code.ins at
      ∙ ap (λ k. option_map (with_op (folded acts code k)) (slice_get code.ins at)) e

  module _ where
    ins_by : (at : ℕ) (o : Option Ins) → slice_get code.ins at ≡ o
        → OptionCorr (FoldIns (facts_of acts) extra at) o
        (option_map (with_op (folded acts code at)) o)
    ins_by at None e = refl
    ins_by at (Some i) e =
        (_, refl, (refl, new_at at i e (here at) (here (at + 1)) (here (at + 1 + 1))))

    entries_bare : (hs : List Handler)
        → ((h : Handler) → Contains hs h → is_target code h.entry ≡ true)
        → AllByRecursion (λ (h : Handler). extra h.entry ≡ []) hs
    entries_bare [] m = tt
    entries_bare (h ∷ hs) m = (
      marked_bare h.entry (m h (Contains-append_left (h ∷ []) hs h (Contains-push [] h))),
      entries_bare hs (λ k c. m k (Contains-append_right (h ∷ []) hs k c)),
    )

    pub acts_fold : Folds code (rewritten (folded acts code) code)
    acts_fold = record {
      facts = facts_of acts;
      extra = extra;
      supported = are_supported;
      first = first_bare;
      ins = λ at. subst (OptionCorr (FoldIns (facts_of acts) extra at) (slice_get code.ins at))
          (sym (ins_at at)) (ins_by at _ refl);
      jump = λ at i e. All-weaker (λ t. is_target code t ≡ true) (λ t. extra t ≡ [])
          (λ t m. marked_bare t m)
          (targets i.op) (jumps_marked code at i e);
      entry = entries_bare code.handlers
          (λ h c. All-contains (λ (h : Handler). is_target code h.entry ≡ true) code.handlers h
          (entries_marked code) c);
      handlers = refl;
    }

  nop_by : (b : Bool) (f : Option ℕ) (at : ℕ) (o : Op) → not (b || is_next at f) ≡ false
      → new_op b f at o ≡ op.Nop
  nop_by true f at o e = refl
  nop_by false None at o e = absurd cc
  nop_by false (Some to) at o e = by (to == at + 1) e
    where
      by : (b : Bool) → not b ≡ false → (if b then op.Nop else op.Goto to) ≡ op.Nop
      by true q = refl
      by false q = absurd cc

  nops_by : (at : ℕ) (j : Ins) (o : Option Ins) → not (goes acts code at) ≡ false
      → option_map (with_op (folded acts code at)) o ≡ Some j → j.op ≡ op.Nop
  nops_by at j None d e = absurd cc
  nops_by at j (Some i) d e =
      let same : with_op (folded acts code at) i ≡ j = cc in
      ap (λ (x : Ins). x.op) (sym same)
      ∙ nop_by (is_operand acts code at) (fold_to acts at) at i.op d

  pub acts_leave_out : Compacts (rewritten (folded acts code) code) (folded_code acts code)
  acts_leave_out = record {
    lives = λ at. not (goes acts code at);
    reached = λ at. true;
    closed = all_closed (rewritten (folded acts code) code);
    nops = λ at j r d e. nops_by at j (slice_get code.ins at) d (sym (ins_at at) ∙ e);
    is = refl;
  }
