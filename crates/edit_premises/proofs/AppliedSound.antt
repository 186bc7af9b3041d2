-- Acts of slots and right acts of jumps leave a sound code sound.
use Rattle.std.proofs.Common.{ℕ, zero, suc, ◌+◌, ◌<◌, ◌≤◌, List, [], ◌∷◌, Option, Some, None, Bool}
use Rattle.std.proofs.Common.{true, false, ◌≡◌, ◌≢◌, ◌⊎◌, inl, inr, refl, sym, ap, ◌∙◌, subst}
use Rattle.std.proofs.Common.{arith}
use Rattle.std.specs.Prelude.{length, map, nat_le, not, slice_get, ◌&&◌, ◌||◌, ◌==◌, if◌then◌else◌}
use Rattle.std.specs.List.{AllByRecursion}
use Rattle.std.specs.Option.{option_map, option_map_or}
use Rattle.std.proofs.lemmas.Bool.Decides.{eqb_tells, leb_tells}
use Rattle.jv_base.proofs.Lists.{all_at, all_from, any_where, found_at}
use Rattle.class_model.specs.declared.code.Code.{Code}
use Rattle.class_model.specs.declared.code.Handler.{Handler}
use Rattle.class_model.specs.declared.code.Ins.{Ins}
use Rattle.class_model.specs.declared.op.Case.{Case}
use Rattle.class_model.specs.declared.op.Kind.TheVariants as kind
use Rattle.class_model.specs.declared.op.Op.{Op}
use Rattle.class_model.specs.declared.op.Op.TheVariants as op
use Rattle.code_edit.specs.declared.act.Act.{Act}
use Rattle.code_edit.specs.declared.act.Act.TheVariants as act
use Rattle.edit_premises.specs.Compacts.{IsClosed}
use Rattle.code_edit.specs.Rewriting.{map_from, retargeted, rewritten, with_op}
use Rattle.code_edit.specs.Flow.{covers, goes_elsewhere, of_ins, targets}
use Rattle.code_edit.specs.Jumps as jumps
use Rattle.code_edit.specs.Slots as slots
use Rattle.edit_premises.proofs.Jumping.{aims_lead, first_target}
use Rattle.edit_premises.proofs.Places.{get_below, map_from_get}
use Rattle.code_edit.specs.SoundCode.{IsPlaced, IsSound}
use Rattle.edit_premises.specs.LeavesSound.{LeavesSound, LivesFrom}
use Rattle.edit_premises.proofs.StaysSound.{compacted_sound, ends_moved}
use Rattle.code_edit.specs.Jumps.{Leads}

-- ---- what is left out

-- where what lives is closed
pub closed_leaves : (lives : ℕ → Bool) (code : Code) → IsClosed code lives → IsSound code
    → LeavesSound lives code
closed_leaves lives code is sound = record {
  some = (0, omega arith, sound.some, is.first);
  jump = λ at i e l. all_from (λ t. LivesFrom lives (length code.ins) t) (targets i.op)
      (λ k t x. (
        t,
        omega arith,
        all_at (λ t. t < length code.ins) (targets i.op) k t (sound.jump at i e) x,
        all_at (λ t. lives t ≡ true) (targets i.op) k t (is.jump at i l e) x,
      ));
  entry = all_from (λ (h : Handler). (at : ℕ) → at < length code.ins → lives at ≡ true
      → covers h at ≡ true → LivesFrom lives (length code.ins) h.entry) code.handlers
      (λ k h x at lt l c. (
        h.entry,
        omega arith,
        (all_at (IsPlaced (length code.ins)) code.handlers k h sound.handlers x).2,
        all_at (λ (h : Handler). (at : ℕ) → at < length code.ins → lives at ≡ true
            → covers h at ≡ true → lives h.entry ≡ true) code.handlers k h is.entry x at lt l c,
      ));
  last = λ at i e l none_after. by at i e l none_after (goes_elsewhere i.op) refl;
}
  where
    by : (at : ℕ) (i : Ins) → slice_get code.ins at ≡ Some i → lives at ≡ true
        → (LivesFrom lives (length code.ins) (at + 1) → ⊥)
        → (b : Bool) → goes_elsewhere i.op ≡ b → b ≡ true
    by at i e l none_after true g = refl
    by at i e l none_after false g = more (leb_tells (at + 1 + 1) (length code.ins))
      where
        more : ((nat_le (at + 1 + 1) (length code.ins) ≡ true) × (at + 1 + 1 ≤ length code.ins))
            ⊎ ((nat_le (at + 1 + 1) (length code.ins) ≡ false) × (length code.ins < at + 1 + 1))
            → false ≡ true
        more (inl q) =
            absurd
            (none_after (
              at + 1,
              omega arith,
              omega (arith, q.1),
              is.next at i l e g (omega (arith, q.1)),
            ))
        more (inr q) =
            let below = get_below code.ins at i e in
            let end : at + 1 ≡ length code.ins = omega (arith, below, q.1) in
            sym g ∙ sound.last at i e end

-- where the last index lives
pub last_leaves : (lives : ℕ → Bool) (code : Code) → (m : ℕ) → m + 1 ≡ length code.ins
    → lives m ≡ true → IsSound code → LeavesSound lives code
last_leaves lives code m end l sound = record {
  some = (m, omega arith, omega (arith, end), l);
  jump = λ at i e k. all_from (λ t. LivesFrom lives (length code.ins) t) (targets i.op)
      (λ j t x. let lt =
      all_at (λ t. t < length code.ins) (targets i.op) j t (sound.jump at i e) x in
      (m, omega (arith, lt, end), omega (arith, end), l));
  entry = all_from (λ (h : Handler). (at : ℕ) → at < length code.ins → lives at ≡ true
      → covers h at ≡ true → LivesFrom lives (length code.ins) h.entry) code.handlers
      (λ k h x at lt k2 c. let e =
      (all_at (IsPlaced (length code.ins)) code.handlers k h sound.handlers x).2 in
      (m, omega (arith, e, end), omega (arith, end), l));
  last = λ at i e k none_after. by at i e none_after (leb_tells (at + 1) m);
}
  where
    by : (at : ℕ) (i : Ins) → slice_get code.ins at ≡ Some i
        → (LivesFrom lives (length code.ins) (at + 1) → ⊥)
        → ((nat_le (at + 1) m ≡ true) × (at + 1 ≤ m)) ⊎ ((nat_le (at + 1) m ≡ false) × (m < at + 1))
        → goes_elsewhere i.op ≡ true
    by at i e none_after (inl q) = absurd (none_after (m, q.1, omega (arith, end), l))
    by at i e none_after (inr q) =
        let below = get_below code.ins at i e in
        sound.last at i e (omega (arith, below, q.1, end))

-- ---- what is rewritten

module _ (f : ℕ → Op → Op) (code : Code) (sound : IsSound code)
    (jump : (at : ℕ) (i : Ins) → slice_get code.ins at ≡ Some i
    → AllByRecursion (λ t. t < length code.ins) (targets (f at i.op)))
    (last : (at : ℕ) (i : Ins) → slice_get code.ins at ≡ Some i → at + 1 ≡ length code.ins
    → goes_elsewhere (f at i.op) ≡ true) where
  pub long : length (rewritten f code).ins ≡ length code.ins
  long = by 0 code.ins
    where
      by : (k : ℕ) (xs : List Ins) → length (map_from (λ at i. with_op (f at) i) k xs) ≡ length xs
      by k [] = refl
      by k (x ∷ xs) = ap suc (by (suc k) xs)

  was : (at : ℕ) (j : Ins) → slice_get (rewritten f code).ins at ≡ Some j → (i : Ins)
      × (slice_get code.ins at ≡ Some i) × (j ≡ with_op (f at) i)
  was at j e = by (slice_get code.ins at) refl
      (sym (map_from_get (λ k (i : Ins). with_op (f k) i) 0 code.ins at
      ∙ (let z : 0 + at ≡ at = omega arith in
      ap (λ k. option_map (with_op (f k)) (slice_get code.ins at)) z)) ∙ e)
    where
      by : (o : Option Ins) → slice_get code.ins at ≡ o → option_map (with_op (f at)) o ≡ Some j
          → (i : Ins) × (slice_get code.ins at ≡ Some i) × (j ≡ with_op (f at) i)
      by None q h = absurd cc
      by (Some i) q h = let same : with_op (f at) i ≡ j = cc in (i, q, sym same)

  pub rewritten_sound : IsSound (rewritten f code)
  rewritten_sound = record {
    some = subst (λ n. 0 < n) (sym long) sound.some;
    jump = λ at j e. let i = was at j e in
        subst (λ n. AllByRecursion (λ t. t < n) (targets j.op)) (sym long)
        (subst (λ (x : Ins). AllByRecursion (λ t. t < length code.ins) (targets x.op)) (sym i.2)
        (jump at i.0 i.1));
    handlers = subst (λ n. AllByRecursion (IsPlaced n) code.handlers) (sym long) sound.handlers;
    last = λ at j e end. let i = was at j e in
        ap (λ (x : Ins). goes_elsewhere x.op) i.2 ∙ last at i.0 i.1 (end ∙ long);
  }

-- the last index of a code that isn't empty
pub last_index : (n : ℕ) → 0 < n → (m : ℕ) × (m + 1 ≡ n)
last_index zero lt = absurd (omega (arith, lt))
last_index (suc m) lt = (m, omega arith)

-- ---- slots

module _ (acts : List Act) (code : Code) (sound : IsSound code) where
  popped_targets : (o : Op) → AllByRecursion (λ t. t < length code.ins) (targets o)
      → AllByRecursion (λ t. t < length code.ins) (targets (slots.popped o))
  popped_targets (op.Store kind.Int slot) h = tt
  popped_targets (op.Store kind.Long slot) h = tt
  popped_targets (op.Store kind.Ref slot) h = tt
  popped_targets o h = h

  slots_jump : (at : ℕ) (i : Ins) → slice_get code.ins at ≡ Some i
      → AllByRecursion (λ t. t < length code.ins) (targets (slots.slotted acts code at i.op))
  slots_jump at i e = by (slots.goes acts code at) (slots.is_cut acts at) (sound.jump at i e)
    where
      by : (b c : Bool) → AllByRecursion (λ t. t < length code.ins) (targets i.op)
          → AllByRecursion (λ t. t < length code.ins)
          (targets (if b then op.Nop else if c then slots.popped i.op else i.op))
      by true c h = tt
      by false true h = popped_targets i.op h
      by false false h = h

  no_store : (o : Op) → goes_elsewhere o ≡ true → slots.is_store o ≡ false
  no_store (op.Store k slot) e = absurd cc
  no_store o e = refl

  no_inc : (o : Op) → goes_elsewhere o ≡ true → slots.is_inc o ≡ false
  no_inc (op.Inc slot z) e = absurd cc
  no_inc o e = refl

  popped_same : (o : Op) → slots.is_store o ≡ false → slots.popped o ≡ o
  popped_same (op.Store k slot) e = absurd cc
  popped_same o e = refl

  not_taken : (a b c : Bool) → b ≡ false → (a && (b && c)) ≡ false
  not_taken true false c e = refl
  not_taken true true c e = absurd cc
  not_taken false b c e = refl

  none_goes : (a b c d : Bool) → a ≡ false → b ≡ false → d ≡ false → (a || (b || (c && d))) ≡ false
  none_goes false false true false p q r = refl
  none_goes false false false false p q r = refl
  none_goes true b c d p q r = absurd cc
  none_goes false true c d p q r = absurd cc
  none_goes false false c true p q r = absurd cc

  behind : (test : Op → Bool) (at : ℕ) → length code.ins ≤ at → of_ins test code at ≡ false
  behind test at le = by (slice_get code.ins at) refl
    where
      by : (o : Option Ins) → slice_get code.ins at ≡ o
          → option_map_or (λ (i : Ins). test i.op) o false ≡ false
      by None e = refl
      by (Some i) e = absurd (omega (arith, le, get_below code.ins at i e))

  -- the last instruction stays
  last_stays : (at : ℕ) (i : Ins) → slice_get code.ins at ≡ Some i → at + 1 ≡ length code.ins
      → slots.goes acts code at ≡ false
  last_stays at i e end =
      let ends = sound.last at i e end in
      none_goes (slots.takes_push acts code (at + 1)) (slots.takes_push acts code at)
      (slots.is_cut acts at) (of_ins slots.is_inc code at)
      (not_taken (slots.is_cut acts (at + 1)) (of_ins slots.is_store code (at + 1)) _
      (behind slots.is_store (at + 1) (omega (arith, end))))
      (not_taken (slots.is_cut acts at) (of_ins slots.is_store code at) _
      (ap (λ o. option_map_or (λ (i : Ins). slots.is_store i.op) o false) e
      ∙ no_store i.op ends))
      (ap (λ o. option_map_or (λ (i : Ins). slots.is_inc i.op) o false) e ∙ no_inc i.op ends)

  slots_last : (at : ℕ) (i : Ins) → slice_get code.ins at ≡ Some i → at + 1 ≡ length code.ins
      → goes_elsewhere (slots.slotted acts code at i.op) ≡ true
  slots_last at i e end =
      let ends = sound.last at i e end in
      ap
      (λ b. goes_elsewhere
      (if b then op.Nop else if slots.is_cut acts at then slots.popped i.op else i.op))
      (last_stays at i e end)
      ∙ by (slots.is_cut acts at) ends
    where
      by : (b : Bool) → goes_elsewhere i.op ≡ true
          → goes_elsewhere (if b then slots.popped i.op else i.op) ≡ true
      by true ends = ap goes_elsewhere (popped_same i.op (no_store i.op ends)) ∙ ends
      by false ends = ends

  pub slots_sound : IsSound (slots.slotted_code acts code)
  slots_sound =
      let m = last_index (length code.ins) sound.some in
      let i = found_at code.ins m.0 (omega (arith, m.1)) in
      let r = rewritten_sound (slots.slotted acts code) code sound slots_jump slots_last in
      compacted_sound (λ at. not (slots.goes acts code at))
      (rewritten (slots.slotted acts code) code)
      (last_leaves (λ at. not (slots.goes acts code at))
      (rewritten (slots.slotted acts code) code) m.0
      (m.1 ∙ sym (long (slots.slotted acts code) code sound slots_jump slots_last))
      (ap not (last_stays m.0 i.0 i.1 m.1)) r) r

  -- ---- jumps

  lead_below : (n t u : ℕ) → Leads code n t u → t < length code.ins → u < length code.ins
  lead_below zero t u l lt = subst (λ x. x < length code.ins) l lt
  lead_below (suc n) t u l lt =
      let to : l.1 < length code.ins =
      (subst (λ o. AllByRecursion (λ t. t < length code.ins) (targets o)) l.3
      (sound.jump t l.0 l.2)).0 in
      lead_below n l.1 u l.4 to

  module _ (legal : jumps.AreLegalJumps acts code) where
    pub aimed_below : (at : ℕ) (i : Ins) → slice_get code.ins at ≡ Some i → (which t : ℕ)
        → slice_get (targets i.op) which ≡ Some t
        → jumps.aim acts at which t < length code.ins
    aimed_below at i e which t x =
        let l = aims_lead acts code at i e which t x acts legal in
        lead_below l.0 t (jumps.aim acts at which t) l.1
        (all_at (λ t. t < length code.ins) (targets i.op) which t (sound.jump at i e) x)

    retargeted_below : (f : ℕ → ℕ → ℕ) (o : Op)
        → ((which t : ℕ) → slice_get (targets o) which ≡ Some t → f which t < length code.ins)
        → AllByRecursion (λ t. t < length code.ins) (targets (retargeted f o))
    retargeted_below f (op.IfZero c t) h = (h 0 t refl, tt)
    retargeted_below f (op.IfCmp c t) h = (h 0 t refl, tt)
    retargeted_below f (op.IfRef c t) h = (h 0 t refl, tt)
    retargeted_below f (op.IfNull c t) h = (h 0 t refl, tt)
    retargeted_below f (op.Goto t) h = (h 0 t refl, tt)
    retargeted_below f (op.TableSwitch low t ts) h = (
      h 0 t refl,
      table 1 ts (λ j u x. let e : suc j ≡ 1 + j = omega arith in
          subst (λ q. f q u < length code.ins) e (h (suc j) u x)),
    )
      where
        table : (k : ℕ) (ts : List ℕ)
            → ((j u : ℕ) → slice_get ts j ≡ Some u → f (k + j) u < length code.ins)
            → AllByRecursion (λ t. t < length code.ins) (map_from f k ts)
        table k [] h = tt
        table k (u ∷ us) h = (
          (let e : k + 0 ≡ k = omega arith in subst (λ q. f q u < length code.ins) e (h 0 u refl)),
          table (suc k) us (λ j v x. let e : k + suc j ≡ suc k + j = omega arith in
              subst (λ q. f q v < length code.ins) e (h (suc j) v x)),
        )
    retargeted_below f (op.LookupSwitch t cs) h = (
      h 0 t refl,
      cases 1 cs (λ j u x. let e : suc j ≡ 1 + j = omega arith in
          subst (λ q. f q u < length code.ins) e (h (suc j) u x)),
    )
      where
        cases : (k : ℕ) (cs : List Case)
            → ((j u : ℕ) → slice_get (map (λ (c : Case). c.to) cs) j ≡ Some u
            → f (k + j) u < length code.ins)
            → AllByRecursion (λ t. t < length code.ins)
            (map (λ (c : Case). c.to)
            (map_from (λ j (c : Case). record c { to = f j c.to }) k cs))
        cases k [] h = tt
        cases k (c ∷ cs) h = (
          (let e : k + 0 ≡ k = omega arith in
              subst (λ q. f q c.to < length code.ins) e (h 0 c.to refl)),
          cases (suc k) cs (λ j v x. let e : k + suc j ≡ suc k + j = omega arith in
              subst (λ q. f q v < length code.ins) e (h (suc j) v x)),
        )
    retargeted_below f o h = tt

    skipped_targets : (o : Op) → AllByRecursion (λ t. t < length code.ins) (targets o)
        → AllByRecursion (λ t. t < length code.ins) (targets (jumps.skipped o))
    skipped_targets (op.Goto t) h = tt
    skipped_targets (op.IfZero c t) h = tt
    skipped_targets (op.IfCmp c t) h = tt
    skipped_targets (op.IfRef c t) h = tt
    skipped_targets (op.IfNull c t) h = tt
    skipped_targets o h = h

    jumps_jump : (at : ℕ) (i : Ins) → slice_get code.ins at ≡ Some i
        → AllByRecursion (λ t. t < length code.ins) (targets (jumps.jumped acts at i.op))
    jumps_jump at i e = by (jumps.is_skipped acts at)
      where
        by : (b : Bool)
            → AllByRecursion (λ t. t < length code.ins)
            (targets (if b then jumps.skipped i.op else retargeted (jumps.aim acts at) i.op))
        by true = skipped_targets i.op (sound.jump at i e)
        by false =
            retargeted_below (jumps.aim acts at) i.op (λ which t x. aimed_below at i e which t x)

    -- the last instruction isn't skipped
    one_skip : (at : ℕ) → at + 1 ≡ length code.ins → (a : Act) → jumps.IsLegalJump acts code a
        → jumps.skips at a ≡ true → ⊥
    one_skip at end (act.Skip place) h e = by (eqb_tells at place)
      where
        by : (((at == place) ≡ true) × (at ≡ place)) ⊎ (((at == place) ≡ false) × (at ≢ place)) → ⊥
        by (inr q) = let x : true ≡ false = sym e ∙ q.0 in absurd cc
        by (inl q) =
            let b : jumps.aim acts place 0 h.1 < length code.ins =
            aimed_below place h.0 h.2 0 h.1 (first_target acts code h.0.op h.1 h.3) in
            omega (arith, b, h.4, end, q.1)
    one_skip at end (act.Aim place which to) h e = absurd cc
    one_skip at end a h e = absurd h

    pub not_skipped : (at : ℕ) → at + 1 ≡ length code.ins → jumps.is_skipped acts at ≡ false
    not_skipped at end = by (jumps.is_skipped acts at) refl
      where
        by : (b : Bool) → jumps.is_skipped acts at ≡ b → b ≡ false
        by false e = refl
        by true e = let x = any_where (jumps.skips at) acts e in
            absurd
            (one_skip at end x.1 (all_at (jumps.IsLegalJump acts code) acts x.0 x.1 legal x.2) x.3)

    jumps_last : (at : ℕ) (i : Ins) → slice_get code.ins at ≡ Some i → at + 1 ≡ length code.ins
        → goes_elsewhere (jumps.jumped acts at i.op) ≡ true
    jumps_last at i e end =
        ap
        (λ b. goes_elsewhere
        (if b then jumps.skipped i.op else retargeted (jumps.aim acts at) i.op))
        (not_skipped at end)
        ∙ ends_moved (jumps.aim acts at) i.op ∙ sound.last at i e end

    pub jumps_sound : IsSound (jumps.jumped_code acts code)
    jumps_sound =
        let m = last_index (length code.ins) sound.some in
        let r = rewritten_sound (jumps.jumped acts) code sound jumps_jump jumps_last in
        compacted_sound (jumps.stays acts code) (rewritten (jumps.jumped acts) code)
        (last_leaves (jumps.stays acts code) (rewritten (jumps.jumped acts) code) m.0
        (m.1 ∙ sym (long (jumps.jumped acts) code sound jumps_jump jumps_last))
        (ap
        (λ b. not
        (b && option_map_or (λ (i : Ins). jumps.is_goto i.op) (slice_get code.ins m.0) false))
        (not_skipped m.0 m.1)) r) r
