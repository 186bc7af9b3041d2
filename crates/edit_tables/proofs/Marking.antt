-- What is marked on indices.
use Rattle.std.proofs.Common.{ℕ, zero, suc, ◌<◌, ◌≤◌, List, [], ◌∷◌, Bool, true, false}
use Rattle.std.proofs.Common.{◌≡◌, ◌≢◌, ◌⊎◌}
use Rattle.std.proofs.Common.{inl, inr, refl, sym, ap, ◌∙◌, subst, arith}
use Rattle.std.specs.Prelude.{length, nat_eq, nat_lt, slice_set, ◌||◌}
use Rattle.std.specs.Prelude.{if◌then◌else◌}
use Rattle.std.specs.List.{list_any}
use Rattle.std.proofs.lemmas.Bool.Decides.{eqb_tells, leb_tells}
use Rattle.class_model.specs.declared.code.Code.{Code}
use Rattle.class_model.specs.declared.code.Handler.{Handler}
use Rattle.class_model.specs.declared.code.Ins.{Ins}
use Rattle.code_edit.specs.declared.act.Act.{Act}
use Rattle.code_edit.specs.declared.act.Act.TheVariants as act
use Rattle.code_edit.specs.Flow.{is_target, targets}
use Rattle.code_edit.specs.Jumps.{is_skipped, skips}
use Rattle.code_edit.specs.Slots.{cuts, is_cut}
use Rattle.edit_tables.specs.Marks.{has, marked, none, put, target_marks, with_cut, with_cuts}
use Rattle.edit_tables.specs.Marks.{with_entries, with_skip, with_skips, with_targets}

-- ---- one mark

set_long : (ms : List Bool) (x : ℕ) → length (slice_set ms x true) ≡ length ms
set_long [] x = refl
set_long (m ∷ ms) zero = refl
set_long (m ∷ ms) (suc x) = ap suc (set_long ms x)

pub put_long : (x : ℕ) (ms : List Bool) → length (put x ms) ≡ length ms
put_long x ms = by (nat_lt x (length ms))
  where
    by : (b : Bool) → length (if b then slice_set ms x true else ms) ≡ length ms
    by true = set_long ms x
    by false = refl

or_true : (a : Bool) → true ≡ (a || true)
or_true true = refl
or_true false = refl

pub or_false : (a : Bool) → a ≡ (a || false)
or_false true = refl
or_false false = refl

eq_suc : (a x : ℕ) → nat_eq (suc a) (suc x) ≡ nat_eq a x
eq_suc a x = by (eqb_tells (suc a) (suc x)) (eqb_tells a x)
  where
    by : ((nat_eq (suc a) (suc x) ≡ true) × (suc a ≡ suc x))
        ⊎ ((nat_eq (suc a) (suc x) ≡ false) × (suc a ≢ suc x))
        → ((nat_eq a x ≡ true) × (a ≡ x)) ⊎ ((nat_eq a x ≡ false) × (a ≢ x))
        → nat_eq (suc a) (suc x) ≡ nat_eq a x
    by (inl p) (inl q) = p.0 ∙ sym q.0
    by (inl p) (inr q) = absurd (q.1 (omega (arith, p.1)))
    by (inr p) (inl q) = absurd (p.1 (ap suc q.1))
    by (inr p) (inr q) = p.0 ∙ sym q.0

apart : (a x : ℕ) → a ≢ x → nat_eq a x ≡ false
apart a x n = by (eqb_tells a x)
  where
    by : ((nat_eq a x ≡ true) × (a ≡ x)) ⊎ ((nat_eq a x ≡ false) × (a ≢ x)) → nat_eq a x ≡ false
    by (inl p) = absurd (n p.1)
    by (inr p) = p.0

has_set : (ms : List Bool) (x at : ℕ) → at < length ms
    → has (slice_set ms x true) at ≡ (has ms at || nat_eq at x)
has_set [] x at lt = absurd (omega (arith, lt))
has_set (m ∷ ms) zero zero lt = or_true m
has_set (m ∷ ms) zero (suc at) lt = or_false (has ms at)
    ∙ ap (λ b. has ms at || b) (sym (apart (suc at) 0 (λ e. omega (arith, e))))
has_set (m ∷ ms) (suc x) zero lt = or_false m
    ∙ ap (λ b. m || b) (sym (apart 0 (suc x) (λ e. omega (arith, e))))
has_set (m ∷ ms) (suc x) (suc at) lt = has_set ms x at (omega (arith, lt))
    ∙ ap (λ b. has ms at || b) (sym (eq_suc at x))

pub has_put : (x : ℕ) (ms : List Bool) (at : ℕ) → at < length ms
    → has (put x ms) at ≡ (has ms at || nat_eq at x)
has_put x ms at lt = by (leb_tells (suc x) (length ms))
  where
    by : ((nat_lt x (length ms) ≡ true) × (suc x ≤ length ms))
        ⊎ ((nat_lt x (length ms) ≡ false) × (length ms < suc x))
        → has
        (if nat_lt x (length ms) then slice_set ms x true else ms)
        at ≡ (has ms at || nat_eq at x)
    by (inl p) = ap (λ b. has (if b then slice_set ms x true else ms) at) p.0 ∙ has_set ms x at lt
    by (inr p) = ap (λ b. has (if b then slice_set ms x true else ms) at) p.0 ∙ or_false (has ms at)
        ∙ ap (λ b. has ms at || b) (sym (apart at x (λ e. omega (arith, e, p.1, lt))))

-- ---- many

pub or_later : (a b c : Bool) → ((a || b) || c) ≡ (a || (b || c))
or_later true b c = refl
or_later false b c = refl

pub marked_long : (xs : List ℕ) (ms : List Bool) → length (marked xs ms) ≡ length ms
marked_long [] ms = refl
marked_long (x ∷ xs) ms = marked_long xs (put x ms) ∙ put_long x ms

pub has_marked : (xs : List ℕ) (ms : List Bool) (at : ℕ) → at < length ms
    → has (marked xs ms) at ≡ (has ms at || list_any (nat_eq at) xs)
has_marked [] ms at lt = or_false (has ms at)
has_marked (x ∷ xs) ms at lt =
    has_marked xs (put x ms) at (subst (λ n. at < n) (sym (put_long x ms)) lt)
    ∙ ap (λ b. b || list_any (nat_eq at) xs) (has_put x ms at lt)
    ∙ or_later (has ms at) (nat_eq at x) (list_any (nat_eq at) xs)

-- ---- none yet

pub none_long : (count : ℕ) → length (none count) ≡ count
none_long zero = refl
none_long (suc count) = ap suc (none_long count)

pub has_none : (count at : ℕ) → has (none count) at ≡ false
has_none zero at = refl
has_none (suc count) zero = refl
has_none (suc count) (suc at) = has_none count at

-- outside the list nothing is marked
pub has_outside : (ms : List Bool) (at : ℕ) → length ms ≤ at → has ms at ≡ false
has_outside [] at le = refl
has_outside (m ∷ ms) zero le = absurd (omega (arith, le))
has_outside (m ∷ ms) (suc at) le = has_outside ms at (omega (arith, le))

-- ---- targets

targets_long : (ins : List Ins) (ms : List Bool) → length (with_targets ins ms) ≡ length ms
targets_long [] ms = refl
targets_long (i ∷ ins) ms = targets_long ins (marked (targets i.op) ms)
    ∙ marked_long (targets i.op) ms

has_targets : (ins : List Ins) (ms : List Bool) (at : ℕ) → at < length ms
    → has
    (with_targets ins ms) at ≡ (has ms at || list_any
    (λ (i : Ins). list_any (nat_eq at) (targets i.op)) ins)
has_targets [] ms at lt = or_false (has ms at)
has_targets (i ∷ ins) ms at lt =
    has_targets ins (marked (targets i.op) ms) at
    (subst (λ n. at < n) (sym (marked_long (targets i.op) ms)) lt)
    ∙ ap (λ b. b || list_any (λ (i : Ins). list_any (nat_eq at) (targets i.op)) ins)
    (has_marked (targets i.op) ms at lt)
    ∙ or_later (has ms at) (list_any (nat_eq at) (targets i.op))
    (list_any (λ (i : Ins). list_any (nat_eq at) (targets i.op)) ins)

has_entries : (hs : List Handler) (ms : List Bool) (at : ℕ) → at < length ms
    → has (with_entries hs ms) at ≡ (has ms at || list_any (λ (h : Handler). nat_eq at h.entry) hs)
has_entries [] ms at lt = or_false (has ms at)
has_entries (h ∷ hs) ms at lt =
    has_entries hs (put h.entry ms) at (subst (λ n. at < n) (sym (put_long h.entry ms)) lt)
    ∙ ap (λ b. b || list_any (λ (h : Handler). nat_eq at h.entry) hs) (has_put h.entry ms at lt)
    ∙ or_later (has ms at) (nat_eq at h.entry) (list_any (λ (h : Handler). nat_eq at h.entry) hs)

-- where handlers begin
pub entries_marked : (code : Code) (at : ℕ) → at < length code.ins
    → has (with_entries code.handlers (none (length code.ins))) at
    ≡ list_any (λ (h : Handler). nat_eq at h.entry) code.handlers
entries_marked code at lt =
    let n = none (length code.ins) in
    has_entries code.handlers n at (subst (λ k. at < k) (sym (none_long (length code.ins))) lt)
    ∙ ap (λ b. b || list_any (λ (h : Handler). nat_eq at h.entry) code.handlers)
    (has_none (length code.ins) at)

pub targets_marked : (code : Code) (at : ℕ) → at < length code.ins
    → has (target_marks code) at ≡ is_target code at
targets_marked code at lt =
    let n = none (length code.ins) in
    let long : at < length n = subst (λ k. at < k) (sym (none_long (length code.ins))) lt in
    has_entries code.handlers (with_targets code.ins n) at
    (subst (λ k. at < k) (sym (targets_long code.ins n)) long)
    ∙ ap (λ b. b || list_any (λ (h : Handler). nat_eq at h.entry) code.handlers)
    (has_targets code.ins n at long
    ∙ ap (λ b. b || list_any (λ (i : Ins). list_any (nat_eq at) (targets i.op)) code.ins)
    (has_none (length code.ins) at))

-- ---- acts

cut_long : (a : Act) (ms : List Bool) → length (with_cut a ms) ≡ length ms
cut_long (act.Cut x) ms = put_long x ms
cut_long a ms = refl

pub cuts_long : (acts : List Act) (ms : List Bool) → length (with_cuts acts ms) ≡ length ms
cuts_long [] ms = refl
cuts_long (a ∷ acts) ms = cuts_long acts (with_cut a ms) ∙ cut_long a ms

has_cut : (a : Act) (ms : List Bool) (at : ℕ) → at < length ms
    → has (with_cut a ms) at ≡ (has ms at || cuts at a)
has_cut (act.Cut x) ms at lt = has_put x ms at lt
has_cut a ms at lt = or_false (has ms at)

has_cuts : (acts : List Act) (ms : List Bool) (at : ℕ) → at < length ms
    → has (with_cuts acts ms) at ≡ (has ms at || is_cut acts at)
has_cuts [] ms at lt = or_false (has ms at)
has_cuts (a ∷ acts) ms at lt =
    has_cuts acts (with_cut a ms) at (subst (λ n. at < n) (sym (cut_long a ms)) lt)
    ∙ ap (λ b. b || is_cut acts at) (has_cut a ms at lt)
    ∙ or_later (has ms at) (cuts at a) (is_cut acts at)

pub cuts_marked : (acts : List Act) (count at : ℕ) → at < count
    → has (with_cuts acts (none count)) at ≡ is_cut acts at
cuts_marked acts count at lt =
    has_cuts acts (none count) at (subst (λ n. at < n) (sym (none_long count)) lt)
    ∙ ap (λ b. b || is_cut acts at) (has_none count at)

pub cuts_outside : (acts : List Act) (count at : ℕ) → count ≤ at
    → has (with_cuts acts (none count)) at ≡ false
cuts_outside acts count at le =
    has_outside (with_cuts acts (none count)) at
    (subst (λ n. n ≤ at) (sym (cuts_long acts (none count) ∙ none_long count)) le)

skip_long : (a : Act) (ms : List Bool) → length (with_skip a ms) ≡ length ms
skip_long (act.Skip x) ms = put_long x ms
skip_long a ms = refl

pub skips_long : (acts : List Act) (ms : List Bool) → length (with_skips acts ms) ≡ length ms
skips_long [] ms = refl
skips_long (a ∷ acts) ms = skips_long acts (with_skip a ms) ∙ skip_long a ms

has_skip : (a : Act) (ms : List Bool) (at : ℕ) → at < length ms
    → has (with_skip a ms) at ≡ (has ms at || skips at a)
has_skip (act.Skip x) ms at lt = has_put x ms at lt
has_skip a ms at lt = or_false (has ms at)

has_skips : (acts : List Act) (ms : List Bool) (at : ℕ) → at < length ms
    → has (with_skips acts ms) at ≡ (has ms at || is_skipped acts at)
has_skips [] ms at lt = or_false (has ms at)
has_skips (a ∷ acts) ms at lt =
    has_skips acts (with_skip a ms) at (subst (λ n. at < n) (sym (skip_long a ms)) lt)
    ∙ ap (λ b. b || is_skipped acts at) (has_skip a ms at lt)
    ∙ or_later (has ms at) (skips at a) (is_skipped acts at)

pub skips_marked : (acts : List Act) (count at : ℕ) → at < count
    → has (with_skips acts (none count)) at ≡ is_skipped acts at
skips_marked acts count at lt =
    has_skips acts (none count) at (subst (λ n. at < n) (sym (none_long count)) lt)
    ∙ ap (λ b. b || is_skipped acts at) (has_none count at)

pub skips_outside : (acts : List Act) (count at : ℕ) → count ≤ at
    → has (with_skips acts (none count)) at ≡ false
skips_outside acts count at le =
    has_outside (with_skips acts (none count)) at
    (subst (λ n. n ≤ at) (sym (skips_long acts (none count) ∙ none_long count)) le)
