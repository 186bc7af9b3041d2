-- What tables tell of the acts of a step.
use Rattle.std.proofs.Common.{◌≡◌, ◌⊎◌, inl, inr, ℕ, zero, suc, ◌+◌, ◌≤◌, ◌<◌, Bool, true, false, ◌||◌, List, [], ◌∷◌}
use Rattle.std.proofs.Common.{length, refl, sym, ap, subst, ◌∙◌, arith, Option, Some, None, slice_get}
use Rattle.std.specs.Prelude.{nat_eq, nat_le, slice_index_or}
use Rattle.std.specs.List.{AllByRecursion, list_any}
use Rattle.std.specs.Option.{option_map_or}
use Rattle.std.proofs.lemmas.Bool.Decides.{leb_tells}
use Rattle.class_model.specs.Frames.{words_of_types}
use Rattle.class_model.specs.WellFormed.{IsGoodFrame}
use Rattle.class_model.specs.declared.code.Code.{Code}
use Rattle.class_model.specs.declared.code.Ins.{Ins}
use Rattle.class_model.specs.declared.frame.FrameAt.{FrameAt}
use Rattle.class_model.specs.declared.op.Op.{Op}
use Rattle.class_model.specs.declared.op.Op.TheVariants as op
use Rattle.code_edit.specs.declared.act.Act.{Act}
use Rattle.code_edit.specs.declared.act.Act.TheVariants as act
use Rattle.code_edit.specs.declared.act.Pass.{Pass}
use Rattle.code_edit.specs.Applied.{lives_of}
use Rattle.code_edit.specs.Flow.{is_target}
use Rattle.code_edit.specs.Rewriting.{place}
use Rattle.edit_check.specs.Lives.{TellsLives}
use Rattle.edit_tables.specs.Loads.{slot_count, slot_end}
use Rattle.edit_tables.specs.Marks.{has, marked, none, target_marks}
use Rattle.edit_tables.specs.Places.{counts_from, lives_in, place_in}
use Rattle.edit_tables.proofs.Counting.{place_is}
use Rattle.edit_tables.proofs.Loading.{slot_within}
use Rattle.edit_tables.proofs.Marking.{has_marked, has_none, has_outside, marked_long, none_long, or_false, or_later}
use Rattle.edit_tables.proofs.Marking.{targets_marked}
use Rattle.edit_tables.proofs.Telling.{is_false, numbers_same}
use Rattle.frame_rebuild.specs.Carried.{carried}
use Rattle.frame_rebuild.specs.Rebuilt.{cuts_slot, frames_after, is_slot_cut, written}
use Rattle.frame_rebuild.specs.bodies.Fitting.{AllFit, Fits, end_of, is_gone, is_led, stays}
use Rattle.frame_rebuild.specs.bodies.Slots.{slots_of, with_slot, with_slots, written_by}
use Rattle.frame_rebuild.specs.bodies.Told.{TellsMoves}
use Rattle.frame_rebuild.specs.declared.moves.Moves.{Moves}
use Rattle.frame_rebuild.proofs.Same.{carried_same, frames_below, place_same}

-- ---- slots

slot_long : (code : Code) (a : Act) (ms : List Bool) → length (with_slot code a ms) ≡ length ms
slot_long code (act.Cut at) ms = marked_long (written_by (slice_get code.ins at)) ms
slot_long code a ms = refl

slots_long : (code : Code) (acts : List Act) (ms : List Bool) → length (with_slots code acts ms) ≡ length ms
slots_long code [] ms = refl
slots_long code (a ∷ acts) ms = slots_long code acts (with_slot code a ms) ∙ slot_long code a ms

has_slot : (code : Code) (a : Act) (ms : List Bool) (slot : ℕ) → slot < length ms
    → has (with_slot code a ms) slot ≡ (has ms slot || cuts_slot code slot a)
has_slot code (act.Cut at) ms slot lt =
    has_marked (written_by (slice_get code.ins at)) ms slot lt
    ∙ ap (λ b. has ms slot || b) (by (slice_get code.ins at) refl)
  where
    by : (o : Option Ins) → slice_get code.ins at ≡ o
        → list_any (nat_eq slot) (written_by (slice_get code.ins at)) ≡ cuts_slot code slot (act.Cut at)
    by (Some i) e = rw e refl
    by None e = rw e refl
has_slot code a ms slot lt = or_false (has ms slot)

has_slots : (code : Code) (acts : List Act) (ms : List Bool) (slot : ℕ) → slot < length ms
    → has (with_slots code acts ms) slot ≡ (has ms slot || is_slot_cut acts code slot)
has_slots code [] ms slot lt = or_false (has ms slot)
has_slots code (a ∷ acts) ms slot lt =
    has_slots code acts (with_slot code a ms) slot (subst (λ n. slot < n) (sym (slot_long code a ms)) lt)
    ∙ ap (λ b. b || is_slot_cut acts code slot) (has_slot code a ms slot lt)
    ∙ or_later (has ms slot) (cuts_slot code slot a) (is_slot_cut acts code slot)

-- a slot that is written is before the end
written_end : (o : Op) (slot : ℕ) → list_any (nat_eq slot) (written o) ≡ true → slot < slot_end o
written_end (op.Store kind s) slot e = let same = numbers_same slot s (alone (nat_eq slot s) e) in omega (arith, same)
  where
    alone : (b : Bool) → (b || false) ≡ true → b ≡ true
    alone true q = q
    alone false q = q
written_end (op.Inc s by) slot e = let same = numbers_same slot s (alone (nat_eq slot s) e) in omega (arith, same)
  where
    alone : (b : Bool) → (b || false) ≡ true → b ≡ true
    alone true q = q
    alone false q = q
written_end o slot e = absurd cc

none_far : (code : Code) (slot : ℕ) → slot_count code.ins ≤ slot → (acts : List Act)
    → is_slot_cut acts code slot ≡ false
none_far code slot le [] = refl
none_far code slot le (a ∷ acts) =
    ap (λ b. b || is_slot_cut acts code slot) (here a) ∙ none_far code slot le acts
  where
    here : (a : Act) → cuts_slot code slot a ≡ false
    here (act.Cut at) = is_false (cuts_slot code slot (act.Cut at)) (λ e. by (slice_get code.ins at) refl e)
      where
        test : Option Ins → Bool
        test o = option_map_or (λ (i : Ins). list_any (nat_eq slot) (written i.op)) o false

        not_true : false ≡ true → ⊥
        not_true q = cc

        by : (o : Option Ins) → slice_get code.ins at ≡ o → cuts_slot code slot (act.Cut at) ≡ true → ⊥
        by (Some i) is e =
            let there : list_any (nat_eq slot) (written i.op) ≡ true = sym (ap test is) ∙ e in
            let low = written_end i.op slot there in
            let high = slot_within code.ins at i is in
            omega (arith, low, high, le)
        by None is e = not_true (sym (ap test is) ∙ e)
    here a = refl

slots_tell : (code : Code) (acts : List Act) (slot : ℕ)
    → has (slots_of code acts) slot ≡ is_slot_cut acts code slot
slots_tell code acts slot = by (leb_tells (suc slot) (slot_count code.ins))
  where
    by : ((nat_le (suc slot) (slot_count code.ins) ≡ true) × (suc slot ≤ slot_count code.ins))
        ⊎ ((nat_le (suc slot) (slot_count code.ins) ≡ false) × (slot_count code.ins < suc slot))
        → has (slots_of code acts) slot ≡ is_slot_cut acts code slot
    by (inl p) =
        has_slots code acts (none (slot_count code.ins)) slot
        (subst (λ m. slot < m) (sym (none_long (slot_count code.ins))) (omega (arith, p.1)))
        ∙ ap (λ b. b || is_slot_cut acts code slot) (has_none (slot_count code.ins) slot)
    by (inr p) =
        let le : slot_count code.ins ≤ slot = omega (arith, p.1) in
        has_outside (slots_of code acts) slot
        (subst (λ m. m ≤ slot) (sym (slots_long code acts (none (slot_count code.ins))
        ∙ none_long (slot_count code.ins))) le)
        ∙ sym (none_far code slot le acts)

-- ---- all tables

-- inside a list it doesn't matter what is said of the outside
inside : (xs : List Bool) (at : ℕ) → at < length xs → has xs at ≡ lives_in xs at
inside [] at lt = absurd (omega (arith, lt))
inside (x ∷ xs) zero lt = refl
inside (x ∷ xs) (suc at) lt = inside xs at (omega (arith, lt))

pub moves_tell : (pass : Pass) (acts : List Act) (code : Code) (m : Moves)
    → TellsLives pass acts code m.lives.items → m.places.items ≡ counts_from 0 m.lives.items
    → m.targets.items ≡ target_marks code → m.cut.items ≡ slots_of code acts
    → TellsMoves pass acts code m
moves_tell pass acts code m lives places targets cut = record {
  long = lives.long;
  lives = λ at lt. inside m.lives.items at (subst (λ n. at < n) (sym lives.long) lt) ∙ lives.each at lt;
  targets = λ at lt. ap (λ (xs : List Bool). has xs at) targets ∙ targets_marked code at lt;
  cut = λ slot. ap (λ (xs : List Bool). has xs slot) cut ∙ slots_tell code acts slot;
  moved = λ at le. ap (λ (xs : List ℕ). place_in xs at) places ∙ place_is m.lives.items at le
      ∙ sym (place_same (has m.lives.items) (lives_in m.lives.items) (length m.lives.items)
      (inside m.lives.items) at le);
}

-- ---- frames

-- frames of a good code fit
fit : (code : Code) (n : ℕ) → n ≡ length code.ins → code.max_locals ≤ 65535 → (frames : List FrameAt)
    → AllByRecursion (IsGoodFrame code) frames → AllByRecursion (Fits n) frames
fit code n is most [] h = tt
fit code n is most (f ∷ fs) h = (
  record {
    index = subst (λ k. f.index < k) (sym is) h.0.index;
    locals = (let few = h.0.locals_fit in omega (arith, few, most));
  },
  fit code n is most fs h.1,
)

pub frames_fit : (pass : Pass) (acts : List Act) (code : Code) (m : Moves) → TellsMoves pass acts code m
    → code.max_locals ≤ 65535 → AllByRecursion (IsGoodFrame code) code.frames → AllFit m code.frames
frames_fit pass acts code m tells most good = fit code (length m.lives.items) tells.long most code.frames good

-- frames that are carried by the tables are those after the acts
pub frames_are : (pass : Pass) (acts : List Act) (code : Code) (m : Moves) → TellsMoves pass acts code m
    → AllByRecursion (IsGoodFrame code) code.frames
    → carried (stays m) (is_led m) (is_gone m) (end_of m) code.frames ≡ frames_after pass acts code
frames_are pass acts code m tells good =
    let n = length code.ins in
    let end : end_of m ≡ place (lives_of pass acts code) n =
    ap (place (stays m)) tells.long
    ∙ place_same (stays m) (lives_of pass acts code) n tells.lives n (omega arith) in
    (λ i. carried (stays m) (is_led m) (λ slot. tells.cut slot i) (end i) code.frames)
    ∙ carried_same (stays m) (lives_of pass acts code) n tells.lives (is_slot_cut acts code) (is_led m)
    (is_target code) tells.targets (place (lives_of pass acts code) n) code.frames
    (frames_below code code.frames good)
