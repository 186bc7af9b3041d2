-- What is done once an item was taken, and at the end.
use Rattle.std.proofs.Common.{◌≡◌, ◌⊎◌, ℕ, ◌<◌, IsTrue, [], ◌∷◌, ◌++◌, length, get_or, inl, inr, ⊎_elim, subst, sym}
use Rattle.std.proofs.Common.{arith}
use Rattle.std.specs.List.{All, Contains}
use Rattle.std.proofs.lemmas.List.Elements.{All-weaker, Contains-push_cases}
use Rattle.mark_core.specs.declared.system.System.{System}
use Rattle.mark_core.specs.declared.system.Pair.{Pair}
use Rattle.mark_core.specs.declared.plain.Worklist.{Worklist}
use Rattle.mark_core.specs.Marks.{Marks, needs_of, set_of}
use Rattle.mark_core.specs.bodies.Worklist.{Has, Waits, IsSound, Grows, IsDone, AllPairsDone, IsOpen}

-- x was popped from old, which left mid, and what it requires was marked, which gave new
pub open_after : (sys : System) (old mid new : Worklist) (x : ℕ) → IsOpen sys old → mid.marks.items ≡ old.marks.items
    → old.waiting.items ≡ mid.waiting.items ++ x ∷ []
    → IsSound sys new → Grows mid new → All (Has new) (needs_of sys x) → AllPairsDone sys new x → IsOpen sys new
open_after sys old mid new x open_old marks waiting sound grows needs pairs =
    let has_mid : (y : ℕ) → Has old y → Has mid y = λ y has. subst (λ ms. IsTrue (set_of ms y)) (sym marks) has in
    let has_old : (y : ℕ) → Has mid y → Has old y = λ y has. subst (λ ms. IsTrue (set_of ms y)) marks has in
    let has_new : (y : ℕ) → Has old y → Has new y = λ y has. grows.keeps y (has_mid y has) in
    let waits : (y : ℕ) → Waits old y → Waits new y ⊎ (x ≡ y) = λ y w.
    ⊎_elim (λ kept. inl (grows.waits y kept)) inr
    (Contains-push_cases mid.waiting.items x y (subst (λ l. Contains l y) waiting w)) in
    let was : (y : ℕ) → Has new y
    → Has old y ⊎ Waits new y = λ y has. ⊎_elim (λ had. inl (has_old y had)) inr (grows.fresh y has) in
    record {
      sound = sound;
      seeds = All-weaker (Has old) (Has new) has_new sys.seeds open_old.seeds;
      needs = λ y has. ⊎_elim
          (λ had. ⊎_elim
          (λ w. ⊎_elim inl (λ taken. inr (subst (λ z. All (Has new) (needs_of sys z)) taken needs)) (waits y w))
          (λ all. inr (All-weaker (Has old) (Has new) has_new (needs_of sys y) all))
          (open_old.needs y had))
          inl (was y has);
      pairs = λ k d lt one two.
          let pair : Pair = get_or sys.pairs k d in
          let taken_one : x ≡ pair.one → IsDone new pair = λ e. pairs k d lt (inl (sym e)) in
          let taken_two : x ≡ pair.two → IsDone new pair = λ e. pairs k d lt (inr (sym e)) in
          ⊎_elim
          (λ had_one. ⊎_elim
          (λ had_two. ⊎_elim
          (λ w. ⊎_elim inl (λ e. taken_one e one two) (waits pair.one w))
          (λ rest. ⊎_elim (λ w. ⊎_elim (λ v. inr (inl v)) (λ e. taken_two e one two) (waits pair.two w))
          (λ has. inr (inr (has_new pair.derived has))) rest)
          (open_old.pairs k d lt had_one had_two))
          (λ w. inr (inl w)) (was pair.two two))
          inl (was pair.one one);
    }

pub marks_at_end : (sys : System) (work : Worklist) → IsOpen sys work → length work.waiting.items ≡ 0
    → Marks sys work.marks.items
marks_at_end sys work opened empty =
    let idle : (x : ℕ) → Waits work x
    → ⊥ = λ x w. (let lt : w.0 < length work.waiting.items = w.1 in omega (arith, lt, empty)) in
    record {
      count = opened.sound.count;
      closed = record {
        seeds = opened.seeds;
        needs = λ x has. ⊎_elim (λ w. absurd (idle x w)) (λ all. all) (opened.needs x has);
        pairs = λ k d lt one two. ⊎_elim (λ w. absurd (idle _ w))
            (λ rest. ⊎_elim (λ w. absurd (idle _ w)) (λ has. has) rest) (opened.pairs k d lt one two);
      };
      least = opened.sound.due;
    }
