-- What is noted of one act more.
use Rattle.std.proofs.Common.{ℕ, suc, ◌+◌, ◌<◌, ◌≤◌, List, [], ◌∷◌, ◌++◌, Bool, true, false, ◌≡◌}
use Rattle.std.proofs.Common.{◌⊎◌, inl, inr, refl, sym, ap, ◌∙◌, arith, length-append}
use Rattle.std.specs.Prelude.{length, nat_le, if◌then◌else◌}
use Rattle.std.proofs.lemmas.Bool.Decides.{leb_tells}
use Rattle.std.specs.Option.{option_or}
use Rattle.code_edit.specs.declared.act.Act.{Act}
use Rattle.code_edit.specs.Jumps.{moved_by}
use Rattle.edit_legal.specs.Decidable.{all_folded, next_up_to, up_to, with_folded}
use Rattle.edit_legal.specs.Dropped.{with_drop, with_drops}
use Rattle.edit_tables.specs.declared.aims.Aims.{Aims}
use Rattle.edit_tables.specs.Aimed.{TellsAims, kept_aim, moved}
use Rattle.edit_tables.specs.Marks.{with_cut, with_cuts, with_skip, with_skips}
use Rattle.edit_tables.proofs.Aiming.{or_later, or_none}

pub drops_more : (before : List Act) (a : Act) (marks : List Bool)
    → with_drops (before ++ a ∷ []) marks ≡ with_drop a (with_drops before marks)
drops_more [] a marks = refl
drops_more (b ∷ before) a marks = drops_more before a (with_drop b marks)

pub cuts_more : (before : List Act) (a : Act) (marks : List Bool)
    → with_cuts (before ++ a ∷ []) marks ≡ with_cut a (with_cuts before marks)
cuts_more [] a marks = refl
cuts_more (b ∷ before) a marks = cuts_more before a (with_cut b marks)

pub skips_more : (before : List Act) (a : Act) (marks : List Bool)
    → with_skips (before ++ a ∷ []) marks ≡ with_skip a (with_skips before marks)
skips_more [] a marks = refl
skips_more (b ∷ before) a marks = skips_more before a (with_skip b marks)

moved_more : (before : List Act) (a : Act) (at which : ℕ)
    → moved (before ++ a ∷ []) at which ≡ option_or (moved before at which) (moved_by at which a)
moved_more [] a at which = sym (or_none (moved_by at which a))
moved_more (b ∷ before) a at which =
    ap (option_or (moved_by at which b)) (moved_more before a at which)
    ∙ sym (or_later (moved_by at which b) (moved before at which) (moved_by at which a))

pub aims_more : (old new : Aims) (before : List Act) (a : Act) → TellsAims old before
    → ((index number : ℕ) → kept_aim new index number
    ≡ option_or (kept_aim old index number) (moved_by index number a))
    → TellsAims new (before ++ a ∷ [])
aims_more old new before a told kept at which =
    kept at which ∙ ap (λ o. option_or o (moved_by at which a)) (told at which)
    ∙ sym (moved_more before a at which)

pub folds_more : (before : List Act) (a : Act) (marks : List Bool)
    → all_folded (before ++ a ∷ []) marks ≡ with_folded a (all_folded before marks)
folds_more [] a marks = refl
folds_more (b ∷ before) a marks = folds_more before a (with_folded b marks)

pub number_more : (before : List Act) (a : Act) (n : ℕ)
    → next_up_to (up_to (length before) n) n ≡ up_to (length (before ++ a ∷ [])) n
number_more before a n =
    by (leb_tells (suc (length before)) n) (leb_tells (suc (length (before ++ a ∷ []))) n)
  where
    long : length (before ++ a ∷ []) ≡ length before + 1
    long = length-append before (a ∷ [])

    full : next_up_to n n ≡ n
    full = of (leb_tells (suc n) n)
      where
        of : ((nat_le (suc n) n ≡ true) × (suc n ≤ n)) ⊎ ((nat_le (suc n) n ≡ false) × (n < suc n))
            → next_up_to n n ≡ n
        of (inl q) = absurd (omega (arith, q.1))
        of (inr q) = ap (λ b. if b then n + 1 else n) q.0

    by : ((nat_le (suc (length before)) n ≡ true) × (suc (length before) ≤ n))
        ⊎ ((nat_le (suc (length before)) n ≡ false) × (n < suc (length before)))
        → ((nat_le (suc (length (before ++ a ∷ []))) n ≡ true)
        × (suc (length (before ++ a ∷ [])) ≤ n))
        ⊎ ((nat_le (suc (length (before ++ a ∷ []))) n ≡ false)
        × (n < suc (length (before ++ a ∷ []))))
        → next_up_to (up_to (length before) n) n ≡ up_to (length (before ++ a ∷ [])) n
    by (inl p) (inl q) =
        ap (λ b. next_up_to (if b then length before else n) n) p.0
        ∙ ap (λ b. if b then length before + 1 else length before) p.0 ∙ sym long
        ∙ ap (λ b. if b then length (before ++ a ∷ []) else n) (sym q.0)
    by (inl p) (inr q) =
        let end : length before + 1 ≡ n = omega (arith, p.1, q.1, long) in
        ap (λ b. next_up_to (if b then length before else n) n) p.0
        ∙ ap (λ b. if b then length before + 1 else length before) p.0 ∙ end
        ∙ ap (λ b. if b then length (before ++ a ∷ []) else n) (sym q.0)
    by (inr p) (inl q) = absurd (omega (arith, p.1, q.1, long))
    by (inr p) (inr q) =
        ap (λ b. next_up_to (if b then length before else n) n) p.0 ∙ full
        ∙ ap (λ b. if b then length (before ++ a ∷ []) else n) (sym q.0)
