-- Aims that are kept in a tree.
use Rattle.std.proofs.Common.{ℕ, true, false, cond, Option, Some, None, ◌≡◌, ◌≢◌, ◌⊎◌, inl}
use Rattle.std.proofs.Common.{inr, refl, sym, ap, ◌∙◌, List, [], ◌∷◌}
use Rattle.std.specs.Prelude.{◌&&◌, ◌==◌, if◌then◌else◌, is_some}
use Rattle.std.specs.BTreeMap.{get}
use Rattle.std.specs.Cmp.{nat_cmp_is}
use Rattle.std.specs.Option.{option_or, unwrap_or}
use Rattle.std.specs.Ordering.{is_eq, nat_cmp, ordering_then}
use Rattle.std.specs.declared.cmp.Ordering.{Ordering}
use Rattle.std.specs.declared.cmp.Ordering.TheVariants.{Less, Equal, Greater}
use Rattle.std.proofs.lemmas.Bool.Decides.{eqb_tells}
use Rattle.std.proofs.lemmas.Map.Lookups.{exact_unsigned}
use Rattle.code_edit.specs.declared.act.Act.{Act}
use Rattle.code_edit.specs.Jumps.{aim, moved_by}
use Rattle.edit_tables.specs.declared.aims.Aims.{Aims}
use Rattle.edit_tables.specs.Aimed.{kept_aim, moved, target_order}

pub or_none : (o : Option ℕ) → o ≡ option_or o None
or_none None = refl
or_none (Some x) = refl

pub or_later : (a b c : Option ℕ) → option_or (option_or a b) c ≡ option_or a (option_or b c)
or_later None b c = refl
or_later (Some x) b c = refl

-- ---- the order

equal : (a b : ℕ) → a ≡ b → nat_cmp a b ≡ Equal
equal a b e = sym (nat_cmp_is a b Equal e)

apart : (a b : ℕ) (after : Ordering → Ordering) → a ≢ b → (o : Ordering) → nat_cmp a b ≡ o
    → is_eq (ordering_then o (after o)) ≡ false
apart a b after n Less e = refl
apart a b after n Equal e = absurd (n (exact_unsigned a b e))
apart a b after n Greater e = refl

differ : (a b : ℕ) → a ≢ b → (o : Ordering) → nat_cmp a b ≡ o → is_eq o ≡ false
differ a b n Less e = refl
differ a b n Equal e = absurd (n (exact_unsigned a b e))
differ a b n Greater e = refl

-- a target is the one that was put, or another one
data IsPut (at which index number : ℕ) : Type 0 where
  same : at ≡ index → which ≡ number → (index == at && number == which) ≡ true
      → is_eq (target_order (at, which) (index, number)) ≡ true → IsPut at which index number
  other : (index == at && number == which) ≡ false
      → is_eq (target_order (at, which) (index, number)) ≡ false → IsPut at which index number

is_put_or_not : (at which index number : ℕ) → IsPut at which index number
is_put_or_not at which index number = by (eqb_tells index at) (eqb_tells number which)
  where
    by : (((index == at) ≡ true) × (index ≡ at)) ⊎ (((index == at) ≡ false) × (index ≢ at))
        → (((number == which) ≡ true) × (number ≡ which))
        ⊎ (((number == which) ≡ false) × (number ≢ which))
        → IsPut at which index number
    by (inl p) (inl q) = same (sym p.1) (sym q.1) (ap (λ b. b && number == which) p.0 ∙ q.0)
        (ap (λ o. is_eq (ordering_then o (nat_cmp which number))) (equal at index (sym p.1))
        ∙ ap is_eq (equal which number (sym q.1)))
    by (inl p) (inr q) = other (ap (λ b. b && number == which) p.0 ∙ q.0)
        (ap (λ o. is_eq (ordering_then o (nat_cmp which number))) (equal at index (sym p.1))
        ∙ differ which number (λ e. q.1 (sym e)) (nat_cmp which number) refl)
    by (inr p) q = other (ap (λ b. b && number == which) p.0)
        (apart at index (λ o. nat_cmp which number) (λ e. p.1 (sym e)) (nat_cmp at index) refl)

-- ---- aims

module _ (old : Aims) (at which to : ℕ) where
  missing : (o : Option ℕ) → is_some o ≡ false → o ≡ None
  missing None e = refl
  missing (Some x) e = absurd cc

  present : (o p : Option ℕ) → is_some o ≡ true → o ≡ option_or o p
  present None p e = absurd cc
  present (Some x) p e = refl

  pub is_put : (new : Aims)
      → ((place : ℕ × ℕ) → get target_order new.table place
      ≡ cond (is_eq (target_order (at, which) place)) (Some to) (get target_order old.table place))
      → is_some (kept_aim old at which) ≡ false → (index number : ℕ)
      → kept_aim new index number ≡ option_or (kept_aim old index number)
      (if index == at && number == which then Some to else None)
  is_put new put gone index number = by (is_put_or_not at which index number)
    where
      none : at ≡ index → which ≡ number → kept_aim old index number ≡ None
      none p q = sym (λ i. kept_aim old (p i) (q i)) ∙ missing (kept_aim old at which) gone

      by : IsPut at which index number
          → kept_aim new index number ≡ option_or (kept_aim old index number)
          (if index == at && number == which then Some to else None)
      by (same p q b o) =
          put (index, number) ∙ ap (λ c. cond c (Some to) (kept_aim old index number)) o
          ∙ sym (ap (λ c. option_or (kept_aim old index number) (if c then Some to else None)) b
          ∙ ap (λ k. option_or k (Some to)) (none p q))
      by (other b o) =
          put (index, number) ∙ ap (λ c. cond c (Some to) (kept_aim old index number)) o
          ∙ or_none (kept_aim old index number)
          ∙ sym (ap (λ c. option_or (kept_aim old index number) (if c then Some to else None)) b)

  pub is_there : is_some (kept_aim old at which) ≡ true → (index number : ℕ)
      → kept_aim old index number ≡ option_or (kept_aim old index number)
      (if index == at && number == which then Some to else None)
  is_there there index number = by (is_put_or_not at which index number)
    where
      by : IsPut at which index number
          → kept_aim old index number ≡ option_or (kept_aim old index number)
          (if index == at && number == which then Some to else None)
      by (same p q b o) =
          present (kept_aim old index number) _
          (sym (λ i. is_some (kept_aim old (p i) (q i))) ∙ there)
      by (other b o) =
          or_none (kept_aim old index number)
          ∙ sym (ap (λ c. option_or (kept_aim old index number) (if c then Some to else None)) b)

-- ---- acts

-- the first act that moves a target says where it leads
pub aim_is : (acts : List Act) (at which t : ℕ)
    → unwrap_or (moved acts at which) t ≡ aim acts at which t
aim_is [] at which t = refl
aim_is (a ∷ acts) at which t = by (moved_by at which a) (aim_is acts at which t)
  where
    by : (o : Option ℕ) → unwrap_or (moved acts at which) t ≡ aim acts at which t
        → unwrap_or (option_or o (moved acts at which)) t ≡ unwrap_or o (aim acts at which t)
    by (Some x) rest = refl
    by None rest = rest
