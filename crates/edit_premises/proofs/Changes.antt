-- Changes one after another keep what a program does.
use Rattle.std.proofs.Common.{ℕ, zero, suc, ◌+◌, List, Option, ◌≡◌, inl, refl, sym, subst, arith}
use Rattle.class_model.specs.declared.code.Code.{Code}
use Rattle.jvm_model.specs.Premise.{Premise}
use Rattle.jvm_model.specs.Program.{View}
use Rattle.jvm_model.specs.Same.{Renamed, Same, own_names}
use Rattle.jvm_model.specs.State.{Body}
use Rattle.jvm_model.specs.Value.{Key}
use Rattle.std.specs.List.{Contains}
use Rattle.jvm_model.proofs.Codes.{pass_same}
use Rattle.jvm_model.proofs.Compose.{same_refl, same_trans}
use Rattle.edit_premises.specs.Changes.{Becomes, Changed, Together, cuts, decides, goes_on}
use Rattle.edit_premises.specs.Changes.{leaves_out}
use Rattle.edit_premises.proofs.Compacting.{compacts_premise}
use Rattle.edit_premises.proofs.Cut.{cuts_premise}
use Rattle.edit_premises.proofs.Folded.{folds_premise}
use Rattle.edit_premises.proofs.Retargeting.{retargets_premise}

pub own_entries : (entries : List Key) → Renamed own_names entries entries
own_entries entries k l h e = let same : k ≡ l = cc in subst (Contains entries) same h

module _ (puts : Code → Code → Type 0) (related : (c d : Code) → puts c d → ℕ → Body → Body
    → Type 0)
    (premise : (c d : Code) (p : puts c d) → Premise (related c d p) c d) where
  pub becomes_same : (n : ℕ) (v w : View) → w.shape ≡ v.shape
      → ((m : Key) → Becomes puts n (v.code m) (w.code m))
      → (entries : List Key) → Same v w own_names entries
  becomes_same zero v w shape codes entries =
      let e : v ≡ w = λ i. record { shape = sym shape i; code = λ m. sym (codes m) i } in
      subst (λ x. Same v x own_names entries) e (same_refl v entries)
  becomes_same (suc n) v w shape codes entries =
      let mid : View = record { shape = v.shape; code = λ m. (codes m).0 } in
      same_trans v mid w own_names own_names entries entries (own_entries entries)
      (pass_same puts related premise v mid refl (λ m. (codes m).1) entries)
      (becomes_same n mid w shape (λ m. (codes m).2) entries)

-- ---- more changes

pub stays_so : (puts : Code → Code → Type 0) (n : ℕ) (a : Option Code) → Becomes puts n a a
stays_so puts zero a = refl
stays_so puts (suc n) a = (a, inl refl, stays_so puts n a)

pub becomes_more : (puts : Code → Code → Type 0) (m n : ℕ) (a b c : Option Code)
    → Becomes puts m a b → Becomes puts n b c
    → Becomes puts (m + n) a c
becomes_more puts zero n a b c h k =
    let e : n ≡ 0 + n = omega arith in
    subst (λ q. Becomes puts q a c) e (subst (λ x. Becomes puts n x c) h k)
becomes_more puts (suc m) n a b c h k =
    let e : suc (m + n) ≡ suc m + n = omega arith in
    subst (λ q. Becomes puts q a c) e (h.0, h.1, becomes_more puts m n h.0 b c h.2 k)

-- ---- the passes

pub changed_premise : (c d : Code) (h : Changed c d) → Premise (Together c d h) c d
changed_premise c d (goes_on h) = retargets_premise c d h
changed_premise c d (cuts h) = cuts_premise c d h
changed_premise c d (decides h) = folds_premise c d h
changed_premise c d (leaves_out h) = compacts_premise c d h
