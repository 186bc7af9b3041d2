-- A list without an item.
use Rattle.std.proofs.Common.{suc, List, [], ◌∷◌, true, false, ◌≡◌, ◌≢◌, ◌⊎◌, inl, inr, refl, sym, ◌∙◌}
use Rattle.std.proofs.Common.{arith}
use Rattle.std.specs.Prelude.{length, nat_eq}
use Rattle.std.proofs.lemmas.Bool.Decides.{eqb_tells}
use Rattle.code_edit.specs.declared.act.Act.{Act}

pub empty_is : (acts : List Act) → nat_eq (length acts) 0 ≡ true → acts ≡ []
empty_is [] e = refl
empty_is (a ∷ acts) e = by (eqb_tells (suc (length acts)) 0)
  where
    by : ((nat_eq (suc (length acts)) 0 ≡ true) × (suc (length acts) ≡ 0))
        ⊎ ((nat_eq (suc (length acts)) 0 ≡ false) × (suc (length acts) ≢ 0)) → (a ∷ acts) ≡ []
    by (inl q) = absurd (omega (arith, q.1))
    by (inr q) = absurd (let no : true ≡ false = sym e ∙ q.0 in cc)
