-- A rule that uses an object takes it as an operand.
use Rattle.std.proofs.Common.{ℕ, ◌++◌, List, [], ◌∷◌, Option, Bool, true, false, ◌≡◌, sym, ap, ◌∙◌}
use Rattle.std.proofs.Common.{subst}
use Rattle.std.specs.Prelude.{cond, Ok, Err}
use Rattle.jv_base.specs.Outcome.{◌>>=◌}
use Rattle.class_model.specs.declared.frame.VType.{VType}
use Rattle.type_verifier.specs.declared.fault.TypeKind.TheVariants.{Operand}
use Rattle.type_verifier.specs.declared.frame.TypeFrame.{TypeFrame}
use Rattle.type_verifier.specs.Effects.{Checked, acted, all_popped, gives, guarded_use, popped}
use Rattle.type_verifier.specs.Effects.{popped_from, used_from, with_stack}
use Rattle.type_verifier.specs.Environment.{Environment}
use Rattle.type_verifier.specs.Rules.{Takes, Uses, Wanted, meets}
use Rattle.type_verifier.proofs.TypedLaw.{bound}

module _ (env : Environment) where
  -- what is popped in two parts
  popped_on : (ws us : List Wanted) (f g h : TypeFrame) → all_popped env.classes ws f ≡ Ok g
      → all_popped env.classes us g ≡ Ok h
      → all_popped env.classes (ws ++ us) f ≡ Ok h
  popped_on [] us f g h e q = subst (λ (z : TypeFrame). all_popped env.classes us z ≡ Ok h)
      (sym (same e)) q where
        same : (let R : Checked = Ok f in R) ≡ Ok g → f ≡ g
        same e = cc
  popped_on (w ∷ ws) us f g h e q =
      let m = bound (popped env.classes w f) (all_popped env.classes ws) g e in
      ap (λ (r : Checked). r >>= all_popped env.classes (ws ++ us)) m.1
      ∙ popped_on ws us m.0 g h m.2 q

  -- one more at the top
  pub first_popped : (w : Wanted) (ws : List Wanted) (f g h : TypeFrame) → popped env.classes w f ≡ Ok g
      → all_popped env.classes ws g ≡ Ok h → all_popped env.classes (w ∷ ws) f ≡ Ok h
  first_popped w ws f g h e q = ap (λ (r : Checked). r >>= all_popped env.classes ws) e ∙ q

  used : (r : Wanted) (guarded : Bool) (g h : TypeFrame) (ts : List VType)
      → used_from env r guarded g ts ≡ Ok h
      → popped_from env.classes r g ts ≡ Ok h
  used r guarded g h [] e = absurd cc
  used r guarded g h (t ∷ ts) e = by (meets env.classes r t) e where
    by : (c : Bool)
        → (let R : Checked = cond c (guarded_use env guarded t >>= (λ u. Ok (with_stack g ts)))
        (Err Operand) in R) ≡ Ok h
        → (let R : Checked = cond c (Ok (with_stack g ts)) (Err Operand) in R) ≡ Ok h
    by true e = (bound (guarded_use env guarded t) (λ u. Ok (with_stack g ts)) h e).2
    by false e = absurd cc

  -- an object that is used is taken as an operand
  pub uses_takes : (at : ℕ) (ws : List Wanted) (r : Wanted) (guarded : Bool) (given : Option VType)
      (f after : TypeFrame)
      → acted env at (Uses ws r guarded given) f ≡ Ok after
      → acted env at (Takes (ws ++ r ∷ []) given) f ≡ Ok after
  uses_takes at ws r guarded given f after e =
      let m = bound (all_popped env.classes ws f) (λ g. used_from env r guarded g g.stack >>=
      (λ h. Ok (gives given h))) after e in
      let n = bound (used_from env r guarded m.0 m.0.stack) (λ h. Ok (gives given h)) after m.2 in
      ap (λ (z : Checked). z >>= (λ h. Ok (gives given h)))
      (popped_on ws (r ∷ []) f m.0 n.0 m.1
      (ap (λ (z : Checked). z >>= all_popped env.classes [])
      (used r guarded m.0 n.0 m.0.stack n.1)))
      ∙ n.2
