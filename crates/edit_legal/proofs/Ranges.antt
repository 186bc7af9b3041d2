-- One step along a range.
use Rattle.std.proofs.Common.{ℕ, suc, ◌+◌, ◌-◌, ◌<◌, ℤ, List, Bool, true, false, ◌≡◌, ap, ◌∙◌}
use Rattle.std.proofs.Common.{arith}
use Rattle.std.specs.Prelude.{not, ◌&&◌}
use Rattle.class_model.specs.declared.code.Code.{Code}
use Rattle.code_edit.specs.declared.act.Act.{Act}
use Rattle.const_tables.specs.declared.facts.Stretch.{Stretch}
use Rattle.edit_legal.specs.Decidable.{may_stand, may_stand_on}
use Rattle.edit_legal.specs.Dropped.{are_free, taking}
use Rattle.edit_tables.specs.Marks.{has, put}

pub taking_step : (at n k : ℕ) (marks : List Bool) → k < n
    → taking at (n - k) marks ≡ taking (at + 1) (n - (k + 1)) (put at marks)
taking_step at n k marks lt =
    let e : n - k ≡ suc (n - (k + 1)) = omega (arith, lt) in
    let z : suc at ≡ at + 1 = omega arith in
    ap (λ m. taking at m marks) e ∙ ap (λ a. taking a (n - (k + 1)) (put at marks)) z

pub free_step : (needed dropped : List Bool) (at n k : ℕ) → k < n → has needed at ≡ false
    → has dropped at ≡ false
    → are_free needed dropped at (n - k) ≡ are_free needed dropped (at + 1) (n - (k + 1))
free_step needed dropped at n k lt p q =
    let e : n - k ≡ suc (n - (k + 1)) = omega (arith, lt) in
    let z : suc at ≡ at + 1 = omega arith in
    ap (λ m. are_free needed dropped at m) e
    ∙ ap
    (λ b. not b && (not (has dropped at) && are_free needed dropped (suc at) (n - (k + 1)))) p
    ∙ ap (λ b. not b && are_free needed dropped (suc at) (n - (k + 1))) q
    ∙ ap (λ a. are_free needed dropped a (n - (k + 1))) z

pub stand_step : (code : Code) (acts : List Act) (facts : List Stretch) (marks : List Bool)
    (lists : List (List ℕ)) (entries : List Bool) (number slot : ℕ) (value : ℤ) (at n k : ℕ)
    → k < n → may_stand code acts facts marks lists entries number slot value at ≡ true
    → may_stand_on code acts facts marks lists entries number slot value at (n - k)
    ≡ may_stand_on code acts facts marks lists entries number slot value (at + 1) (n - (k + 1))
stand_step code acts facts marks lists entries number slot value at n k lt e =
    let m : n - k ≡ suc (n - (k + 1)) = omega (arith, lt) in
    let z : suc at ≡ at + 1 = omega arith in
    ap (may_stand_on code acts facts marks lists entries number slot value at) m
    ∙ ap (λ b. b && may_stand_on code acts facts marks lists entries number slot value (suc at)
    (n - (k + 1))) e
    ∙ ap (λ a. may_stand_on code acts facts marks lists entries number slot value a (n - (k + 1))) z
