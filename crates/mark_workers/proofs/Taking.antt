-- A free view that looks at an item and takes it.
use Rattle.std.proofs.Common.{◌≡◌, ℕ, ◌<◌, true, false, None, Option, subst, sym, ◌∙◌, ap}
use Rattle.std.specs.List.{Contains}
use Rattle.std.proofs.lemmas.List.Elements.{Contains-push}
use Rattle.mark_machine.specs.declared.machine.View.{View}
use Rattle.mark_machine.specs.declared.machine.Event.TheVariants.{LookAt, Take}
use Rattle.mark_machine.specs.Machine.{looking, view_after}
use Rattle.mark_workers.specs.Ready.{IsFree}
use Rattle.mark_workers.specs.Work.{Did, Kept}
use Rattle.mark_workers.proofs.Kept.{below_push}

-- a marked item may be taken
pub may_take : (n : ℕ) (v m : View) (x : ℕ) → IsFree n v → m ≡ view_after v (LookAt x) true
    → (m.hand ≡ None) × (m.reserved ≡ false) × Contains m.seen x
may_take n v m x free is = subst (λ (u : View). (u.hand ≡ None) × (u.reserved ≡ false) × Contains u.seen x) (sym is)
    (free.0, free.1, Contains-push v.seen x)

-- one that wasn't marked
pub free_unmarked : (n : ℕ) (v w : View) (x : ℕ) → IsFree n v → w ≡ view_after v (LookAt x) false → IsFree n w
free_unmarked n v w x free is = subst (IsFree n) (sym is)
    (subst (λ (o : Option ℕ). IsFree n (record (looking v o x) { log = (view_after v (LookAt x) false).log }))
    (sym free.0) free)

-- one that was taken before
pub free_others : (n : ℕ) (v m t : View) (x : ℕ) → x < n → IsFree n v → m ≡ view_after v (LookAt x) true
    → t ≡ view_after m (Take x) true → IsFree n t
free_others n v m t x lt free em et = subst (IsFree n)
    (sym (et ∙ ap (λ (u : View). view_after u (Take x) true) em))
    (free.0, free.1, free.2, below_push n x v.seen lt free.3)

-- one that was taken now, and done
pub free_done : (n : ℕ) (v m t w : View) (x : ℕ) → x < n → IsFree n v → m ≡ view_after v (LookAt x) true
    → t ≡ view_after m (Take x) false → Did n t x w → IsFree n w
free_done n v m t w x lt free em et did =
    let is : t ≡ view_after (view_after v (LookAt x) true) (Take x) false =
    et ∙ ap (λ (u : View). view_after u (Take x) false) em in
    let d : Did n (view_after (view_after v (LookAt x) true) (Take x) false) x w =
    subst (λ (u : View). Did n u x w) is did in
    (d.hand, d.reserved, d.standing ∙ free.2, d.below (below_push n x v.seen lt free.3))

-- the same of one that was seen, on the table or before
pub free_kept : (n : ℕ) (v w : View) → IsFree n v → Kept n v w → IsFree n w
free_kept n v w free k = (k.hand ∙ free.0, k.reserved ∙ free.1, k.standing ∙ free.2, k.below free.3)

pub free_refused : (n : ℕ) (m t : View) (x : ℕ) → IsFree n m → t ≡ view_after m (Take x) true → IsFree n t
free_refused n m t x free is = subst (IsFree n) (sym is) free

pub free_finished : (n : ℕ) (m t w : View) (x : ℕ) → IsFree n m → t ≡ view_after m (Take x) false → Did n t x w
    → IsFree n w
free_finished n m t w x free is did =
    let d : Did n (view_after m (Take x) false) x w = subst (λ (u : View). Did n u x w) is did in
    (d.hand, d.reserved, d.standing ∙ free.2, d.below free.3)
