-- How far a class is, by what was marked of it.
use Rattle.std.proofs.Common.{◌≡◌, ◌∙◌, Bool, true, false, ℕ, List, [], ◌∷◌, Some, None, ap, refl, sym}
use Rattle.std.specs.Map.{lookup}
use Rattle.std.specs.Prelude.{cond, if◌then◌else◌}
use Rattle.indexmap.specs.IndexMap.{insert_entry}
use Rattle.jv_base.proofs.Equality.{text_Decides}
use Rattle.jv_base.specs.Names.{is_text}
use Rattle.jvm_model.specs.Heap.{Init as Seen, World}
use Rattle.jvm_model.specs.Initialisation.{is_due, prepare, state}
use Rattle.jvm_model.specs.Program.{Shape}
use Rattle.jvm_model.specs.State.{AfterFirst, Initialises, Wait}
use Rattle.jvm_model.specs.Step.{first_init}
use Rattle.jvm_model.specs.Value.{set_class}
use Rattle.run_machine.specs.Inits.{init_at, init_of}
use Rattle.run_machine.specs.declared.inits.Init.{Init}

-- something was
pub init_marked : (p : Shape) (ms : List (List ℕ × Init)) (class : List ℕ) (i : Init)
    → Some i ≡ lookup (is_text class) ms → init_of i ≡ init_at p ms class
init_marked p [] class i e = absurd cc
init_marked p (m ∷ ms) class i e = by (is_text class m.0) e (init_marked p ms class i)
  where
    by : (b : Bool) → Some i ≡ cond b (Some m.1) (lookup (is_text class) ms)
        → (Some i ≡ lookup (is_text class) ms → init_of i ≡ init_at p ms class)
        → init_of i ≡ (if b then init_of m.1 else init_at p ms class)
    by true f more = ap init_of cc
    by false f more = more f

-- nothing was
pub init_unmarked : (p : Shape) (ms : List (List ℕ × Init)) (class : List ℕ) → None ≡ lookup (is_text class) ms
    → first_init p class ≡ init_at p ms class
init_unmarked p [] class e = refl
init_unmarked p (m ∷ ms) class e = by (is_text class m.0) e (init_unmarked p ms class)
  where
    by : (b : Bool) → None ≡ cond b (Some m.1) (lookup (is_text class) ms)
        → (None ≡ lookup (is_text class) ms → first_init p class ≡ init_at p ms class)
        → first_init p class ≡ (if b then init_of m.1 else init_at p ms class)
    by true f more = absurd cc
    by false f more = more f

-- a class that is the first of two, by its tests
hit : (b : Bool) (v x y : Seen) → (if b then v else x) ≡ (if b then v else (if b then y else x))
hit true v x y = refl
hit false v x y = refl

missed : (a b : Bool) (v x y : Seen) → (a ≡ true → b ≡ true → ⊥)
    → (if a then y else (if b then v else x)) ≡ (if b then v else (if a then y else x))
missed true true v x y both = absurd (both refl refl)
missed true false v x y both = refl
missed false true v x y both = refl
missed false false v x y both = refl

at_front : (p : Shape) (ms : List (List ℕ × Init)) (m : List ℕ × Init) (class other : List ℕ) (i : Init) (b : Bool)
    → is_text class m.0 ≡ b
    → init_at p (insert_entry is_text ms class i) other ≡ set_class (init_at p ms) class (init_of i) other
    → init_at p (if b then (m.0, i) ∷ ms else m ∷ insert_entry is_text ms class i) other
    ≡ set_class (init_at p (m ∷ ms)) class (init_of i) other
at_front p ms m class other i true e more =
    let same : class ≡ m.0 = (text_Decides class m.0).0 e in
    hit (is_text other m.0) (init_of i) (init_at p ms other) (init_of m.1)
    ∙ ap (λ (c : List ℕ). if is_text other c then init_of i
    else (if is_text other m.0 then init_of m.1 else init_at p ms other)) (sym same)
at_front p ms m class other i false e more =
    ap (λ (x : Seen). if is_text other m.0 then init_of m.1 else x) more
    ∙ missed (is_text other m.0) (is_text other class) (init_of i) (init_at p ms other) (init_of m.1)
    (λ h g. let one : class ≡ m.0 = sym ((text_Decides other class).0 g) ∙ (text_Decides other m.0).0 h in
    let t : is_text class m.0 ≡ true = (text_Decides class m.0).1 one in
    let f : true ≡ false = sym t ∙ e in cc)

marked_at : (p : Shape) (ms : List (List ℕ × Init)) (class other : List ℕ) (i : Init)
    → init_at p (insert_entry is_text ms class i) other ≡ set_class (init_at p ms) class (init_of i) other
marked_at p [] class other i = refl
marked_at p (m ∷ ms) class other i =
    at_front p ms m class other i (is_text class m.0) refl (marked_at p ms class other i)

-- a class that is marked
pub marked_is_set : (p : Shape) (ms : List (List ℕ × Init)) (class : List ℕ) (i : Init)
    → init_at p (insert_entry is_text ms class i) ≡ set_class (init_at p ms) class (init_of i)
marked_is_set p ms class i = λ j other. marked_at p ms class other i j

-- the next class is initialised first
pub first_due : (p : Shape) (w : World) (class first : List ℕ) (firsts : List (List ℕ)) (ws : List Wait)
    → is_due (w.inits first) ≡ true
    → prepare p w class (first ∷ firsts) ws ≡ state w (Initialises first) (AfterFirst class firsts ∷ ws)
first_due p w class first firsts ws e = ap (λ (b : Bool). if b
    then state w (Initialises first) (AfterFirst class firsts ∷ ws) else prepare p w class firsts ws) e

-- it needn't be
pub first_passed : (p : Shape) (w : World) (class first : List ℕ) (firsts : List (List ℕ)) (ws : List Wait)
    → is_due (w.inits first) ≡ false → prepare p w class (first ∷ firsts) ws ≡ prepare p w class firsts ws
first_passed p w class first firsts ws e = ap (λ (b : Bool). if b
    then state w (Initialises first) (AfterFirst class firsts ∷ ws) else prepare p w class firsts ws) e
