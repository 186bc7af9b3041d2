-- Marks of classes.
use Rattle.std.proofs.Common.{◌≡◌, ℕ, ◌+◌, ◌-◌, ◌<◌, Bool, true, false, cond, List, [], ◌∷◌, ◌++◌, length, get_or, sym}
use Rattle.std.proofs.Common.{ap, ◌∙◌, subst, arith}
use Rattle.std.specs.Prelude.{slice_index_or}
use Rattle.std.proofs.lemmas.Bool.{lt-ltb, le-ltb}
use Rattle.std.proofs.lemmas.List.{append-nil, get_or_default}
use Rattle.lib_table.specs.Library.{library}
use Rattle.class_pool.specs.declared.id.ClassId.{ClassId}
use Rattle.class_pool.specs.declared.id.ClassId.TheVariants.{Prog, Lib}
use Rattle.class_pool.specs.bodies.Graph.{IsThere, id_at, number}
use Rattle.class_pool.specs.bodies.Marked.{IsBelow, IsMarked}
use Rattle.class_pool.specs.Walk.{each_once}
use Rattle.class_pool.proofs.EachOnce.{once_one}

id_there : (a : ClassId) → IsThere a → id_at (number a) ≡ a
id_there (Lib id) within = ap (λ (t : Bool). cond t (Lib id) (Prog (id - length library)))
    (lt-ltb id (length library) within)
id_there (Prog n) within =
    let less : length library + n - length library ≡ n = omega arith in
    ap (λ (t : Bool). cond t (Lib (length library + n)) (Prog (length library + n - length library)))
    (le-ltb (length library + n) (length library) (omega arith))
    ∙ ap Prog less

pub same_place : (a b : ClassId) → IsThere a → IsThere b → number a ≡ number b → a ≡ b
same_place a b a-in b-in same = sym (id_there a a-in) ∙ ap id_at same ∙ id_there b b-in

pub mark_at : (marks : List Bool) (b : ClassId) (place : ℕ) (x t : Bool) → place ≡ number b → IsBelow (length marks) b
    → x ≡ slice_index_or marks place x → x ≡ t → slice_index_or marks (number b) false ≡ t
mark_at marks b place x t e below is x-is =
    sym (ap (λ (k : ℕ). get_or marks k false) e)
    ∙ get_or_default marks place false x (subst (λ (k : ℕ). k < length marks) (sym e) below.1) ∙ sym is ∙ x-is

-- a class that is marked is none to add
pub met_before : (marks : List Bool) (ids : List ClassId) (b : ClassId) → IsMarked marks ids → IsBelow (length marks) b
    → slice_index_or marks (number b) false ≡ true → ids ≡ ids ++ each_once ids (b ∷ [])
met_before marks ids b h below marked =
    sym (ap (λ (t : List ClassId). ids ++ t)
    (once_one ids b ∙ ap (λ (t : Bool). cond t [] (b ∷ [])) (sym (h.told b below) ∙ marked)) ∙ append-nil ids)

pub met_first : (marks : List Bool) (ids : List ClassId) (b : ClassId) → IsMarked marks ids → IsBelow (length marks) b
    → slice_index_or marks (number b) false ≡ false → ids ++ b ∷ [] ≡ ids ++ each_once ids (b ∷ [])
met_first marks ids b h below marked =
    sym (ap (λ (t : List ClassId). ids ++ t)
    (once_one ids b ∙ ap (λ (t : Bool). cond t [] (b ∷ [])) (sym (h.told b below) ∙ marked)))
