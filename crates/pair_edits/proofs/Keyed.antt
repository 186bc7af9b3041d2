-- Tables of entries, and keys of those that were gone over.
use Rattle.std.proofs.Common.{◌≡◌, ◌<◌, ◌≤◌, ◌-◌, ℕ, cond, ◌||◌, List, [], ◌∷◌, ◌++◌}
use Rattle.std.proofs.Common.{length, map, drop}
use Rattle.std.proofs.Common.{get_or, Option, Some, refl, sym, ap, ◌∙◌}
use Rattle.std.specs.Bool.{Decides}
use Rattle.std.specs.List.{find, list_any}
use Rattle.jv_base.proofs.Equality.{and_Decides, text_Decides}
use Rattle.witness_file.specs.Witnesses.{has_method, is_method}
use Rattle.witness_file.specs.declared.witness.MethodWitness.{MethodWitness}
use Rattle.new_names.proofs.Inserted.{either_way, same_Decides}
use Rattle.new_names.proofs.Telling.{begins_at}
use Rattle.pair_edits.specs.bodies.Tables.{MethodKey, is_same, key_of}

pub key_Decides : (a b : MethodKey) → Decides (is_same a b) (a ≡ b)
key_Decides a b = and_Decides _ _ (text_Decides a.0 b.0) (same_Decides a.1 b.1)
    (λ first second. (λ i. (first i, second i))) (λ e. ap (λ (k : MethodKey). k.0) e)
    (λ e. ap (λ (k : MethodKey). k.1) e)

pub same_back : (a b : MethodKey) → is_same a b ≡ is_same b a
same_back = either_way is_same key_Decides

-- what is found where an entry is put before the others
pub find_before : (key : MethodKey) (xs : List MethodWitness) (left : ℕ) (x : MethodWitness)
    (new : Option MethodWitness) → 0 < left → left ≤ length xs → x ≡ get_or xs (left - 1) x
    → new ≡ cond (is_same key (key_of x)) (Some x) (find (is_method key.0 key.1.0 key.1.1) (drop left xs))
    → new ≡ find (is_method key.0 key.1.0 key.1.1) (drop (left - 1) xs)
find_before key xs left x new some within is e =
    e ∙ ap (find (is_method key.0 key.1.0 key.1.1)) (sym (begins_at xs left x some within is))

-- a method among those that entries name
pub named_among : (key : MethodKey) (entries : List MethodWitness)
    → list_any (λ (there : MethodKey). is_same there key) (map key_of entries)
    ≡ has_method entries key.0 key.1.0 key.1.1
named_among key [] = refl
named_among key (e ∷ entries) = λ i. same_back (key_of e) key i || named_among key entries i

pub keys_more : (entries : List MethodWitness) (e : MethodWitness)
    → map key_of (entries ++ e ∷ []) ≡ map key_of entries ++ key_of e ∷ []
keys_more [] e = refl
keys_more (x ∷ entries) e = ap (λ (ks : List MethodKey). key_of x ∷ ks) (keys_more entries e)
