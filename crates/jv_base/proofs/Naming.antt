-- The parts of a class name.
use Rattle.std.proofs.Common.{◌≡◌, ℕ, Bool, true, false, not, ◌&&◌, ◌||◌, cond, List, [], ◌∷◌, length, refl, sym, ap}
use Rattle.std.proofs.Common.{◌∙◌, arith}
use Rattle.std.specs.Prelude.{nat_eq}
use Rattle.std.specs.List.{list_all, onto_first}
use Rattle.jv_base.specs.Names.{all_name_bytes, is_class_name, is_primitive_or_void, is_member_name, is_name_byte}
use Rattle.jv_base.specs.Names.{name_parts, parts_whole}

-- each part is whole, but that the first may be empty where it was begun before
abbrev checked : Bool → List (List ℕ) → Bool
checked in_part [] = true
checked in_part (first ∷ others) = (in_part || not (nat_eq (length first) 0)) && all_name_bytes first
    && list_all is_member_name others

whole_first : (parts : List (List ℕ)) → checked false parts ≡ list_all is_member_name parts
unfolding is_member_name
whole_first [] = refl
whole_first (first ∷ others) = refl

with_byte : (b : ℕ) (in_part : Bool) (parts : List (List ℕ))
    → checked in_part (onto_first b parts) ≡ is_name_byte b && checked true parts
with_byte b true [] = grind arith
with_byte b false [] = grind arith
with_byte b true (first ∷ others) = grind arith
with_byte b false (first ∷ others) = grind arith

by_byte : (b : ℕ) (parts : List (List ℕ)) (in_part slash begun on : Bool) → begun ≡ checked false parts
    → on ≡ checked true parts
    → cond slash (in_part && begun) (is_name_byte b && on)
    ≡ checked in_part (cond slash ([] ∷ parts) (onto_first b parts))
by_byte b parts true true begun on h k = h ∙ whole_first parts
by_byte b parts false true begun on h k = refl
by_byte b parts in_part false begun on h k = ap (λ (t : Bool). is_name_byte b && t) k ∙ sym (with_byte b in_part parts)

parts_checked : (name : List ℕ) (in_part : Bool) → parts_whole in_part name ≡ checked in_part (name_parts name)
parts_checked [] true = refl
parts_checked [] false = refl
parts_checked (b ∷ bs) in_part = by_byte b (name_parts bs) in_part (nat_eq b 47) _ _ (parts_checked bs false)
    (parts_checked bs true)

pub class_name_is : (name : List ℕ) → is_class_name name ≡ parts_whole false name && not (is_primitive_or_void name)
unfolding is_class_name
class_name_is name = ap (λ (t : Bool). t && not (is_primitive_or_void name))
    (sym (parts_checked name false ∙ whole_first (name_parts name)))
