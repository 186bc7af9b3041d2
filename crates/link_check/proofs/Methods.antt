-- Members of a class by their numbers.
use Rattle.std.proofs.Common.{◌≡◌, ℕ, ◌+◌, ◌<◌, ◌&&◌, Bool, true, false, cond, List, [], ◌∷◌, ◌++◌, length, get_or, map}
use Rattle.std.proofs.Common.{Option, Some, None, refl, sym, ap, ◌∙◌, arith}
use Rattle.std.specs.List.{enumerate_from, filter, flat_map}
use Rattle.std.specs.Option.{option_map_or}
use Rattle.std.specs.Prelude.{slice_get}
use Rattle.std.proofs.lemmas.List.{get_or-append-add, get_or-map, length-append, length-map}
use Rattle.std.proofs.lemmas.Option.{slice_get-get_or}
use Rattle.std.proofs.lemmas.List.FromFn.{get_or-enumerate_from, length-enumerate_from}
use Rattle.class_model.specs.declared.class.Class.{Class}
use Rattle.class_model.specs.declared.class.Method.{Method}
use Rattle.class_pool.specs.declared.id.ClassId.TheVariants.{Prog}
use Rattle.class_pool.specs.declared.id.MemberAt.{MemberAt}
use Rattle.class_pool.specs.Found.{is_method_at, MemberRow, field_row, is_instance_method, is_instance_row, method_row}
use Rattle.class_pool.specs.Found.{row_at}
use Rattle.class_pool.specs.Found.{rows_in}

-- an instance method is a method
first_true : (x y z : Bool) → ((x && y) && z) ≡ true → x ≡ true
first_true true y z h = refl
first_true false y z h = h

instance_row : (o : Option MemberRow) → option_map_or is_instance_row o false ≡ true
    → option_map_or (λ row. row.is_method) o false ≡ true
instance_row None h = h
instance_row (Some row) h = first_true row.is_method _ _ h

pub instance_is_method : (classes : List Class) (m : MemberAt) → is_instance_method classes m ≡ true
    → is_method_at classes m ≡ true
instance_is_method classes m h = instance_row (row_at classes m) h

-- ---- the members of a program class

pub rows_are : (classes : List Class) (n : ℕ) (c : Class) → slice_get classes n ≡ Some c
    → rows_in classes (Prog n) ≡ map field_row c.fields ++ map method_row c.methods
rows_are classes n c is = ap
    (λ (o : Option Class). option_map_or (λ (d : Class). map field_row d.fields ++ map method_row d.methods) o []) is

pub rows_count : (classes : List Class) (n : ℕ) (c : Class) → slice_get classes n ≡ Some c
    → length (rows_in classes (Prog n)) ≡ length c.fields + length c.methods
rows_count classes n c is =
    ap length (rows_are classes n c is) ∙ length-append (map field_row c.fields) (map method_row c.methods)
    ∙ ap (λ (k : ℕ). k + length (map method_row c.methods)) (length-map c.fields field_row)
    ∙ ap (λ (k : ℕ). length c.fields + k) (length-map c.methods method_row)

method_row_at : (classes : List Class) (n k : ℕ) (c : Class) (m : Method) → slice_get classes n ≡ Some c
    → k < length c.methods
    → row_at classes (record { class = Prog n; index = length c.fields + k }) ≡ Some (method_row (get_or c.methods k m))
method_row_at classes n k c m is within =
    let rows : List MemberRow = rows_in classes (Prog n) in
    let count = rows_count classes n c is in
    let d : MemberRow = method_row m in
    slice_get-get_or rows (length c.fields + k) d (omega (arith, count, within))
    ∙ ap Some (
    ap (λ (xs : List MemberRow). get_or xs (length c.fields + k) d) (rows_are classes n c is)
    ∙ ap (λ (i : ℕ). get_or (map field_row c.fields ++ map method_row c.methods) (i + k) d)
    (sym (length-map c.fields field_row))
    ∙ get_or-append-add (map field_row c.fields) (map method_row c.methods) k d
    ∙ get_or-map method_row c.methods k m d within
    )

pub at_method : (classes : List Class) (n k : ℕ) (c : Class) (m : Method) → slice_get classes n ≡ Some c
    → k < length c.methods
    → option_map_or (λ row. row.is_method)
    (row_at classes (record { class = Prog n; index = length c.fields + k })) false ≡ true
at_method classes n k c m is within = ap (λ (o : Option MemberRow). option_map_or (λ row. row.is_method) o false)
    (method_row_at classes n k c m is within)

-- in the order of their numbers
abbrev pub members_of : List Class → ℕ → List MemberAt
members_of classes n = map (λ p. record { class = Prog n; index = p.0 }) (enumerate_from 0 (rows_in classes (Prog n)))

pub members_count : (classes : List Class) (n : ℕ) (c : Class) → slice_get classes n ≡ Some c
    → length (members_of classes n) ≡ length c.fields + length c.methods
members_count classes n c is =
    length-map (enumerate_from 0 (rows_in classes (Prog n)))
    (λ (p : ℕ × MemberRow). record { class = Prog n; index = p.0 })
    ∙ length-enumerate_from 0 (rows_in classes (Prog n)) ∙ rows_count classes n c is

pub member_at : (classes : List Class) (n i : ℕ) (d : MemberAt) → i < length (rows_in classes (Prog n))
    → record { class = Prog n; index = i } ≡ get_or (members_of classes n) i d
member_at classes n i d within =
    let none : MemberRow = record { named = ([], []); flags = 0; is_method = false } in
    let make : (ℕ × MemberRow) → MemberAt = λ p. record { class = Prog n; index = p.0 } in
    let long : i < length (enumerate_from 0 (rows_in classes (Prog n))) = omega
    (arith, within, length-enumerate_from 0 (rows_in classes (Prog n))) in
    let at : get_or (enumerate_from 0 (rows_in classes (Prog n))) i (0, none)
    ≡ (0 + i, get_or (rows_in classes (Prog n)) i none) =
    get_or-enumerate_from 0 (rows_in classes (Prog n)) i (0, none) within in
    let plain : 0 + i ≡ i = omega arith in
    sym (get_or-map make (enumerate_from 0 (rows_in classes (Prog n))) i (0, none) d long ∙ ap make at
    ∙ ap (λ (k : ℕ). record { class = Prog n; index = k }) plain)

-- ---- what passes a test

one_tested : {X A : Type 0} (t : Bool) (x : X) (f : X → List A) (rest : List X)
    → flat_map f (cond t (x ∷ rest) rest) ≡ cond t (f x) [] ++ flat_map f rest
one_tested true x f rest = refl
one_tested false x f rest = refl

pub flat_tested : {X A : Type 0} (f : X → List A) (test : X → Bool) (xs : List X)
    → flat_map f (filter test xs) ≡ flat_map (λ x. cond (test x) (f x) []) xs
flat_tested f test [] = refl
flat_tested {X = X} {A = A} f test (x ∷ xs) = one_tested (test x) x f (filter test xs)
    ∙ ap (λ (ys : List A). cond (test x) (f x) [] ++ ys) (flat_tested f test xs)
