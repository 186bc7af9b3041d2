-- Members by their rows.
use Rattle.std.proofs.Common.{◌≡◌, ℕ, ◌+◌, ◌<◌, ◌++◌, ◌&&◌, not, Bool, true, false, cond, List, length, map, slice_get}
use Rattle.std.proofs.Common.{[], ◌∷◌, Option, Some, None, refl, sym, ap, subst, ◌∙◌, arith, length-append}
use Rattle.std.specs.List.{find, enumerate_from, position}
use Rattle.std.specs.Option.{option_and_then, option_map, option_map_or}
use Rattle.std.proofs.lemmas.List.{length-map}
use Rattle.std.proofs.lemmas.List.Quantifiers.{position-Some}
use Rattle.std.proofs.lemmas.Option.{same_Some}
use Rattle.class_model.specs.Flags.{has, is_init, is_static}
use Rattle.class_model.specs.declared.class.Class.{Class}
use Rattle.lib_table.specs.Library.{LibraryMember}
use Rattle.lib_table.specs.Lookups.{class_at, is_member, member_told}
use Rattle.class_pool.specs.declared.id.ClassId.{ClassId}
use Rattle.class_pool.specs.declared.id.ClassId.TheVariants.{Prog, Lib}
use Rattle.class_pool.specs.Members.{declared_at, is_field, is_method, member_named, or_method}
use Rattle.class_pool.specs.declared.set.found.MemberFacts.{MemberFacts}
use Rattle.class_pool.specs.Found.{MemberRow, field_row, is_instance_row, library_row, method_row, rows_in}
use Rattle.class_pool.specs.bodies.ToldMembers.{facts_of}

told_is : (o : Option MemberRow) (t : MemberFacts) → option_map facts_of o ≡ Some t
    → (row : MemberRow) × (o ≡ Some row) × (facts_of row ≡ t)
told_is (Some row) t h = (row, refl, cc)
told_is None t h = absurd cc

-- a flag of the member
pub told_flag : (wanted : ℕ) (o : Option MemberRow) (t : MemberFacts) → option_map facts_of o ≡ Some t
    → has wanted t.flags.0 ≡ option_map_or (λ row. has wanted row.flags) o false
told_flag wanted o t h =
    let p = told_is o t h in
    sym (ap (λ (x : Option MemberRow). option_map_or (λ row. has wanted row.flags) x false) p.1
    ∙ ap (λ (x : MemberFacts). has wanted x.flags.0) p.2)

pub told_method : (o : Option MemberRow) (t : MemberFacts) → option_map facts_of o ≡ Some t
    → t.is_method ≡ option_map_or (λ row. row.is_method) o false
told_method o t h =
    let p = told_is o t h in
    sym (ap (λ (x : Option MemberRow). option_map_or (λ row. row.is_method) x false) p.1
    ∙ ap (λ (x : MemberFacts). x.is_method) p.2)

pub told_init : (o : Option MemberRow) (t : MemberFacts) → option_map facts_of o ≡ Some t
    → t.is_init ≡ is_init (option_map_or (λ row. row.named) o ([], [])).0
told_init o t h =
    let p = told_is o t h in
    sym (ap (λ (x : Option MemberRow). is_init (option_map_or (λ row. row.named) x ([], [])).0) p.1
    ∙ ap (λ (x : MemberFacts). x.is_init) p.2)

pub told_instance : (o : Option MemberRow) (t : MemberFacts) → option_map facts_of o ≡ Some t
    → (t.is_method && not (is_static t.flags.0) && not t.is_init) ≡ option_map_or is_instance_row o false
told_instance o t h =
    let p = told_is o t h in
    sym (ap (λ (x : Option MemberRow). option_map_or is_instance_row x false) p.1
    ∙ ap (λ (x : MemberFacts). x.is_method && not (is_static x.flags.0) && not x.is_init) p.2)

-- ---- the numbers of members

pub position_below : {X : Type 0} (p : X → Bool) (xs : List X) (k : ℕ) → position p xs ≡ Some k → k < length xs
position_below p [] k is = absurd cc
position_below p (x ∷ xs) k is = (position-Some p (x ∷ xs) k x is).0

added_below : (before m : ℕ) (o : Option ℕ) (k : ℕ) → ((n : ℕ) → o ≡ Some n → n < m)
    → option_map (λ n. before + n) o ≡ Some k → k < before + m
added_below before m (Some n) k below is = let h = below n refl in let e : before + n
    ≡ k = same_Some (before + n) k is in omega (arith, h, e)
added_below before m None k below is = absurd cc

pub or_below : (c : Class) (name descriptor : List ℕ) (o : Option ℕ) (k : ℕ)
    → ((n : ℕ) → o ≡ Some n → n < length c.fields) → or_method c name descriptor o ≡ Some k
    → k < length c.fields + length c.methods
or_below c name descriptor (Some n) k fields is = let h = fields n refl in let e : n
    ≡ k = same_Some n k is in omega (arith, h, e)
or_below c name descriptor None k fields is =
    added_below (length c.fields) (length c.methods) (position (is_method name descriptor) c.methods) k
    (position_below (is_method name descriptor) c.methods) is

member_below : (c : Class) (name descriptor : List ℕ) (k : ℕ) → member_named c name descriptor ≡ Some k
    → k < length c.fields + length c.methods
member_below c name descriptor k is =
    or_below c name descriptor (position (is_field name descriptor) c.fields) k
    (position_below (is_field name descriptor) c.fields) is

pub rows_counted : (c : Class)
    → length (map field_row c.fields ++ map method_row c.methods) ≡ length c.fields + length c.methods
rows_counted c =
    let both = length-append (map field_row c.fields) (map method_row c.methods) in
    let fields = length-map c.fields field_row in
    let methods = length-map c.methods method_row in
    omega (arith, both, fields, methods)

pub class_below : (o : Option Class) (name descriptor : List ℕ) (k : ℕ)
    → option_and_then (λ c. member_named c name descriptor) o ≡ Some k
    → k < length (option_map_or (λ c. map field_row c.fields ++ map method_row c.methods) o [])
class_below
    (Some c) name descriptor k is = let h = member_below c name descriptor k is in let e = rows_counted c in omega
    (arith, h, e)
class_below None name descriptor k is = absurd cc

found_step : {X : Type 0} (b : Bool) (first : ℕ × X) (others : Option (ℕ × X)) (low high k : ℕ) (x : X) → first.0 < high
    → ((m : ℕ) (y : X) → others ≡ Some (m, y) → m < high)
    → cond b (Some first) others ≡ Some (k, x) → k < high
found_step {X = X} true first others low high k x here rest is = subst (λ (p : ℕ × X). p.0 < high)
    (same_Some first (k, x) is) here
found_step {X = X} false first others low high k x here rest is = rest k x is

found_below : {X : Type 0} (p : ℕ × X → Bool) (xs : List X) (i k : ℕ) (x : X)
    → find p (enumerate_from i xs) ≡ Some (k, x) → k < i + length xs
found_below p [] i k x is = absurd cc
found_below p (y ∷ xs) i k x is =
    found_step (p (i, y)) (i, y) (find p (enumerate_from (i + 1) xs)) i (i + length (y ∷ xs)) k x (omega arith)
    (λ m z found. let h = found_below p xs (i + 1) m z found in omega (arith, h)) is

told_below : (o : Option (ℕ × LibraryMember)) (high k : ℕ) → ((m : ℕ) (x : LibraryMember) → o ≡ Some (m, x) → m < high)
    → option_map (λ m. m.at) (option_map member_told o) ≡ Some k → k < high
told_below (Some (m, x)) high k below is = subst (λ n. n < high) (same_Some m k is) (below m x refl)
told_below None high k below is = absurd cc

-- the member that a class declares is one of those that it has
pub declared_below : (classes : List Class) (id : ClassId) (name descriptor : List ℕ) (k : ℕ)
    → declared_at classes id name descriptor ≡ Some k → k < length (rows_in classes id)
declared_below classes (Prog n) name descriptor k is = class_below (slice_get classes n) name descriptor k is
declared_below classes (Lib id) name descriptor k is =
    let ms = (class_at id).members in
    let h = told_below (find (λ p. is_member name descriptor p.1) (enumerate_from 0 ms)) (0 + length ms) k
    (λ m x found. found_below (λ p. is_member name descriptor p.1) ms 0 m x found) is in
    let e = length-map ms (library_row (class_at id).kind) in
    omega (arith, h, e)
