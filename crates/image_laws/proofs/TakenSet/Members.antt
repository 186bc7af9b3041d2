-- A member that is there is the one that its class declares under its name and descriptor.
use Rattle.std.proofs.Common.{◌≡◌, ⊎_elim, ◌⊎◌, inl, inr, ◌<◌, ℕ, zero, suc, ◌+◌, nat_eq, Bool, true}
use Rattle.std.proofs.Common.{false}
use Rattle.std.proofs.Common.{List, [], ◌∷◌, ◌++◌, length, map, Option, Some, None, slice_get, refl, sym, ap}
use Rattle.std.proofs.Common.{◌∙◌, arith}
use Rattle.std.specs.List.{enumerate_from, list_all, position}
use Rattle.std.specs.Option.{option_and_then, option_map, option_map_or}
use Rattle.std.proofs.lemmas.Bool.{and_parts, eqb-true, and_from}
use Rattle.std.proofs.lemmas.List.{length-map}
use Rattle.std.proofs.lemmas.Option.{slice_get-map}
use Rattle.jv_base.specs.Names.{is_text}
use Rattle.jv_base.specs.Types.{field_text, method_text}
use Rattle.jv_base.proofs.Equality.{text_Decides}
use Rattle.jv_base.proofs.Lists.{found_at as element}
use Rattle.class_model.specs.declared.class.Class.{Class}
use Rattle.class_model.specs.declared.class.Field.{Field}
use Rattle.class_model.specs.declared.class.Method.{Method}
use Rattle.lib_table.specs.Library.{LibraryMember, library}
use Rattle.lib_table.specs.Lookups as table
use Rattle.class_pool.specs.Distinct.{MembersDiffer}
use Rattle.class_pool.specs.Found.{IsMember, MemberRow, NameAndType, declared_in, field_row, library_row, method_row}
use Rattle.class_pool.specs.Found.{named_at, row_at, rows_in}
use Rattle.class_pool.specs.Hierarchy.{IsClass}
use Rattle.class_pool.specs.Members.{declared_at, is_field, is_method, member_named, or_method}
use Rattle.class_pool.specs.bodies.Graph.{library_ids}
use Rattle.class_pool.specs.declared.id.ClassId.{ClassId}
use Rattle.class_pool.specs.declared.id.ClassId.TheVariants.{Prog, Lib}
use Rattle.class_pool.specs.declared.id.MemberAt.{MemberAt}
use Rattle.class_pool.proofs.Distinct.{position_at}
use Rattle.class_pool.proofs.ObjectLaws.{at_row}
use Rattle.image_laws.specs.TakenSet.TakenSet.{IsTaken}
use Rattle.image_laws.proofs.TakenSet.Names.{differ}

-- ---- of a program class

field_itself : (f : Field) → is_field f.name (field_text f.ty) f ≡ true
field_itself f = and_from (is_text f.name f.name) (is_text (field_text f.ty) (field_text f.ty))
    ((text_Decides f.name f.name).1 refl) ((text_Decides (field_text f.ty) (field_text f.ty)).1 refl)

method_itself : (m : Method) → is_method m.name (method_text m.ty) m ≡ true
method_itself m = and_from (is_text m.name m.name) (is_text (method_text m.ty) (method_text m.ty))
    ((text_Decides m.name m.name).1 refl) ((text_Decides (method_text m.ty) (method_text m.ty)).1 refl)

module _ (c : Class) (apart : MembersDiffer c) where
  field_number : (k : ℕ) (f : Field) → slice_get c.fields k ≡ Some f
      → member_named c f.name (field_text f.ty) ≡ Some k
  field_number k f is = ap (or_method c f.name (field_text f.ty))
      (position_at (is_field f.name (field_text f.ty)) c.fields k f (apart.fields f.name (field_text f.ty)) is
      (field_itself f))

  method_number : (k : ℕ) (m : Method) → slice_get c.methods k ≡ Some m
      → member_named c m.name (method_text m.ty) ≡ Some (length c.fields + k)
  method_number k m is =
      by (position (is_field m.name (method_text m.ty)) c.fields) refl
    where
      here : position (is_method m.name (method_text m.ty)) c.methods ≡ Some k
      here = position_at (is_method m.name (method_text m.ty)) c.methods k m
          (apart.methods m.name (method_text m.ty)) is
          (method_itself m)

      by : (o : Option ℕ) → position (is_field m.name (method_text m.ty)) c.fields ≡ o
          → or_method c m.name (method_text m.ty) o ≡ Some (length c.fields + k)
      by None e = ap (option_map (λ n. length c.fields + n)) here
      by (Some j) e = absurd (let q : None ≡ Some k = sym (apart.apart m.name (method_text m.ty) j e) ∙ here in cc)

-- a row is that of a field, or of a method behind the fields
pub row_parts : (fs : List Field) (ms : List Method) (k : ℕ) (row : MemberRow)
    → slice_get (map field_row fs ++ map method_row ms) k ≡ Some row
    → ((f : Field) × (slice_get fs k ≡ Some f) × (row ≡ field_row f))
    ⊎ ((j : ℕ) × (m : Method) × (k ≡ length fs + j) × (slice_get ms j ≡ Some m) × (row ≡ method_row m))
row_parts [] ms k row is = inr (by (slice_get ms k) refl (sym (slice_get-map method_row ms k) ∙ is))
  where
    by : (o : Option Method) → slice_get ms k ≡ o → option_map method_row o ≡ Some row
        → (j : ℕ) × (m : Method) × (k ≡ 0 + j) × (slice_get ms j ≡ Some m) × (row ≡ method_row m)
    by None at e = absurd cc
    by (Some m) at e = (k, m, omega arith, at, let q : row ≡ method_row m = cc in q)
row_parts (f ∷ fs) ms zero row is = inl (f, refl, let q : row ≡ field_row f = cc in q)
row_parts (f ∷ fs) ms (suc k) row is =
    ⊎_elim (λ p. inl p)
    (λ p. inr (p.0, p.1, let at = p.2 in omega (arith, at), p.3, p.4))
    (row_parts fs ms k row is)

-- ---- of a library class

-- the number under which a member is found
abbrev found_at : List LibraryMember → LibraryMember → Option ℕ
found_at ms m = option_map (λ told. told.at) (table.member_named ms m.name m.descriptor)

rows_found : list_all (λ id. list_all (λ e. option_map_or (λ j. nat_eq j e.0)
    (found_at (table.class_at id).members e.1) false) (enumerate_from 0 (table.class_at id).members)) library_ids ≡ true
unfolding library
rows_found = refl

each_numbered : {X : Type 0} (p : ℕ × X → Bool) (s : ℕ) (xs : List X) (k : ℕ) (x : X)
    → list_all p (enumerate_from s xs) ≡ true → slice_get xs k ≡ Some x → p (s + k, x) ≡ true
each_numbered p s [] k x h is = absurd cc
each_numbered p s (y ∷ xs) zero x h is =
    let same : y ≡ x = cc in
    let start : s ≡ s + zero = omega arith in
    ap (λ (n : ℕ). p (n, x)) (sym start) ∙ ap (λ z. p (s, z)) (sym same)
    ∙ (and_parts (p (s, y)) (list_all p (enumerate_from (s + 1) xs)) h).0
each_numbered p s (y ∷ xs) (suc k) x h is =
    let next : s + 1 + k ≡ s + suc k = omega arith in
    ap (λ (n : ℕ). p (n, x)) (sym next)
    ∙ each_numbered p (s + 1) xs k x (and_parts (p (s, y)) (list_all p (enumerate_from (s + 1) xs)) h).1 is

library_found : (id k : ℕ) (m : LibraryMember) → id < length library
    → slice_get (table.class_at id).members k ≡ Some m → found_at (table.class_at id).members m ≡ Some k
library_found id k m within is =
    by (found_at (table.class_at id).members m)
    (each_numbered (λ e. option_map_or (λ j. nat_eq j e.0) (found_at (table.class_at id).members e.1) false) 0
    (table.class_at id).members k m
    (at_row (λ id. list_all (λ e. option_map_or (λ j. nat_eq j e.0) (found_at (table.class_at id).members e.1) false)
    (enumerate_from 0 (table.class_at id).members)) id rows_found within) is)
  where
    by : (o : Option ℕ) → option_map_or (λ j. nat_eq j (0 + k)) o false ≡ true → o ≡ Some k
    by None h = absurd cc
    by (Some j) h = let e : j ≡ 0 + k = eqb-true j (0 + k) h in let f : 0 + k ≡ k = omega arith in ap Some (e ∙ f)

-- ---- of any class

abbrev at_index : ClassId → ℕ → MemberAt
at_index x k = record { class = x; index = k }

module _ (classes : List Class) (t : IsTaken classes) where
  abbrev rows_of : Option Class → List MemberRow
  rows_of o = option_map_or (λ (c : Class). map field_row c.fields ++ map method_row c.methods) o []

  abbrev name_in : ℕ → Option Class → NameAndType
  name_in k o = option_map_or (λ (row : MemberRow). row.named) (slice_get (rows_of o) k) ([], [])

  program_number : (n k : ℕ) → k < length (rows_in classes (Prog n))
      → declared_at classes (Prog n) (named_at classes (at_index (Prog n) k)).0
      (named_at classes (at_index (Prog n) k)).1 ≡ Some k
  program_number n k low = by (slice_get classes n) refl low
    where
      number : (c : Class) → slice_get classes n ≡ Some c → (row : MemberRow)
          → slice_get (rows_of (Some c)) k ≡ Some row → member_named c row.named.0 row.named.1 ≡ Some k
      number c is row at =
          ⊎_elim
          (λ p. ap (λ (r : MemberRow). member_named c r.named.0 r.named.1) p.2
          ∙ field_number c (differ classes t n c is) k p.0 p.1)
          (λ p. ap (λ (r : MemberRow). member_named c r.named.0 r.named.1) p.4
          ∙ method_number c (differ classes t n c is) p.0 p.1 p.3 ∙ ap Some (sym p.2))
          (row_parts c.fields c.methods k row at)

      by : (o : Option Class) → slice_get classes n ≡ o → k < length (rows_of o)
          → declared_at classes (Prog n) (named_at classes (at_index (Prog n) k)).0
          (named_at classes (at_index (Prog n) k)).1 ≡ Some k
      by None is low = absurd (omega (arith, low))
      by (Some c) is low =
          let row = element (rows_of (Some c)) k low in
          ap (λ o. option_and_then (λ (d : Class). member_named d (name_in k o).0 (name_in k o).1) o) is
          ∙ ap (λ r. member_named c (option_map_or (λ (row : MemberRow). row.named) r ([], [])).0
          (option_map_or (λ (row : MemberRow). row.named) r ([], [])).1) row.1
          ∙ number c is row.0 row.1

  library_number : (id k : ℕ) → id < length library → k < length (rows_in classes (Lib id))
      → declared_at classes (Lib id) (named_at classes (at_index (Lib id) k)).0
      (named_at classes (at_index (Lib id) k)).1 ≡ Some k
  library_number id k within low =
      let members = (table.class_at id).members in
      let long = length-map members (library_row (table.class_at id).kind) in
      let m = element members k (omega (arith, low, long)) in
      let row : row_at classes (at_index (Lib id) k) ≡ Some (library_row (table.class_at id).kind m.0) =
      slice_get-map (library_row (table.class_at id).kind) members k
      ∙ ap (option_map (library_row (table.class_at id).kind)) m.1 in
      ap (λ r. declared_at classes (Lib id) (option_map_or (λ (row : MemberRow). row.named) r ([], [])).0
      (option_map_or (λ (row : MemberRow). row.named) r ([], [])).1) row
      ∙ library_found id k m.0 within m.1

  -- a member is the one of its name
  pub own_declared : (m : MemberAt) → IsMember classes m → declared_in classes (named_at classes m) m.class ≡ Some m
  own_declared m there = by m.class m.index there.0 there.1
    where
      by : (x : ClassId) (k : ℕ) → IsClass classes x → k < length (rows_in classes x)
          → declared_in classes (named_at classes (at_index x k)) x ≡ Some (at_index x k)
      by (Prog n) k within low = ap (option_map (at_index (Prog n))) (program_number n k low)
      by (Lib id) k within low = ap (option_map (at_index (Lib id))) (library_number id k within low)
