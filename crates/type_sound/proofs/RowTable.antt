-- Each method of the library that a program may call has a row of its type: computed from the two tables.
use Rattle.std.proofs.Common.{◌≡◌, ◌&&◌, ◌||◌, ⊎_elim, ℕ, zero, suc, not, Bool, true, false, List, []}
use Rattle.std.proofs.Common.{◌∷◌, length, Option, Some, None, Ok, slice_get, refl, sym, ap, ◌∙◌}
use Rattle.std.specs.List.{list_all, list_any}
use Rattle.std.specs.Option.{is_none, option_map, option_map_or}
use Rattle.std.proofs.lemmas.Bool.{and_parts, cases_lt}
use Rattle.jv_base.specs.Descriptors.{read_method}
use Rattle.jv_base.specs.Names.{is_text}
use Rattle.jv_base.specs.Types.{base_text, field_text, method_text, result_text}
use Rattle.jv_base.specs.declared.types.MethodType.{MethodType}
use Rattle.jv_base.proofs.Equality.{same_text}
use Rattle.jv_base.proofs.Lists.{got_mapped, mapped_from}
use Rattle.class_model.specs.Flags.{is_init}
use Rattle.class_model.specs.declared.class.Class.{Class}
use Rattle.lib_table.specs.Library.{LibraryClass, LibraryMember, library}
use Rattle.lib_table.specs.Lookups as table
use Rattle.class_pool.specs.Found.{MemberRow, is_method_at, library_row}
use Rattle.class_pool.specs.Found.{row_at}
use Rattle.class_pool.specs.Hierarchy.{is_interface_kind}
use Rattle.class_pool.specs.Resolution.{is_class_below}
use Rattle.class_pool.specs.Walk.{highest, same_class, upwards}
use Rattle.class_pool.specs.bodies.Graph.{library_ids}
use Rattle.class_pool.specs.declared.id.ClassId.TheVariants.{Lib}
use Rattle.class_pool.specs.declared.id.MemberAt.{MemberAt}
use Rattle.class_pool.proofs.LikeMethods.{all_at}
use Rattle.link_check.specs.Links.{is_callable_role}
use Rattle.jvm_model.specs.Heap.{string}
use Rattle.jvm_model.specs.Library.{Row}
use Rattle.jvm_model.specs.LibraryRows.{row_of}
use Rattle.jvm_model.specs.Value.{Key}
use Rattle.fit_laws.specs.RowTypes.{IsRowOf, row_class, row_result}
use Rattle.class_pool.proofs.ObjectLaws.{at_row}
use Rattle.image_laws.proofs.TakenSet.LibraryRows.{past_last}
use Rattle.type_sound.proofs.Members.{one_type}
use Rattle.type_sound.proofs.RowReads.{row_reads, row_type}

-- a class of the table is another one or below it
abbrev pub is_row_below : ℕ → ℕ → Bool
is_row_below a b = is_class_below [] (Lib a) (Lib b)

-- the receiver's class is that of the row or below it; a static method has none
abbrev has_receiver : ℕ → Bool → Option (List ℕ) → Bool
has_receiver id true class = is_none class
has_receiver id false class =
    option_map_or (λ c. option_map_or (is_row_below id) (table.class_named c) false) class false

-- an instance initialisation method has no result, and is none of String
abbrev is_right_init : List ℕ → List ℕ → Row → Bool
is_right_init class name row = not (is_init name) || (is_none (row_result row) && not (is_text class string))

-- the row of a member is right
abbrev is_row_right : ℕ → LibraryMember → Row → Bool
is_row_right id m row = is_text m.descriptor (method_text (row_type row))
    && has_receiver id m.is_static (row_class row) && is_right_init (table.class_at id).name m.name row

abbrev pub key_of : ℕ → LibraryMember → Key
key_of id m = record { class = (table.class_at id).name; name = m.name; descriptor = m.descriptor }

-- a method of a class that may be called has such a row
abbrev has_row : ℕ → LibraryMember → Bool
has_row id m = not (m.is_method && is_callable_role m.role) || is_interface_kind (table.class_at id).kind
    || option_map_or (is_row_right id m) (row_of (key_of id m)) false

rows_right : list_all (λ id. list_all (has_row id) (table.class_at id).members) library_ids ≡ true
unfolding library upwards field_text base_text method_text result_text
rows_right = refl

-- ---- at a member

-- a member of the library in its table
pub record InTable (id : ℕ) (index : ℕ) : Type 0 where
  pub member : LibraryMember
  pub there : slice_get (table.class_at id).members index ≡ Some member

module _ (classes : List Class) where
  abbrev at_index : ℕ → ℕ → MemberAt
  at_index id index = record { class = Lib id; index = index }

  -- what is told of it
  pub table_row : (id index : ℕ) (e : InTable id index)
      → row_at classes (at_index id index) ≡ Some (library_row (table.class_at id).kind e.member)
  table_row id index e = got_mapped (library_row (table.class_at id).kind) (table.class_at id).members index e.member
      e.there

  pub in_table : (id index : ℕ) → is_method_at classes (at_index id index) ≡ true → InTable id index
  in_table id index h = by (row_at classes (at_index id index)) refl h where
    by : (o : Option MemberRow) → row_at classes (at_index id index) ≡ o
        → option_map_or (λ (r : MemberRow). r.is_method) o false ≡ true → InTable id index
    by None e k = absurd cc
    by (Some r) e k = let m = mapped_from (library_row (table.class_at id).kind) (table.class_at id).members index r
        e in
        record { member = m.0; there = m.1 }

  -- the superclasses of a class of the library are the same in each set
  up_same : (n id : ℕ) → upwards n classes (Lib id) ≡ upwards n [] (Lib id)
  unfolding upwards
  up_same zero id = refl
  up_same (suc n) id = ap (λ xs. Lib id ∷ xs) (by (up_same n) (table.super_of id)) where
    by : ((s : ℕ) → upwards n classes (Lib s) ≡ upwards n [] (Lib s)) → (o : Option ℕ)
        → option_map_or (upwards n classes) (option_map Lib o) [] ≡ option_map_or (upwards n []) (option_map Lib o) []
    by f None = refl
    by f (Some s) = f s

  pub row_below : (a b : ℕ) → is_row_below a b ≡ true → is_class_below classes (Lib a) (Lib b) ≡ true
  row_below a b h = ap (list_any (same_class (Lib b))) (up_same highest a) ∙ h

  pub row_below_back : (a b : ℕ) → is_class_below classes (Lib a) (Lib b) ≡ true → is_row_below a b ≡ true
  row_below_back a b h = sym (ap (list_any (same_class (Lib b))) (up_same highest a)) ∙ h

  -- ---- what a row says

  pub record HasRow (id : ℕ) (m : LibraryMember) : Type 0 where
    pub row : Row
    pub found : row_of (key_of id m) ≡ Some row
    pub text : m.descriptor ≡ method_text (row_type row)
    pub receiver : has_receiver id m.is_static (row_class row) ≡ true
    pub init : is_right_init (table.class_at id).name m.name row ≡ true

  pub member_row : (id index : ℕ) (e : InTable id index) → e.member.is_method ≡ true
      → is_callable_role e.member.role ≡ true → is_interface_kind (table.class_at id).kind ≡ false → HasRow id e.member
  member_row id index e method callable class =
      by (row_of (key_of id e.member)) refl
      (third (e.member.is_method && is_callable_role e.member.role) (is_interface_kind (table.class_at id).kind) _
      (ap (λ b. b && is_callable_role e.member.role) method ∙ callable) class
      (all_at (has_row id) (table.class_at id).members index e.member (rows id index e.there) e.there))
    where
      third : (a b c : Bool) → a ≡ true → b ≡ false → (not a || b || c) ≡ true → c ≡ true
      third true false c h k e = e
      third true true c h k e = absurd cc
      third false b c h k e = absurd cc

      rows : (id index : ℕ) {m : LibraryMember} → slice_get (table.class_at id).members index ≡ Some m
          → list_all (has_row id) (table.class_at id).members ≡ true
      rows id index is = ⊎_elim
          (λ low. at_row (λ k. list_all (has_row k) (table.class_at k).members) id rows_right low)
          (λ high. ap (λ (c : LibraryClass). list_all (has_row id) c.members) (past_last id high))
          (cases_lt id (length library))

      by : (o : Option Row) → row_of (key_of id e.member) ≡ o
          → option_map_or (is_row_right id e.member) o false ≡ true → HasRow id e.member
      by None q h = absurd cc
      by (Some row) q h =
          let p = and_parts (is_text e.member.descriptor (method_text (row_type row))
          && has_receiver id e.member.is_static (row_class row))
          (is_right_init (table.class_at id).name e.member.name row)
          h in
          let r = and_parts (is_text e.member.descriptor (method_text (row_type row)))
          (has_receiver id e.member.is_static (row_class row)) p.0 in
          record {
            row = row;
            found = q;
            text = same_text e.member.descriptor (method_text (row_type row)) r.0;
            receiver = r.1;
            init = p.1;
          }

  -- a static method's row has no receiver
  pub static_row : (id : ℕ) (m : LibraryMember) (r : HasRow id m) → m.is_static ≡ true → row_class r.row ≡ None
  static_row id m r s = by (row_class r.row) (sym (ap (λ b. has_receiver id b (row_class r.row)) s) ∙ r.receiver) where
    by : (o : Option (List ℕ)) → is_none o ≡ true → o ≡ None
    by None h = refl
    by (Some c) h = absurd cc

  -- the class of the receiver of another one is above that of the member
  pub record Receiver (id : ℕ) (row : Row) : Type 0 where
    pub class : List ℕ
    pub is : row_class row ≡ Some class
    pub number : ℕ
    pub named : table.class_named class ≡ Some number
    pub below : is_class_below classes (Lib id) (Lib number) ≡ true

  pub instance_row : (id : ℕ) (m : LibraryMember) (r : HasRow id m) → m.is_static ≡ false → Receiver id r.row
  instance_row id m r s =
      by (row_class r.row) refl (sym (ap (λ b. has_receiver id b (row_class r.row)) s) ∙ r.receiver)
    where
      at : (c : List ℕ) → row_class r.row ≡ Some c → (p : Option ℕ) → table.class_named c ≡ p
          → option_map_or (is_row_below id) p false ≡ true → Receiver id r.row
      at c q None e h = absurd cc
      at c q (Some k) e h = record { class = c; is = q; number = k; named = e; below = row_below id k h }

      by : (o : Option (List ℕ)) → row_class r.row ≡ o
          → option_map_or (λ c. option_map_or (is_row_below id) (table.class_named c) false) o false ≡ true
          → Receiver id r.row
      by None q h = absurd cc
      by (Some c) q h = at c q (table.class_named c) refl h

  -- the type of the row is the one that its descriptor tells
  pub row_typed : (id : ℕ) (m : LibraryMember) (r : HasRow id m) (ty : MethodType) → read_method m.descriptor ≡ Ok ty
      → ty ≡ row_type r.row
  row_typed id m r ty read = one_type ty (row_type r.row) m.descriptor read (ap read_method r.text ∙ row_reads r.row)

  pub row_is : (id : ℕ) (m : LibraryMember) (r : HasRow id m) (ty : MethodType) → read_method m.descriptor ≡ Ok ty
      → (class : Option (List ℕ)) → row_class r.row ≡ class → IsRowOf r.row class ty
  row_is id m r ty read class is =
      let e = row_typed id m r ty read in
      record {
        class = is;
        parameters = ap (λ (x : MethodType). x.args) e;
        result = ap (λ (x : MethodType). x.ret) e;
      }
