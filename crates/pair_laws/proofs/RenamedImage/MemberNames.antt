-- Names of members of the library, of classes and of initialisation methods.
use Rattle.std.proofs.Common.{◌≡◌, ℕ, ◌&&◌, Bool, true, false, List, [], ◌++◌, map, Option}
use Rattle.std.proofs.Common.{Some, None, slice_get, codes, refl, sym, ap, ◌∙◌}
use Rattle.std.specs.Bool.{beq}
use Rattle.std.specs.List.{list_any}
use Rattle.std.specs.Option.{option_map_or}
use Rattle.std.proofs.lemmas.Bool.{and_from}
use Rattle.jv_base.specs.Names.{is_member_name, is_name_byte, is_text}
use Rattle.jv_base.proofs.Equality.{text_itself, same_text}
use Rattle.jv_base.proofs.Lists.{mapped_from, any_at}
use Rattle.lib_table.specs.Library.{LibraryClass, LibraryMember, library}
use Rattle.class_model.specs.Flags.{is_init}
use Rattle.class_model.specs.declared.class.Class.{Class}
use Rattle.class_pool.specs.Found.{MemberRow, field_row, library_row, method_row, rows_in}
use Rattle.class_pool.specs.declared.id.ClassId.TheVariants.{Prog, Lib}
use Rattle.fresh_names.specs.Fresh.{is_taken}
use Rattle.fresh_names.specs.Reserved.{library_names}
use Rattle.fresh_names.proofs.Reserved.{library_named}
use Rattle.pair_laws.proofs.RenamedImage.Declared.{library_at}

-- ---- lists

-- ---- names

-- a name of the form of members' names is none of an initialisation method
pub no_init : (name : List ℕ) → is_member_name name ≡ true → is_init name ≡ false
unfolding is_member_name is_name_byte
no_init name h = by (is_text name (codes "<init>")) refl
  where
    wrong : is_member_name (codes "<init>") ≡ true → ⊥
    wrong e = absurd cc

    by : (t : Bool) → is_text name (codes "<init>") ≡ t → t ≡ false
    by true e = absurd (wrong (sym (ap is_member_name (same_text name (codes "<init>") e)) ∙ h))
    by false e = refl

-- a member of the library has a name of its kind
pub library_name_taken : (classes : List Class) (id k : ℕ) (row : MemberRow)
    → slice_get (rows_in classes (Lib id)) k ≡ Some row
    → is_taken (library_names row.is_method) row.named.0 ≡ true
library_name_taken classes id k row at =
    let c = library_at id k row at in
    let m = mapped_from (library_row c.0.kind) c.0.members k row c.2 in
    let kind : row.is_method ≡ m.0.is_method = ap (λ (r : MemberRow). r.is_method) m.2 in
    let name : row.named.0 ≡ m.0.name = ap (λ (r : MemberRow). r.named.0) m.2 in
    let test = λ (x : LibraryMember). beq x.is_method row.is_method && is_text x.name row.named.0 in
    let passes : test m.0 ≡ true = and_from (beq m.0.is_method row.is_method) (is_text m.0.name row.named.0)
    (ap (λ (b : Bool). beq m.0.is_method b) kind ∙ same_bool m.0.is_method)
    (ap (is_text m.0.name) name ∙ text_itself m.0.name) in
    library_named row.is_method row.named.0
    ∙ any_at (λ (x : LibraryClass). list_any test x.members) library id c.0 c.1
    (any_at test c.0.members k m.0 m.1 passes)
  where
    same_bool : (b : Bool) → beq b b ≡ true
    same_bool true = refl
    same_bool false = refl

-- the class of a row
pub program_row : (classes : List Class) (k : ℕ) (row : MemberRow) (j : ℕ)
    → slice_get (rows_in classes (Prog j)) k ≡ Some row
    → (d : Class) × (slice_get classes j ≡ Some d)
    × (slice_get (map field_row d.fields ++ map method_row d.methods) k ≡ Some row)
program_row classes k row j at = by (slice_get classes j) refl at
  where
    by : (o : Option Class) → slice_get classes j ≡ o
        → slice_get (option_map_or (λ (c : Class). map field_row c.fields ++ map method_row c.methods) o []) k
        ≡ Some row
        → (d : Class) × (slice_get classes j ≡ Some d)
        × (slice_get (map field_row d.fields ++ map method_row d.methods) k ≡ Some row)
    by None e at = absurd cc
    by (Some d) e at = (d, e, at)
