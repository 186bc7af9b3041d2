-- Whether a name and a descriptor are those of a member that is there, as a test.
use Rattle.std.proofs.Common.{◌≡◌, inl, inr, ⊎_elim, ℕ, zero, suc, ◌&&◌, ◌||◌, Bool, true, false, List, [], ◌∷◌}
use Rattle.std.proofs.Common.{◌++◌, map, slice_get, Option, Some, None, refl, sym, ap, subst, ◌∙◌, arith}
use Rattle.std.specs.Prelude.{codes, is_some, slice_index_or}
use Rattle.std.specs.Option.{option_map_or}
use Rattle.std.specs.List.{list_any}
use Rattle.std.proofs.lemmas.Bool.{and_parts}
use Rattle.std.proofs.lemmas.Option.{same_Some}
use Rattle.std.proofs.Math.Bool.{or-true}
use Rattle.jv_base.specs.Names.{is_text}
use Rattle.jv_base.specs.Types.{IsFieldType, IsMethodType, argument_words, method_text, result_text}
use Rattle.jv_base.specs.declared.types.MethodType.{MethodType}
use Rattle.jv_base.proofs.Equality.{text_Decides}
use Rattle.jv_base.proofs.Lists.{all_at, any_where, any_at}
use Rattle.lib_table.specs.Library.{LibraryClass, class, library}
use Rattle.lib_table.specs.Lookups as table
use Rattle.lib_table.specs.declared.class.LibKind.TheVariants.{Open}
use Rattle.class_model.specs.declared.class.Class.{Class}
use Rattle.class_model.specs.declared.class.Field.{Field}
use Rattle.class_model.specs.declared.class.Method.{Method}
use Rattle.class_pool.specs.Found.{MemberRow, NameAndType, field_row, library_row, method_row, rows_in}
use Rattle.class_pool.specs.Hierarchy.{class_named}
use Rattle.class_pool.specs.declared.id.ClassId.{ClassId}
use Rattle.class_pool.specs.declared.id.ClassId.TheVariants.{Prog, Lib}
use Rattle.class_rename.specs.Names.{Names}
use Rattle.pair_laws.specs.RenamedForm.Form.{IsKnownMethodType, IsKnownType}
use Rattle.pair_laws.specs.RenamedImage.Naming.{is_declared, is_row, library_rows_of, rows_of}
use Rattle.pair_laws.specs.RenamedImage.Renaming.{KeepsNamesApart, NamesKnownTypes, is_known, is_library_name}
use Rattle.pair_laws.proofs.RenamedImage.Descriptors.{Declared}
use Rattle.pair_laws.proofs.RenamedImage.LibraryTypes.{IsDescribed, library_row_described}
use Rattle.pair_laws.proofs.RenamedImage.Rows.{row_Decides}
use Rattle.image_laws.proofs.TakenSet.Members.{row_parts}

-- ---- what some element passes, and where

-- ---- rows of a class of the library

library_class_at : (id : ℕ) (c : LibraryClass) → slice_get library id ≡ Some c → table.class_at id ≡ c
library_class_at id c at = by library id at
  where
    by : (cs : List LibraryClass) (k : ℕ) → slice_get cs k ≡ Some c → slice_index_or cs k (class [] Open None [] []) ≡ c
    by [] k at = absurd cc
    by (d ∷ cs) zero at = same_Some d c at
    by (d ∷ cs) (suc k) at = by cs k at

pub library_at : (id k : ℕ) (row : MemberRow)
    → slice_get (map (library_row (table.class_at id).kind) (table.class_at id).members) k ≡ Some row
    → (c : LibraryClass) × (slice_get library id ≡ Some c) × (slice_get (library_rows_of c) k ≡ Some row)
library_at id k row at = by (slice_get library id) refl
  where
    past : (cs : List LibraryClass) (k : ℕ) → slice_get cs k ≡ None
        → slice_index_or cs k (class [] Open None [] []) ≡ class [] Open None [] []
    past [] k e = refl
    past (c ∷ cs) zero e = absurd cc
    past (c ∷ cs) (suc k) e = past cs k e

    by : (o : Option LibraryClass) → slice_get library id ≡ o
        → (c : LibraryClass) × (slice_get library id ≡ Some c) × (slice_get (library_rows_of c) k ≡ Some row)
    by (Some c) e =
        (c, e, ap (λ (c : LibraryClass). slice_get (library_rows_of c) k) (sym (library_class_at id c e)) ∙ at)
    by None e = absurd
        (let w : None ≡ Some row =
        ap (λ (c : LibraryClass). slice_get (library_rows_of c) k) (sym (past library id e)) ∙ at in cc)

-- ---- the descriptor of a class initialisation method

abbrev pub initial : MethodType
initial = record { args = []; ret = None }

pub initial_is : IsMethodType initial
unfolding argument_words
initial_is = record { arguments = tt; words = omega arith; returned = tt }

initial_known : (known : List ℕ → Bool) → IsKnownMethodType known initial
initial_known known = record { arguments = tt; returned = tt }

pub initial_text : method_text initial ≡ codes "()V"
unfolding method_text result_text
initial_text = refl

-- ---- the test

module _ (xs : List Class) where
  abbrev is_clinit_named : NameAndType → Bool
  is_clinit_named named = is_text named.0 (codes "<clinit>") && is_text named.1 (codes "()V")

  abbrev in_program : NameAndType → Bool
  in_program named = list_any (λ (c : Class). list_any (is_row named) (rows_of c)) xs

  abbrev in_library : NameAndType → Bool
  in_library named = list_any (λ (c : LibraryClass). list_any (is_row named) (library_rows_of c)) library

  program_at : (k : ℕ) (row : MemberRow) (o : Option Class)
      → slice_get (option_map_or (λ (c : Class). map field_row c.fields ++ map method_row c.methods) o []) k ≡ Some row
      → (c : Class) × (o ≡ Some c) × (slice_get (rows_of c) k ≡ Some row)
  program_at k row None at = absurd cc
  program_at k row (Some c) at = (c, refl, at)

  -- the name of a member that is there passes
  pub test_of : (x : ClassId) (k : ℕ) (row : MemberRow) → slice_get (rows_in xs x) k ≡ Some row
      → is_declared xs row.named ≡ true
  test_of (Prog n) k row at =
      let h = program_at k row (slice_get xs n) at in
      let one : in_program row.named ≡ true = any_at (λ (c : Class). list_any (is_row row.named) (rows_of c)) xs n h.0
      h.1 (any_at (is_row row.named) (rows_of h.0) k row h.2 ((row_Decides row.named row).1 refl)) in
      ap (λ (b : Bool). is_clinit_named row.named || (b || in_library row.named)) one
      ∙ or-true (is_clinit_named row.named)
  test_of (Lib id) k row at =
      let h = library_at id k row at in
      let one : in_library row.named ≡ true =
      any_at (λ (c : LibraryClass). list_any (is_row row.named) (library_rows_of c)) library id h.0 h.1
      (any_at (is_row row.named) (library_rows_of h.0) k row h.2 ((row_Decides row.named row).1 refl)) in
      ap (λ (b : Bool). is_clinit_named row.named || (in_program row.named || b)) one
      ∙ ap (λ (b : Bool). is_clinit_named row.named || b) (or-true (in_program row.named))
      ∙ or-true (is_clinit_named row.named)

  java_known : (name : List ℕ) → is_library_name name ≡ true → is_known xs name ≡ true
  java_known name h = ap (λ (b : Bool). b || is_some (class_named xs name)) h

  module _ (names : Names) (apart : KeepsNamesApart names xs) (known : NamesKnownTypes xs) where
    -- ---- a member that is there is declared

    row_typed : (x : ClassId) (k : ℕ) (row : MemberRow) → slice_get (rows_in xs x) k ≡ Some row
        → IsDescribed (is_known xs) row.is_method row.named.1
    row_typed (Lib id) k row at = library_row_described (is_known xs) java_known xs id k row at
    row_typed (Prog n) k row at =
        let h = program_at k row (slice_get xs n) at in
        ⊎_elim
        (λ p. let ty = all_at (λ (f : Field). IsFieldType f.ty × IsKnownType (is_known xs) f.ty) h.0.fields k p.0
        (known.fields n h.0 h.1) p.1 in
        subst (λ (r : MemberRow). IsDescribed (is_known xs) r.is_method r.named.1) (sym p.2) (p.0.ty, ty.0, ty.1, refl))
        (λ p. let ty = all_at (λ (m : Method). IsMethodType m.ty × IsKnownMethodType (is_known xs) m.ty) h.0.methods p.0
        p.1 (known.methods n h.0 h.1) p.3 in
        subst (λ (r : MemberRow). IsDescribed (is_known xs) r.is_method r.named.1) (sym p.4)
        (p.1.ty, ty.0, ty.1, refl))
        (row_parts h.0.fields h.0.methods k row h.2)

    pub row_declared : (x : ClassId) (k : ℕ) (row : MemberRow) → slice_get (rows_in xs x) k ≡ Some row
        → Declared names xs apart row.named
    row_declared x k row at = record {
      method = row.is_method;
      named = inl (record { class = x; index = k; row = row; at = at; kind = refl; named_is = refl });
      typed = row_typed x k row at;
    }

    -- so is a class initialisation method
    clinit_declared : (n : NameAndType) → n.0 ≡ codes "<clinit>" → n.1 ≡ codes "()V" → Declared names xs apart n
    clinit_declared n name text = record {
      method = true;
      named = inr (refl, name);
      typed = (initial, initial_is, initial_known (is_known xs), initial_text ∙ sym text);
    }

    -- what passes the test is declared
    pub tested : (n : NameAndType) → is_declared xs n ≡ true → Declared names xs apart n
    tested n is = by (is_clinit_named n) refl (in_program n) refl is
      where
        by : (b : Bool) → is_clinit_named n ≡ b → (p : Bool) → in_program n ≡ p
            → (b || (p || in_library n)) ≡ true → Declared names xs apart n
        by true e p f is =
            let parts = and_parts (is_text n.0 (codes "<clinit>")) (is_text n.1 (codes "()V")) e in
            clinit_declared n ((text_Decides n.0 (codes "<clinit>")).0 parts.0)
            ((text_Decides n.1 (codes "()V")).0 parts.1)
        by false e true f is =
            let h = any_where (λ (c : Class). list_any (is_row n) (rows_of c)) xs f in
            let g = any_where (is_row n) (rows_of h.1) h.3 in
            subst (Declared names xs apart) ((row_Decides n g.1).0 g.3)
            (row_declared (Prog h.0) g.0 g.1
            (ap (λ (o : Option Class). slice_get
            (option_map_or (λ c. map field_row c.fields ++ map method_row c.methods) o []) g.0) h.2 ∙ g.2))
        by false e false f is =
            let h = any_where (λ (c : LibraryClass). list_any (is_row n) (library_rows_of c)) library is in
            let g = any_where (is_row n) (library_rows_of h.1) h.3 in
            subst (Declared names xs apart) ((row_Decides n g.1).0 g.3)
            (row_declared (Lib h.0) g.0 g.1
            (ap (λ (c : LibraryClass). slice_get (library_rows_of c) g.0) (library_class_at h.0 h.1 h.2) ∙ g.2))
