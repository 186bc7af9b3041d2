-- What holds of each member of a class, and of an interface, of a set that is taken.
use Rattle.std.proofs.Common.{◌≡◌, ◌+◌, ℕ, not, ◌&&◌, ◌||◌, Bool, true, false, cond, List, []}
use Rattle.std.proofs.Common.{◌∷◌}
use Rattle.std.proofs.Common.{◌++◌, length, map, Option, Some, None, slice_get, refl, sym, ap, subst, ◌∙◌}
use Rattle.std.proofs.Common.{codes}
use Rattle.std.specs.List.{AllByRecursion, flat_map, list_all}
use Rattle.std.specs.Option.{option_map_or}
use Rattle.std.proofs.lemmas.Bool.{and_parts}
use Rattle.jv_base.specs.Names.{is_text}
use Rattle.jv_base.proofs.Lists.{all_append, all_at, all_from, all_mapped, nil_parts}
use Rattle.class_model.specs.Flags.{acc_abstract, acc_final, acc_native, acc_private, acc_public, acc_static}
use Rattle.class_model.specs.Flags.{acc_strict}
use Rattle.class_model.specs.Flags.{acc_synchronized, acc_volatile}
use Rattle.class_model.specs.Flags.{has, has_one_access, has_some, is_clinit, is_init, is_interface, is_static}
use Rattle.class_model.specs.WellFormed.{IsGoodField, IsGoodMethod, IsWellFormed}
use Rattle.class_model.specs.declared.class.Class.{Class}
use Rattle.class_model.specs.declared.class.Field.{Field}
use Rattle.class_model.specs.declared.class.Method.{Method}
use Rattle.lib_table.specs.Library.{LibraryMember}
use Rattle.lib_table.specs.Lookups as table
use Rattle.lib_table.specs.declared.class.LibKind.{LibKind}
use Rattle.lib_table.specs.declared.class.LibKind.TheVariants.{Open}
use Rattle.class_pool.specs.Found.{MemberRow, field_row, library_row, method_row, rows_in}
use Rattle.class_pool.specs.Hierarchy.{is_interface_kind, kind_of}
use Rattle.class_pool.specs.Resolution.{is_interface_in}
use Rattle.class_pool.specs.declared.id.ClassId.{ClassId}
use Rattle.class_pool.specs.declared.id.ClassId.TheVariants.{Prog, Lib}
use Rattle.class_pool.specs.declared.id.MemberAt.{MemberAt}
use Rattle.class_pool.proofs.ObjectLaws.{interface_flag}
use Rattle.link_check.specs.Profile.{body_kinds, code_kinds, declaration_kinds, overriding_kinds}
use Rattle.link_check.specs.Profile.{unless}
use Rattle.link_check.specs.Taken.{BreaksNoRule}
use Rattle.link_check.specs.declared.fault.ProfileKind.TheVariants.{LeftOutMember}
use Rattle.image_laws.proofs.TakenSet.Flags.{has_part, no_private}
use Rattle.image_laws.proofs.TakenSet.LibraryRows.{interface_members}

-- ---- lists

pub none_each : {X Y : Type 0} (g : X → List Y) (xs : List X) → flat_map g xs ≡ [] → AllByRecursion (λ x. g x ≡ []) xs
none_each g [] h = tt
none_each g (x ∷ xs) h = let parts = nil_parts (g x) (flat_map g xs) h in (parts.0, none_each g xs parts.1)

-- ---- flags of rows

-- of public, private and protected at most one (JVMS 4.5, 4.6)
abbrev pub HasOneAccess : MemberRow → Type 0
HasOneAccess row = has_one_access row.flags ≡ true

-- what isn't static is abstract, and not private (JVMS 4.5, 4.6; that methods have no body is the project's own)
abbrev pub IsFixed : MemberRow → Type 0
IsFixed row = is_static row.flags ≡ false
    → (has acc_abstract row.flags ≡ true) × (has acc_private row.flags ≡ false)

field_access : (in_interface : Bool) (f : Field) → IsGoodField in_interface f → HasOneAccess (field_row f)
field_access in_interface f good =
    let flags = f.flags.0 in
    let outer = and_parts (has_one_access flags && not (has (acc_final + acc_volatile) flags))
    (not in_interface || has (acc_public + acc_static + acc_final) flags) good.flags in
    (and_parts (has_one_access flags) (not (has (acc_final + acc_volatile) flags)) outer.0).0

abbrev not_with_abstract : ℕ
not_with_abstract = acc_private + acc_static + acc_final + acc_synchronized + acc_native + acc_strict

method_parts : (in_interface : Bool) (m : Method) → IsGoodMethod in_interface m
    → HasOneAccess (method_row m)
    × ((not (has acc_abstract m.flags.0) || not (has_some not_with_abstract m.flags.0)) ≡ true)
method_parts in_interface m good =
    and_parts (has_one_access m.flags.0) (not (has acc_abstract m.flags.0)
    || not (has_some not_with_abstract m.flags.0)) good.flags

field_fixed : (f : Field) → IsGoodField true f → IsFixed (field_row f)
field_fixed f good open_field = absurd
    (let flags = f.flags.0 in
    let outer = and_parts (has_one_access flags && not (has (acc_final + acc_volatile) flags))
    (has (acc_public + acc_static + acc_final) flags) good.flags in
    let static = has_part (acc_public + acc_static + acc_final) acc_static flags refl outer.1 in
    let q : true ≡ false = sym static ∙ open_field in
    cc)

method_fixed : (m : Method) → IsGoodMethod true m
    → (has acc_abstract m.flags.0 || is_text m.name (codes "<clinit>")) ≡ true → IsFixed (method_row m)
method_fixed m good body open_method =
    let flags = m.flags.0 in
    let initial = (and_parts (not (is_init m.name) || (not true && not (has_some
    (acc_static + acc_final + acc_synchronized + acc_native + acc_abstract) flags)))
    (not (is_clinit m.name) || is_static flags) good.initial_flags).1 in
    let abstract_method : has acc_abstract flags ≡ true = by (is_text m.name (codes "<clinit>")) (is_static flags)
    (has acc_abstract flags) initial open_method body in (
      abstract_method,
      no_private flags (other (has acc_abstract flags) (has_some not_with_abstract flags) abstract_method
          (method_parts true m good).1),
    )
  where
    by : (start static abstract : Bool) → (not start || static) ≡ true → static ≡ false
        → (abstract || start) ≡ true → abstract ≡ true
    by start static true h k b = refl
    by true true false h k b = absurd cc
    by true false false h k b = absurd cc
    by false static false h k b = absurd cc

    other : (abstract some : Bool) → abstract ≡ true → (not abstract || not some) ≡ true → some ≡ false
    other true false a h = refl
    other true true a h = absurd cc
    other false some a h = absurd cc

library_access : (kind : LibKind) (m : LibraryMember) → HasOneAccess (library_row kind m)
library_access kind m = by m.is_static (m.is_method && is_interface_kind kind)
  where
    by : (s t : Bool) → has_one_access (acc_public + cond s acc_static 0 + cond t acc_abstract 0) ≡ true
    by true true = refl
    by true false = refl
    by false true = refl
    by false false = refl

library_fixed : (kind : LibKind) (m : LibraryMember) → is_interface_kind kind ≡ true
    → (m.is_method || m.is_static) ≡ true → IsFixed (library_row kind m)
library_fixed kind m interface h = by m.is_method m.is_static (is_interface_kind kind) interface h
  where
    by : (method s t : Bool) → t ≡ true → (method || s) ≡ true
        → is_static (acc_public + cond s acc_static 0 + cond (method && t) acc_abstract 0) ≡ false
        → (has acc_abstract (acc_public + cond s acc_static 0 + cond (method && t) acc_abstract 0) ≡ true)
        × (has acc_private (acc_public + cond s acc_static 0 + cond (method && t) acc_abstract 0) ≡ false)
    by true false true e h k = (refl, refl)
    by true true true e h k = absurd cc
    by false true true e h k = absurd cc
    by false false true e h k = absurd cc
    by method s false e h k = absurd cc

-- ---- of whole classes

module _ (P : MemberRow → Type 0) (c : Class) where
  rows_all : AllByRecursion (λ f. P (field_row f)) c.fields → AllByRecursion (λ m. P (method_row m)) c.methods
      → AllByRecursion P (map field_row c.fields ++ map method_row c.methods)
  rows_all fields methods = all_append P (map field_row c.fields) (map method_row c.methods)
      (all_mapped P field_row c.fields fields) (all_mapped P method_row c.methods methods)

all_listed : {X : Type 0} (p : X → Bool) (xs : List X) → list_all p xs ≡ true → AllByRecursion (λ x. p x ≡ true) xs
all_listed p [] h = tt
all_listed p (x ∷ xs) h = let parts = and_parts (p x) (list_all p xs) h in (parts.0, all_listed p xs parts.1)

module _ (classes : List Class) (formed : (n : ℕ) (c : Class) → slice_get classes n ≡ Some c → IsWellFormed c) where
  -- each member has one access
  pub access_rows : (x : ClassId) → AllByRecursion HasOneAccess (rows_in classes x)
  access_rows (Prog n) = by (slice_get classes n) refl
    where
      by : (o : Option Class) → slice_get classes n ≡ o
          → AllByRecursion HasOneAccess (option_map_or (λ c. map field_row c.fields ++ map method_row c.methods) o [])
      by None is = tt
      by (Some c) is =
          let well = formed n c is in
          let kind = is_interface c.flags.0 in
          rows_all HasOneAccess c
          (all_from (λ f. HasOneAccess (field_row f)) c.fields
          (λ k f at. field_access kind f (all_at (IsGoodField kind) c.fields k f well.fields at)))
          (all_from (λ m. HasOneAccess (method_row m)) c.methods
          (λ k m at. (method_parts kind m (all_at (IsGoodMethod kind) c.methods k m well.methods at)).0))
  access_rows (Lib id) = all_mapped HasOneAccess (library_row (table.class_at id).kind) (table.class_at id).members
      (all_from (λ m. HasOneAccess (library_row (table.class_at id).kind m)) (table.class_at id).members
      (λ k m at. library_access (table.class_at id).kind m))

  module _ (right : BreaksNoRule classes) where
    bodies : (n : ℕ) (c : Class) (k : ℕ) (m : Method) → slice_get classes n ≡ Some c → slice_get c.methods k ≡ Some m
        → body_kinds c m ≡ []
    bodies n c k m is at =
        let place : MemberAt = record { class = Prog n; index = length c.fields + k } in
        let head = declaration_kinds classes n c (length c.fields + k) m in
        let one = nil_parts (head ++ body_kinds c m ++ overriding_kinds classes n place)
        (option_map_or (code_kinds classes n m.name) m.code []) (right.method n c k m is at) in
        let two = nil_parts (head ++ body_kinds c m) (overriding_kinds classes n place) one.0 in
        (nil_parts head (body_kinds c m) two.0).1

    body_of : (b a s : Bool) → b ≡ true → unless (not b || a || s) LeftOutMember ≡ [] → (a || s) ≡ true
    body_of true true s e h = refl
    body_of true false true e h = refl
    body_of true false false e h = absurd cc
    body_of false a s e h = absurd cc

    -- of an interface what isn't static is abstract
    pub fixed_rows : (x : ClassId) → is_interface_in classes x ≡ true → AllByRecursion IsFixed (rows_in classes x)
    fixed_rows (Prog n) interface = by (slice_get classes n) refl
      where
        by : (o : Option Class) → slice_get classes n ≡ o
            → AllByRecursion IsFixed (option_map_or (λ c. map field_row c.fields ++ map method_row c.methods) o [])
        by None is = tt
        by (Some c) is =
            let well = formed n c is in
            let flag = interface_flag c
            (sym (ap (λ (o : Option Class). is_interface_kind (option_map_or kind_of o Open)) is) ∙ interface) in
            rows_all IsFixed c
            (all_from (λ f. IsFixed (field_row f)) c.fields
            (λ k f at. field_fixed f (subst (λ b. IsGoodField b f) flag
            (all_at (IsGoodField (is_interface c.flags.0)) c.fields k f well.fields at))))
            (all_from (λ m. IsFixed (method_row m)) c.methods
            (λ k m at. method_fixed m (subst (λ b. IsGoodMethod b m) flag
            (all_at (IsGoodMethod (is_interface c.flags.0)) c.methods k m well.methods at))
            (body_of (is_interface c.flags.0) (has acc_abstract m.flags.0) (is_text m.name (codes "<clinit>")) flag
            (bodies n c k m is at))))
    fixed_rows (Lib id) interface =
        let listed = all_listed (λ (m : LibraryMember). m.is_method || m.is_static) (table.class_at id).members
        (interface_members id interface) in
        all_mapped IsFixed (library_row (table.class_at id).kind) (table.class_at id).members
        (all_from (λ m. IsFixed (library_row (table.class_at id).kind m)) (table.class_at id).members
        (λ k m at. library_fixed (table.class_at id).kind m interface
        (all_at (λ (m : LibraryMember). (m.is_method || m.is_static) ≡ true)
        (table.class_at id).members k m listed at)))
