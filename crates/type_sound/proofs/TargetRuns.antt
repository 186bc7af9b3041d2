-- A method that was found or selected runs: it has a code, or a row of the library, or an exception is due (JVMS 6.5).
use Rattle.std.proofs.Common.{[], ◌≡◌, ◌&&◌, ◌+◌, ℕ, Bool, true, false, cond, List, Some, None, Ok}
use Rattle.std.proofs.Common.{refl, sym, ap, ◌∙◌}
use Rattle.std.specs.Option.{option_map, option_map_or}
use Rattle.jv_base.specs.Descriptors.{read_method}
use Rattle.jv_base.specs.declared.types.FieldType.{FieldType}
use Rattle.jv_base.specs.declared.types.MethodType.{MethodType}
use Rattle.class_model.specs.Flags.{acc_abstract, acc_public, acc_static, has, is_init}
use Rattle.class_model.specs.declared.class.Class.{Class}
use Rattle.lib_table.specs.Library.{LibraryMember}
use Rattle.lib_table.specs.Lookups as table
use Rattle.lib_table.specs.declared.class.LibKind.{LibKind}
use Rattle.lib_table.specs.declared.member.Role.TheVariants.{Callable}
use Rattle.lib_table.proofs.Classes.{class_below}
use Rattle.class_pool.specs.Found.{MemberRow, NameAndType, is_abstract_member}
use Rattle.class_pool.specs.Found.{is_method_at, is_static_member, library_row, name_of, named_at, role_at, row_at}
use Rattle.class_pool.specs.Hierarchy.{class_named, is_interface_kind}
use Rattle.class_pool.specs.Resolution.{is_class_below}
use Rattle.class_pool.specs.declared.id.ClassId.{ClassId}
use Rattle.class_pool.specs.declared.id.ClassId.TheVariants.{Prog, Lib}
use Rattle.class_pool.specs.declared.id.MemberAt.{MemberAt}
use Rattle.class_pool.proofs.Declaring.{declared_named}
use Rattle.link_check.specs.Links.{is_callable_role}
use Rattle.jvm_model.specs.Exceptions.{AbstractMethod}
use Rattle.jvm_model.specs.Library.{Row}
use Rattle.jvm_model.specs.LibraryRows.{row_of}
use Rattle.jvm_model.specs.Program.{Fails, Library, Program, Target}
use Rattle.set_view.specs.ViewOf.{key_at, target_at, target_in}
use Rattle.type_verifier.specs.Assignable.{class_type}
use Rattle.type_verifier.specs.Verified.{AreTyped}
use Rattle.fit_laws.specs.Held.{is_held}
use Rattle.fit_laws.specs.Meaning.{RunsOn, RunsStatic}
use Rattle.image_laws.specs.TakenSet.TakenSet.{IsTaken}
use Rattle.image_laws.proofs.TakenSet.Names.{class_found}
use Rattle.image_laws.proofs.ViewImage.Naming.{found_library}
use Rattle.image_laws.proofs.ViewImage.Standing.{Stands, class_there}
use Rattle.type_sound.proofs.Chains.{below_itself}
use Rattle.type_sound.proofs.Members.{is_method, member_there, method_of, program_method, text_begins}
use Rattle.type_sound.proofs.RowTable.{HasRow, InTable, Receiver, in_table, instance_row, member_row, row_is}
use Rattle.type_sound.proofs.RowTable.{static_row, table_row}

-- whether a member of the library is static stands in its flags
pub static_flag : (kind : LibKind) (m : LibraryMember)
    → has acc_static (library_row kind m).flags ≡ m.is_static
static_flag kind m = by m.is_static (m.is_method && is_interface_kind kind) where
  by : (a b : Bool) → has acc_static (acc_public + cond a acc_static 0 + cond b acc_abstract 0) ≡ a
  by true true = refl
  by true false = refl
  by false true = refl
  by false false = refl

module _ (classes : List Class) (t : IsTaken classes) (typed : AreTyped classes) where
  -- what a method stands for: its name and type, and whether it is static
  pub record IsFound (n : NameAndType) (ty : MethodType) (static : Bool) (m : MemberAt) : Type 0 where
    pub stands : Stands classes n m
    pub read : read_method n.1 ≡ Ok ty
    pub static_is : is_static_member classes m ≡ static
    pub lib_class : (id : ℕ) → m.class ≡ Lib id → is_interface_kind (table.class_at id).kind ≡ false
    pub callable : is_callable_role (role_at m) ≡ true

  -- ---- one of the library

  abbrev lib : ℕ → ℕ → MemberAt
  lib id k = record { class = Lib id; index = k }

  -- its row, and what is known of it
  pub record LibFound (n : NameAndType) (ty : MethodType) (static : Bool) (id k : ℕ) : Type 0 where
    pub entry : InTable id k
    pub static_is : entry.member.is_static ≡ static
    pub named : n ≡ (entry.member.name, entry.member.descriptor)
    pub row : HasRow classes id entry.member
    pub target : target_in (Lib id) (key_at classes (lib id k)) ≡ Some (Library row.row)

  pub lib_found : (n : NameAndType) (ty : MethodType) (static : Bool) (id k : ℕ) → IsFound n ty static (lib id k)
      → LibFound n ty static id k
  lib_found n ty static id k f = record {
    entry = e;
    static_is = sym (static_flag (table.class_at id).kind e.member)
        ∙ sym (ap (λ o. option_map_or (λ (r : MemberRow). has acc_static r.flags) o false) row_is_there) ∙ f.static_is;
    named = sym named ∙ is_named;
    row = r;
    target = ap (λ (x : NameAndType).
        option_map Library (row_of (record { class = (table.class_at id).name; name = x.0; descriptor = x.1 })))
        is_named
        ∙ ap (option_map Library) r.found;
  } where
    method : is_method_at classes (lib id k) ≡ true
    method = is_method classes t n (lib id k) f.stands (text_begins n.1 ty f.read)

    e : InTable id k
    e = in_table classes id k method

    row_is_there : row_at classes (lib id k) ≡ Some (library_row (table.class_at id).kind e.member)
    row_is_there = table_row classes id k e

    is_named : named_at classes (lib id k) ≡ (e.member.name, e.member.descriptor)
    is_named = ap (λ o. option_map_or (λ (r : MemberRow). r.named) o ([], [])) row_is_there

    named : named_at classes (lib id k) ≡ n
    named = declared_named classes n (Lib id) (lib id k) f.stands

    r : HasRow classes id e.member
    r = member_row classes id k e
        (sym (ap (λ o. option_map_or (λ (r : MemberRow). r.is_method) o false) row_is_there) ∙ method)
        (sym (ap (λ o. is_callable_role (option_map_or (λ (m : LibraryMember). m.role) o Callable)) e.there)
        ∙ f.callable)
        (f.lib_class id refl)

  -- ---- what the target is

  target_is : (m : MemberAt) → is_abstract_member classes m ≡ false
      → target_at classes m ≡ target_in m.class (key_at classes m)
  target_is m h = ap (λ b. cond b (Some (Fails AbstractMethod)) (target_in m.class (key_at classes m))) h

  target_fails : (m : MemberAt) → is_abstract_member classes m ≡ true
      → target_at classes m ≡ Some (Fails AbstractMethod)
  target_fails m h = ap (λ b. cond b (Some (Fails AbstractMethod)) (target_in m.class (key_at classes m))) h

  pub text_is : (n : NameAndType) (m : MemberAt) → Stands classes n m → (named_at classes m).1 ≡ n.1
  text_is n m s = ap (λ (x : NameAndType). x.1) (declared_named classes n m.class m s)

  name_is : (n : NameAndType) (m : MemberAt) → Stands classes n m → (named_at classes m).0 ≡ n.0
  name_is n m s = ap (λ (x : NameAndType). x.0) (declared_named classes n m.class m s)

  abbrev Answers : (Target → Type 0) → MemberAt → Type 0
  Answers P m = (x : Target) × (target_at classes m ≡ Some x) × P x

  -- a method that is known to run, by whether it is abstract
  pub runs : (P : Target → Type 0) → P (Fails AbstractMethod) → (m : MemberAt)
      → (is_abstract_member classes m ≡ false → (x : Target) × (target_in m.class (key_at classes m) ≡ Some x) × P x)
      → Answers P m
  runs P f m g = by (is_abstract_member classes m) refl where
    by : (b : Bool) → is_abstract_member classes m ≡ b → Answers P m
    by true e = (Fails AbstractMethod, target_fails m e, f)
    by false e = let r = g e in (r.0, target_is m e ∙ r.1, r.2)

  -- ---- static methods

  pub static_runs : (n : NameAndType) (ty : MethodType) (m : MemberAt) → IsFound n ty true m
      → Answers (RunsStatic classes ty) m
  static_runs n ty m f = runs (RunsStatic classes ty) tt m (λ a. by m.class m.index f a) where
    by : (c : ClassId) (k : ℕ) → (let z : MemberAt = record { class = c; index = k } in IsFound n ty true z)
        → (let z : MemberAt = record { class = c; index = k } in is_abstract_member classes z ≡ false)
        → (x : Target)
        × (target_in c (key_at classes (record { class = c; index = k })) ≡ Some x) × RunsStatic classes ty x
    by (Prog own) k f a =
        let z : MemberAt = record { class = Prog own; index = k } in
        let p = program_method classes t own z refl (is_method classes t n z f.stands (text_begins n.1 ty f.read)) in (
          Program (key_at classes z),
          refl,
          method_of classes t typed z p (member_there classes t n z f.stands) a ty n.1
              (text_is n z f.stands) f.read true f.static_is,
        )
    by (Lib id) k f a =
        let l = lib_found n ty true id k f in (
          Library l.row.row,
          l.target,
          row_is classes id l.entry.member l.row ty
              (ap (λ (x : NameAndType). read_method x.1) (sym l.named) ∙ f.read) None
              (static_row classes id l.entry.member l.row l.static_is),
        )

  -- ---- instance methods

  -- the class of a receiver's row is above that of the member
  pub receiver_named : (id : ℕ) (row : Row) (r : Receiver classes id row)
      → class_named classes r.class ≡ Some (Lib r.number)
  receiver_named id row r = ap (class_named classes) (sym (found_library r.class r.number r.named))
      ∙ class_found classes t (Lib r.number) (class_below r.class r.number r.named)

  pub on_runs : (n : NameAndType) (ty : MethodType) (m : MemberAt) → IsFound n ty false m → is_init n.0 ≡ false
      → (from : FieldType)
      → ((c : List ℕ) (y : ClassId) → class_named classes c ≡ Some y → is_class_below classes m.class y ≡ true
      → is_held classes from (class_type c) ≡ true)
      → Answers (RunsOn classes from ty) m
  on_runs n ty m f init from held = runs (RunsOn classes from ty) tt m (λ a. by m.class m.index f held a) where
    by : (c : ClassId) (k : ℕ) → (let z : MemberAt = record { class = c; index = k } in IsFound n ty false z)
        → ((d : List ℕ) (y : ClassId) → class_named classes d ≡ Some y → is_class_below classes c y ≡ true
        → is_held classes from (class_type d) ≡ true)
        → (let z : MemberAt = record { class = c; index = k } in is_abstract_member classes z ≡ false)
        → (x : Target)
        × (target_in c (key_at classes (record { class = c; index = k })) ≡ Some x) × RunsOn classes from ty x
    by (Prog own) k f held a =
        let z : MemberAt = record { class = Prog own; index = k } in
        let p = program_method classes t own z refl (is_method classes t n z f.stands (text_begins n.1 ty f.read)) in (
          Program (key_at classes z),
          refl,
          (
            method_of classes t typed z p (member_there classes t n z f.stands) a ty n.1 (text_is n z f.stands) f.read
                false f.static_is,
            ap is_init (name_is n z f.stands) ∙ init,
            held (name_of classes (Prog own)) (Prog own)
                (class_found classes t (Prog own) (class_there classes n (Prog own) z f.stands))
                (below_itself classes t (Prog own)),
          ),
        )
    by (Lib id) k f held a =
        let l = lib_found n ty false id k f in
        let r = instance_row classes id l.entry.member l.row l.static_is in (
          Library l.row.row,
          l.target,
          (
            r.class,
            row_is classes id l.entry.member l.row ty (ap (λ (x : NameAndType). read_method x.1) (sym l.named) ∙ f.read)
                (Some r.class) r.is,
            held r.class (Lib r.number) (receiver_named id l.row.row r) r.below,
          ),
        )
