-- References that were renamed before (only the proof of renaming needs it).
use Rattle.std.specs.Prelude.{◌≡◌, ◌&&◌, ℕ, nat_eq, Bool, true, false, List}
use Rattle.std.specs.Cmp.{unsigned_Decides}
use Rattle.std.proofs.Common.{refl}
use Rattle.std.specs.Bool.{beq}
use Rattle.std.specs.List.{AllByRecursion}
use Rattle.std.proofs.lemmas.Bool.{and_parts}
use Rattle.jv_base.specs.Names.{is_text}
use Rattle.jv_base.proofs.Equality.{same_text}
use Rattle.key_table.specs.Marks.{joined, text_mark}
use Rattle.jv_base.specs.declared.types.Base.TheVariants.{Class}
use Rattle.class_model.specs.declared.op.MemberRef.{MemberRef}
use Rattle.class_rename.specs.declared.references.Reference.{Reference}

-- the reference that is found again so
abbrev pub ref_of : Reference → MemberRef
ref_of k = record {
  class = record { dims = k.dims; base = Class k.class };
  name = k.name;
  ty = k.ty;
  of_interface = k.of_interface;
}

-- two are one
abbrev pub same_reference : Reference → Reference → Bool
same_reference a b = is_text a.class b.class && (nat_eq a.dims b.dims && (is_text a.name b.name
    && (is_text a.ty b.ty && beq a.of_interface b.of_interface)))

-- the number of a reference, by which most are told apart at little cost
abbrev pub mark_of : Reference → ℕ
mark_of k = joined (text_mark k.class) (joined (text_mark k.name) (text_mark k.ty))

-- a reference whose parts are those of another is that one
pub same_parts : {a b : Reference} → (a.class ≡ b.class) × ((a.dims ≡ b.dims)
    × ((a.name ≡ b.name) × ((a.ty ≡ b.ty) × (a.of_interface ≡ b.of_interface)))) → a ≡ b
same_parts p = λ i. record {
  class = p.0 i;
  dims = p.1.0 i;
  name = p.1.1.0 i;
  ty = p.1.1.1.0 i;
  of_interface = p.1.1.1.1 i;
}

same_bools : (a b : Bool) → beq a b ≡ true → a ≡ b
same_bools true true e = refl
same_bools true false e = absurd cc
same_bools false true e = absurd cc
same_bools false false e = refl

-- two that are one are the same
pub same_references : (a b : Reference) → same_reference a b ≡ true → a ≡ b
same_references a b same =
    let class = and_parts (is_text a.class b.class) _ same in
    let dims = and_parts (nat_eq a.dims b.dims) _ class.1 in
    let name = and_parts (is_text a.name b.name) _ dims.1 in
    let ty = and_parts (is_text a.ty b.ty) _ name.1 in
    same_parts (
      same_text a.class b.class class.0,
      (
        (unsigned_Decides a.dims b.dims).0 dims.0,
        (
          same_text a.name b.name name.0,
          (same_text a.ty b.ty ty.0, same_bools a.of_interface b.of_interface ty.1),
        ),
      ),
    )

-- each reference of a table stands with what becomes of it
pub record AreRenamed (becomes : MemberRef → MemberRef) (table : List (Reference × MemberRef)) : Type 0 where
  pub each : AllByRecursion (λ (e : Reference × MemberRef). e.1 ≡ becomes (ref_of e.0)) table
