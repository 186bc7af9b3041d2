-- What names and references mean in a set, as it is kept (only the proof of SetProgram needs it).
use Rattle.std.specs.Prelude.{◌≡◌, ℕ, List, Some}
use Rattle.class_model.specs.declared.class.Class.{Class}
use Rattle.class_model.specs.declared.op.MemberRef.{MemberRef}
use Rattle.class_pool.specs.Found.{IsMember}
use Rattle.class_pool.specs.Hierarchy.{IsClass, class_named}
use Rattle.jvm_model.specs.Instructions.{with_receiver}
use Rattle.jvm_model.specs.Types.{argument_kinds}
use Rattle.jvm_model.specs.Value.{Key}
use Rattle.run_heap.specs.Targets.{IsTarget}
use Rattle.set_program.specs.bodies.Rows.{AllHold}
use Rattle.set_program.specs.declared.links.CallRow.{CallRow}
use Rattle.set_program.specs.declared.links.ClassRow.{ClassRow}
use Rattle.set_program.specs.declared.links.CodeRow.{CodeRow}
use Rattle.set_program.specs.declared.links.FieldRow.{FieldRow}
use Rattle.set_program.specs.declared.links.KindsRow.{KindsRow}
use Rattle.set_program.specs.declared.links.Links.{Links}
use Rattle.set_program.specs.declared.links.StaticRow.{StaticRow}
use Rattle.set_view.specs.ViewOf.{member_of, shape_of}

-- the row is that of a class with this name
abbrev pub IsClassFor : List ℕ → ClassRow → Type 0
IsClassFor name row = row.name ≡ name

-- that of a reference to a field
abbrev pub IsFieldFor : MemberRef → FieldRow → Type 0
IsFieldFor r row = row.reference ≡ r

-- that of a reference of invokestatic
abbrev pub IsStaticFor : MemberRef → StaticRow → Type 0
IsStaticFor r row = row.reference ≡ r

-- that of a class and a reference
abbrev pub IsCallFor : List ℕ → MemberRef → CallRow → Type 0
IsCallFor class r row = (row.reference ≡ r) × (row.class ≡ class)

-- that of a descriptor
abbrev pub IsKindsFor : List ℕ → KindsRow → Type 0
IsKindsFor descriptor row = row.descriptor ≡ descriptor

-- the descriptor tells these
abbrev pub IsKindsRow : KindsRow → Type 0
IsKindsRow row = (row.arguments ≡ argument_kinds row.descriptor)
    × (row.operands ≡ with_receiver (argument_kinds row.descriptor))

-- that of a method
abbrev pub IsCodeFor : Key → CodeRow → Type 0
IsCodeFor key row = row.key ≡ key

module _ (classes : List Class) where
  -- the class has this name
  abbrev pub IsClassRow : ClassRow → Type 0
  IsClassRow row = (Some row.id ≡ class_named classes row.name) × IsClass classes row.id

  -- the reference means this field
  abbrev pub IsFieldRow : FieldRow → Type 0
  IsFieldRow row = row.key ≡ (shape_of classes).field row.reference

  -- invokestatic runs this
  abbrev pub IsStaticRow : StaticRow → Type 0
  IsStaticRow row = IsTarget row.target ((shape_of classes).static_target row.reference)

  -- invokespecial runs this
  abbrev pub IsSpecialRow : CallRow → Type 0
  IsSpecialRow row = IsTarget row.target ((shape_of classes).special_target row.class row.reference)

  -- invokevirtual and invokeinterface run this
  abbrev pub IsSelectedRow : CallRow → Type 0
  IsSelectedRow row = IsTarget row.target ((shape_of classes).selected_target row.class row.reference)

  -- the method stands there
  abbrev pub IsCodeRow : CodeRow → Type 0
  IsCodeRow row = (Some row.member ≡ member_of classes row.key) × IsMember classes row.member

  -- all of this
  abbrev pub AreLinks : Links → Type 0
  AreLinks links =
      AllHold IsClassRow links.classes.items × AllHold IsFieldRow links.fields.items
      × AllHold IsStaticRow links.statics.items × AllHold IsSpecialRow links.specials.items
      × AllHold IsSelectedRow links.selections.items × AllHold IsCodeRow links.codes.items
      × AllHold IsKindsRow links.kinds.items
