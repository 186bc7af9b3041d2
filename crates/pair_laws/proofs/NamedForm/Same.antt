-- A class under its own names can be written as before.
use Rattle.std.proofs.Common.{◌≡◌, true, refl}
use Rattle.std.proofs.Common.{Bool, List, ℕ}
use Rattle.std.specs.List.{AllByRecursion}
use Rattle.removal_laws.proofs.FilteredSet.Typing.{each, if_some}
use Rattle.jv_base.specs.declared.types.FieldType.{FieldType}
use Rattle.jv_base.specs.Types.{method_text}
use Rattle.class_model.specs.declared.class.Class.{Class}
use Rattle.class_model.specs.declared.class.Field.{Field}
use Rattle.class_model.specs.declared.class.Method.{Method}
use Rattle.class_rename.specs.Names.{same_names}
use Rattle.class_rename.specs.Renamed.{renamed}
use Rattle.class_laws.specs.SpellingLaws.{IsWritable}
use Rattle.pair_laws.specs.RenamedForm.Form.{IsKnownMethodType, IsKnownType, KeepsForm, TellsApart}
use Rattle.pair_laws.proofs.RenamedForm.Apart.{kept_apart}
use Rattle.pair_laws.proofs.RenamedForm.Formed.{counts_fit, formed}
use Rattle.pair_laws.proofs.RenamedForm.Valued.{class_valued}

all : List ℕ → Bool
all name = true

pub same_form : KeepsForm same_names
same_form = record {
  class_text = λ a h. h;
  class_name = λ a h. h;
  field_name = λ a h. h;
  method_name = λ a d h. h;
  init = λ a d. refl;
  clinit = λ a d. refl;
  string = refl;
}

type_known : (ty : FieldType) → IsKnownType all ty
unfolding all
type_known ty name is = refl

told_apart : (c : Class) → TellsApart same_names all c
told_apart c = record {
  class = λ a b h k same. same;
  types = record {
    fields = each (λ (f : Field). IsKnownType all f.ty) (λ f. type_known f.ty) c.fields;
    methods = each (λ (m : Method). IsKnownMethodType all m.ty)
        (λ m. record {
          arguments = each (IsKnownType all) type_known m.ty.args;
          returned = if_some (IsKnownType all) type_known m.ty.ret;
        }) c.methods;
  };
  fields = each (λ (one : Field). AllByRecursion
      (λ (other : Field). same_names.field one.name ≡ same_names.field other.name → one.name ≡ other.name) c.fields)
      (λ one. each
      (λ (other : Field). same_names.field one.name ≡ same_names.field other.name → one.name ≡ other.name)
      (λ other same. same) c.fields)
      c.fields;
  methods = each (λ (one : Method). AllByRecursion
      (λ (other : Method). method_text one.ty ≡ method_text other.ty
      → same_names.method one.name (method_text one.ty) ≡ same_names.method other.name (method_text other.ty)
      → one.name ≡ other.name) c.methods)
      (λ one. each
      (λ (other : Method). method_text one.ty ≡ method_text other.ty
      → same_names.method one.name (method_text one.ty) ≡ same_names.method other.name (method_text other.ty)
      → one.name ≡ other.name)
      (λ other text same. same) c.methods)
      c.methods;
}

pub same_writable : (c : Class) → IsWritable c → IsWritable (renamed same_names c)
same_writable c w =
    let apart = kept_apart same_names same_form all c w.well_formed (told_apart c) in
    record {
      well_formed = formed same_names same_form c apart w.well_formed;
      counts = counts_fit same_names same_form c w.well_formed w.counts;
      value = class_valued same_names same_form c w.well_formed w.value;
    }
