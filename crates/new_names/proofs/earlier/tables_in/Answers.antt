-- Answers of `tables_in`: what its calls ask for, and what it promises.
use Rattle.std.proofs.Common.{List, subst, sym}
use Rattle.class_rename.specs.Names.{Tables}
use Rattle.mapping_file.specs.declared.mapping.MapClass.{MapClass}
use Rattle.new_names.specs.NewNames.{AreAlike, all_field_names, all_method_names, class_names, tables_of}
use Rattle.new_names.specs.bodies.Tables.{TellsMembers, TellsNames}
use Rattle.std.specs.Prelude.{Some}
use Rattle.new_names.proofs.Alike.{tables_alike}
use Rattle.new_names.proofs.earlier.tables_in.Goals as goal

pub returns : goal.returns
returns c =
    let whole = c.as_slice-lines.ensures in
    subst (λ (t : Tables). AreAlike t (tables_of (Some c.args.mapping.now))) (sym c.new.ensures)
    (tables_alike (record {
      classes = c.in_ok-classes.classes;
      fields = c.in_ok-fields.fields;
      methods = c.in_ok-methods.methods;
    }) c.args.mapping.now
    (subst (λ (ls : List MapClass). TellsNames c.in_ok-classes.classes (class_names ls)) whole c.in_ok-classes.ensures)
    (subst (λ (ls : List MapClass). TellsNames c.in_ok-fields.fields (all_field_names ls)) whole c.in_ok-fields.ensures)
    (subst (λ (ls : List MapClass). TellsMembers c.in_ok-methods.methods (all_method_names ls)) whole
    c.in_ok-methods.ensures))
