-- Answers of `names_given`: what its calls ask for, and what it promises.
use Rattle.std.proofs.Common.{◌≡◌, Option, map, subst}
use Rattle.std.specs.Prelude.{IfOk}
use Rattle.std.specs.Option.{option_and_then, option_map}
use Rattle.class_model.specs.declared.class.Field.{Field}
use Rattle.class_model.specs.declared.class.Method.{Method}
use Rattle.mapping_file.specs.declared.mapping.MapClass.{MapClass}
use Rattle.new_names.specs.NewNames.{field_in, method_in}
use Rattle.new_names.specs.declared.class_names.ClassNames.{ClassNames}
use Rattle.new_names.proofs.class_names.names_given.Goals as goal

pub returns-in-None : goal.returns-in-None
returns-in-None c = subst
    (λ (line : Option MapClass). IfOk c.no_names.result (λ (given : ClassNames). given ≡ record {
      class = option_map (λ (l : MapClass). l.new) line;
      fields = map (λ (f : Field). option_and_then (λ (l : MapClass). field_in l f) line) c.args.class.now.fields;
      methods = map (λ (m : Method). option_and_then (λ (l : MapClass). method_in l m) line) c.args.class.now.methods;
    }))
    c.in-None.ensures c.no_names.ensures
