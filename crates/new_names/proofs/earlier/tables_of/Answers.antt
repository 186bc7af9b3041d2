-- Answers of `tables_of`: what its calls ask for, and what it promises.
use Rattle.std.proofs.Common.{refl, subst, sym, ◌∙◌}
use Rattle.class_rename.specs.Names.{Tables}
use Rattle.mapping_file.specs.declared.mapping.Mapping.{Mapping}
use Rattle.new_names.specs.NewNames.{AreAlike, tables_of}
use Rattle.std.specs.Prelude.{None, Option}
use Rattle.new_names.proofs.earlier.tables_of.Goals as goal

pub returns-in-None : goal.returns-in-None
returns-in-None c =
    subst (λ (o : Option Mapping). AreAlike c.new-in-None-3.result (tables_of o)) (sym c.in-None.is)
    (subst (λ (t : Tables). AreAlike t (tables_of None))
    (sym (c.new-in-None-3.ensures ∙ (λ i. record {
      classes = c.new.ensures i;
      fields = c.new-in-None.ensures i;
      methods = c.new-in-None-2.ensures i;
    })))
    (record { classes = λ a. refl; fields = λ a. refl; methods = λ m. refl }))
