-- Answers of `given_names_differ`: what its calls ask for, and what it promises.
use Rattle.fresh_names.proofs.Tables.{classes_differ, classes_stay, fields_differ, fields_stay, methods_differ}
use Rattle.fresh_names.proofs.Tables.{methods_stay, packages_stay}
use Rattle.fresh_names.proofs.laws.given_names_differ.Goals as goal

pub returns : goal.returns
returns c = record {
  classes = classes_differ;
  fields = fields_differ;
  methods = methods_differ;
  packages = packages_stay;
  classes_stay = classes_stay;
  fields_stay = fields_stay;
  methods_stay = methods_stay;
}
