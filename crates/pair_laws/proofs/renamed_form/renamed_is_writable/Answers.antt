-- Answers of `renamed_is_writable`: what its calls ask for, and what it promises.
use Rattle.pair_laws.proofs.RenamedForm.Formed.{counts_fit, formed}
use Rattle.pair_laws.proofs.RenamedForm.Valued.{class_valued}
use Rattle.pair_laws.proofs.renamed_form.renamed_is_writable.Goals as goal

pub returns : goal.returns
returns c = λ names k form apart w. record {
  well_formed = formed names form k apart w.well_formed;
  counts = counts_fit names form k w.well_formed w.counts;
  value = class_valued names form k w.well_formed w.value;
}
