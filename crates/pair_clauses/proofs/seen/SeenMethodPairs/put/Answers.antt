-- Answers of `SeenMethodPairs::put`: what its calls ask for, and what it promises.
use Rattle.std.proofs.Common.{rules, ◌≡◌, ◌∙◌, ℕ, List, map, refl, ap}
use Rattle.std.proofs.lemmas.Bool.{or_parts}
use Rattle.std.proofs.lemmas.Result.{on_ok_weaker}
use Rattle.std.specs.Map.{lookup}
use Rattle.indexmap.specs.IndexMap.{insert_entry}
use Rattle.new_names.specs.NewNames.{NameAndType, is_same}
use Rattle.new_names.proofs.Inserted.{lookup_inserted, put_found, same_Decides}
use Rattle.pair_clauses.specs.Shape.{is_other}
use Rattle.pair_clauses.proofs.SeenLaw.{put_there, swapped_more}
use Rattle.pair_clauses.proofs.seen.SeenMethodPairs.put.Goals as goal

pub returns : goal.returns
returns c = λ pairs tells none.
    let grown : c.insert.new.self ≡ insert_entry is_same c.args.self.now.by_old c.in_ok-copied.field-0
    c.in_ok-copied-2.field-0 = search rules in
    let old = c.args.old.now in
    let new = c.args.new.now in
    let swapped = map (λ (p : NameAndType × NameAndType). (p.1, p.0)) pairs in
    let both = or_parts (is_other is_same (lookup (λ k. is_same k old) pairs) new)
    (is_other is_same (lookup (λ k. is_same k new) swapped) old) none in
    let found = put_found is_same same_Decides c.insert-2.result c.args.self.now.by_new c.insert-2.new.self
    c.in_ok-copied-3.field-0 c.in_ok-copied-3.field-0 c.in_ok-copied-4.field-0 c.in_ok-copied-4.field-0
    c.insert-2.ensures refl refl in
    on_ok_weaker c.insert-2.result (λ each. record {
      by_old = λ name. put_there is_same same_Decides pairs old new c.in_ok-copied.field-0 c.in_ok-copied-2.field-0
          (lookup (is_same name) c.args.self.now.by_old) (lookup (is_same name) c.insert.new.self) name
          both.0 c.in_ok-copied.ensures c.in_ok-copied-2.ensures
          (ap (lookup (is_same name)) grown
          ∙ lookup_inserted is_same same_Decides c.args.self.now.by_old c.in_ok-copied.field-0 c.in_ok-copied-2.field-0
          name)
          (tells.by_old name);
      by_new = λ name. put_there is_same same_Decides swapped new old c.in_ok-copied-3.field-0 c.in_ok-copied-4.field-0
          (lookup (is_same name) c.args.self.now.by_new) (lookup (is_same name) c.insert-2.new.self) name
          both.1 c.in_ok-copied-3.ensures c.in_ok-copied-4.ensures (each name)
          (tells.by_new name)
          ∙ swapped_more is_same pairs old new name;
    }) found
