-- Answers of `SeenPairs::put`: what its calls ask for, and what it promises.
use Rattle.std.proofs.Common.{rules, ◌≡◌, ◌∙◌, ℕ, List, map, refl, ap}
use Rattle.std.proofs.lemmas.Bool.{or_parts}
use Rattle.std.proofs.lemmas.Result.{on_ok_weaker}
use Rattle.std.specs.Map.{lookup}
use Rattle.indexmap.specs.IndexMap.{insert_entry}
use Rattle.jv_base.specs.Names.{is_text}
use Rattle.jv_base.proofs.Equality.{text_Decides}
use Rattle.new_names.proofs.Inserted.{lookup_inserted, put_found}
use Rattle.pair_clauses.specs.Shape.{is_other}
use Rattle.pair_clauses.proofs.SeenLaw.{put_there, swapped_more}
use Rattle.pair_clauses.proofs.seen.SeenPairs.put.Goals as goal

pub returns : goal.returns
returns c = λ pairs tells none.
    let grown : c.insert.new.self ≡ insert_entry is_text c.args.self.now.by_old c.in_ok-clone.field-0
    c.in_ok-clone-2.field-0 = search rules in
    let old = c.args.old.now in
    let new = c.args.new.now in
    let swapped = map (λ (p : List ℕ × List ℕ). (p.1, p.0)) pairs in
    let both = or_parts (is_other is_text (lookup (λ k. is_text k old) pairs) new)
    (is_other is_text (lookup (λ k. is_text k new) swapped) old) none in
    let found = put_found is_text text_Decides c.insert-2.result c.args.self.now.by_new c.insert-2.new.self
    c.in_ok-clone-3.field-0 c.in_ok-clone-3.field-0 c.in_ok-clone-4.field-0 c.in_ok-clone-4.field-0
    c.insert-2.ensures refl refl in
    on_ok_weaker c.insert-2.result (λ each. record {
      by_old = λ name. put_there is_text text_Decides pairs old new c.in_ok-clone.field-0 c.in_ok-clone-2.field-0
          (lookup (is_text name) c.args.self.now.by_old) (lookup (is_text name) c.insert.new.self) name
          both.0 c.in_ok-clone.ensures.cases c.in_ok-clone-2.ensures.cases
          (ap (lookup (is_text name)) grown
          ∙ lookup_inserted is_text text_Decides c.args.self.now.by_old c.in_ok-clone.field-0 c.in_ok-clone-2.field-0
          name)
          (tells.by_old name);
      by_new = λ name. put_there is_text text_Decides swapped new old c.in_ok-clone-3.field-0 c.in_ok-clone-4.field-0
          (lookup (is_text name) c.args.self.now.by_new) (lookup (is_text name) c.insert-2.new.self) name
          both.1 c.in_ok-clone-3.ensures.cases c.in_ok-clone-4.ensures.cases (each name)
          (tells.by_new name)
          ∙ swapped_more is_text pairs old new name;
    }) found
