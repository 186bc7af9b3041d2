-- The texts that are written behind the classes, one by one.
use Rattle.std.proofs.Common.{◌≡◌, ◌≤◌, ℕ, Bool, true, false, cond, nat_le, leb-true, List, [], ◌∷◌, ◌++◌, length, map}
use Rattle.std.proofs.Common.{Option, Some, None, Result, Ok, Err, refl, sym, ap, ◌∙◌}
use Rattle.std.specs.List.{cons_option}
use Rattle.std.specs.Option.{option_map}
use Rattle.jv_base.specs.Outcome.{◌>>=◌}
use Rattle.jv_base.proofs.Results.{same_ok, then_ok}
use Rattle.tree_io.specs.declared.file_at.FileAt.{FileAt}
use Rattle.class_model.specs.declared.class.Class.{Class}
use Rattle.keep_rules.specs.Paths.{before_texts, files_of}
use Rattle.keep_rules.specs.declared.rules.Rules.{Rules}
use Rattle.list_texts.specs.declared.limit.TooLong.{TooLong}
use Rattle.mapping_file.specs.Mappings.{mapping_text}
use Rattle.mapping_file.specs.declared.mapping.Mapping.{Mapping}
use Rattle.set_shrink.specs.Lists.{list_due, lists_due, seeds_due, usage_due}
use Rattle.set_shrink.specs.Texts.{mapping_due, texts_due, witness_due}
use Rattle.witness_file.specs.Witnesses.{witness_text}
use Rattle.witness_file.specs.declared.witness.Witness.{Witness}

abbrev too_long : TooLong
too_long = record { limit = 67108864 }

-- a file, if there is one, has a path
abbrev path_if : Option FileAt → Option (List ℕ)
path_if file = option_map (λ (f : FileAt). f.path) file

-- ---- lists

list_by : (short : Bool) (path text : List ℕ) (file : Option FileAt)
    → ((let r : Result (List ℕ) TooLong = cond short (Ok text) (Err too_long) in r)
    >>= (λ (bytes : List ℕ). Ok (Some (record { path = path; bytes = bytes })))) ≡ Ok file
    → path_if file ≡ Some path
list_by false path text file h = absurd cc
list_by true path text file h =
    ap path_if (sym (same_ok (Some (record { path = path; bytes = text })) file h))

list_at : (path : Option (List ℕ)) (text : List ℕ) (file : Option FileAt) → list_due path text ≡ Ok file
    → path_if file ≡ path
list_at None text file h = ap path_if (sym (same_ok None file h))
list_at (Some path) text file h = list_by (nat_le (length text) 67108864) path text file h

paths_so : (seeds usage : Option FileAt) (last : List ℕ)
    → before_texts (path_if seeds) (before_texts (path_if usage) (last ∷ []))
    ≡ map (λ (f : FileAt). f.path) (cons_option seeds (cons_option usage [])) ++ last ∷ []
paths_so None None last = refl
paths_so None (Some u) last = refl
paths_so (Some s) None last = refl
paths_so (Some s) (Some u) last = refl

map_last : (files : List FileAt) (f : FileAt)
    → map (λ (g : FileAt). g.path) (files ++ f ∷ []) ≡ map (λ (g : FileAt). g.path) files ++ f.path ∷ []
map_last [] f = refl
map_last (g ∷ files) f = ap (λ (t : List (List ℕ)). g.path ∷ t) (map_last files f)

-- ---- all of them

-- the mapping, no longer than 64 MiB, then the lists, then the witness, no longer either, at the paths that the rules
-- name
pub record AreTexts (mapping : Mapping) (edits : Witness) (rules : Rules) (witness : List ℕ) (texts : List FileAt)
    : Type 0 where
  pub lists : List FileAt
  pub short : length (mapping_text mapping) ≤ 67108864
  pub edits_short : length (witness_text edits) ≤ 67108864
  pub are : texts ≡ record { path = rules.mapping; bytes = mapping_text mapping }
      ∷ (lists ++ record { path = witness; bytes = witness_text edits } ∷ [])
  pub paths : map (λ (f : FileAt). f.path) texts ≡ files_of rules witness

-- a text that is no longer, at its path
text_by : (text path : List ℕ) (first : FileAt) (short : Bool) → nat_le (length text) 67108864 ≡ short
    → ((let r : Result (List ℕ) TooLong = cond short (Ok text) (Err too_long) in r)
    >>= (λ (bytes : List ℕ). Ok (record { path = path; bytes = bytes }))) ≡ Ok first
    → (length text ≤ 67108864) × (first ≡ record { path = path; bytes = text })
text_by text path first false is h = absurd cc
text_by text path first true is h = (
  leb-true (length text) 67108864 is,
  sym (same_ok (record { path = path; bytes = text }) first h),
)

pub are_texts : (mapping : Mapping) (edits : Witness) (classes : List Class) (marks : List Bool) (rules : Rules)
    (witness : List ℕ) (texts : List FileAt) → texts_due mapping edits classes marks rules witness ≡ Ok texts
    → AreTexts mapping edits rules witness texts
are_texts mapping edits classes marks rules witness texts h =
    let first = then_ok (mapping_due mapping rules)
    (λ (f : FileAt). lists_due classes marks rules
    >>= (λ (others : List FileAt). witness_due edits witness
    >>= (λ (last : FileAt). Ok (f ∷ (others ++ last ∷ []))))) texts h in
    let lists = then_ok (lists_due classes marks rules)
    (λ (others : List FileAt). witness_due edits witness
    >>= (λ (last : FileAt). Ok (first.0 ∷ (others ++ last ∷ [])))) texts first.2 in
    let last = then_ok (witness_due edits witness)
    (λ (last : FileAt). Ok (first.0 ∷ (lists.0 ++ last ∷ []))) texts lists.2 in
    let seeds = then_ok (seeds_due classes rules)
    (λ (s : Option FileAt). usage_due classes marks rules
    >>= (λ (u : Option FileAt). Ok (cons_option s (cons_option u [])))) lists.0 lists.1 in
    let usage = then_ok (usage_due classes marks rules)
    (λ (u : Option FileAt). Ok (cons_option seeds.0 (cons_option u []))) lists.0 seeds.2 in
    let mapped = text_by (mapping_text mapping) rules.mapping first.0 (nat_le (length (mapping_text mapping)) 67108864)
    refl first.1 in
    let edited = text_by (witness_text edits) witness last.0 (nat_le (length (witness_text edits)) 67108864) refl last.1 in
    let lists_are : lists.0 ≡ cons_option seeds.0 (cons_option usage.0 []) =
    sym (same_ok (cons_option seeds.0 (cons_option usage.0 [])) lists.0 usage.2) in
    let at_end : FileAt = record { path = witness; bytes = witness_text edits } in
    let texts_are : texts ≡ record { path = rules.mapping; bytes = mapping_text mapping } ∷ (lists.0 ++ at_end ∷ []) =
    sym (same_ok (first.0 ∷ (lists.0 ++ last.0 ∷ [])) texts last.2)
    ∙ (λ i. mapped.1 i ∷ (lists.0 ++ edited.1 i ∷ [])) in
    record {
      lists = lists.0;
      short = mapped.0;
      edits_short = edited.0;
      are = texts_are;
      paths = ap (map (λ (f : FileAt). f.path)) texts_are
          ∙ ap (λ (t : List (List ℕ)). rules.mapping ∷ t)
          (map_last lists.0 at_end
          ∙ ap (λ (t : List FileAt). map (λ (f : FileAt). f.path) t ++ witness ∷ []) lists_are
          ∙ sym (paths_so seeds.0 usage.0 witness)
          ∙ (λ i. before_texts (list_at rules.seeds _ seeds.0 seeds.1 i)
          (before_texts (list_at rules.usage _ usage.0 usage.1 i) (witness ∷ []))));
    }
