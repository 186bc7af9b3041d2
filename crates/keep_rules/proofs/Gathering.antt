-- The options of a config, one behind the other, are its rules.
use Rattle.std.proofs.Common.{◌≡◌, ◌↔◌, ℕ, Bool, true, false, cond, not, ◌&&◌, List, [], ◌∷◌, ◌++◌}
use Rattle.std.proofs.Common.{Result, Ok, Err, Option, Some, None, refl, sym, ap, subst, ◌∙◌, codes, append_assoc}
use Rattle.std.specs.Prelude.{map, IsTrue, is_some, option_to_list}
use Rattle.std.specs.List.{list_all, list_any, flat_map, filter_map, AllZip}
use Rattle.std.proofs.lemmas.List.{append-nil}
use Rattle.std.proofs.lemmas.Bool.{not-true, and_parts}
use Rattle.std.proofs.Math.Bool.{and-false, and-true}
use Rattle.jv_base.specs.Outcome as outcome
use Rattle.jv_base.proofs.Results.{then_ok}
use Rattle.conf_words.specs.declared.splitting.Word.{Word}
use Rattle.keep_rules.specs.declared.fault.RuleFault.{RuleFault}
use Rattle.keep_rules.specs.declared.fault.RuleKind.TheVariants.{SamePath}
use Rattle.keep_rules.specs.declared.rules.Filter.{Filter}
use Rattle.keep_rules.specs.declared.rules.Keep.{Keep}
use Rattle.keep_rules.specs.declared.rules.Rules.{Rules}
use Rattle.keep_rules.specs.declared.draft.Draft.{Draft}
use Rattle.keep_rules.specs.Texts.{is_option}
use Rattle.keep_rules.specs.Reader.{fault, none_left}
use Rattle.keep_rules.specs.Reading.{Section, Sections, word_before, sections_of, options_read, option_read, blank}
use Rattle.keep_rules.specs.Paths.{paths_meet}
use Rattle.keep_rules.specs.Reading.{needed, whole_rules, rules_of, apart, finished, rules_read}
use Rattle.keep_rules.specs.Grammar.{in_order, Saying, in_dir, out_dir, mapping, seeds, usage, apply, source_name, no_shrink}
use Rattle.keep_rules.specs.Grammar.{no_optimise, no_obfuscate, keeps, nothing, Says, IsSection, in_dirs, out_dirs}
use Rattle.keep_rules.specs.Grammar.{mappings, seed_files, usage_files, apply_files, source_names, filters_of, keeps_of}
use Rattle.keep_rules.specs.Grammar.{stops_shrinking, stops_optimising, stops_obfuscating, IsConfig}
use Rattle.keep_rules.specs.Grammar as says
use Rattle.keep_rules.specs.Laws.{text_of}
use Rattle.keep_rules.proofs.Sayings.{added, option_found, option_only, no_words}

-- ---- sections

-- the texts of a section
abbrev texts_of : Section → List (List ℕ)
texts_of s = s.option.text ∷ map text_of s.values

-- a value is no option
abbrev plain : List ℕ → Bool
plain value = not (is_option value)

-- an option and its values, as a test
abbrev is_section : List (List ℕ) → Bool
is_section [] = false
is_section (option ∷ values) = is_option option && list_all plain values

section_is : (s : List (List ℕ)) → is_section s ≡ true → IsSection s
section_is [] h = absurd cc
section_is (option ∷ values) h = and_parts (is_option option) (list_all plain values) h

-- words as they are split
record Split (words : List Word) (s : Sections) : Type 0 where
  pub spelled : map text_of words ≡ map text_of s.front ++ in_order (map texts_of s.sections)
  pub front : IsTrue (list_all plain (map text_of s.front))
  pub each : IsTrue (list_all is_section (map texts_of s.sections))

split_by : (word : Word) (words : List Word) (b : Bool) (s : Sections) → is_option word.text ≡ b → Split words s
    → Split (word ∷ words) (word_before word b s)
split_by word words true s e h = record {
  spelled = ap (λ (l : List (List ℕ)). word.text ∷ l) h.spelled;
  front = refl;
  each = rw (e, h.front) h.each;
}
split_by word words false s e h = record {
  spelled = ap (λ (l : List (List ℕ)). word.text ∷ l) h.spelled;
  front = rw e h.front;
  each = h.each;
}

split : (words : List Word) → Split words (sections_of words)
unfolding sections_of
split [] = record { spelled = refl; front = refl; each = refl }
split (word ∷ words) = split_by word words (is_option word.text) (sections_of words) refl (split words)

-- ---- words that are so many sections are split so

-- sections, each an option and its values
abbrev AreSections : List (List (List ℕ)) → Type 0
AreSections [] = Unit {0}
AreSections (s ∷ sections) = IsSection s × AreSections sections

-- what words are split into
record SplitSo (s : Sections) (front : List (List ℕ)) (sections : List (List (List ℕ))) : Type 0 where
  pub front_is : map text_of s.front ≡ front
  pub sections_are : map texts_of s.sections ≡ sections

value_before : (word : Word) (b : Bool) (s : Sections) (f : List ℕ) (front : List (List ℕ))
    (sections : List (List (List ℕ)))
    → b ≡ false → word.text ≡ f → SplitSo s front sections → SplitSo (word_before word b s) (f ∷ front) sections
value_before word true s f front sections e t h = absurd cc
value_before word false s f front sections e t h = record {
  front_is = ap (λ (v : List ℕ). v ∷ map text_of s.front) t ∙ ap (λ (l : List (List ℕ)). f ∷ l) h.front_is;
  sections_are = h.sections_are;
}

option_before : (word : Word) (b : Bool) (s : Sections) (o : List ℕ) (values : List (List ℕ))
    (sections : List (List (List ℕ)))
    → b ≡ true → word.text ≡ o → SplitSo s values sections → SplitSo (word_before word b s) [] ((o ∷ values) ∷ sections)
option_before word false s o values sections e t h = absurd cc
option_before word true s o values sections e t h = record {
  front_is = refl;
  sections_are = ap (λ (l : List (List ℕ)). l ∷ map texts_of s.sections)
      (ap (λ (v : List ℕ). v ∷ map text_of s.front) t ∙ ap (λ (l : List (List ℕ)). o ∷ l) h.front_is)
      ∙ ap (λ (l : List (List (List ℕ))). (o ∷ values) ∷ l) h.sections_are;
}

no_sections : (sections : List (List (List ℕ))) → AreSections sections → [] ≡ in_order sections → [] ≡ sections
no_sections [] h e = refl
no_sections ([] ∷ sections) h e = absurd h.0
no_sections ((o ∷ values) ∷ sections) h e = absurd cc

split_so : (words : List Word) (front : List (List ℕ)) (sections : List (List (List ℕ)))
    → map text_of words ≡ front ++ in_order sections → IsTrue (list_all plain front) → AreSections sections
    → SplitSo (sections_of words) front sections
unfolding sections_of
split_so [] [] sections e f h = record { front_is = refl; sections_are = no_sections sections h e }
split_so [] (w ∷ front) sections e f h = absurd cc
split_so (word ∷ words) (w ∷ front) sections e f h =
    let t : word.text ≡ w = cc in
    let others : map text_of words ≡ front ++ in_order sections = cc in
    let k = and_parts (plain w) (list_all plain front) f in
    value_before word (is_option word.text) (sections_of words) w front sections
    (ap is_option t ∙ not-true (is_option w) k.0) t (split_so words front sections others k.1 h)
split_so (word ∷ words) [] [] e f h = absurd cc
split_so (word ∷ words) [] ([] ∷ sections) e f h = absurd h.0
split_so (word ∷ words) [] ((o ∷ values) ∷ sections) e f h =
    let t : word.text ≡ o = cc in
    let others : map text_of words ≡ values ++ in_order sections = cc in
    option_before word (is_option word.text) (sections_of words) o values sections (ap is_option t ∙ h.0.0) t
    (split_so words values sections others h.0.1 h.1)

-- ---- sayings, one behind the other

-- what the first of them adds, and then the others
abbrev folded_on : Option Draft → (Draft → Option Draft) → Option Draft
folded_on None f = None
folded_on (Some d) f = f d

folded : Draft → List Saying → Option Draft
folded d [] = Some d
folded d (y ∷ ys) = folded_on (added d y) (λ e. folded e ys)

-- what the options say
record Said (d : Draft) (sections : List Section) (e : Draft) : Type 0 where
  pub sayings : List Saying
  pub each : AllZip Says (map texts_of sections) sayings
  pub folds : folded d sayings ≡ Some e

said : (d : Draft) (sections : List Section) (e : Draft) → options_read d sections ≡ Ok e → Said d sections e
unfolding options_read folded
said d [] e h = record { sayings = []; each = tt; folds = let k : d ≡ e = cc in ap (λ (z : Draft). Some z) k }
said d (s ∷ sections) e h =
    let o = then_ok (option_read d s.option s.values) (λ more. options_read more sections) e h in
    let a = option_found d s.option s.values o.0 o.1 in
    let others = said o.0 sections e o.2 in
    record { sayings = a.saying ∷ others.sayings; each = (a.says, others.each); folds = rw a.adds others.folds }

on_some : (o : Option Draft) (f : Draft → Option Draft) (e : Draft) → folded_on o f ≡ Some e
    → (d : Draft) × (o ≡ Some d) × (f d ≡ Some e)
on_some None f e h = absurd cc
on_some (Some d) f e h = (d, refl, h)

read_so : (d : Draft) (sections : List Section) (ys : List Saying) (e : Draft) → AllZip Says (map texts_of sections) ys
    → folded d ys ≡ Some e → options_read d sections ≡ Ok e
unfolding options_read folded
read_so d [] [] e a h = let k : d ≡ e = cc in ap (λ (z : Draft). let R : Result Draft RuleFault = Ok z in R) k
read_so d [] (y ∷ ys) e a h = absurd a
read_so d (s ∷ sections) [] e a h = absurd a
read_so d (s ∷ sections) (y ∷ ys) e a h =
    let o = on_some (added d y) (λ z. folded z ys) e h in
    rw (option_only d s.option s.values o.0 y a.0 o.1) (read_so o.0 sections ys e a.1 o.2)

-- ---- what sayings come to

-- what a draft comes to with sayings
record Comes (d : Draft) (ys : List Saying) (e : Draft) : Type 0 where
  pub in_dir : option_to_list d.in_dir ++ filter_map in_dirs ys ≡ option_to_list e.in_dir
  pub out_dir : option_to_list d.out_dir ++ filter_map out_dirs ys ≡ option_to_list e.out_dir
  pub mapping : option_to_list d.mapping ++ filter_map mappings ys ≡ option_to_list e.mapping
  pub seeds : option_to_list d.seeds ++ filter_map seed_files ys ≡ option_to_list e.seeds
  pub usage : option_to_list d.usage ++ filter_map usage_files ys ≡ option_to_list e.usage
  pub apply : option_to_list d.apply ++ filter_map apply_files ys ≡ option_to_list e.apply
  pub source : option_to_list d.source_name ++ filter_map source_names ys ≡ option_to_list e.source_name
  pub shrink : e.shrink ≡ (d.shrink && not (list_any stops_shrinking ys))
  pub optimise : e.optimise ≡ (d.optimise && not (list_any stops_optimising ys))
  pub obfuscate : e.obfuscate ≡ (d.obfuscate && not (list_any stops_obfuscating ys))
  pub attrs : e.attrs ≡ d.attrs ++ flat_map filters_of ys
  pub keeps : e.keeps ≡ d.keeps ++ filter_map keeps_of ys

comes_none : (d e : Draft) → d ≡ e → Comes d [] e
comes_none d e h = subst (Comes d []) h (record {
  in_dir = append-nil (option_to_list d.in_dir);
  out_dir = append-nil (option_to_list d.out_dir);
  mapping = append-nil (option_to_list d.mapping);
  seeds = append-nil (option_to_list d.seeds);
  usage = append-nil (option_to_list d.usage);
  apply = append-nil (option_to_list d.apply);
  source = append-nil (option_to_list d.source_name);
  shrink = sym (and-true d.shrink);
  optimise = sym (and-true d.optimise);
  obfuscate = sym (and-true d.obfuscate);
  attrs = sym (append-nil d.attrs);
  keeps = sym (append-nil d.keeps);
})

-- a slot that takes a value is empty
free_by : (slot : Option (List ℕ)) (d e : Draft)
    → (let O : Option Draft = cond (is_some slot) None (Some d) in O) ≡ Some e
    → (slot ≡ None) × (d ≡ e)
free_by None d e h = (refl, cc)
free_by (Some x) d e h = absurd cc

in_front : (slot : Option (List ℕ)) (x : List ℕ) (rest all : List (List ℕ)) → slot ≡ None → x ∷ rest ≡ all
    → option_to_list slot ++ x ∷ rest ≡ all
in_front slot x rest all e h = ap (λ (o : Option (List ℕ)). option_to_list o ++ x ∷ rest) e ∙ h

more_in_dir : (d e : Draft) (x : List ℕ) (ys : List Saying) → d.in_dir ≡ None
    → Comes (record d { in_dir = Some x }) ys e
    → Comes d (in_dir x ∷ ys) e
more_in_dir d e x ys f c = record {
  in_dir = in_front d.in_dir x _ _ f c.in_dir;
  out_dir = c.out_dir;
  mapping = c.mapping;
  seeds = c.seeds;
  usage = c.usage;
  apply = c.apply;
  source = c.source;
  shrink = c.shrink;
  optimise = c.optimise;
  obfuscate = c.obfuscate;
  attrs = c.attrs;
  keeps = c.keeps;
}

more_out_dir : (d e : Draft) (x : List ℕ) (ys : List Saying) → d.out_dir ≡ None
    → Comes (record d { out_dir = Some x }) ys e
    → Comes d (out_dir x ∷ ys) e
more_out_dir d e x ys f c = record {
  in_dir = c.in_dir;
  out_dir = in_front d.out_dir x _ _ f c.out_dir;
  mapping = c.mapping;
  seeds = c.seeds;
  usage = c.usage;
  apply = c.apply;
  source = c.source;
  shrink = c.shrink;
  optimise = c.optimise;
  obfuscate = c.obfuscate;
  attrs = c.attrs;
  keeps = c.keeps;
}

more_mapping : (d e : Draft) (x : List ℕ) (ys : List Saying) → d.mapping ≡ None
    → Comes (record d { mapping = Some x }) ys e
    → Comes d (mapping x ∷ ys) e
more_mapping d e x ys f c = record {
  in_dir = c.in_dir;
  out_dir = c.out_dir;
  mapping = in_front d.mapping x _ _ f c.mapping;
  seeds = c.seeds;
  usage = c.usage;
  apply = c.apply;
  source = c.source;
  shrink = c.shrink;
  optimise = c.optimise;
  obfuscate = c.obfuscate;
  attrs = c.attrs;
  keeps = c.keeps;
}

more_seeds : (d e : Draft) (x : List ℕ) (ys : List Saying) → d.seeds ≡ None → Comes (record d { seeds = Some x }) ys e
    → Comes d (seeds x ∷ ys) e
more_seeds d e x ys f c = record {
  in_dir = c.in_dir;
  out_dir = c.out_dir;
  mapping = c.mapping;
  seeds = in_front d.seeds x _ _ f c.seeds;
  usage = c.usage;
  apply = c.apply;
  source = c.source;
  shrink = c.shrink;
  optimise = c.optimise;
  obfuscate = c.obfuscate;
  attrs = c.attrs;
  keeps = c.keeps;
}

more_usage : (d e : Draft) (x : List ℕ) (ys : List Saying) → d.usage ≡ None → Comes (record d { usage = Some x }) ys e
    → Comes d (usage x ∷ ys) e
more_usage d e x ys f c = record {
  in_dir = c.in_dir;
  out_dir = c.out_dir;
  mapping = c.mapping;
  seeds = c.seeds;
  usage = in_front d.usage x _ _ f c.usage;
  apply = c.apply;
  source = c.source;
  shrink = c.shrink;
  optimise = c.optimise;
  obfuscate = c.obfuscate;
  attrs = c.attrs;
  keeps = c.keeps;
}

more_apply : (d e : Draft) (x : List ℕ) (ys : List Saying) → d.apply ≡ None → Comes (record d { apply = Some x }) ys e
    → Comes d (apply x ∷ ys) e
more_apply d e x ys f c = record {
  in_dir = c.in_dir;
  out_dir = c.out_dir;
  mapping = c.mapping;
  seeds = c.seeds;
  usage = c.usage;
  apply = in_front d.apply x _ _ f c.apply;
  source = c.source;
  shrink = c.shrink;
  optimise = c.optimise;
  obfuscate = c.obfuscate;
  attrs = c.attrs;
  keeps = c.keeps;
}

more_source_name : (d e : Draft) (x : List ℕ) (ys : List Saying) → d.source_name ≡ None
    → Comes (record d { source_name = Some x }) ys e
    → Comes d (source_name x ∷ ys) e
more_source_name d e x ys f c = record {
  in_dir = c.in_dir;
  out_dir = c.out_dir;
  mapping = c.mapping;
  seeds = c.seeds;
  usage = c.usage;
  apply = c.apply;
  source = in_front d.source_name x _ _ f c.source;
  shrink = c.shrink;
  optimise = c.optimise;
  obfuscate = c.obfuscate;
  attrs = c.attrs;
  keeps = c.keeps;
}

more_no_shrink : (d e : Draft) (ys : List Saying) → Comes (record d { shrink = false }) ys e
    → Comes d (no_shrink ∷ ys) e
more_no_shrink d e ys c = record {
  in_dir = c.in_dir;
  out_dir = c.out_dir;
  mapping = c.mapping;
  seeds = c.seeds;
  usage = c.usage;
  apply = c.apply;
  source = c.source;
  shrink = c.shrink ∙ sym (and-false d.shrink);
  optimise = c.optimise;
  obfuscate = c.obfuscate;
  attrs = c.attrs;
  keeps = c.keeps;
}

more_no_optimise : (d e : Draft) (ys : List Saying) → Comes (record d { optimise = false }) ys e
    → Comes d (no_optimise ∷ ys) e
more_no_optimise d e ys c = record {
  in_dir = c.in_dir;
  out_dir = c.out_dir;
  mapping = c.mapping;
  seeds = c.seeds;
  usage = c.usage;
  apply = c.apply;
  source = c.source;
  shrink = c.shrink;
  optimise = c.optimise ∙ sym (and-false d.optimise);
  obfuscate = c.obfuscate;
  attrs = c.attrs;
  keeps = c.keeps;
}

more_no_obfuscate : (d e : Draft) (ys : List Saying) → Comes (record d { obfuscate = false }) ys e
    → Comes d (no_obfuscate ∷ ys) e
more_no_obfuscate d e ys c = record {
  in_dir = c.in_dir;
  out_dir = c.out_dir;
  mapping = c.mapping;
  seeds = c.seeds;
  usage = c.usage;
  apply = c.apply;
  source = c.source;
  shrink = c.shrink;
  optimise = c.optimise;
  obfuscate = c.obfuscate ∙ sym (and-false d.obfuscate);
  attrs = c.attrs;
  keeps = c.keeps;
}

more_attributes : (d e : Draft) (fs : List Filter) (ys : List Saying) → Comes (record d { attrs = d.attrs ++ fs }) ys e
    → Comes d (says.attributes fs ∷ ys) e
more_attributes d e fs ys c = record {
  in_dir = c.in_dir;
  out_dir = c.out_dir;
  mapping = c.mapping;
  seeds = c.seeds;
  usage = c.usage;
  apply = c.apply;
  source = c.source;
  shrink = c.shrink;
  optimise = c.optimise;
  obfuscate = c.obfuscate;
  attrs = c.attrs ∙ append_assoc d.attrs fs (flat_map filters_of ys);
  keeps = c.keeps;
}

more_keeps : (d e : Draft) (k : Keep) (ys : List Saying) → Comes (record d { keeps = d.keeps ++ k ∷ [] }) ys e
    → Comes d (keeps k ∷ ys) e
more_keeps d e k ys c = record {
  in_dir = c.in_dir;
  out_dir = c.out_dir;
  mapping = c.mapping;
  seeds = c.seeds;
  usage = c.usage;
  apply = c.apply;
  source = c.source;
  shrink = c.shrink;
  optimise = c.optimise;
  obfuscate = c.obfuscate;
  attrs = c.attrs;
  keeps = c.keeps ∙ append_assoc d.keeps (k ∷ []) (filter_map keeps_of ys);
}

more_nothing : (d e : Draft) (ys : List Saying) → Comes d ys e → Comes d (nothing ∷ ys) e
more_nothing d e ys c = record {
  in_dir = c.in_dir;
  out_dir = c.out_dir;
  mapping = c.mapping;
  seeds = c.seeds;
  usage = c.usage;
  apply = c.apply;
  source = c.source;
  shrink = c.shrink;
  optimise = c.optimise;
  obfuscate = c.obfuscate;
  attrs = c.attrs;
  keeps = c.keeps;
}

some_draft : (d e : Draft) → (let O : Option Draft = Some d in O) ≡ Some e → d ≡ e
some_draft d e h = cc

-- one saying more
comes_more : (d e1 e : Draft) (y : Saying) (ys : List Saying) → added d y ≡ Some e1 → Comes e1 ys e → Comes d (y ∷ ys) e
comes_more d e1 e (in_dir x) ys h c =
    let f = free_by d.in_dir (record d { in_dir = Some x }) e1 h in
    more_in_dir d e x ys f.0 (subst (λ (z : Draft). Comes z ys e) (sym f.1) c)
comes_more d e1 e (out_dir x) ys h c =
    let f = free_by d.out_dir (record d { out_dir = Some x }) e1 h in
    more_out_dir d e x ys f.0 (subst (λ (z : Draft). Comes z ys e) (sym f.1) c)
comes_more d e1 e (mapping x) ys h c =
    let f = free_by d.mapping (record d { mapping = Some x }) e1 h in
    more_mapping d e x ys f.0 (subst (λ (z : Draft). Comes z ys e) (sym f.1) c)
comes_more d e1 e (seeds x) ys h c =
    let f = free_by d.seeds (record d { seeds = Some x }) e1 h in
    more_seeds d e x ys f.0 (subst (λ (z : Draft). Comes z ys e) (sym f.1) c)
comes_more d e1 e (usage x) ys h c =
    let f = free_by d.usage (record d { usage = Some x }) e1 h in
    more_usage d e x ys f.0 (subst (λ (z : Draft). Comes z ys e) (sym f.1) c)
comes_more d e1 e (apply x) ys h c =
    let f = free_by d.apply (record d { apply = Some x }) e1 h in
    more_apply d e x ys f.0 (subst (λ (z : Draft). Comes z ys e) (sym f.1) c)
comes_more d e1 e (source_name x) ys h c =
    let f = free_by d.source_name (record d { source_name = Some x }) e1 h in
    more_source_name d e x ys f.0 (subst (λ (z : Draft). Comes z ys e) (sym f.1) c)
comes_more d e1 e no_shrink ys h c =
    more_no_shrink d e ys (subst (λ (z : Draft). Comes z ys e) (sym (some_draft _ e1 h)) c)
comes_more d e1 e no_optimise ys h c =
    more_no_optimise d e ys (subst (λ (z : Draft). Comes z ys e) (sym (some_draft _ e1 h)) c)
comes_more d e1 e no_obfuscate ys h c =
    more_no_obfuscate d e ys (subst (λ (z : Draft). Comes z ys e) (sym (some_draft _ e1 h)) c)
comes_more d e1 e (says.attributes fs) ys h c =
    more_attributes d e fs ys (subst (λ (z : Draft). Comes z ys e) (sym (some_draft _ e1 h)) c)
comes_more d e1 e (keeps k) ys h c =
    more_keeps d e k ys (subst (λ (z : Draft). Comes z ys e) (sym (some_draft _ e1 h)) c)
comes_more d e1 e nothing ys h c = more_nothing d e ys (subst (λ (z : Draft). Comes z ys e) (sym (some_draft _ e1 h)) c)

-- sayings that are folded come to the draft
comes : (d : Draft) (ys : List Saying) (e : Draft) → folded d ys ≡ Some e → Comes d ys e
unfolding folded
comes d [] e h = comes_none d e (some_draft d e h)
comes d (y ∷ ys) e h =
    let o = on_some (added d y) (λ z. folded z ys) e h in
    comes_more d o.0 e y ys o.1 (comes o.0 ys e o.2)

-- ---- and back

slot_free : (slot : Option (List ℕ)) (x : List ℕ) (rest : List (List ℕ)) (all : Option (List ℕ))
    → option_to_list slot ++ x ∷ rest ≡ option_to_list all → (slot ≡ None) × (x ∷ rest ≡ option_to_list all)
slot_free None x rest all h = (refl, h)
slot_free (Some z) x rest None h = absurd cc
slot_free (Some z) x rest (Some y) h = absurd cc

slot_same : (a b : Option (List ℕ)) → option_to_list a ++ [] ≡ option_to_list b → a ≡ b
slot_same None None h = refl
slot_same None (Some y) h = absurd cc
slot_same (Some x) None h = absurd cc
slot_same (Some x) (Some y) h = let k : x ≡ y = cc in ap (λ z. Some z) k

takes_slot : (slot : Option (List ℕ)) (d : Draft) → slot ≡ None
    → (let O : Option Draft = cond (is_some slot) None (Some d) in O) ≡ Some d
takes_slot slot d h = ap (λ (o : Option (List ℕ)). let O : Option Draft = cond (is_some o) None (Some d) in O) h

draft_same : (d e : Draft) → Comes d [] e → d ≡ e
draft_same d e c =
    let p0 = slot_same d.in_dir e.in_dir c.in_dir in
    let p1 = slot_same d.out_dir e.out_dir c.out_dir in
    let p2 = slot_same d.mapping e.mapping c.mapping in
    let p3 = slot_same d.seeds e.seeds c.seeds in
    let p4 = slot_same d.usage e.usage c.usage in
    let p11 = slot_same d.apply e.apply c.apply in
    let p5 = slot_same d.source_name e.source_name c.source in
    let p6 : d.shrink ≡ e.shrink = sym (c.shrink ∙ and-true d.shrink) in
    let p7 : d.optimise ≡ e.optimise = sym (c.optimise ∙ and-true d.optimise) in
    let p8 : d.obfuscate ≡ e.obfuscate = sym (c.obfuscate ∙ and-true d.obfuscate) in
    let p9 : d.attrs ≡ e.attrs = sym (c.attrs ∙ append-nil d.attrs) in
    let p10 : d.keeps ≡ e.keeps = sym (c.keeps ∙ append-nil d.keeps) in
    λ i. record {
      in_dir = p0 i;
      out_dir = p1 i;
      mapping = p2 i;
      seeds = p3 i;
      usage = p4 i;
      apply = p11 i;
      source_name = p5 i;
      shrink = p6 i;
      optimise = p7 i;
      obfuscate = p8 i;
      attrs = p9 i;
      keeps = p10 i;
    }

-- a draft that takes a saying, and comes to the same with the others
record Next (d : Draft) (y : Saying) (ys : List Saying) (e : Draft) : Type 0 where
  pub next : Draft
  pub adds : added d y ≡ Some next
  pub comes : Comes next ys e

next_in_dir : (d e : Draft) (x : List ℕ) (ys : List Saying) → Comes d (in_dir x ∷ ys) e → Next d (in_dir x) ys e
next_in_dir d e x ys c =
    let f = slot_free d.in_dir x _ e.in_dir c.in_dir in
    record {
      next = record d { in_dir = Some x };
      adds = takes_slot d.in_dir (record d { in_dir = Some x }) f.0;
      comes = record {
        in_dir = f.1;
        out_dir = c.out_dir;
        mapping = c.mapping;
        seeds = c.seeds;
        usage = c.usage;
        apply = c.apply;
        source = c.source;
        shrink = c.shrink;
        optimise = c.optimise;
        obfuscate = c.obfuscate;
        attrs = c.attrs;
        keeps = c.keeps;
      };
    }

next_out_dir : (d e : Draft) (x : List ℕ) (ys : List Saying) → Comes d (out_dir x ∷ ys) e → Next d (out_dir x) ys e
next_out_dir d e x ys c =
    let f = slot_free d.out_dir x _ e.out_dir c.out_dir in
    record {
      next = record d { out_dir = Some x };
      adds = takes_slot d.out_dir (record d { out_dir = Some x }) f.0;
      comes = record {
        in_dir = c.in_dir;
        out_dir = f.1;
        mapping = c.mapping;
        seeds = c.seeds;
        usage = c.usage;
        apply = c.apply;
        source = c.source;
        shrink = c.shrink;
        optimise = c.optimise;
        obfuscate = c.obfuscate;
        attrs = c.attrs;
        keeps = c.keeps;
      };
    }

next_mapping : (d e : Draft) (x : List ℕ) (ys : List Saying) → Comes d (mapping x ∷ ys) e → Next d (mapping x) ys e
next_mapping d e x ys c =
    let f = slot_free d.mapping x _ e.mapping c.mapping in
    record {
      next = record d { mapping = Some x };
      adds = takes_slot d.mapping (record d { mapping = Some x }) f.0;
      comes = record {
        in_dir = c.in_dir;
        out_dir = c.out_dir;
        mapping = f.1;
        seeds = c.seeds;
        usage = c.usage;
        apply = c.apply;
        source = c.source;
        shrink = c.shrink;
        optimise = c.optimise;
        obfuscate = c.obfuscate;
        attrs = c.attrs;
        keeps = c.keeps;
      };
    }

next_seeds : (d e : Draft) (x : List ℕ) (ys : List Saying) → Comes d (seeds x ∷ ys) e → Next d (seeds x) ys e
next_seeds d e x ys c =
    let f = slot_free d.seeds x _ e.seeds c.seeds in
    record {
      next = record d { seeds = Some x };
      adds = takes_slot d.seeds (record d { seeds = Some x }) f.0;
      comes = record {
        in_dir = c.in_dir;
        out_dir = c.out_dir;
        mapping = c.mapping;
        seeds = f.1;
        usage = c.usage;
        apply = c.apply;
        source = c.source;
        shrink = c.shrink;
        optimise = c.optimise;
        obfuscate = c.obfuscate;
        attrs = c.attrs;
        keeps = c.keeps;
      };
    }

next_usage : (d e : Draft) (x : List ℕ) (ys : List Saying) → Comes d (usage x ∷ ys) e → Next d (usage x) ys e
next_usage d e x ys c =
    let f = slot_free d.usage x _ e.usage c.usage in
    record {
      next = record d { usage = Some x };
      adds = takes_slot d.usage (record d { usage = Some x }) f.0;
      comes = record {
        in_dir = c.in_dir;
        out_dir = c.out_dir;
        mapping = c.mapping;
        seeds = c.seeds;
        usage = f.1;
        apply = c.apply;
        source = c.source;
        shrink = c.shrink;
        optimise = c.optimise;
        obfuscate = c.obfuscate;
        attrs = c.attrs;
        keeps = c.keeps;
      };
    }

next_apply : (d e : Draft) (x : List ℕ) (ys : List Saying) → Comes d (apply x ∷ ys) e → Next d (apply x) ys e
next_apply d e x ys c =
    let f = slot_free d.apply x _ e.apply c.apply in
    record {
      next = record d { apply = Some x };
      adds = takes_slot d.apply (record d { apply = Some x }) f.0;
      comes = record {
        in_dir = c.in_dir;
        out_dir = c.out_dir;
        mapping = c.mapping;
        seeds = c.seeds;
        usage = c.usage;
        apply = f.1;
        source = c.source;
        shrink = c.shrink;
        optimise = c.optimise;
        obfuscate = c.obfuscate;
        attrs = c.attrs;
        keeps = c.keeps;
      };
    }

next_source_name : (d e : Draft) (x : List ℕ) (ys : List Saying) → Comes d (source_name x ∷ ys) e
    → Next d (source_name x) ys e
next_source_name d e x ys c =
    let f = slot_free d.source_name x _ e.source_name c.source in
    record {
      next = record d { source_name = Some x };
      adds = takes_slot d.source_name (record d { source_name = Some x }) f.0;
      comes = record {
        in_dir = c.in_dir;
        out_dir = c.out_dir;
        mapping = c.mapping;
        seeds = c.seeds;
        usage = c.usage;
        apply = c.apply;
        source = f.1;
        shrink = c.shrink;
        optimise = c.optimise;
        obfuscate = c.obfuscate;
        attrs = c.attrs;
        keeps = c.keeps;
      };
    }

next_no_shrink : (d e : Draft) (ys : List Saying) → Comes d (no_shrink ∷ ys) e → Next d no_shrink ys e
next_no_shrink d e ys c = record {
  next = record d { shrink = false };
  adds = refl;
  comes = record {
    in_dir = c.in_dir;
    out_dir = c.out_dir;
    mapping = c.mapping;
    seeds = c.seeds;
    usage = c.usage;
    apply = c.apply;
    source = c.source;
    shrink = c.shrink ∙ and-false d.shrink;
    optimise = c.optimise;
    obfuscate = c.obfuscate;
    attrs = c.attrs;
    keeps = c.keeps;
  };
}

next_no_optimise : (d e : Draft) (ys : List Saying) → Comes d (no_optimise ∷ ys) e → Next d no_optimise ys e
next_no_optimise d e ys c = record {
  next = record d { optimise = false };
  adds = refl;
  comes = record {
    in_dir = c.in_dir;
    out_dir = c.out_dir;
    mapping = c.mapping;
    seeds = c.seeds;
    usage = c.usage;
    apply = c.apply;
    source = c.source;
    shrink = c.shrink;
    optimise = c.optimise ∙ and-false d.optimise;
    obfuscate = c.obfuscate;
    attrs = c.attrs;
    keeps = c.keeps;
  };
}

next_no_obfuscate : (d e : Draft) (ys : List Saying) → Comes d (no_obfuscate ∷ ys) e → Next d no_obfuscate ys e
next_no_obfuscate d e ys c = record {
  next = record d { obfuscate = false };
  adds = refl;
  comes = record {
    in_dir = c.in_dir;
    out_dir = c.out_dir;
    mapping = c.mapping;
    seeds = c.seeds;
    usage = c.usage;
    apply = c.apply;
    source = c.source;
    shrink = c.shrink;
    optimise = c.optimise;
    obfuscate = c.obfuscate ∙ and-false d.obfuscate;
    attrs = c.attrs;
    keeps = c.keeps;
  };
}

next_attributes : (d e : Draft) (fs : List Filter) (ys : List Saying) → Comes d (says.attributes fs ∷ ys) e
    → Next d (says.attributes fs) ys e
next_attributes d e fs ys c = record {
  next = record d { attrs = d.attrs ++ fs };
  adds = refl;
  comes = record {
    in_dir = c.in_dir;
    out_dir = c.out_dir;
    mapping = c.mapping;
    seeds = c.seeds;
    usage = c.usage;
    apply = c.apply;
    source = c.source;
    shrink = c.shrink;
    optimise = c.optimise;
    obfuscate = c.obfuscate;
    attrs = c.attrs ∙ sym (append_assoc d.attrs fs (flat_map filters_of ys));
    keeps = c.keeps;
  };
}

next_keeps : (d e : Draft) (k : Keep) (ys : List Saying) → Comes d (keeps k ∷ ys) e → Next d (keeps k) ys e
next_keeps d e k ys c = record {
  next = record d { keeps = d.keeps ++ k ∷ [] };
  adds = refl;
  comes = record {
    in_dir = c.in_dir;
    out_dir = c.out_dir;
    mapping = c.mapping;
    seeds = c.seeds;
    usage = c.usage;
    apply = c.apply;
    source = c.source;
    shrink = c.shrink;
    optimise = c.optimise;
    obfuscate = c.obfuscate;
    attrs = c.attrs;
    keeps = c.keeps ∙ sym (append_assoc d.keeps (k ∷ []) (filter_map keeps_of ys));
  };
}

next_nothing : (d e : Draft) (ys : List Saying) → Comes d (nothing ∷ ys) e → Next d nothing ys e
next_nothing d e ys c = record {
  next = d;
  adds = refl;
  comes = record {
    in_dir = c.in_dir;
    out_dir = c.out_dir;
    mapping = c.mapping;
    seeds = c.seeds;
    usage = c.usage;
    apply = c.apply;
    source = c.source;
    shrink = c.shrink;
    optimise = c.optimise;
    obfuscate = c.obfuscate;
    attrs = c.attrs;
    keeps = c.keeps;
  };
}

next_is : (d e : Draft) (y : Saying) (ys : List Saying) → Comes d (y ∷ ys) e → Next d y ys e
next_is d e (in_dir x) ys c = next_in_dir d e x ys c
next_is d e (out_dir x) ys c = next_out_dir d e x ys c
next_is d e (mapping x) ys c = next_mapping d e x ys c
next_is d e (seeds x) ys c = next_seeds d e x ys c
next_is d e (usage x) ys c = next_usage d e x ys c
next_is d e (apply x) ys c = next_apply d e x ys c
next_is d e (source_name x) ys c = next_source_name d e x ys c
next_is d e no_shrink ys c = next_no_shrink d e ys c
next_is d e no_optimise ys c = next_no_optimise d e ys c
next_is d e no_obfuscate ys c = next_no_obfuscate d e ys c
next_is d e (says.attributes fs) ys c = next_attributes d e fs ys c
next_is d e (keeps k) ys c = next_keeps d e k ys c
next_is d e nothing ys c = next_nothing d e ys c

folds_by : (y : Saying) (ys : List Saying) (d n e : Draft) → added d y ≡ Some n → folded n ys ≡ Some e
    → folded d (y ∷ ys) ≡ Some e
unfolding folded
folds_by y ys d n e a h = rw a h

folds : (ys : List Saying) (d e : Draft) → Comes d ys e → folded d ys ≡ Some e
unfolding folded
folds [] d e c = ap (λ (z : Draft). Some z) (draft_same d e c)
folds (y ∷ ys) d e c = let n = next_is d e y ys c in folds_by y ys d n.next e n.adds (folds ys n.next e n.comes)

-- ---- the config

needed_ok : (option : List ℕ) (slot : Option (List ℕ)) (x : List ℕ) → needed option slot ≡ Ok x → slot ≡ Some x
needed_ok option (Some v) x h = let k : v ≡ x = cc in ap (λ z. Some z) k
needed_ok option None x h = absurd cc

apart_by : (witness : List ℕ) (given rules : Rules) (b : Bool) → paths_meet given witness ≡ b
    → (let R : Result Rules RuleFault = cond b (Err (fault 0 SamePath)) (Ok given) in R) ≡ Ok rules
    → (given ≡ rules) × (paths_meet given witness ≡ false)
apart_by witness given rules true e h = absurd cc
apart_by witness given rules false e h = (cc, e)

left_nothing : (words : List Word) → none_left {A = Unit {0}} tt words ≡ Ok tt → words ≡ []
left_nothing [] h = refl
left_nothing (word ∷ words) h = absurd cc

-- what a config is read as
record Read (words : List Word) (witness : List ℕ) (rules : Rules) : Type 0 where
  pub draft : Draft
  pub nothing_before : (sections_of words).front ≡ []
  pub options : options_read blank (sections_of words).sections ≡ Ok draft
  pub input : draft.in_dir ≡ Some rules.in_dir
  pub output : draft.out_dir ≡ Some rules.out_dir
  pub maps : draft.mapping ≡ Some rules.mapping
  pub are : rules_of draft rules.in_dir rules.out_dir rules.mapping ≡ rules
  pub no_path : paths_meet rules witness ≡ false

ok_rules : (a b : Rules) → (let R : Result Rules RuleFault = Ok a in R) ≡ Ok b → a ≡ b
ok_rules a b h = cc

read_ok : (words : List Word) (witness : List ℕ) (rules : Rules) → rules_read words witness ≡ Ok rules
    → Read words witness rules
unfolding rules_read finished whole_rules
read_ok words witness rules h =
    let a = then_ok (none_left {A = Unit {0}} tt (sections_of words).front) _ rules h in
    let b = then_ok (options_read blank (sections_of words).sections) _ rules a.2 in
    let c = then_ok (whole_rules b.0) (apart witness) rules b.2 in
    let i = then_ok (needed (codes "-injars") b.0.in_dir) _ c.0 c.1 in
    let o = then_ok (needed (codes "-outjars") b.0.out_dir) _ c.0 i.2 in
    let m = then_ok (needed (codes "-printmapping") b.0.mapping) _ c.0 o.2 in
    let made : rules_of b.0 i.0 o.0 m.0 ≡ c.0 = ok_rules _ _ m.2 in
    let p = apart_by witness c.0 rules (paths_meet c.0 witness) refl c.2 in
    let whole : rules_of b.0 i.0 o.0 m.0 ≡ rules = made ∙ p.0 in
    let din : i.0 ≡ rules.in_dir = ap (λ (r : Rules). r.in_dir) whole in
    let dout : o.0 ≡ rules.out_dir = ap (λ (r : Rules). r.out_dir) whole in
    let dmap : m.0 ≡ rules.mapping = ap (λ (r : Rules). r.mapping) whole in
    record {
      draft = b.0;
      nothing_before = left_nothing _ a.1;
      options = b.1;
      input = needed_ok _ _ _ i.1 ∙ ap (λ z. Some z) din;
      output = needed_ok _ _ _ o.1 ∙ ap (λ z. Some z) dout;
      maps = needed_ok _ _ _ m.1 ∙ ap (λ z. Some z) dmap;
      are = sym (ap (λ (x : List ℕ). rules_of b.0 x o.0 m.0) din
          ∙ ap (λ (x : List ℕ). rules_of b.0 rules.in_dir x m.0) dout
          ∙ ap (λ (x : List ℕ). rules_of b.0 rules.in_dir rules.out_dir x) dmap) ∙ whole;
      no_path = ap (λ (r : Rules). paths_meet r witness) (sym p.0) ∙ p.1;
    }

options_of : (sections : List (List (List ℕ))) (sayings : List Saying) → IsTrue (list_all is_section sections)
    → AllZip Says sections sayings → AllZip (λ section saying. IsSection section × Says section saying) sections sayings
options_of [] [] a h = tt
options_of [] (y ∷ ys) a h = absurd h
options_of (s ∷ sections) [] a h = absurd h
options_of (s ∷ sections) (y ∷ ys) a h =
    let k = and_parts (is_section s) (list_all is_section sections) a in
    ((section_is s k.0, h.0), options_of sections ys k.1 h.1)

pub found : (words : List Word) (witness : List ℕ) (rules : Rules) → rules_read words witness ≡ Ok rules
    → IsConfig (map text_of words) witness rules
found words witness rules h =
    let r = read_ok words witness rules h in
    let s = split words in
    let d = said blank (sections_of words).sections r.draft r.options in
    let c = comes blank d.sayings r.draft d.folds in
    record {
      sections = map texts_of (sections_of words).sections;
      sayings = d.sayings;
      spelled = s.spelled
          ∙ ap (λ (l : List Word). map text_of l
          ++ in_order (map texts_of (sections_of words).sections)) r.nothing_before;
      options = options_of _ d.sayings s.each d.each;
      one_input = c.in_dir ∙ ap option_to_list r.input;
      one_output = c.out_dir ∙ ap option_to_list r.output;
      one_mapping = c.mapping ∙ ap option_to_list r.maps;
      one_seeds = c.seeds ∙ ap (λ (z : Rules). option_to_list z.seeds) r.are;
      one_usage = c.usage ∙ ap (λ (z : Rules). option_to_list z.usage) r.are;
      one_apply = c.apply ∙ ap (λ (z : Rules). option_to_list z.apply) r.are;
      one_source = c.source ∙ ap (λ (z : Rules). option_to_list z.source_name) r.are;
      shrinks = sym (ap (λ (z : Rules). z.shrink) r.are) ∙ c.shrink;
      optimises = sym (ap (λ (z : Rules). z.optimise) r.are) ∙ c.optimise;
      obfuscates = sym (ap (λ (z : Rules). z.obfuscate) r.are) ∙ c.obfuscate;
      filters = sym (ap (λ (z : Rules). z.attrs) r.are) ∙ c.attrs;
      keeping = sym (ap (λ (z : Rules). z.keeps) r.are) ∙ c.keeps;
      apart = r.no_path;
    }

-- the draft of rules
abbrev draft_of : Rules → Draft
draft_of rules = record {
  in_dir = Some rules.in_dir;
  out_dir = Some rules.out_dir;
  mapping = Some rules.mapping;
  seeds = rules.seeds;
  usage = rules.usage;
  apply = rules.apply;
  source_name = rules.source_name;
  shrink = rules.shrink;
  optimise = rules.optimise;
  obfuscate = rules.obfuscate;
  attrs = rules.attrs;
  keeps = rules.keeps;
}

sections_apart : (sections : List (List (List ℕ))) (sayings : List Saying)
    → AllZip (λ section saying. IsSection section × Says section saying) sections sayings
    → AreSections sections × AllZip Says sections sayings
sections_apart [] [] h = (tt, tt)
sections_apart [] (y ∷ ys) h = absurd h
sections_apart (s ∷ sections) [] h = absurd h
sections_apart (s ∷ sections) (y ∷ ys) h =
    let o = sections_apart sections ys h.1 in ((h.0.0, o.0), (h.0.1, o.1))

finished_is : (witness : List ℕ) (rules : Rules) → paths_meet rules witness ≡ false
    → finished witness (draft_of rules) ≡ Ok rules
unfolding finished whole_rules
finished_is witness rules h = rw h refl

read_by : (words : List Word) (witness : List ℕ) (rules : Rules) → (sections_of words).front ≡ []
    → options_read blank (sections_of words).sections ≡ Ok (draft_of rules) → paths_meet rules witness ≡ false
    → rules_read words witness ≡ Ok rules
unfolding rules_read
read_by words witness rules f o p = rw (f, o) (finished_is witness rules p)

pub only : (words : List Word) (witness : List ℕ) (rules : Rules) → IsConfig (map text_of words) witness rules
    → rules_read words witness ≡ Ok rules
only words witness rules h =
    let a = sections_apart h.sections h.sayings h.options in
    let s = split_so words [] h.sections h.spelled refl a.0 in
    let c : Comes blank h.sayings (draft_of rules) = record {
      in_dir = h.one_input;
      out_dir = h.one_output;
      mapping = h.one_mapping;
      seeds = h.one_seeds;
      usage = h.one_usage;
      apply = h.one_apply;
      source = h.one_source;
      shrink = h.shrinks;
      optimise = h.optimises;
      obfuscate = h.obfuscates;
      attrs = h.filters;
      keeps = h.keeping;
    } in
    read_by words witness rules (no_words _ s.front_is)
    (read_so blank (sections_of words).sections h.sayings (draft_of rules)
    (subst (λ (l : List (List (List ℕ))). AllZip Says l h.sayings) (sym s.sections_are) a.1)
    (folds h.sayings blank (draft_of rules) c))
    h.apart

pub law : (words : List Word) (witness : List ℕ) (rules : Rules)
    → (rules_read words witness ≡ Ok rules) ↔ IsConfig (map text_of words) witness rules
law words witness rules = (found words witness rules, only words witness rules)
