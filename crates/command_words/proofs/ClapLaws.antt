-- What clap answers, by the definition of the command line.
use Rattle.std.proofs.Common.{◌≡◌, ◌≢◌, ℕ, true, List, [], ◌∷◌, Option, Some, None, Result, Ok, Err}
use Rattle.std.proofs.Common.{refl, sym, ap, subst, ◌∙◌, inl, inr, codes}
use Rattle.std.specs.Prelude.{IfOk, OnOk}
use Rattle.jv_base.specs.declared.outcome.OutOfMemory.{OutOfMemory}
use Rattle.clap.specs.declared.parser.matches.ArgMatches.{ArgMatches}
use Rattle.command_words.specs.bodies.Reads.{ReadsWords}
use Rattle.std.specs.List.{find}
use Rattle.std.specs.Option.{option_map}
use Rattle.std.specs.Prelude.{unwrap_or}
use Rattle.std.specs.Str.Parse.{ParsesUnsigned}
use Rattle.std.specs.Str.{bytes_eq}
use Rattle.clap.specs.Facts.{Entry}
use Rattle.clap.specs.Kinds.{FailsBy, HasKind, Kinds}
use Rattle.clap.specs.Matches.{ReadsOne, found_of, matched_of, one_text, raw_values}
use Rattle.clap.specs.Values.{kind_of}
use Rattle.clap.specs.Walk.{Row, Text, all_of, byte_or_zero, first_of, one_of, row_of, rows_of}
use Rattle.clap.specs.Simple.{App, HasMatchesOf, is_simple, matches_of}
use Rattle.clap.specs.Faults.{fault_of, is_simple_and_free}
use Rattle.clap.specs.declared.error.Error.{Error}
use Rattle.clap.specs.declared.error.kind.ErrorKind.TheVariants as kind
use Rattle.clap.specs.declared.parser.matches.Found.{Found}
use Rattle.clap.proofs.OnLiterals.{clap_on_literals}
use Rattle.clap.proofs.WalkLemmas.{byte_read, find_row, one_text-rows}
use Rattle.command_words.specs.CommandLine.{command_line}
use Rattle.command_words.specs.Batch.{batch_commanded, batch_in, batch_named}
use Rattle.command_words.specs.declared.batch.Batch.{Batch}
use Rattle.command_words.specs.declared.command.Command.{Command}
use Rattle.command_words.specs.Words.{command_named, commanded, number_in, said_in, where_taken, workers_in}

-- all values of an argument, by the rows
pub all_values : (f : Found) (id : Text) → option_map raw_values (matched_of f id) ≡ all_of id (rows_of f)
all_values f id = go (find (λ (e : Entry). bytes_eq e.0.now id) f.entries.items)
    ∙ ap (option_map (λ (r : Row). r.values)) (sym (find_row f.entries.items id))
  where
    go : (o : Option Entry)
        → option_map raw_values (option_map (λ e. e.1) o) ≡ option_map (λ (r : Row). r.values) (option_map row_of o)
    go None = refl
    go (Some e) = refl

-- a fault that isn't want of memory is one that clap's definition has
pub has_fault : (kinds : Kinds) (e : Error) → HasKind kinds e → kind_of e ≢ kind.OutOfMemory → kinds ≢ []
has_fault [] e (inl h) other = absurd (other h)
has_fault [] e (inr h) other = absurd h
has_fault (k ∷ ks) e h other = λ none. absurd cc

-- the command line is one of those of which clap says everything
pub is_plain : is_simple_and_free command_line ≡ true
unfolding clap_on_literals
is_plain = refl

pub is_simple_line : is_simple command_line ≡ true
unfolding clap_on_literals
is_simple_line = refl

-- what is said where there are a name and operands
pub said_both : (rows : List Row) (name : Text) (operands : List Text) → first_of (codes "command") rows ≡ Some name
    → all_of (codes "operands") rows ≡ Some operands
    → said_in rows ≡ command_named name operands (workers_in rows)
said_both rows name operands n o = rw (n, o) refl

-- where there is no name
pub said_no_name : (rows : List Row) → first_of (codes "command") rows ≡ None → said_in rows ≡ None
said_no_name rows n = rw n refl

-- where there are no operands
pub said_name_alone : (rows : List Row) (name : Text) → first_of (codes "command") rows ≡ Some name
    → all_of (codes "operands") rows ≡ None → said_in rows ≡ None
said_name_alone rows name n o = rw (n, o) refl

-- the same of a batch
pub batch_both : (rows : List Row) (name : Text) (operands : List Text) → first_of (codes "command") rows ≡ Some name
    → all_of (codes "operands") rows ≡ Some operands
    → batch_in rows ≡ batch_named name operands (workers_in rows)
batch_both rows name operands n o = rw (n, o) refl

pub batch_no_name : (rows : List Row) → first_of (codes "command") rows ≡ None → batch_in rows ≡ None
batch_no_name rows n = rw n refl

pub batch_name_alone : (rows : List Row) (name : Text) → first_of (codes "command") rows ≡ Some name
    → all_of (codes "operands") rows ≡ None → batch_in rows ≡ None
batch_name_alone rows name n o = rw (n, o) refl

-- the number that is read of an argument, or 0 where there is none
pub number_read : {E : Type 0} (gives : Text → Result ℕ E → Type 0) (f : Found) (id : Text) (read : Option ℕ)
    → ((text : Text) (r : Result ℕ E) → gives text r → ParsesUnsigned 8 10 text r)
    → (one_text f id ≡ None → read ≡ None)
    → ((text : Text) → one_text f id ≡ Some text → ReadsOne gives text read)
    → unwrap_or read 0 ≡ number_in (one_of id (rows_of f))
number_read {E} gives f id read parses none value =
    go (one_text f id) refl ∙ ap number_in (one_text-rows f id)
  where
    of_text : (text : Text) (r : Option ℕ) → ReadsOne gives text r → unwrap_or r 0 ≡ byte_or_zero text
    of_text text (Some n) h = byte_read {E = E} text (Ok n) (parses text (Ok n) h)
    of_text text None h = byte_read {E = E} text (Err h.0) (parses text (Err h.0) h.1)

    go : (o : Option Text) → one_text f id ≡ o → unwrap_or read 0 ≡ number_in o
    go None is = ap (λ (r : Option ℕ). unwrap_or r 0) (none is)
    go (Some text) is = of_text text read (value text is)

-- what is read of matches, where words are taken
module _ {A : Type 0} (say : List Row → Option A) where
  abbrev pub Asked : List Text → Option A
  Asked words = where_taken (fault_of command_line words) (say (matches_of command_line words))

  -- the words are taken
  pub taken_says : (words : List Text) (rows : List Row) → fault_of command_line words ≡ []
      → rows ≡ matches_of command_line words
      → say rows ≡ Asked words
  taken_says words rows f r = ap say r ∙ ap (λ k. where_taken k (say (matches_of command_line words))) (sym f)

  -- the words are not taken
  pub refused_says : (words : List Text) → fault_of command_line words ≢ [] → None ≡ Asked words
  refused_says words f = by (fault_of command_line words) f
    where
      by : (k : Kinds) → k ≢ [] → None ≡ where_taken k (say (matches_of command_line words))
      by [] f = absurd (f refl)
      by (x ∷ xs) f = refl

  -- what is said of words that were taken
  taken_asked : (words texts : List Text) (m : Option ArgMatches) (n : ArgMatches) → m ≡ Some n → texts ≡ words
      → ReadsWords texts m
      → say (rows_of (found_of n)) ≡ Asked words
  taken_asked words texts m n is same reads =
      let read : ReadsWords texts (Some n) = subst (ReadsWords texts) is reads in
      taken_says texts (rows_of (found_of n)) read.0 read.1 ∙ ap Asked same

  -- what is said of words that were refused
  refused_asked : (words texts : List Text) (m : Option ArgMatches) → m ≡ None → texts ≡ words → ReadsWords texts m
      → None ≡ Asked words
  refused_asked words texts m is same reads =
      refused_says texts (subst (ReadsWords texts) is reads) ∙ ap Asked same

-- words that clap took
pub reads_ok : (app : App) (words : List Text) (r : Result ArgMatches Error) (m : ArgMatches) → r ≡ Ok m
    → app ≡ command_line
    → (is_simple_and_free app ≡ true → FailsBy (fault_of app words) r) → IfOk r (HasMatchesOf app words)
    → ReadsWords words (Some m)
reads_ok app words r m is e k h =
    let none : fault_of app words ≡ [] =
    subst (λ (x : Result ArgMatches Error). FailsBy (fault_of app words) x) is
    (k (ap is_simple_and_free e ∙ is_plain)) in
    let rows = subst (λ (x : Result ArgMatches Error). IfOk x (HasMatchesOf app words)) is h
    (ap is_simple e ∙ is_simple_line) in
    (ap (λ (a : App). fault_of a words) (sym e) ∙ none, rows.0 ∙ ap (λ (a : App). matches_of a words) e)

-- words that clap refused
pub reads_err : (app : App) (words : List Text) (r : Result ArgMatches Error) (f : Error) → r ≡ Err f
    → app ≡ command_line
    → (is_simple_and_free app ≡ true → FailsBy (fault_of app words) r) → kind_of f ≢ kind.OutOfMemory
    → ReadsWords words None
reads_err app words r f is e k other =
    let has : HasKind (fault_of app words) f =
    subst (λ (x : Result ArgMatches Error). FailsBy (fault_of app words) x) is
    (k (ap is_simple_and_free e ∙ is_plain)) in
    λ none. has_fault (fault_of app words) f has other (ap (λ (a : App). fault_of a words) e ∙ none)

-- no matches, where memory wasn't wanting
pub refused_reads : {P : Type 0} (words : List Text) (r : Result (Option ArgMatches) OutOfMemory)
    → IfOk r (λ m. m ≡ None) → OnOk r P
    → (P → ReadsWords words None) → IfOk r (ReadsWords words)
refused_reads words (Ok m) n p f = subst (ReadsWords words) (sym n) (f p)
refused_reads words (Err e) n p f = tt

-- what is said of words that were taken
pub taken_said : (words texts : List Text) (m : Option ArgMatches) (n : ArgMatches) → m ≡ Some n → texts ≡ words
    → ReadsWords texts m
    → said_in (rows_of (found_of n)) ≡ commanded words
unfolding commanded
taken_said words texts m n is same reads = taken_asked said_in words texts m n is same reads

pub taken_batch : (words texts : List Text) (m : Option ArgMatches) (n : ArgMatches) → m ≡ Some n → texts ≡ words
    → ReadsWords texts m
    → batch_in (rows_of (found_of n)) ≡ batch_commanded words
unfolding batch_commanded
taken_batch words texts m n is same reads = taken_asked batch_in words texts m n is same reads

-- what is said of words that were refused
pub refused_said : (words texts : List Text) (m : Option ArgMatches) → m ≡ None → texts ≡ words → ReadsWords texts m
    → None ≡ commanded words
unfolding commanded
refused_said words texts m is same reads = refused_asked said_in words texts m is same reads

pub refused_batch : (words texts : List Text) (m : Option ArgMatches) → m ≡ None → texts ≡ words → ReadsWords texts m
    → None ≡ batch_commanded words
unfolding batch_commanded
refused_batch words texts m is same reads = refused_asked batch_in words texts m is same reads

-- an answer by another value that is the same
pub answers : {X E : Type 0} (r : Result X E) (x y : X) → IfOk r (λ z. z ≡ x) → x ≡ y → IfOk r (λ z. z ≡ y)
answers (Ok z) x y h e = h ∙ e
answers (Err f) x y h e = tt
