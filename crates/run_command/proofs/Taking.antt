-- Arguments that are taken off words, one after another.
use Rattle.std.proofs.Common.{◌≡◌, ℕ, ◌-◌, ◌<◌, ◌≤◌, Bool, true, false, ◌&&◌, ◌==◌, if◌then◌else◌, List, [], ◌∷◌, ◌++◌}
use Rattle.std.proofs.Common.{length, get_or, take, drop, Option, Some, None, refl, sym, ap, ◌∙◌, arith, ne_eqb}
use Rattle.std.proofs.lemmas.List.{append-nil, append_assoc, take_rest}
use Rattle.std.specs.Option.{option_map}
use Rattle.jv_base.specs.declared.types.FieldType.{FieldType}
use Rattle.class_run.specs.declared.ended.Arg.{Arg}
use Rattle.class_run.specs.declared.ended.Arg.TheVariants as arg
use Rattle.run_command.specs.Arguments.{arg_in, args_in, as_texts, before, is_texts, texts_in}

-- what was taken, and what is taken of the rest
abbrev pub behind : {A : Type 0} → List A → Option (List A) → Option (List A)
behind xs o = option_map (λ others. xs ++ others) o

-- ---- lists

empty : {A : Type 0} (xs : List A) → length xs < 1 → xs ≡ []
empty [] none = refl
empty (x ∷ xs) none = absurd (omega (arith, none))

-- a list by its first element and the others
pub opened : {A : Type 0} (xs : List A) (x : A) → 1 ≤ length xs → x ≡ get_or xs 0 x
    → xs ≡ x ∷ take (length xs - 1) (drop 1 xs)
opened [] x some is = absurd (omega (arith, some))
opened {A} (y ∷ xs) x some is =
    ap (λ (z : A). z ∷ xs) (sym is) ∙ ap (λ (l : List A). x ∷ l) (sym (take_rest (y ∷ xs) 1))

-- ---- one parameter after another

-- a last String[] takes the words that are left
rest_in : (ty : FieldType) (types : List FieldType) (words : List (List ℕ))
    → (length types == 0 && is_texts ty) ≡ true → args_in (ty ∷ types) words ≡ as_texts (texts_in words)
unfolding args_in
rest_in ty types [] h = rw h refl
rest_in ty types (word ∷ words) h = rw h refl

-- a word is taken
one_in : (ty : FieldType) (types : List FieldType) (word : List ℕ) (words : List (List ℕ)) (o : Option Arg)
    → (length types == 0 && is_texts ty) ≡ false → arg_in ty word ≡ o
    → args_in (ty ∷ types) (word ∷ words) ≡ before o (args_in types words)
unfolding args_in
one_in ty types word words o h e = rw (h, e) refl

-- no word is left
none_in : (ty : FieldType) (types : List FieldType) → (length types == 0 && is_texts ty) ≡ false
    → args_in (ty ∷ types) [] ≡ None
unfolding args_in
none_in ty types h = rw h refl

pub joined : {A : Type 0} (xs : List A) (x : A) (o : Option (List A))
    → behind (xs ++ x ∷ []) o ≡ behind xs (before (Some x) o)
joined xs x None = refl
joined {A} xs x (Some others) = ap (λ (l : List A). let o : Option (List A) = Some l in o) (append_assoc xs (x ∷ []) others)

module _ (total : Option (List Arg)) (args : List Arg) (ty : FieldType) (others types : List FieldType)
    (left : List (List ℕ)) (is : others ≡ ty ∷ types) (so : behind args (args_in others left) ≡ total) where
  -- the same of what the types are
  begun : behind args (args_in (ty ∷ types) left) ≡ total
  begun = ap (λ (l : List FieldType). behind args (args_in l left)) (sym is) ∙ so

  -- the last of them takes the rest
  rest : (length types == 0 && is_texts ty) ≡ true → behind args (as_texts (texts_in left)) ≡ total
  rest last = ap (behind args) (sym (rest_in ty types left last)) ∙ begun

  pub rest_taken : (new : List Arg) (texts : List (List ℕ)) → (length types == 0 && is_texts ty) ≡ true
      → Some texts ≡ texts_in left → new ≡ args ++ arg.Texts texts ∷ [] → Some new ≡ total
  rest_taken new texts last e put =
      ap (λ (l : List Arg). let o : Option (List Arg) = Some l in o) put
      ∙ ap (λ (o : Option (List (List ℕ))). behind args (as_texts o)) e ∙ rest last

  pub rest_refused : (length types == 0 && is_texts ty) ≡ true → None ≡ texts_in left → None ≡ total
  rest_refused last e = ap (λ (o : Option (List (List ℕ))). behind args (as_texts o)) e ∙ rest last

  pub wants_word : (length types == 0 && is_texts ty) ≡ false → length left < 1 → None ≡ total
  wants_word more none =
      ap (behind args) (sym (none_in ty types more))
      ∙ ap (λ (l : List (List ℕ)). behind args (args_in (ty ∷ types) l)) (sym (empty left none)) ∙ begun

  pub no_argument : (word : List ℕ) (words : List (List ℕ)) → (length types == 0 && is_texts ty) ≡ false
      → left ≡ word ∷ words → None ≡ arg_in ty word → None ≡ total
  no_argument word words more one none =
      ap (behind args) (sym (one_in ty types word words None more (sym none)))
      ∙ ap (λ (l : List (List ℕ)). behind args (args_in (ty ∷ types) l)) (sym one) ∙ begun

  pub takes_one : (word : List ℕ) (words : List (List ℕ)) (a : Arg) (new : List Arg)
      → (length types == 0 && is_texts ty) ≡ false → left ≡ word ∷ words → Some a ≡ arg_in ty word
      → new ≡ args ++ a ∷ [] → behind new (args_in types words) ≡ total
  takes_one word words a new more one e put =
      ap (λ (l : List Arg). behind l (args_in types words)) put
      ∙ joined args a (args_in types words)
      ∙ ap (behind args) (sym (one_in ty types word words (Some a) more (sym e)))
      ∙ ap (λ (l : List (List ℕ)). behind args (args_in (ty ∷ types) l)) (sym one) ∙ begun

-- all parameters have their arguments, and no word is left, or one is
pub all_taken : (total : Option (List Arg)) (args : List Arg) (others : List FieldType) (left : List (List ℕ))
    → length others < 1 → behind args (args_in others left) ≡ total
    → (if length left == 0 then Some args else None) ≡ total
unfolding args_in
all_taken total args [] [] none so =
    ap (λ (l : List Arg). let o : Option (List Arg) = Some l in o) (sym (append-nil args)) ∙ so
all_taken total args [] (word ∷ words) none so =
    let some : (length (word ∷ words) == 0) ≡ false = ne_eqb (length (word ∷ words)) 0 (λ e. omega (arith, e)) in
    ap (λ (b : Bool). let o : Option (List Arg) = if b then Some args else None in o) some ∙ so
all_taken total args (ty ∷ types) left none so = absurd (omega (arith, none))
