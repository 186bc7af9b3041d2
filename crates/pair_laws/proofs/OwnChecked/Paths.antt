-- Paths below a directory, and paths elsewhere.
use Rattle.std.proofs.Common.{◌≡◌, ◌≢◌, ◌⊎◌, inl, inr, ℕ, ◌==◌, ◌||◌, Bool, true, false, List, [], ◌∷◌, ◌++◌, map, Option}
use Rattle.std.proofs.Common.{Some, None, refl, sym, ap, ◌∙◌, append_assoc, codes}
use Rattle.std.specs.List.{AllByRecursion, list_any}
use Rattle.std.proofs.lemmas.Bool.{and_from, eq-eqb, or_parts}
use Rattle.jv_base.specs.Names.{is_text}
use Rattle.jv_base.proofs.Equality.{text_is}
use Rattle.tree_io.specs.Below.{front_of, rest_after}
use Rattle.tree_io.specs.declared.file_at.FileAt.{FileAt}
use Rattle.tree_io.proofs.Below.{behind}
use Rattle.path_text.specs.Path.{is_below}
use Rattle.keep_rules.specs.Paths.{is_below_file, meets, meets_file}
use Rattle.pair_laws.specs.FilesFound.Below.{IsElsewhere}

-- ---- one directory

below_front : (directory rest : List ℕ) → is_below (directory ++ 47 ∷ rest) directory ≡ true
below_front [] rest = refl
below_front (d ∷ directory) rest =
    and_from (d == d) (is_below (directory ++ 47 ∷ rest) directory) (eq-eqb d d refl) (below_front directory rest)

-- a path that begins with the front of a directory lies below it
pub lies_below : (directory path rest : List ℕ) → path ≡ front_of directory ++ rest → is_below path directory ≡ true
lies_below directory path rest is =
    ap (λ p. is_below p directory) (is ∙ append_assoc directory (codes "/") rest) ∙ below_front directory rest

no_front : (directory path : List ℕ) → ((rest : List ℕ) → path ≡ front_of directory ++ rest → ⊥)
    → rest_after (front_of directory) path ≡ None
no_front directory path none = by (rest_after (front_of directory) path) refl
  where
    by : (o : Option (List ℕ)) → rest_after (front_of directory) path ≡ o → o ≡ None
    by None is = refl
    by (Some rest) is = absurd (none rest (behind (front_of directory) path rest is))

pub is_elsewhere : (directory path : List ℕ) → is_below path directory ≡ false
    → rest_after (front_of directory) path ≡ None
is_elsewhere directory path outside =
    no_front directory path
    (λ rest is. let wrong : false ≡ true = sym outside ∙ lies_below directory path rest is in absurd cc)

-- ---- two directories

-- they are one, or one of them lies below the other
abbrev Meet : List ℕ → List ℕ → Type 0
Meet a b = (is_text a b ≡ true) ⊎ ((is_below a b ≡ true) ⊎ (is_below b a ≡ true))

both : (c d : ℕ) (a b : List ℕ) → c ≡ d → Meet a b → Meet (c ∷ a) (d ∷ b)
both c d a b same (inl one) = inl (and_from (c == d) (is_text a b) (eq-eqb c d same) one)
both c d a b same (inr (inl one)) = inr (inl (and_from (c == d) (is_below a b) (eq-eqb c d same) one))
both c d a b same (inr (inr one)) = inr (inr (and_from (d == c) (is_below b a) (eq-eqb d c (sym same)) one))

meet : (a b x y : List ℕ) → a ++ 47 ∷ x ≡ b ++ 47 ∷ y → Meet a b
meet [] [] x y same = inl refl
meet [] (d ∷ b) x y same = let first : 47 ≡ d = cc in inr (inr (ap (λ n. n == 47) (sym first)))
meet (c ∷ a) [] x y same = let first : c ≡ 47 = cc in inr (inl (ap (λ n. n == 47) first))
meet (c ∷ a) (d ∷ b) x y same =
    let first : c ≡ d = cc in
    let rest : a ++ 47 ∷ x ≡ b ++ 47 ∷ y = cc in
    both c d a b first (meet a b x y rest)

-- what lies below one of two directories that don't meet doesn't lie below the other
pub not_below_other : (one other path rest : List ℕ) → is_text one other ≡ false → is_below one other ≡ false
    → is_below other one ≡ false → path ≡ front_of other ++ rest → rest_after (front_of one) path ≡ None
not_below_other one other path rest no_text no_below no_above is =
    no_front one path
    (λ x there.
    apart (meet one other x rest
    (sym (append_assoc one (codes "/") x) ∙ sym there ∙ is ∙ append_assoc other (codes "/") rest)))
  where
    apart : Meet one other → ⊥
    apart (inl it) = let wrong : false ≡ true = sym no_text ∙ it in absurd cc
    apart (inr (inl it)) = let wrong : false ≡ true = sym no_below ∙ it in absurd cc
    apart (inr (inr it)) = let wrong : false ≡ true = sym no_above ∙ it in absurd cc

-- ---- paths of files

-- a path that is none of those of files
pub none_of : (path : List ℕ) (files : List FileAt)
    → list_any (is_text path) (map (λ (f : FileAt). f.path) files) ≡ false
    → AllByRecursion (λ (f : FileAt). path ≢ f.path) files
none_of path [] none = tt
none_of path (f ∷ files) none =
    let parts = or_parts (is_text path f.path) (list_any (is_text path) (map (λ (f : FileAt). f.path) files)) none in (
      (λ same. let wrong : false ≡ true = sym parts.0 ∙ text_is path f.path same in absurd cc),
      none_of path files parts.1,
    )

-- where a test is false of each, so is one that asks for more
pub any_less : (p q : List ℕ → Bool) → ((path : List ℕ) → p path ≡ false → q path ≡ false) → (paths : List (List ℕ))
    → list_any p paths ≡ false → list_any q paths ≡ false
any_less p q less [] none = refl
any_less p q less (path ∷ paths) none =
    let parts = or_parts (p path) (list_any p paths) none in
    ap (λ b. b || list_any q paths) (less path parts.0) ∙ any_less p q less paths parts.1

-- ---- paths that don't meet

-- two paths that don't meet are two, and neither lies below the other
pub record AreApart (a b : List ℕ) : Type 0 where
  pub no_text : is_text a b ≡ false
  pub not_below : is_below a b ≡ false
  pub not_above : is_below b a ≡ false

pub are_apart : (a b : List ℕ) → meets a b ≡ false → AreApart a b
are_apart a b h =
    let two = or_parts (is_text a b || is_below a b) (is_below b a) h in
    let one = or_parts (is_text a b) (is_below a b) two.0 in
    record { no_text = one.0; not_below = one.1; not_above = two.1 }

-- a path that a file doesn't meet is another one
pub another_file : (path file : List ℕ) → meets_file path file ≡ false → is_text path file ≡ false
another_file path file h =
    let two = or_parts (is_text path file || is_below_file path file) (is_below file path) h in
    (or_parts (is_text path file) (is_below_file path file) two.0).0

-- a file that a directory doesn't meet doesn't lie below it
not_below_directory : (directory file : List ℕ) → meets_file directory file ≡ false → is_below file directory ≡ false
not_below_directory directory file h =
    (or_parts (is_text directory file || is_below_file directory file) (is_below file directory) h).1

-- files that a directory doesn't meet are elsewhere
pub all_elsewhere : (directory : List ℕ) (files : List FileAt)
    → list_any (meets_file directory) (map (λ (f : FileAt). f.path) files) ≡ false
    → AllByRecursion (IsElsewhere directory) files
all_elsewhere directory [] none = tt
all_elsewhere directory (f ∷ files) none =
    let parts = or_parts (meets_file directory f.path) (list_any (meets_file directory) (map (λ (f : FileAt). f.path) files)) none
    in (
      is_elsewhere directory f.path (not_below_directory directory f.path parts.0),
      all_elsewhere directory files parts.1,
    )
