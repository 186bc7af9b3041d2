-- What is gathered on a walk: of the classes that it has passed the least kind.
use Rattle.std.proofs.Common.{◌≡◌, List, [], ◌∷◌, ◌++◌, Option, Some, None, refl, sym, ap, ◌∙◌}
use Rattle.std.specs.List.{cons_option, filter_map, flat_map}
use Rattle.std.specs.Option.{option_map_or}
use Rattle.std.proofs.lemmas.List.{append-nil, append_assoc}
use Rattle.std.proofs.lemmas.List.Concat.{flat_map-append}
use Rattle.link_check.specs.declared.fault.ProfileKind.{ProfileKind}
use Rattle.link_check.specs.Profile.{least}
use Rattle.link_check.proofs.Least.{is_none}

-- the least of the kinds of the classes of the whole walk that come before the rest
pub record Gathered {X : Type 0} (f : X → List ProfileKind) (whole rest : List X)
    (kind : Option ProfileKind) : Type 0 where
  pub kinds : List ProfileKind
  pub are : kind ≡ least kinds
  pub all : kinds ++ flat_map f rest ≡ flat_map f whole

pub gathered_none : {X : Type 0} (f : X → List ProfileKind) (whole rest : List X) → rest ≡ whole
    → Gathered f whole rest None
gathered_none f whole rest is = record { kinds = []; are = is_none; all = ap (flat_map f) is }

pub gathered_more : {X : Type 0} (f : X → List ProfileKind) (whole old new : List X) (c : X)
    (kind one next : Option ProfileKind)
    → old ≡ c ∷ new → Gathered f whole old kind → one ≡ least (f c)
    → ((a b : List ProfileKind) → kind ≡ least a → one ≡ least b → next ≡ least (a ++ b)) → Gathered f whole new next
gathered_more f whole old new c kind one next is g here joined = record {
  kinds = g.kinds ++ f c;
  are = joined g.kinds (f c) g.are here;
  all = append_assoc g.kinds (f c) (flat_map f new) ∙ ap (λ cs. g.kinds ++ flat_map f cs) (sym is)
      ∙ g.all;
}

pub gathered_all : {X : Type 0} (f : X → List ProfileKind) (whole rest : List X) (kind : Option ProfileKind)
    → Gathered f whole rest kind
    → rest ≡ [] → kind ≡ least (flat_map f whole)
gathered_all f whole rest kind g over =
    g.are ∙ ap least (sym (append-nil g.kinds) ∙ ap (λ cs. g.kinds ++ flat_map f cs) (sym over)
    ∙ g.all)

-- ---- lists of lists

of_option : {X A : Type 0} (f : X → List A) (o : Option X) (xs : List X)
    → flat_map f (cons_option o xs) ≡ option_map_or f o [] ++ flat_map f xs
of_option f (Some x) xs = refl
of_option f None xs = refl

pub flat_filter : {X Y A : Type 0} (f : Y → List A) (h : X → Option Y) (xs : List X)
    → flat_map f (filter_map h xs) ≡ flat_map (λ x. option_map_or f (h x) []) xs
flat_filter f h [] = refl
flat_filter {X = X} {Y = Y} {A = A} f h (x ∷ xs) = of_option f (h x) (filter_map h xs)
    ∙ ap (λ (ys : List A). option_map_or f (h x) [] ++ ys) (flat_filter f h xs)

pub flat_flat : {X Y A : Type 0} (f : Y → List A) (h : X → List Y) (xs : List X)
    → flat_map f (flat_map h xs) ≡ flat_map (λ x. flat_map f (h x)) xs
flat_flat f h [] = refl
flat_flat {X = X} {Y = Y} {A = A} f h (x ∷ xs) = flat_map-append f (h x) (flat_map h xs)
    ∙ ap (λ (ys : List A). flat_map f (h x) ++ ys) (flat_flat f h xs)
