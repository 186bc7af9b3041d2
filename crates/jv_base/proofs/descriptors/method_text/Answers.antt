-- Answers of `method_text`: what its calls ask for, and what it promises.
use Rattle.std.proofs.Common.{◌≡◌, ℕ, List, ◌++◌, ◌∷◌, [], ap, sym, ◌∙◌, append_assoc}
use Rattle.std.specs.List.{flat_map}
use Rattle.std.specs.Prelude.{string_bytes}
use Rattle.jv_base.specs.Types.{field_text, method_text}
use Rattle.jv_base.proofs.MethodLaw.{read_method-only}
use Rattle.jv_base.proofs.descriptors.method_text.Goals as goal

-- piece by piece
joined : (t u v w x args ret : List ℕ) → t ≡ [] → u ≡ t ++ 40 ∷ [] → v ≡ u ++ args → w ≡ v ++ 41 ∷ [] → x ≡ w ++ ret
    → x ≡ 40 ∷ (args ++ 41 ∷ ret)
joined t u v w x args ret a b c d e =
    e ∙ ap (λ (s : List ℕ). s ++ ret)
    (d ∙ ap (λ (s : List ℕ). s ++ 41 ∷ [])
    (c ∙ ap (λ (s : List ℕ). s ++ args) (b ∙ ap (λ (s : List ℕ). s ++ 40 ∷ []) a)))
    ∙ ap (λ (s : List ℕ). 40 ∷ s) (append_assoc args (41 ∷ []) ret)

pub returns-clause-written : goal.returns-clause-written
unfolding method_text
returns-clause-written c =
    let args = c.args.ty.now.args in
    let parameters = c.in_ok-push_parameters.ensures
    ∙ ap (λ ts. string_bytes c.push_str.new.self ++ flat_map field_text ts) c.as_slice.ensures in
    c.in_ok-from_string.ensures
    ∙ joined _ _ _ _ _
    (flat_map field_text args) _ c.new-text.ensures.bytes c.in_ok-push_str.ensures.bytes parameters
    c.in_ok-push_str-2.ensures.bytes c.in_ok-push_result.ensures

pub returns-clause-read_back : goal.returns-clause-read_back
returns-clause-read_back c = λ is. read_method-only _ c.args.ty.now (is, sym (returns-clause-written c))
