-- Lists that share blocks.
use Rattle.std.proofs.Common.{◌≡◌, ℕ, ◌-◌, ◌<◌, List, [], ◌∷◌, ◌++◌, length, drop, get_or, replicate, set}
use Rattle.std.proofs.Common.{refl, sym, ap, subst, ◌∙◌, map, arith}
use Rattle.std.specs.List.{All}
use Rattle.std.proofs.lemmas.List.{get_or-map, get_or_append_left, get_or_push, length-map, length_push, map-set}
use Rattle.std.proofs.lemmas.List.{set-get_or}
use Rattle.std.proofs.lemmas.List.Elements.{All-head, All-map, All-replicate, All-tail}
use Rattle.class_pool.specs.declared.hierarchy.shared_lists.Place.{Place}
use Rattle.class_pool.specs.declared.id.ClassId.{ClassId}
use Rattle.class_pool.specs.bodies.SharedLists.{IsIn, IsTaken, Keeps, Places, StandsBefore, block_at, ids_at, no_places}

-- what is kept stays in all lists
keeps_all : (old new : List Places) (ps : List Place) → Keeps old new → All (IsTaken old) ps
    → map (ids_at new) ps ≡ map (ids_at old) ps
keeps_all old new [] keeps h = refl
keeps_all old new (p ∷ ps) keeps h =
    ap (λ (t : List (List ClassId)). ids_at new p ∷ t) (keeps_all old new ps keeps (All-tail (IsTaken old) p ps h))
    ∙ ap (λ (t : List ClassId). t ∷ map (ids_at old) ps) (keeps p (All-head (IsTaken old) p ps h)).1

-- one more block
pub pushed_keeps : (old : List Places) (b : Places) → Keeps old (old ++ b ∷ [])
pushed_keeps old b p h =
    let at : block_at (old ++ b ∷ []) p ≡ block_at old p = get_or_append_left old (b ∷ []) no_places p.block h.0 in
    let low = h.0 in
    let long = length_push old b in (
      (omega (arith, low, long), subst (λ (x : Places). IsIn x p.start) (sym at) h.1),
      ap (λ (x : Places). drop p.start x.ids) at,
    )

pub put_is : (blocks new : List Places) (ps : List Place) (self : List (List ClassId)) (n : ℕ) (p : Place)
    (ids : List ClassId) → map (ids_at blocks) ps ≡ self → All (IsTaken blocks) ps → Keeps blocks new
    → ids_at new p ≡ ids → map (ids_at new) (set ps n p) ≡ set self n ids
put_is blocks new ps self n p ids view taken keeps is =
    map-set (ids_at new) ps n p
    ∙ ap (λ (t : List (List ClassId)). set t n (ids_at new p)) (keeps_all blocks new ps keeps taken ∙ view)
    ∙ ap (set self n) is

-- the list is a block at the end
pub last_put : (blocks new : List Places) (ps : List Place) (self : List (List ClassId)) (n b : ℕ)
    (xs ids : List ClassId) (block : Places) → map (ids_at blocks) ps ≡ self → All (IsTaken blocks) ps
    → new ≡ blocks ++ block ∷ [] → block ≡ record { first = 0; ids = xs } → b ≡ length blocks → xs ≡ ids
    → map (ids_at new) (set ps n (record { block = b; start = 0 })) ≡ set self n ids
last_put blocks new ps self n b xs ids block view taken new-is block-is at xs-is =
    put_is blocks new ps self n (record { block = b; start = 0 }) ids view taken
    (subst (Keeps blocks) (sym new-is) (pushed_keeps blocks block))
    (ap (λ (t : List Places). ids_at t (record { block = b; start = 0 })) new-is
    ∙ ap (λ (x : Places). x.ids) (get_or_push blocks block no_places b (sym at))
    ∙ ap (λ (x : Places). x.ids) block-is ∙ xs-is)

-- the place of a list changes, and the class before it is put before that list
pub put_before_is : (blocks new : List Places) (ps : List Place) (self : List (List ClassId)) (n b : ℕ) (old p : Place)
    (c : ClassId) → map (ids_at blocks) ps ≡ self → All (IsTaken blocks) ps → Keeps blocks new → b < length self
    → old ≡ get_or ps b old → ids_at new p ≡ ids_at blocks old → StandsBefore (block_at new p) p.start c
    → map (ids_at new) (set (set ps b p) n (record { block = p.block; start = p.start - 1 }))
    ≡ set self n (c ∷ get_or self b [])
put_before_is blocks new ps self n b old p c view taken keeps low old-is same stands =
    let long = length-map ps (ids_at blocks) in
    let all = ap (λ (t : List (List ClassId)). length t) view in
    let kept : map (ids_at new) ps ≡ self = keeps_all blocks new ps keeps taken ∙ view in
    let list : ids_at new p ≡ get_or self b [] =
    same ∙ ap (ids_at blocks) old-is ∙ sym (get_or-map (ids_at blocks) ps b old [] (omega (arith, low, long, all)))
    ∙ ap (λ (t : List (List ClassId)). get_or t b []) view in
    let behind : map (ids_at new) (set ps b p) ≡ self =
    map-set (ids_at new) ps b p
    ∙ ap (λ (t : List (List ClassId)). set t b (ids_at new p)) kept
    ∙ ap (set self b) list
    ∙ set-get_or self b [] in
    map-set (ids_at new) (set ps b p) n (record { block = p.block; start = p.start - 1 })
    ∙ ap (λ (t : List (List ClassId)). set t n (drop (p.start - 1) (block_at new p).ids)) behind
    ∙ ap (set self n) (stands.1 ∙ ap (λ (t : List ClassId). c ∷ t) list)

-- lists without classes
pub none_all : (blocks : List Places) (n : ℕ) (p : Place) (ps : List Place) → ps ≡ replicate n p → ids_at blocks p ≡ []
    → All (λ ids. ids ≡ []) (map (ids_at blocks) ps)
none_all blocks n p ps is none =
    All-map (λ ids. ids ≡ []) (ids_at blocks) ps
    (subst (All (λ q. ids_at blocks q ≡ [])) (sym is) (All-replicate (λ q. ids_at blocks q ≡ []) n p none))
