-- Answers of `is_place`: what its calls ask for, and what it promises.
use Rattle.std.proofs.Common.{◌-◌, ◌<◌, ℕ, length, nat_lt, arith}
use Rattle.std.proofs.lemmas.Bool.{le-ltb}
use Rattle.std.proofs.lemmas.List.Sums.{prefix_len_is}
use Rattle.method_places.proofs.Grouping.{less_before}
use Rattle.method_places.proofs.places.is_place.Goals as goal

pub returns-else-hint-eq0 : goal.returns-else-hint-eq0
returns-else-hint-eq0 c less =
    let keys = c.args.keys.now in
    let hint : ℕ = c.args.hint in
    let inside : hint < length keys = omega (arith, c.if-hint-keys.false) in
    prefix_len_is (λ key. nat_lt key c.args.key) keys hint 0 (omega (arith, inside))
    (λ k low. less_before keys c.args.key k (hint - 1) c.requires (omega (arith, low)) (omega (arith, inside)) less)
    (λ within. le-ltb _ _ c.if-keys-hint.false)
