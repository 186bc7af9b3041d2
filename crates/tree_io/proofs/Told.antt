-- What the files are that a map's entries tell.
use Rattle.std.proofs.Common.{◌≡◌, ℕ, cond, List, [], ◌∷◌, Option, Some, refl, sym, ap, ◌∙◌, map}
use Rattle.std.specs.List.{AllByRecursion}
use Rattle.std.specs.List.Sorted.{IsStrictlySortedBy}
use Rattle.std.specs.declared.cmp.Ordering.TheVariants.{Less}
use Rattle.std.proofs.lemmas.List.{nil_from_length}
use Rattle.std.specs.Ordering.{nat_cmp}
use Rattle.std.specs.Cmp.{eq_by_cmp_equiv}
use Rattle.std.specs.Cmp.Lexicographic.{slice_cmp, nat_list_cmp_total}
use Rattle.std.specs.Map.{lookup}
use Rattle.std.specs.BTreeMap.{is_at}
use Rattle.std.specs.FinMap.{find, get, insert, get-from_entries, get-insert, same_map, put, entries, empty}
use Rattle.std.specs.FinMap.{len-entries, len-empty, entries-insert, keys as map_keys}
use Rattle.std.proofs.lemmas.Map.Lookups.{exact_bytes}
use Rattle.tree_io.specs.Memory.{files_of_entries}

abbrev Entries : Type 0
Entries = List (List ℕ × List ℕ)

abbrev pub at : List ℕ → Entries → Option (List ℕ)
at path entries = lookup (is_at (slice_cmp nat_cmp path)) entries

find_at : (es : Entries) (q : List ℕ) → find (slice_cmp nat_cmp) q es ≡ at q es
find_at [] q = refl
find_at (e ∷ es) q = ap (cond (is_at (slice_cmp nat_cmp q) e.0) (Some e.1)) (find_at es q)

-- what the told files have at a path
pub get_told : (es : Entries) (q : List ℕ) → get (files_of_entries es) q ≡ at q es
get_told es q = get-from_entries nat_list_cmp_total es q ∙ find_at es q

-- entries that differ at one path tell files that differ there
pub put_told : (es fs : Entries) (k v : List ℕ)
    → ((q : List ℕ) → at q fs ≡ cond (is_at (slice_cmp nat_cmp k) q) (Some v) (at q es))
    → files_of_entries fs ≡ insert (files_of_entries es) k v
put_told es fs k v h = same_map nat_list_cmp_total exact_bytes _ _ (λ q.
    get_told fs q ∙ h q ∙ ap (λ b. cond b (Some v) (at q es)) ((eq_by_cmp_equiv nat_list_cmp_total).symm k q)
    ∙ sym (get-insert nat_list_cmp_total (files_of_entries es) k v q
    ∙ ap (cond (is_at (slice_cmp nat_cmp q) k) (Some v)) (get_told es q)))

put_front : (k v : List ℕ) (es : Entries) → AllByRecursion (λ y. slice_cmp nat_cmp k y ≡ Less) (map (λ e. e.0) es)
    → put (slice_cmp nat_cmp) k v es ≡ (k, v) ∷ es
put_front k v [] h = refl
put_front k v (f ∷ fs) h = rw h.0 refl

entries_told : (es : Entries) → IsStrictlySortedBy (slice_cmp nat_cmp) (map (λ e. e.0) es)
    → entries (files_of_entries es) ≡ es
unfolding IsStrictlySortedBy
entries_told [] h = nil_from_length _ (sym (len-entries (empty {R = slice_cmp nat_cmp}))
    ∙ len-empty (slice_cmp nat_cmp) (List ℕ))
entries_told (e ∷ es) h = entries-insert nat_list_cmp_total (files_of_entries es) e.0 e.1
    ∙ ap (put (slice_cmp nat_cmp) e.0 e.1) (entries_told es h.1) ∙ put_front e.0 e.1 es h.0

-- the paths of told files, where the entries are in order
pub paths_told : (es : Entries) → IsStrictlySortedBy (slice_cmp nat_cmp) (map (λ e. e.0) es)
    → map_keys (files_of_entries es) ≡ map (λ e. e.0) es
paths_told es h = ap (map (λ (e : List ℕ × List ℕ). e.0)) (entries_told es h)
