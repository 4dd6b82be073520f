-- The groups of a pool, one after the other.
use Rattle.std.proofs.Common.{◌≡◌, ℕ, zero, suc, ◌+◌, List, [], ◌∷◌, ◌++◌, cond, map, refl, ap, ◌∙◌, arith}
use Rattle.std.specs.List.{range_with_len, cons_option}
use Rattle.std.proofs.lemmas.List.{map-append}
use Rattle.std.proofs.lemmas.List.Elements.{filter-append, filter_map-append}
use Rattle.crush_bucket.specs.Tables.{TablesView}
use Rattle.crush_map.specs.declared.draft.Step.{Step}
use Rattle.crush_choose.specs.Marks.{Slot}
use Rattle.crush_pool.specs.declared.exceptions.Pair.{Pair}
use Rattle.crush_pool.specs.declared.pool.PoolParts.{PoolParts}
use Rattle.crush_report.specs.Impact.{touches, touched}
use Rattle.crush_report.specs.Moves.{move_between, move_rows}

range_more : (a n : ℕ) → range_with_len a (suc n) ≡ range_with_len a n ++ (a + n) ∷ []
range_more a zero = let e : a + 0 ≡ a = omega arith in rw e refl
range_more a (suc n) =
    let e : a + 1 + n ≡ a + suc n = omega arith in
    let rest : range_with_len (a + 1) (suc n) ≡ range_with_len (a + 1) n ++ (a + suc n) ∷ [] = rw e at (range_more (a + 1) n) in
    ap (λ (r : List ℕ). a ∷ r) rest

-- one more group
pub groups_more : (n : ℕ) → range_with_len 0 (n + 1) ≡ range_with_len 0 n ++ n ∷ []
groups_more n =
    let e : n + 1 ≡ suc n = omega arith in
    let z : 0 + n ≡ n = omega arith in
    rw e (rw z at (range_more 0 n))

pub touched_more : (t : TablesView) (w : List ℕ) (steps : List Step) (p : PoolParts) (pairs : List Pair) (device n : ℕ)
    → touched t w steps p pairs device (range_with_len 0 (n + 1)) ≡ touched t w steps p pairs device (range_with_len 0 n) ++ cond (touches t w steps p pairs device n) (n ∷ []) []
touched_more t w steps p pairs device n =
    ap (touched t w steps p pairs device) (groups_more n) ∙ filter-append (touches t w steps p pairs device) (range_with_len 0 n) (n ∷ [])

pub moves_more : (old new : ℕ → List Slot) (n : ℕ)
    → move_rows old new (range_with_len 0 (n + 1)) ≡ move_rows old new (range_with_len 0 n) ++ cons_option (move_between n (old n) (new n)) []
moves_more old new n =
    ap (move_rows old new) (groups_more n) ∙ filter_map-append (λ group. move_between group (old group) (new group)) (range_with_len 0 n) (n ∷ [])

pub lists_more : (up : ℕ → List Slot) (n : ℕ) → map up (range_with_len 0 (n + 1)) ≡ map up (range_with_len 0 n) ++ up n ∷ []
lists_more up n = ap (map up) (groups_more n) ∙ map-append up (range_with_len 0 n) (n ∷ [])
