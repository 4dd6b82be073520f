-- The up lists of a pool's groups, and what moves from them.
use Rattle.std.proofs.Common.{◌≡◌, ◌<◌, ◌≤◌, ◌+◌, ◌∙◌, ℕ, zero, suc, List, [], map, Option, Some, None, option_map, is_some, true, refl, ap, sym, arith}
use Rattle.std.specs.List.{range_with_len, cons_option}
use Rattle.std.proofs.lemmas.Bool.{false≢true}
use Rattle.std.proofs.lemmas.List.FromFn.{get_or-map-range_with_len}
use Rattle.crush_map.specs.Map.{Map}
use Rattle.crush_map.specs.declared.draft.Rule.{Rule}
use Rattle.crush_bucket.specs.Tables.{tables_of}
use Rattle.crush_choose.specs.Marks.{Slot}
use Rattle.crush_choose.specs.Weights.{weights_of}
use Rattle.crush_pool.specs.Placements.{rule_numbered}
use Rattle.crush_pool.specs.Placers.{PoolOnMap, steps_in}
use Rattle.crush_pool.specs.States.{flags_of, reweights}
use Rattle.crush_pool.specs.declared.exceptions.Pair.{Pair}
use Rattle.crush_pool.specs.declared.pool.PoolParts.{PoolParts}
use Rattle.crush_pool.specs.declared.states.DeviceState.{DeviceState}
use Rattle.crush_report.specs.Moves.{move_between, move_rows}
use Rattle.crush_report.specs.OnMaps.{up_on}
use Rattle.crush_report.specs.Reports.{groups, moves, up_by, up_list}
use Rattle.crush_report.proofs.OnMaps.{moves_on}
use Rattle.crush_report.specs.Private.Parts.{list_at}
use Rattle.crush_report.specs.UpLists.{AreUpListsOn}

-- ---- the lists of a pool

-- the up lists by a rule that was looked for
abbrev lists_found : Map → List DeviceState → PoolParts → List Pair → Option Rule → List (List Slot)
lists_found m states p pairs found = map (up_list (tables_of m) (weights_of (reweights states)) (flags_of states) (steps_in found) p pairs) (groups p)

made_by : (m : Map) (states : List DeviceState) (p : PoolParts) (pairs : List Pair) (found : Option Rule) → is_some found ≡ true
    → option_map (λ rule. map (up_by m states p pairs rule) (groups p)) found ≡ Some (lists_found m states p pairs found)
made_by m states p pairs None there = absurd (false≢true there)
made_by m states p pairs (Some rule) there = refl

-- the up lists of all groups are those of the pool
pub lists_on : (p : PoolOnMap) → is_some (rule_numbered p.map p.pool.rule) ≡ true → AreUpListsOn p (map (up_on p) (groups p.pool))
lists_on p there = made_by p.map p.states p.pool p.pairs (rule_numbered p.map p.pool.rule) there

found_by : (m : Map) (states : List DeviceState) (p : PoolParts) (pairs : List Pair) (lists : List (List Slot)) (found : Option Rule)
    → option_map (λ rule. map (up_by m states p pairs rule) (groups p)) found ≡ Some lists
    → (is_some found ≡ true) × (lists ≡ lists_found m states p pairs found)
found_by m states p pairs lists None e = let never : None ≡ Some lists = e in absurd cc
found_by m states p pairs lists (Some rule) e =
    let is : map (up_by m states p pairs rule) (groups p) ≡ lists = cc in
    (refl, sym is)

-- lists that are those of the pool are the up lists of all groups
on_lists : (p : PoolOnMap) (lists : List (List Slot)) → AreUpListsOn p lists → (is_some (rule_numbered p.map p.pool.rule) ≡ true) × (lists ≡ map (up_on p) (groups p.pool))
on_lists p lists are = found_by p.map p.states p.pool p.pairs lists (rule_numbered p.map p.pool.rule) are

-- ---- what moves from them

-- where the old lists of the groups are the same, so are the rows
same_rows : (first second new : ℕ → List Slot) (a n : ℕ) → ((group : ℕ) → a ≤ group → group < a + n → first group ≡ second group)
    → move_rows first new (range_with_len a n) ≡ move_rows second new (range_with_len a n)
same_rows first second new a zero same = refl
same_rows first second new a (suc n) same =
    let rest = same_rows first second new (a + 1) n (λ group le lt. same group (omega (arith, le)) (omega (arith, lt))) in
    ap (λ (old : List Slot). cons_option (move_between a old (new a)) (move_rows first new (range_with_len (a + 1) n))) (same a (omega arith) (omega arith))
    ∙ ap (cons_option (move_between a (second a) (new a))) rest

-- what moves from the lists of a pool on a map is what moves from that map
pub moves_on_lists : (p to : PoolOnMap) (lists : List (List Slot)) → AreUpListsOn p lists → p.states ≡ to.states → p.pool ≡ to.pool → p.pairs ≡ to.pairs
    → is_some (rule_numbered to.map to.pool.rule) ≡ true → Some (move_rows (list_at lists) (up_on to) (groups to.pool)) ≡ moves p.map to.map p.states p.pool p.pairs
moves_on_lists p to lists are states pool pairs there =
    let found = on_lists p lists are in
    let n = p.pool.pg_num in
    let each = same_rows (list_at lists) (up_on p) (up_on to) 0 n
    (λ group le lt. ap (λ (of : List (List Slot)). list_at of group) found.1 ∙ get_or-map-range_with_len (up_on p) 0 n group group [] (omega (arith, lt)) (omega arith)) in
    ap (λ (q : PoolParts). Some (move_rows (list_at lists) (up_on to) (groups q))) (sym pool) ∙ (ap Some each ∙ moves_on p to (sym states) (sym pool) (sym pairs) found.0 there)
