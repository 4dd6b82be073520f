-- Up lists have at most as many slots as the pool's size.
use Rattle.std.proofs.Common.{◌≡◌, ℕ, zero, suc, ◌==◌, cond, if◌then◌else◌, ◌-◌, ◌≤◌, List, [], ◌∷◌, length, take, filter, Bool, true, false, Some, refl, ap, ◌∙◌, arith, length-append}
use Rattle.std.proofs.lemmas.List.{length-map}
use Rattle.crush_bucket.specs.Tables.{TablesView}
use Rattle.crush_map.specs.declared.draft.Step.{Step}
use Rattle.crush_map.specs.declared.draft.Step.TheVariants.{Take, SetChooseTries, SetLeafTries, SetVaryR, SetStable, Choose, Emit}
use Rattle.crush_choose.specs.Marks.{Slot}
use Rattle.crush_choose.specs.Rules.{Running, with_settings, after_step, after_steps, after_rule, rule_answer, start}
use Rattle.crush_choose.specs.Firstn.{slot_has}
use Rattle.crush_map.specs.crush_types.specs.declared.ItemId.{ItemId}
use Rattle.crush_pool.specs.Exceptions.{after_pair, after_pairs, device_item, excepted, exchanged, pairs_of, takes_effect}
use Rattle.crush_pool.specs.declared.exceptions.Pair.{Pair}
use Rattle.crush_pool.specs.Placements.{placed, up_of, is_up_slot, if_up}
use Rattle.std.proofs.lemmas.Bool.Decides.{nat_tests}
use Rattle.crush_pool.specs.Pools.{is_pool, seed_of}
use Rattle.crush_pool.specs.declared.pool.PoolParts.{PoolParts}
use Rattle.crush_report.specs.Reports.{up_list}
use Rattle.crush_choose.specs.declared.limits.TheConstants.{SIZE_LIMIT}
use Rattle.crush_pool.specs.declared.limits.TheConstants.{GROUP_LIMIT}

-- ---- the answer of a rule

take_few : {X : Type 0} (n : ℕ) (xs : List X) → length (take n xs) ≤ n
take_few zero xs = omega arith
take_few (suc n) [] = omega arith
take_few (suc n) (x ∷ xs) = omega (arith, take_few n xs)

emitted_if : (b : Bool) (s u : Running) (size : ℕ) → length s.emitted ≤ size → length u.emitted ≤ size → length (if b then s else u).emitted ≤ size
emitted_if true s u size fs fu = fs
emitted_if false s u size fs fu = fu

step_few : (t : TablesView) (w : List ℕ) (x size : ℕ) (s : Running) (step : Step) → length s.emitted ≤ size → length (after_step t w x size s step).emitted ≤ size
step_few t w x size s (Take item) few = few
step_few t w x size s (SetChooseTries n) few = emitted_if (n == 0) s (with_settings s (record s.settings { tries = n })) size few few
step_few t w x size s (SetLeafTries n) few = emitted_if (n == 0) s (with_settings s (record s.settings { leaf_tries = n })) size few few
step_few t w x size s (SetVaryR n) few = few
step_few t w x size s (SetStable n) few = few
step_few t w x size s (Choose by_firstn leaf n wanted) few = few
step_few t w x size s Emit few =
    omega (arith, few, take_few (size - length s.emitted) s.working, length-append s.emitted (take (size - length s.emitted) s.working))

steps_few : (t : TablesView) (w : List ℕ) (x size : ℕ) (s : Running) (steps : List Step) → length s.emitted ≤ size → length (after_steps t w x size s steps).emitted ≤ size
steps_few t w x size s [] few = few
steps_few t w x size s (step ∷ steps) few = steps_few t w x size (after_step t w x size s step) steps (step_few t w x size s step few)

-- an answer has at most as many slots as the pool's size
pub answer_few : (t : TablesView) (w : List ℕ) (steps : List Step) (x size : ℕ) → length (rule_answer t w steps x size) ≤ size
unfolding after_rule
answer_few t w steps x size = steps_few t w x size (start t.tunables) steps (omega arith)

-- ---- exceptions

-- an exchange leaves as many slots
length-exchanged : (from to : ItemId) (slots : List Slot) → length (exchanged from to slots) ≡ length slots
length-exchanged from to [] = refl
length-exchanged from to (slot ∷ slots) = by (slot_has from slot) (length-exchanged from to slots)
  where
    by : (b : Bool) → length (exchanged from to slots) ≡ length slots → length (cond b (Some to ∷ slots) (slot ∷ exchanged from to slots)) ≡ suc (length slots)
    by true e = refl
    by false e = ap suc e

length-pair : (b : Bool) (p : Pair) (slots : List Slot) → length (cond b (exchanged (device_item p.from) (device_item p.to) slots) slots) ≡ length slots
length-pair true p slots = length-exchanged (device_item p.from) (device_item p.to) slots
length-pair false p slots = refl

length-pairs : (t : TablesView) (w : List ℕ) (pairs : List Pair) (slots : List Slot) → length (after_pairs t w pairs slots) ≡ length slots
length-pairs t w [] slots = refl
length-pairs t w (p ∷ pairs) slots = length-pairs t w pairs (after_pair t w p slots) ∙ length-pair (takes_effect t w p slots) p slots

length-excepted : (t : TablesView) (w : List ℕ) (pairs : List Pair) (group : ℕ) (raw : List Slot) → length (excepted t w pairs group raw) ≡ length raw
length-excepted t w pairs group raw = length-pairs t w (pairs_of pairs group) raw

-- ---- up lists

cons_few : {X : Type 0} (b : Bool) (x : X) (kept : List X) (n : ℕ) → length kept ≤ n → length (cond b (x ∷ kept) kept) ≤ suc n
cons_few true x kept n few = omega (arith, few)
cons_few false x kept n few = omega (arith, few)

pub filter_few : {X : Type 0} (p : X → Bool) (xs : List X) → length (filter p xs) ≤ length xs
filter_few p [] = omega arith
filter_few p (x ∷ xs) = cons_few (p x) x (filter p xs) (length xs) (filter_few p xs)

up_few : (erasure : Bool) (flags : List Bool) (raw : List Slot) → length (up_of erasure flags raw) ≤ length raw
up_few false flags raw = filter_few (is_up_slot flags) raw
up_few true flags raw = omega (arith, length-map raw (if_up flags))

-- an up list has at most as many slots as the pool's size
pub up_short : (t : TablesView) (w : List ℕ) (flags : List Bool) (steps : List Step) (p : PoolParts) (pairs : List Pair) (group : ℕ) → length (up_list t w flags steps p pairs group) ≤ p.size
unfolding placed
up_short t w flags steps p pairs group =
    let raw = rule_answer t w steps (seed_of p group) p.size in
    omega (arith, up_few p.erasure flags (excepted t w pairs group raw), length-excepted t w pairs group raw, answer_few t w steps (seed_of p group) p.size)

-- ---- the numbers of a pool

pub size_few : (p : PoolParts) → is_pool p ≡ true → p.size ≤ SIZE_LIMIT
size_few p is = grind (arith, nat_tests, is)

pub groups_few : (p : PoolParts) → is_pool p ≡ true → p.pg_num ≤ GROUP_LIMIT
groups_few p is = grind (arith, nat_tests, is)
