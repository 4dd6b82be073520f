-- The answer of choose indep (`crush_choose_indep` of Ceph's `mapper.c`).
--
-- There each round tries the undecided positions, and the leaf is found by a recursive call; here
-- the answer is a condition on a finished list: each position has the outcome of its first try that
-- doesn't fail.
use Rattle.std.specs.Prelude.{◌≡◌, ℕ, zero, suc, ◌+◌, ◌<◌, ◌≤◌, ◌&&◌, ◌||◌, List, length, Bool, false, nat_lt, ◌==◌, if◌then◌else◌, Option, Some, None, option_map, slice_index_or, slice_set, replicate}
use Rattle.std.specs.Bool.{then_some}
use Rattle.std.specs.Ordering.{int_eq}
use Rattle.crush_map.specs.crush_types.specs.declared.ItemId.{ItemId}
use Rattle.crush_bucket.specs.Tables.{TablesView, bucket_numbered}
use Rattle.crush_choose.specs.declared.walk.WalkEnd.{WalkEnd}
use Rattle.crush_choose.specs.declared.walk.WalkEnd.TheVariants.{Empty, Wrong, Found}
use Rattle.crush_choose.specs.declared.indep.IndepCall.{IndepCall}
use Rattle.crush_choose.specs.declared.mark.Spot.{Spot}
use Rattle.crush_choose.specs.declared.mark.Mark.{Mark}
use Rattle.crush_choose.specs.declared.mark.Mark.TheVariants.{Skipped, Placed}
use Rattle.crush_choose.specs.Weights.{is_device_in}
use Rattle.crush_choose.specs.Reach.{reach, step}
use Rattle.crush_choose.specs.Least.{least, or_else}
use Rattle.crush_choose.specs.Marks.{Marks, placed_by}
use Rattle.crush_map.specs.declared.limits.TheConstants.{TRIES_LIMIT, COUNT_LIMIT}
use Rattle.crush_choose.specs.declared.limits.TheConstants.{SIZE_LIMIT}

-- a call in range; 0 leaf tries mean that no leaf is required (`recurse_to_leaf` 0), as is always
-- so where devices are looked for
pub record IsIndepCall (t : TablesView) (c : IndepCall) : Type 0 where
  pub bucket : c.bucket < length t.buckets
  pub positions : c.n ≤ SIZE_LIMIT
  pub within : c.n ≤ c.numrep
  pub some_reps : 1 ≤ c.numrep
  pub few_reps : c.numrep ≤ COUNT_LIMIT
  pub some_tries : 1 ≤ c.tries
  pub few_tries : c.tries ≤ TRIES_LIMIT
  pub leaf_tries : c.leaf_tries ≤ TRIES_LIMIT
  pub above_leaves : c.wanted ≡ 0 → c.leaf_tries ≡ 0

-- ---- what is placed

-- whether try g of position q comes before try f of position pos: in an earlier round, or in the
-- same at a smaller position
abbrev pub comes_before : ℕ → ℕ → ℕ → ℕ → Bool
comes_before g q f pos = nat_lt g f || (g == f && nat_lt q pos)

-- what position q got, if it got it before try f of position pos
abbrev pub earlier : ℕ → ℕ → ℕ → Option Mark → Option Spot
earlier f pos q None = None
earlier f pos q (Some Skipped) = None
earlier f pos q (Some (Placed s)) = if comes_before s.round q f pos then Some s else None

abbrev pub is_of : ItemId → Option Spot → Bool
is_of item None = false
is_of item (Some s) = int_eq s.item.0 item.0

-- whether p holds for a number below n
abbrev pub some_below : (ℕ → Bool) → ℕ → Bool
some_below p zero = false
some_below p (suc n) = some_below p n || p n

-- whether a position got the item before try f of position pos
unfoldable pub taken : Marks → ℕ → ℕ → ItemId → Bool
taken marks f pos item = some_below (λ q. is_of item (earlier f pos q (slice_index_or marks q None))) (length marks)

-- ---- the leaf of an item

-- the device that a walk found, if it is in; leaves of different positions aren't compared
abbrev pub leaf_in : List ℕ → ℕ → WalkEnd → Option ItemId
leaf_in w x (Found item r) = then_some (is_device_in w x item) item
leaf_in w x Empty = None
leaf_in w x Wrong = None

-- the leaf that round g finds below a bucket, if it finds one
unfoldable pub indep_leaf_by : TablesView → List ℕ → IndepCall → ℕ → ℕ → ℕ → Option ItemId
indep_leaf_by t w c bucket start g = leaf_in w c.x (reach t c.x (λ k. start + step t c.numrep g k) 0 bucket)

-- the leaf of the first round that finds one
unfoldable pub indep_leaf : TablesView → List ℕ → IndepCall → ℕ → ℕ → Option ItemId
indep_leaf t w c bucket start = least (indep_leaf_by t w c bucket start) c.leaf_tries

-- the leaf of an item: a device that is in is its own leaf; a bucket too, if no leaf is required,
-- else it is a leaf below the bucket
abbrev pub indep_leaf_of : TablesView → List ℕ → IndepCall → ℕ → ItemId → ℕ → Option ℕ → Option ItemId
indep_leaf_of t w c pos item r None = then_some (is_device_in w c.x item) item
indep_leaf_of t w c pos item r (Some bucket) =
    if c.leaf_tries == 0 then Some item else indep_leaf t w c bucket (pos + r)

-- ---- a try

-- the outcome of try f, by where its walk ended: an item that isn't taken is placed if it has a
-- leaf
abbrev pub indep_outcome : TablesView → List ℕ → IndepCall → Marks → ℕ → ℕ → WalkEnd → Option Mark
indep_outcome t w c marks pos f (Found item r) =
    if taken marks f pos item then None
    else option_map (placed_by f item) (indep_leaf_of t w c pos item r (bucket_numbered t item))
indep_outcome t w c marks pos f Empty = None
indep_outcome t w c marks pos f Wrong = Some Skipped

-- the outcome of try f of a position, given the marks of a finished list; none if it fails
unfoldable pub indep_try : TablesView → List ℕ → IndepCall → Marks → ℕ → ℕ → Option Mark
indep_try t w c marks pos f = indep_outcome t w c marks pos f (reach t c.x (λ k. pos + step t c.numrep f k) c.wanted c.bucket)

-- ---- the answer

-- the marks are an answer: each position has the outcome of its first try that doesn't fail
pub record IsIndepAnswer (t : TablesView) (w : List ℕ) (c : IndepCall) (marks : Marks) : Type 0 where
  pub one_each : length marks ≡ c.n
  pub each : (pos : ℕ) → pos < c.n → slice_index_or marks pos None ≡ least (indep_try t w c marks pos) c.tries

-- the marks after a position was tried in round f: unless it is decided already, it has the outcome
-- of the try
abbrev pub after_try : (Marks → ℕ → ℕ → Option Mark) → ℕ → ℕ → Marks → Marks
after_try tries f pos marks = slice_set marks pos (or_else (slice_index_or marks pos None) (tries marks pos f))

-- the marks after the first positions were tried in round f
abbrev pub in_round : (Marks → ℕ → ℕ → Option Mark) → ℕ → ℕ → Marks → Marks
in_round tries f zero marks = marks
in_round tries f (suc pos) marks = after_try tries f pos (in_round tries f pos marks)

-- the marks of n positions after a number of rounds
abbrev pub after_rounds : (Marks → ℕ → ℕ → Option Mark) → ℕ → ℕ → Marks
after_rounds tries n zero = replicate n None
after_rounds tries n (suc rounds) = in_round tries rounds n (after_rounds tries n rounds)

-- the one answer
unfoldable pub indep : TablesView → List ℕ → IndepCall → Marks
indep t w c = after_rounds (indep_try t w c) c.n c.tries
