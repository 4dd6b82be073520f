-- The answer of a rule and its trace (`crush_do_rule` of Ceph's `mapper.c`).
--
-- There the steps work on two arrays that are swapped; here they are folded over the settings, a
-- working list and the answer so far.
use Rattle.std.specs.Prelude.{◌≡◌, ℕ, ℤ, pos, negsuc, zero, suc, ◌+◌, ◌-◌, ◌==◌, nat_lt, List, [], ◌∷◌, ◌++◌, length, map, take, min, Bool, true, if◌then◌else◌, Option, Some, None}
use Rattle.std.specs.List.Sorted.{IsStrictlyIncreasing}
use Rattle.crush_map.specs.declared.draft.Rule.{Rule}
use Rattle.crush_map.specs.declared.draft.Tunables.{Tunables}
use Rattle.crush_map.specs.declared.draft.Step.{Step}
use Rattle.crush_map.specs.declared.draft.Step.TheVariants.{Take, SetChooseTries, SetLeafTries, SetVaryR, SetStable, Choose, Emit}
use Rattle.crush_map.specs.Faults.{SymbolTable, rule_fault, are_in_range, has_number}
use Rattle.crush_bucket.specs.Tables.{TablesView, bucket_numbered}
use Rattle.crush_choose.specs.declared.firstn.FirstnCall.{FirstnCall}
use Rattle.crush_choose.specs.declared.indep.IndepCall.{IndepCall}
use Rattle.crush_choose.specs.Marks.{Slot, items_of, leaves_of, item_at, leaf_at}
use Rattle.crush_choose.specs.Firstn.{firstn}
use Rattle.crush_choose.specs.Indep.{indep}

-- the rule has no fault given some declarations, and the tunables are in range, as for every rule
-- of a map
pub record CanRun (t : TablesView) (rule : Rule) : Type 0 where
  pub known : SymbolTable
  pub faultless : rule_fault known rule ≡ None
  pub tunables : are_in_range t.tunables ≡ true

-- ---- the output of a choose step

-- the parameters of a choose step, the same for each bucket of the working list: firstn or else
-- indep; chooseleaf or else choose; the input x; how many items, of which type; and the settings
pub record ChooseCall : Type 0 where
  pub firstn : Bool
  pub leaf : Bool
  pub x : ℕ
  pub numrep : ℕ
  pub wanted : ℕ
  pub tries : ℕ
  pub leaf_tries : ℕ
  pub vary_r : ℕ
  pub stable : ℕ

-- the call for a bucket, with room for a number of items
abbrev pub firstn_call : ChooseCall → ℕ → ℕ → FirstnCall
firstn_call c room bucket =
    record { bucket = bucket; x = c.x; numrep = c.numrep; room = room; wanted = c.wanted; tries = c.tries; leaf_tries = c.leaf_tries; vary_r = c.vary_r; stable = c.stable }

abbrev pub indep_call : ChooseCall → ℕ → ℕ → IndepCall
indep_call c room bucket =
    record { bucket = bucket; x = c.x; n = min c.numrep room; numrep = c.numrep; wanted = c.wanted; tries = c.tries; leaf_tries = c.leaf_tries }

-- the output of one bucket, with room for a number of items: the items, or for chooseleaf their
-- leaves
unfoldable pub put_out : TablesView → List ℕ → ChooseCall → ℕ → ℕ → List Slot
put_out t w c room bucket =
    if c.numrep == 0 then []
    else (if c.firstn then
    (let marks = firstn t w (firstn_call c room bucket) in if c.leaf then leaves_of marks else items_of marks)
    else
    (let marks = indep t w (indep_call c room bucket) in if c.leaf then map leaf_at marks else map item_at marks))

abbrev pub bucket_out : TablesView → List ℕ → ChooseCall → ℕ → Option ℕ → List Slot
bucket_out t w c room None = []
bucket_out t w c room (Some bucket) = put_out t w c room bucket

-- the output of one slot of the working list: nothing for a device or an empty slot
abbrev pub slot_out : TablesView → List ℕ → ChooseCall → ℕ → Slot → List Slot
slot_out t w c room None = []
slot_out t w c room (Some item) = bucket_out t w c room (bucket_numbered t item)

-- the output of a working list, in order: each bucket has the room that those before it left
abbrev pub step_out : TablesView → List ℕ → ChooseCall → ℕ → List Slot → List Slot
step_out t w c room [] = []
step_out t w c room (slot ∷ slots) =
    let out = slot_out t w c room slot in
    out ++ step_out t w c (room - length out) slots

-- ---- settings

-- the settings for the steps to come; leaf tries are 0 until a step sets them
pub record Settings : Type 0 where
  pub tries : ℕ
  pub leaf_tries : ℕ
  pub vary_r : ℕ
  pub stable : ℕ

-- the settings before the first step, from the map's tunables; choose_total_tries counts the tries
-- after the first, so there is one more
abbrev pub settings_of : Tunables → Settings
settings_of t = record { tries = t.total_tries + 1; leaf_tries = 0; vary_r = t.vary_r; stable = t.stable }

-- tries for a leaf: those that a step set; else one, or for firstn that doesn't descend once as
-- many as for an item
abbrev pub leaf_tries : Tunables → Settings → Bool → ℕ
leaf_tries t s by_firstn =
    if nat_lt 0 s.leaf_tries then s.leaf_tries
    else (if by_firstn then (if t.descend_once == 1 then 1 else s.tries) else 1)

-- how many items a choose step with count n asks for: n if it is above 0, else size + n, or 0 if
-- that is below 0
abbrev pub reps : ℤ → ℕ → ℕ
reps (pos zero) size = size
reps (pos (suc n)) size = suc n
reps (negsuc n) size = size - suc n

-- the parameters of a choose step
abbrev pub choose_call : Tunables → Settings → ℕ → ℕ → Bool → Bool → ℤ → ℕ → ChooseCall
choose_call t s x size by_firstn leaf n wanted =
    record { firstn = by_firstn; leaf = leaf; x = x; numrep = reps n size; wanted = wanted; tries = s.tries; leaf_tries = if leaf then leaf_tries t s by_firstn else 0; vary_r = s.vary_r; stable = s.stable }

-- ---- a rule

abbrev pub devices_before : ℤ → List ℕ → List ℕ
devices_before (pos device) devices = device ∷ devices
devices_before (negsuc n) devices = devices

-- the devices among slots
abbrev pub devices_of : List Slot → List ℕ
devices_of [] = []
devices_of (None ∷ slots) = devices_of slots
devices_of (Some item ∷ slots) = devices_before item.0 (devices_of slots)

-- the state of a rule that runs: the settings, the working list, the answer so far, and the devices
-- in the outputs of choose steps
pub record Running : Type 0 where
  pub settings : Settings
  pub working : List Slot
  pub emitted : List Slot
  pub made : List ℕ

abbrev pub start : Tunables → Running
start t = record { settings = settings_of t; working = []; emitted = []; made = [] }

abbrev pub with_settings : Running → Settings → Running
with_settings s settings = record s { settings = settings }

abbrev pub with_chosen : Running → List Slot → Running
with_chosen s out = record s { working = out; made = s.made ++ devices_of out }

abbrev pub after_step : TablesView → List ℕ → ℕ → ℕ → Running → Step → Running
after_step t w x size s (Take item) = record s { working = Some item ∷ [] }
after_step t w x size s (SetChooseTries n) = if n == 0 then s else with_settings s (record s.settings { tries = n })
after_step t w x size s (SetLeafTries n) = if n == 0 then s else with_settings s (record s.settings { leaf_tries = n })
after_step t w x size s (SetVaryR n) = with_settings s (record s.settings { vary_r = n })
after_step t w x size s (SetStable n) = with_settings s (record s.settings { stable = n })
after_step t w x size s (Choose by_firstn leaf n wanted) =
    with_chosen s (step_out t w (choose_call t.tunables s.settings x size by_firstn leaf n wanted) size s.working)
after_step t w x size s Emit = record s { working = []; emitted = s.emitted ++ take (size - length s.emitted) s.working }

-- the steps in order
abbrev pub after_steps : TablesView → List ℕ → ℕ → ℕ → Running → List Step → Running
after_steps t w x size s [] = s
after_steps t w x size s (step ∷ steps) = after_steps t w x size (after_step t w x size s step) steps

unfoldable pub after_rule : TablesView → List ℕ → List Step → ℕ → ℕ → Running
after_rule t w steps x size = after_steps t w x size (start t.tunables) steps

-- the answer of a rule
abbrev pub rule_answer : TablesView → List ℕ → List Step → ℕ → ℕ → List Slot
rule_answer t w steps x size = (after_rule t w steps x size).emitted

-- the trace of a rule's run: each device in the output of a choose step, once and in ascending
-- order
pub record IsTrace (t : TablesView) (w : List ℕ) (steps : List Step) (x size : ℕ) (trace : List ℕ) : Type 0 where
  pub rising : IsStrictlyIncreasing trace
  pub each : (device : ℕ) → has_number trace device ≡ has_number (after_rule t w steps x size).made device
