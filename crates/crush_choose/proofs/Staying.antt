-- A run of a rule stays where reweights fall outside its trace.
use Rattle.std.proofs.Common.{◌≡◌, ℕ, ◌-◌, ◌<◌, ◌≢◌, ◌==◌, ◌||◌, ℤ, pos, negsuc, List, [], ◌∷◌, ◌++◌, length, map, Bool, true, false, if◌then◌else◌, Option, Some, None, refl, ap, sym, ◌∙◌, arith, ◌⊎◌, inl, inr}
use Rattle.std.proofs.Math.Nat.{eq-or-lt_of_le}
use Rattle.std.proofs.lemmas.Bool.Decides.{nat_tests}
use Rattle.std.proofs.lemmas.List.Folds.{list_any-append}
use Rattle.crush_map.specs.Faults.{has_number}
use Rattle.crush_map.specs.declared.draft.Step.{Step}
use Rattle.crush_map.specs.declared.draft.Step.TheVariants.{Take, SetChooseTries, SetLeafTries, SetVaryR, SetStable, Choose, Emit}
use Rattle.crush_bucket.specs.Tables.{TablesView, bucket_numbered}
use Rattle.crush_choose.specs.declared.mark.Mark.TheVariants.{Skipped, Placed}
use Rattle.crush_choose.specs.Weights.{weight_at, is_in, id_is_in}
use Rattle.crush_choose.specs.Marks.{Marks, Slot, items_of, leaves_of, item_at, leaf_at}
use Rattle.crush_choose.specs.Firstn.{firstn}
use Rattle.crush_choose.specs.Indep.{indep}
use Rattle.crush_choose.specs.Rules.{ChooseCall, firstn_call, indep_call, put_out, bucket_out, slot_out, step_out, choose_call, leaf_tries, devices_of, devices_before, Running, start, with_chosen, after_step, after_steps, after_rule, rule_answer, IsTrace}
use Rattle.crush_choose.specs.Stability.{AreLoweredOutside}
use Rattle.crush_choose.proofs.Lowering.{IsLower, Stays, PutsOut, AllStay, firstn_stays, indep_stays}

-- ---- what is put out

-- each item among slots stays in or out
abbrev SlotsStay : List ℕ → List ℕ → ℕ → List Slot → Type 0
SlotsStay w v x [] = Unit {0}
SlotsStay w v x (None ∷ slots) = SlotsStay w v x slots
SlotsStay w v x (Some item ∷ slots) = Stays w v x item × SlotsStay w v x slots

stay_before : (w v : List ℕ) (x : ℕ) (slots others : List Slot) → SlotsStay w v x (slots ++ others) → SlotsStay w v x slots
stay_before w v x [] others stay = tt
stay_before w v x (None ∷ slots) others stay = stay_before w v x slots others stay
stay_before w v x (Some item ∷ slots) others stay = (stay.0, stay_before w v x slots others stay.1)

stay_after : (w v : List ℕ) (x : ℕ) (slots others : List Slot) → SlotsStay w v x (slots ++ others) → SlotsStay w v x others
stay_after w v x [] others stay = stay
stay_after w v x (None ∷ slots) others stay = stay_after w v x slots others stay
stay_after w v x (Some item ∷ slots) others stay = stay_after w v x slots others stay.1

-- where what marks put out stays, so do they: closed up, as firstn puts out
closed_leaves : (w v : List ℕ) (x : ℕ) (marks : Marks) → SlotsStay w v x (leaves_of marks) → AllStay w v x true marks
closed_leaves w v x [] stay = tt
closed_leaves w v x (None ∷ marks) stay = closed_leaves w v x marks stay
closed_leaves w v x (Some Skipped ∷ marks) stay = (tt, closed_leaves w v x marks stay)
closed_leaves w v x (Some (Placed s) ∷ marks) stay = (stay.0, closed_leaves w v x marks stay.1)

closed_items : (w v : List ℕ) (x : ℕ) (marks : Marks) → SlotsStay w v x (items_of marks) → AllStay w v x false marks
closed_items w v x [] stay = tt
closed_items w v x (None ∷ marks) stay = closed_items w v x marks stay
closed_items w v x (Some Skipped ∷ marks) stay = (tt, closed_items w v x marks stay)
closed_items w v x (Some (Placed s) ∷ marks) stay = (stay.0, closed_items w v x marks stay.1)

-- position by position, as indep puts out
kept_leaves : (w v : List ℕ) (x : ℕ) (marks : Marks) → SlotsStay w v x (map leaf_at marks) → AllStay w v x true marks
kept_leaves w v x [] stay = tt
kept_leaves w v x (None ∷ marks) stay = kept_leaves w v x marks stay
kept_leaves w v x (Some Skipped ∷ marks) stay = (tt, kept_leaves w v x marks stay)
kept_leaves w v x (Some (Placed s) ∷ marks) stay = (stay.0, kept_leaves w v x marks stay.1)

kept_items : (w v : List ℕ) (x : ℕ) (marks : Marks) → SlotsStay w v x (map item_at marks) → AllStay w v x false marks
kept_items w v x [] stay = tt
kept_items w v x (None ∷ marks) stay = kept_items w v x marks stay
kept_items w v x (Some Skipped ∷ marks) stay = (tt, kept_items w v x marks stay)
kept_items w v x (Some (Placed s) ∷ marks) stay = (stay.0, kept_items w v x marks stay.1)

-- ---- one bucket

firstn_out : (t : TablesView) (w v : List ℕ) (c : ChooseCall) (leaf : Bool) (room bucket : ℕ) → IsLower w v → PutsOut leaf c.leaf_tries
    → SlotsStay w v c.x (if leaf then leaves_of (firstn t w (firstn_call c room bucket)) else items_of (firstn t w (firstn_call c room bucket)))
    → firstn t v (firstn_call c room bucket) ≡ firstn t w (firstn_call c room bucket)
firstn_out t w v c true room bucket lower out stay = firstn_stays t w v (firstn_call c room bucket) true lower out (closed_leaves w v c.x (firstn t w (firstn_call c room bucket)) stay)
firstn_out t w v c false room bucket lower out stay = firstn_stays t w v (firstn_call c room bucket) false lower out (closed_items w v c.x (firstn t w (firstn_call c room bucket)) stay)

indep_out : (t : TablesView) (w v : List ℕ) (c : ChooseCall) (leaf : Bool) (room bucket : ℕ) → IsLower w v → PutsOut leaf c.leaf_tries
    → SlotsStay w v c.x (if leaf then map leaf_at (indep t w (indep_call c room bucket)) else map item_at (indep t w (indep_call c room bucket)))
    → indep t v (indep_call c room bucket) ≡ indep t w (indep_call c room bucket)
indep_out t w v c true room bucket lower out stay = indep_stays t w v (indep_call c room bucket) true lower out (kept_leaves w v c.x (indep t w (indep_call c room bucket)) stay)
indep_out t w v c false room bucket lower out stay = indep_stays t w v (indep_call c room bucket) false lower out (kept_items w v c.x (indep t w (indep_call c room bucket)) stay)

-- what a bucket puts out, by whether the step asks for none and whether it goes by firstn
abbrev put_by : Bool → Bool → Bool → Marks → Marks → List Slot
put_by none by_firstn leaf in_order by_position =
    if none then []
    else (if by_firstn then (if leaf then leaves_of in_order else items_of in_order) else (if leaf then map leaf_at by_position else map item_at by_position))

put_stays : (t : TablesView) (w v : List ℕ) (c : ChooseCall) (none by_firstn : Bool) (room bucket : ℕ) → IsLower w v → PutsOut c.leaf c.leaf_tries
    → SlotsStay w v c.x (put_by none by_firstn c.leaf (firstn t w (firstn_call c room bucket)) (indep t w (indep_call c room bucket)))
    → put_by none by_firstn c.leaf (firstn t v (firstn_call c room bucket)) (indep t v (indep_call c room bucket))
    ≡ put_by none by_firstn c.leaf (firstn t w (firstn_call c room bucket)) (indep t w (indep_call c room bucket))
put_stays t w v c true by_firstn room bucket lower out stay = refl
put_stays t w v c false true room bucket lower out stay = rw (firstn_out t w v c c.leaf room bucket lower out stay) refl
put_stays t w v c false false room bucket lower out stay = rw (indep_out t w v c c.leaf room bucket lower out stay) refl

bucket_stays : (t : TablesView) (w v : List ℕ) (c : ChooseCall) (room : ℕ) (bucket : Option ℕ) → IsLower w v → PutsOut c.leaf c.leaf_tries
    → SlotsStay w v c.x (bucket_out t w c room bucket) → bucket_out t v c room bucket ≡ bucket_out t w c room bucket
unfolding put_out
bucket_stays t w v c room None lower out stay = refl
bucket_stays t w v c room (Some bucket) lower out stay = put_stays t w v c (c.numrep == 0) c.firstn room bucket lower out stay

slot_stays : (t : TablesView) (w v : List ℕ) (c : ChooseCall) (room : ℕ) (slot : Slot) → IsLower w v → PutsOut c.leaf c.leaf_tries
    → SlotsStay w v c.x (slot_out t w c room slot) → slot_out t v c room slot ≡ slot_out t w c room slot
slot_stays t w v c room None lower out stay = refl
slot_stays t w v c room (Some item) lower out stay = bucket_stays t w v c room (bucket_numbered t item) lower out stay

-- ---- one step

out_stays : (t : TablesView) (w v : List ℕ) (c : ChooseCall) (room : ℕ) (slots : List Slot) → IsLower w v → PutsOut c.leaf c.leaf_tries
    → SlotsStay w v c.x (step_out t w c room slots) → step_out t v c room slots ≡ step_out t w c room slots
out_stays t w v c room [] lower out stay = refl
out_stays t w v c room (slot ∷ slots) lower out stay =
    let here : slot_out t v c room slot ≡ slot_out t w c room slot = slot_stays t w v c room slot lower out (stay_before w v c.x (slot_out t w c room slot) (step_out t w c (room - length (slot_out t w c room slot)) slots) stay) in
    let rest : step_out t v c (room - length (slot_out t w c room slot)) slots ≡ step_out t w c (room - length (slot_out t w c room slot)) slots =
    out_stays t w v c (room - length (slot_out t w c room slot)) slots lower out (stay_after w v c.x (slot_out t w c room slot) (step_out t w c (room - length (slot_out t w c room slot)) slots) stay) in
    rw here (rw rest refl)

-- reweights that are the same for each device among slots
in_same : (w v : List ℕ) (x device : ℕ) → weight_at v device ≡ weight_at w device → is_in v x device ≡ is_in w x device
unfolding is_in
in_same w v x device same = rw same refl

-- the second reweights are the same for each of the devices
abbrev AreSame : List ℕ → List ℕ → List ℕ → Type 0
AreSame w v devices = (device : ℕ) → has_number devices device ≡ true → weight_at v device ≡ weight_at w device

pub or_left : (a b : Bool) → a ≡ true → (a || b) ≡ true
or_left true b e = refl
or_left false b e = absurd cc

or_right : (a b : Bool) → b ≡ true → (a || b) ≡ true
or_right true b e = refl
or_right false b e = e

same_before : (w v a b : List ℕ) → AreSame w v (a ++ b) → AreSame w v a
same_before w v a b same device has = same device (list_any-append (λ n. n == device) a b ∙ or_left _ _ has)

same_after : (w v a b : List ℕ) → AreSame w v (a ++ b) → AreSame w v b
same_after w v a b same device has = same device (list_any-append (λ n. n == device) a b ∙ or_right (has_number a device) _ has)

pub is_itself : (n : ℕ) → (n == n) ≡ true
is_itself n = grind (arith, nat_tests)

id_stays : (w v : List ℕ) (x : ℕ) (id : ℤ) (devices : List ℕ) → AreSame w v (devices_before id devices) → id_is_in v x id ≡ id_is_in w x id
id_stays w v x (pos device) devices same = in_same w v x device (same device (or_left _ _ (is_itself device)))
id_stays w v x (negsuc n) devices same = refl

others_same : (w v : List ℕ) (id : ℤ) (devices : List ℕ) → AreSame w v (devices_before id devices) → AreSame w v devices
others_same w v (pos device) devices same = λ other has. same other (or_right (device == other) _ has)
others_same w v (negsuc n) devices same = same

devices_stay : (w v : List ℕ) (x : ℕ) (slots : List Slot) → AreSame w v (devices_of slots) → SlotsStay w v x slots
devices_stay w v x [] same = tt
devices_stay w v x (None ∷ slots) same = devices_stay w v x slots same
devices_stay w v x (Some item ∷ slots) same =
    (id_stays w v x item.0 (devices_of slots) same, devices_stay w v x slots (others_same w v item.0 (devices_of slots) same))

choose_puts_out : (leaf : Bool) (n : ℕ) → PutsOut leaf (if leaf then n else 0)
choose_puts_out true n e = absurd cc
choose_puts_out false n e = refl

-- what is set and what was made under the first reweights is so under the second
step_stays : (t : TablesView) (w v : List ℕ) (x size : ℕ) (s : Running) (step : Step) → IsLower w v → AreSame w v (after_step t w x size s step).made
    → after_step t v x size s step ≡ after_step t w x size s step
step_stays t w v x size s (Take item) lower same = refl
step_stays t w v x size s (SetChooseTries n) lower same = refl
step_stays t w v x size s (SetLeafTries n) lower same = refl
step_stays t w v x size s (SetVaryR n) lower same = refl
step_stays t w v x size s (SetStable n) lower same = refl
step_stays t w v x size s (Choose by_firstn leaf n wanted) lower same =
    let call : ChooseCall = choose_call t.tunables s.settings x size by_firstn leaf n wanted in
    ap (λ (out : List Slot). with_chosen s out)
    (out_stays t w v call size s.working lower (choose_puts_out leaf (leaf_tries t.tunables s.settings by_firstn))
    (devices_stay w v x (step_out t w call size s.working) (same_after w v s.made (devices_of (step_out t w call size s.working)) same)))
step_stays t w v x size s Emit lower same = refl

-- ---- all steps

either_made : (w v : List ℕ) (b : Bool) (s other : Running) → s.made ≡ other.made → AreSame w v (if b then s else other).made → AreSame w v s.made
either_made w v true s other e same = same
either_made w v false s other e same = rw e same

-- what was made before a step is among what is made after it
made_before : (t : TablesView) (w v : List ℕ) (x size : ℕ) (s : Running) (step : Step) → AreSame w v (after_step t w x size s step).made → AreSame w v s.made
made_before t w v x size s (Take item) same = same
made_before t w v x size s (SetChooseTries n) same = either_made w v (n == 0) s _ refl same
made_before t w v x size s (SetLeafTries n) same = either_made w v (n == 0) s _ refl same
made_before t w v x size s (SetVaryR n) same = same
made_before t w v x size s (SetStable n) same = same
made_before t w v x size s (Choose by_firstn leaf n wanted) same = same_before w v s.made _ same
made_before t w v x size s Emit same = same

all_made_before : (t : TablesView) (w v : List ℕ) (x size : ℕ) (s : Running) (steps : List Step) → AreSame w v (after_steps t w x size s steps).made → AreSame w v s.made
all_made_before t w v x size s [] same = same
all_made_before t w v x size s (step ∷ steps) same = made_before t w v x size s step (all_made_before t w v x size (after_step t w x size s step) steps same)

steps_stay : (t : TablesView) (w v : List ℕ) (x size : ℕ) (s : Running) (steps : List Step) → IsLower w v → AreSame w v (after_steps t w x size s steps).made
    → after_steps t v x size s steps ≡ after_steps t w x size s steps
steps_stay t w v x size s [] lower same = refl
steps_stay t w v x size s (step ∷ steps) lower same =
    let here : after_step t v x size s step ≡ after_step t w x size s step =
    step_stays t w v x size s step lower (all_made_before t w v x size (after_step t w x size s step) steps same) in
    rw here (steps_stay t w v x size (after_step t w x size s step) steps lower same)

-- ---- a rule

pub run_stays : (t : TablesView) (w v : List ℕ) (steps : List Step) (x size : ℕ) → AreLoweredOutside (after_rule t w steps x size).made w v
    → after_rule t v steps x size ≡ after_rule t w steps x size
unfolding after_rule
run_stays t w v steps x size outside = steps_stay t w v x size (start t.tunables) steps outside.lower outside.same

of_trace : (t : TablesView) (w v : List ℕ) (steps : List Step) (x size : ℕ) (trace : List ℕ) → IsTrace t w steps x size trace → AreLoweredOutside trace w v
    → AreLoweredOutside (after_rule t w steps x size).made w v
of_trace t w v steps x size trace is outside = record { lower = outside.lower; same = λ device has. outside.same device (is.each device ∙ has) }

pub answer_stays : (t : TablesView) (w v : List ℕ) (steps : List Step) (x size : ℕ) (trace : List ℕ) → IsTrace t w steps x size trace → AreLoweredOutside trace w v
    → rule_answer t v steps x size ≡ rule_answer t w steps x size
answer_stays t w v steps x size trace is outside = ap (λ (s : Running). s.emitted) (run_stays t w v steps x size (of_trace t w v steps x size trace is outside))

pub items_stay : (t : TablesView) (w v : List ℕ) (steps : List Step) (x size : ℕ) (items : List Slot) (trace : List ℕ) → items ≡ rule_answer t w steps x size
    → IsTrace t w steps x size trace → AreLoweredOutside trace w v → rule_answer t v steps x size ≡ items
items_stay t w v steps x size items trace answer is outside = answer_stays t w v steps x size trace is outside ∙ sym answer

pub trace_stays : (t : TablesView) (w v : List ℕ) (steps : List Step) (x size : ℕ) (trace : List ℕ) → IsTrace t w steps x size trace → AreLoweredOutside trace w v
    → IsTrace t v steps x size trace
trace_stays t w v steps x size trace is outside =
    let same : after_rule t v steps x size ≡ after_rule t w steps x size = run_stays t w v steps x size (of_trace t w v steps x size trace is outside) in
    record { rising = is.rising; each = λ device. is.each device ∙ ap (λ (s : Running). has_number s.made device) (sym same) }

-- ---- a device that was lowered

pub eq_of : (a b : ℕ) → (a == b) ≡ true → a ≡ b
eq_of a b e = grind (arith, nat_tests)

pub either_holds : (a b : Bool) → (a || b) ≡ true → (a ≡ true) ⊎ (b ≡ true)
either_holds true b e = inl refl
either_holds false b e = inr e

-- one of the devices, with a lower second reweight
abbrev IsLoweredAmong : List ℕ → List ℕ → List ℕ → Type 0
IsLoweredAmong w v devices = (device : ℕ) × (has_number devices device ≡ true) × (weight_at v device < weight_at w device)

one_more_same : (w v : List ℕ) (first : ℕ) (devices : List ℕ) → weight_at v first ≡ weight_at w first → AreSame w v devices → AreSame w v (first ∷ devices)
one_more_same w v first devices here same device has = elim (either_holds _ _ has) [
  | inl it ↦ rw (← eq_of first device it) here
  | inr among ↦ same device among
]

same_or_lowered : (w v : List ℕ) (devices : List ℕ) → IsLower w v → AreSame w v devices ⊎ IsLoweredAmong w v devices
same_or_lowered w v [] lower = inl (λ device has. absurd cc)
same_or_lowered w v (first ∷ devices) lower = elim (eq-or-lt_of_le (lower first)) [
  | inl here ↦ elim (same_or_lowered w v devices lower) [
    | inl same ↦ inl (one_more_same w v first devices here same)
    | inr found ↦ inr (found.0, or_right (first == found.0) _ found.1, found.2)
  ]
  | inr lt ↦ inr (first, or_left _ _ (is_itself first), lt)
]

-- an answer that changes has a device in its trace that was lowered
pub changed_lowered : (t : TablesView) (w v : List ℕ) (steps : List Step) (x size : ℕ) (trace : List ℕ) → IsTrace t w steps x size trace → IsLower w v
    → rule_answer t v steps x size ≢ rule_answer t w steps x size → IsLoweredAmong w v trace
changed_lowered t w v steps x size trace is lower changed = elim (same_or_lowered w v trace lower) [
  | inl same ↦ absurd (changed (answer_stays t w v steps x size trace is (record { lower = lower; same = same })))
  | inr found ↦ found
]
