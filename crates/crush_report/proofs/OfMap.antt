-- Each item of the answer of a map's rule is an item of the map.
use Rattle.std.proofs.Common.{◌≡◌, ◌==◌, ℕ, List, Some, IfSome, slice_get, slice_index_or, sym, ◌∙◌}
use Rattle.std.specs.List.{All, position_or_len}
use Rattle.std.proofs.lemmas.List.Folds.{find_at}
use Rattle.std.proofs.lemmas.Option.{slice_get-get_or}
use Rattle.crush_map.specs.Map.{Map}
use Rattle.crush_map.specs.Sound.{IsRuleAt, IsStep}
use Rattle.crush_map.specs.declared.draft.Rule.{Rule}
use Rattle.crush_map.specs.declared.draft.Step.{Step}
use Rattle.crush_map.specs.declared.draft.Step.TheVariants.{Take, SetChooseTries, SetLeafTries, SetVaryR, SetStable, Choose, Emit}
use Rattle.crush_bucket.specs.Laws.{PicksBelow}
use Rattle.crush_bucket.specs.Tables.{tables_of}
use Rattle.crush_choose.specs.Rules.{rule_answer}
use Rattle.crush_choose.proofs.Items.{AreSlots, TakeIs, answer_are}
use Rattle.crush_choose.proofs.OfMap.{HasSoundBuckets, IsOf, picks_of}
use Rattle.crush_pool.specs.Placements.{rule_numbered}

-- the law of the map's rules that is cited here
abbrev HasSoundRules : Map → Type 0
HasSoundRules m = (i : ℕ) → IfSome (slice_get m.rules i) (λ r. IsRuleAt m i r)

-- ---- rules

take_is : (m : Map) (step : Step) → IsStep m step → TakeIs (IsOf m) step
take_is m (Take item) is = is
take_is m (SetChooseTries n) is = tt
take_is m (SetLeafTries n) is = tt
take_is m (SetVaryR n) is = tt
take_is m (SetStable n) is = tt
take_is m (Choose by_firstn leaf n wanted) is = tt
take_is m Emit is = tt

takes_of : (m : Map) → HasSoundRules m → (id : ℕ) (rule : Rule) → rule_numbered m id ≡ Some rule → All (TakeIs (IsOf m)) rule.steps
takes_of m sound id rule numbered k d lt =
    let place = position_or_len (λ (r : Rule). r.id == id) m.rules in
    let there : slice_get m.rules place ≡ Some rule = sym (find_at (λ (r : Rule). r.id == id) m.rules) ∙ numbered in
    let is : IsRuleAt m place rule = rw there at (sound place) in
    take_is m (slice_index_or rule.steps k d) (rw (slice_get-get_or rule.steps k d lt) at (is.steps k))

-- ---- the answer

pub answer_of : (m : Map) → HasSoundBuckets m → HasSoundRules m → PicksBelow (tables_of m) → (rule : Rule) (id : ℕ) (w : List ℕ) (x size : ℕ) → rule_numbered m id ≡ Some rule
    → AreSlots (IsOf m) (rule_answer (tables_of m) w rule.steps x size)
answer_of m buckets rules below rule id w x size numbered =
    answer_are (IsOf m) (tables_of m) (picks_of m buckets below) w rule.steps x size (takes_of m rules id rule numbered)
