-- The items and leaves of reps, rep by rep.
use Rattle.std.proofs.Common.{◌≡◌, ℕ, ◌+◌, List, [], ◌∷◌, ◌++◌, map, Option, Some, None, refl, ap, sym, ◌∙◌, add-one}
use Rattle.std.proofs.lemmas.List.{map-append}
use Rattle.crush_bucket.specs.Tables.{TablesView}
use Rattle.crush_choose.specs.declared.firstn.FirstnCall.{FirstnCall}
use Rattle.crush_choose.specs.declared.mark.Spot.{Spot}
use Rattle.crush_choose.specs.declared.mark.Mark.{Mark}
use Rattle.crush_choose.specs.declared.mark.Mark.TheVariants.{Skipped, Placed}
use Rattle.crush_choose.specs.Marks.{Marks, Slot, spots, items_of, leaves_of}
use Rattle.crush_choose.specs.Firstn.{mark_of, mark_beside}
use Rattle.crush_choose.specs.Growing.{grown}

pub spots_append : (before after : Marks) → spots (before ++ after) ≡ spots before ++ spots after
spots_append [] after = refl
spots_append (Some (Placed spot) ∷ before) after = ap (λ (placed : List Spot). spot ∷ placed) (spots_append before after)
spots_append (Some Skipped ∷ before) after = spots_append before after
spots_append (None ∷ before) after = spots_append before after

-- a slot for each spot: its item, or its leaf
abbrev pub slots : (Spot → Slot) → Marks → List Slot
slots slot marks = map slot (spots marks)

pub slots_append : (slot : Spot → Slot) (before after : Marks) → slots slot (before ++ after) ≡ slots slot before ++ slots slot after
slots_append slot before after = rw (spots_append before after) (map-append slot (spots before) (spots after))

-- the slots of a list of marks with one more mark
pub slots_more : (slot : Spot → Slot) (next : Marks → ℕ → Option Mark) (n : ℕ) (old new : List Slot) (mark : Option Mark)
    → old ≡ slots slot (grown next n) → mark ≡ next (grown next n) n → new ≡ old ++ slots slot (mark ∷ []) → new ≡ slots slot (grown next (n + 1))
slots_more slot next n old new mark so_far is put =
    rw add-one (put ∙ rw (so_far, is) (sym (slots_append slot (grown next n) (next (grown next n) n ∷ []))))

-- the mark given the items and leaves so far is that of the rep
pub mark_is : (t : TablesView) (w : List ℕ) (c : FirstnCall) (rep : ℕ) (items leaves : List Slot) (mark : Option Mark)
    → items ≡ items_of (grown (mark_of t w c) rep) → leaves ≡ leaves_of (grown (mark_of t w c) rep) → mark ≡ mark_beside t w c items leaves rep
    → mark ≡ mark_of t w c (grown (mark_of t w c) rep) rep
mark_is t w c rep items leaves mark items_so_far leaves_so_far is = is ∙ rw (items_so_far, leaves_so_far) refl
