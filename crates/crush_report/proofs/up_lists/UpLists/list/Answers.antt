use Rattle.std.proofs.Common.{◌≡◌, ◌<◌, ◌≤◌, ◌∙◌, List, get_or, length, sym, ap}
use Rattle.std.specs.Prelude.{slice_range}
use Rattle.crush_choose.specs.Marks.{Slot}
use Rattle.crush_report.specs.Private.Parts.{list_at, start_at}
use Rattle.crush_report.proofs.Parts.{none_past, ordered, part_at, within}
use Rattle.crush_report.proofs.up_lists.UpLists.list.Goals as goal

pub returns-then-place-ends : goal.returns-then-place-ends
returns-then-place-ends c =
    let slots = c.self.inside.slots.items in
    let ends = c.self.inside.ends.items in
    let past : length ends ≤ c.args.group = rw c.as_slice-ends.ensures.value at c.if-place-ends.true in
    sym (none_past slots 0 ends c.args.group past) ∙ ap (λ (lists : List (List Slot)). list_at lists c.args.group) c.self.view_is

pub slots_between-requires-clause-ordered : goal.slots_between-requires-clause-ordered
slots_between-requires-clause-ordered c =
    let ends = c.self.inside.ends.items in
    let there : c.args.group < length ends = rw c.as_slice-ends.ensures.value at c.if-place-ends.false in
    rw (c.start_at-start.ensures, c.as_slice-ends.ensures.value) (ordered (length c.self.inside.slots.items) 0 ends c.args.group there c.self.invariant)

pub slots_between-requires-clause-within : goal.slots_between-requires-clause-within
slots_between-requires-clause-within c =
    let ends = c.self.inside.ends.items in
    let there : c.args.group < length ends = rw c.as_slice-ends.ensures.value at c.if-place-ends.false in
    rw (c.as_slice-ends.ensures.value, c.as_slice-slots.ensures.value) (within (length c.self.inside.slots.items) 0 ends c.args.group there c.self.invariant)

pub returns : goal.returns
returns c =
    let group = c.args.group in
    let slots = c.self.inside.slots.items in
    let ends = c.self.inside.ends.items in
    let there : group < length ends = rw c.as_slice-ends.ensures.value at c.if-place-ends.false in
    let found : c.slots_between.result.now ≡ slice_range slots (start_at 0 ends group) (get_or ends group 0) =
    rw (c.start_at-start.ensures, c.as_slice-ends.ensures.value, c.as_slice-slots.ensures.value) at c.slots_between.ensures in
    found ∙ (sym (part_at slots 0 ends group there) ∙ ap (λ (lists : List (List Slot)). list_at lists group) c.self.view_is)
