use Rattle.std.proofs.Common.{◌≡◌, ◌<◌, ◌+◌, ◌∙◌, length, refl}
use Rattle.std.specs.Prelude.{slice_index_or}
use Rattle.crush_pool.specs.Pools.{seed_of}
use Rattle.crush_report.specs.OnMaps.{answer_on}
use Rattle.crush_report.proofs.Kept.{answer_kept, part_kept}
use Rattle.crush_report.proofs.answers.Answers.kept.Goals as goal

pub returns : goal.returns
returns c =
    let p = c.args.placer.now in
    let a = c.args.self.now in
    let group = c.args.group in
    let place = c.place_of-place.result in
    let start : c.in_ok-start.field-0.now ≡ slice_index_or a.starts.items place 0 = rw c.deref.ensures.value at (c.in_ok-start.ensures.lookup.3.1 0) in
    let end : c.in_ok-end.field-0.now ≡ slice_index_or a.starts.items (place + 1) 0 = rw c.deref-2.ensures.value at (c.in_ok-end.ensures.lookup.3.1 0) in
    let within : place + 1 < length a.starts.items = rw c.deref-2.ensures.value at c.in_ok-end.ensures.lookup.3.0 in
    let seed : seed_of p.pool group ≡ seed_of p.pool place =
    c.groups_have_the_seeds_of_their_places.ensures.place p.pool group c.requires.some ∙ rw (c.place_of-place.ensures, c.pool.ensures) refl in
    part_kept a.slots.items (slice_index_or a.starts.items place 0) (slice_index_or a.starts.items (place + 1) 0) c.get-3.result (answer_on p group)
    (rw (c.deref-3.ensures.value, start, end) at c.get-3.ensures.lookup) (λ part is. answer_kept p a group place part c.requires seed within is)
