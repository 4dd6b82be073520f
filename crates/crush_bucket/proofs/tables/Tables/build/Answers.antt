use Rattle.std.proofs.Common.{◌≡◌, refl, ◌∙◌}
use Rattle.crush_bucket.specs.Tables.{tables_of}
use Rattle.crush_bucket.specs.Private.Laid.{IsLaid}
use Rattle.crush_bucket.proofs.Validity.{HasSoundBuckets, all_fit, is_laid}
use Rattle.crush_bucket.proofs.tables.Tables.build.Goals as goal

pub rows_of-requires : goal.rows_of-requires
rows_of-requires c =
    let sound : HasSoundBuckets c.args.map.now = λ i. c.buckets_are_sound.ensures c.args.map.now i c.buckets.ensures.valid in
    rw c.buckets.ensures.same (all_fit c.args.map.now sound)

pub invariant_of-result : goal.invariant_of-result
invariant_of-result c =
    let sound : HasSoundBuckets c.args.map.now = λ i. c.buckets_are_sound.ensures c.args.map.now i c.buckets.ensures.valid in
    let laid : IsLaid (tables_of c.args.map.now) = is_laid c.args.map.now sound in
    let buckets : c.in_ok-rows.rows.items ≡ (tables_of c.args.map.now).buckets = c.in_ok-rows.ensures {u = tt} ∙ rw c.buckets.ensures.same refl in
    let devices : c.in_ok-devices.devices.items ≡ (tables_of c.args.map.now).devices = c.in_ok-devices.ensures {u = tt} ∙ rw c.devices.ensures.same refl in
    record {
      laid = rw (buckets, devices, c.tunables.ensures.same) laid;
      widest = rw c.deref-2.ensures.value at c.widest_of.ensures;
      index = rw c.deref.ensures.value at (c.in_ok-index.ensures {u = tt});
      order = rw devices c.devices.ensures.valid.devices;
    }
