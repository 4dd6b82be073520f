use Rattle.std.proofs.Common.{refl}
use Rattle.crush_writing.specs.Canonical.{canonical}
use Rattle.crush_writing.proofs.write.write_map.Goals as goal

pub returns-clause-text : goal.returns-clause-text
unfolding canonical
returns-clause-text c =
    rw (
      c.in_ok-extend_from_slice-5.ensures.items,
      c.in_ok-write_rules.ensures,
      c.in_ok-extend_from_slice-4.ensures.items,
      c.in_ok-write_buckets.ensures,
      c.in_ok-extend_from_slice-3.ensures.items,
      c.in_ok-write_types.ensures,
      c.in_ok-extend_from_slice-2.ensures.items,
      c.in_ok-write_devices.ensures,
      c.in_ok-extend_from_slice.ensures.items,
      c.in_ok-write_tunables.ensures,
      c.in_ok-out.ensures,
      ← c.in_ok-names.ensures.same,
      ← c.names.view_is,
    ) refl
