use Rattle.std.proofs.Common.{append_assoc}
use Rattle.crush_writing.specs.Canonical.{tunable_lines}
use Rattle.crush_writing.proofs.write.write_tunables.Goals as goal

pub returns : goal.returns
unfolding tunable_lines
returns c =
    rw (
      c.in_ok-write_tunable-6.ensures,
      c.in_ok-write_tunable-5.ensures,
      c.in_ok-write_tunable-4.ensures,
      c.in_ok-write_tunable-3.ensures,
      c.in_ok-write_tunable-2.ensures,
      c.in_ok-write_tunable.ensures,
    ) (simp append_assoc)
