use Rattle.std.proofs.Common.{◌≡◌, ap, arith, ◌∙◌}
use Rattle.crush_hash.specs.declared.reached.Progress.{Progress}
use Rattle.crush_hash.specs.Permutation.{Remembered}
use Rattle.crush_hash.proofs.Members.{member_below}
use Rattle.crush_hash.proofs.reached.Progress.member.Goals as goal
use Rattle.crush_hash.proofs.reached.Progress.member.Goals.{then-x-self, else-x-self}

pub returns-clause-within : goal.returns-clause-within
returns-clause-within c =
    let now = c.write.new.self in
    let before = c.if-x-self.self in
    let same : before.size ≡ c.args.self.now.size = elim c.if-x-self.branch [
      | then-x-self w ↦ ap (λ (r : Progress). r.size) w.self-is ∙ ap (λ (m : Remembered). m.of.size) w.begin.ensures.remembered
      | else-x-self w ↦ ap (λ (r : Progress). r.size) w.self-is
    ] in
    let size : now.size ≡ c.args.self.now.size = ap (λ (m : Remembered). m.of.size) c.write.ensures.remembered ∙ same in
    let below = member_below now.hashes now.size now.x c.args.place (omega (arith, size, c.requires.within)) in
    omega (arith, c.reach.ensures.member, below, size)
