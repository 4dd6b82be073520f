use Rattle.std.proofs.Common.{arith}
use Rattle.crush_hash.proofs.Members.{member_below}
use Rattle.crush_hash.proofs.reached.Progress.early.Goals as goal

pub returns-clause-within : goal.returns-clause-within
returns-clause-within c =
    let s = c.args.self.now in
    let is = c.early_member.ensures s.hashes c.args.x c.first_four-hashes.ensures.value in
    let below = member_below s.hashes s.size c.args.x c.args.place c.requires.within in
    omega (arith, is, below)
