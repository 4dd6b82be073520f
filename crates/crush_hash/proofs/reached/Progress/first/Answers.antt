use Rattle.std.proofs.Common.{◌∙◌}
use Rattle.crush_hash.proofs.Members.{first_member_is}
use Rattle.crush_hash.proofs.reached.Progress.first.Goals as goal

pub returns-then-x-self-clause-member : goal.returns-then-x-self-clause-member
returns-then-x-self-clause-member c =
    let s = c.args.self.now in
    c.begin.ensures.value ∙ first_member_is s.hashes s.size c.args.x c.requires.some

pub returns-clause-member : goal.returns-clause-member
returns-clause-member c =
    let s = c.args.self.now in
    let same = c.if-x-self.false in
    rw same ((c.requires.known (c.requires.unwritten same)).0 ∙ first_member_is s.hashes s.size s.x c.requires.some)
