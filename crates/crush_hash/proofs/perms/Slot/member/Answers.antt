use Rattle.std.proofs.Common.{◌-◌, arith}
use Rattle.std.proofs.lemmas.Slice.{drop-put_mid}
use Rattle.crush_hash.proofs.perms.Slot.member.Goals as goal

pub returns-clause-behind : goal.returns-clause-behind
returns-clause-behind c =
    let s = c.args.self.now in
    let part = c.requires.part in
    drop-put_mid s.start (s.end - s.start) c.args.row.now c.member.new.row s.end (omega (arith, part.rises)) (omega (arith, part.within)) (omega (arith, part.rises, part.within, c.member.ensures.room))
