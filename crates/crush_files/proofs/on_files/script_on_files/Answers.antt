-- What the ready store says after the script is what the file holds.
use Rattle.std.proofs.Common.{◌||◌, Result, subst}
use Rattle.std.specs.declared.alloc.AllocError.{AllocError}
use Rattle.crush_app.specs.End.{LatchesAs}
use Rattle.crush_app.specs.declared.play.ScriptEnd.{ScriptEnd}
use Rattle.crush_files.proofs.EndFacts.{ends_on_files, ends_unserved}
use Rattle.crush_files.proofs.on_files.script_on_files.Goals as goal

pub returns-clause-ends : goal.returns-clause-ends
returns-clause-ends g c =
    let played = c.script_on_store-end in
    let closed = c.close_ready-closed in
    ends_on_files g.D.Disk c.args.store c.args.watch c.in-Ok.ready played.result.1 played.result.0 closed.result.copied closed.result.files (g.R.Read.remaining c.args.reader.now)
    (g.R.Read.remaining played.new.reader) (g.W.Write.contents c.args.writer.now) (g.W.Write.contents played.new.writer) g.met.D.Disk.seen_may_stay c.in-Ok.ensures.made c.requires.works closed.ensures.given
    closed.ensures.honest played.ensures.honest played.ensures.latch closed.ensures.failed closed.ensures.cause played.ensures.ends

pub returns-clause-failed : goal.returns-clause-failed
returns-clause-failed g c = λ is.
    let last = c.script_on_store-end.result.1 in
    c.close_ready-closed.ensures.failed (subst (λ (e : Result ScriptEnd AllocError). LatchesAs e (last.0.0.1 || last.1)) is c.script_on_store-end.ensures.latch)

-- there was no memory for the ready store
pub returns-in-Err-clause-ends : goal.returns-in-Err-clause-ends
returns-in-Err-clause-ends g c =
    let closed = c.in-Err.closed in
    ends_unserved g.D.Disk c.args.store _ closed.copied closed.files (g.R.Read.remaining c.args.reader.now) (g.W.Write.contents c.args.writer.now) g.met.D.Disk.seen_may_stay c.requires.works
    c.in-Err.ensures.given c.in-Err.ensures.cause c.in-Err.ensures.honest
