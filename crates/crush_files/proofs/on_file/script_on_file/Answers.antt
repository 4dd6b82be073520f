-- What the opening found, and the script, put together.
use Rattle.crush_files.proofs.EndFacts.{ends_on_file}
use Rattle.crush_files.proofs.on_file.script_on_file.Goals as goal

pub returns-clause-ends : goal.returns-clause-ends
returns-clause-ends g c =
    let played = c.script_on_files in
    ends_on_file _ _ c.in-Ok.opened.0.0 played.result.0 played.result.1.copied played.result.1.files (g.R.Read.remaining c.args.reader.now) (g.R.Read.remaining played.new.reader)
    (g.W.Write.contents c.args.writer.now) (g.W.Write.contents played.new.writer) c.in-Ok.ensures.found played.ensures.ends
