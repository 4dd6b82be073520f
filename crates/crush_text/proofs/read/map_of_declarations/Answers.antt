use Rattle.std.proofs.Common.{sym}
use Rattle.crush_grammar.specs.Words.{words}
use Rattle.crush_text.proofs.Texts.{clean, faulty}
use Rattle.crush_text.proofs.read.map_of_declarations.Goals as goal

pub returns-in-Err-clause-refused : goal.returns-in-Err-clause-refused
returns-in-Err-clause-refused c =
    faulty (words c.args.text.now) c.args.read.now.declarations c.as_slice.result.now c.args.read.now.fault c.in-Err.fault c.as_slice.ensures c.requires (sym (rw c.in-Err.is at c.in_ok-judged.ensures.fault))

pub map_of-requires : goal.map_of-requires
map_of-requires c =
    clean (words c.args.text.now) c.args.read.now.declarations c.as_slice.result.now c.args.read.now.fault c.in_ok-judged.judged _ c.as_slice.ensures c.requires c.in-None.is
    c.in_ok-judged.ensures.fault c.in_ok-judged.ensures.declared c.in-Ok.is
