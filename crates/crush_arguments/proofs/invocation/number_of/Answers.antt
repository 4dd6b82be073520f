use Rattle.std.proofs.Common.{codes}
use Rattle.std.specs.Str.Parse.{ParsesUnsigned, ExplainsUnsignedError, HasUnsignedDigitsIfOk}
use Rattle.clap.specs.Words.{found_of}
use Rattle.crush_arguments.proofs.Matched.{each_said}
use Rattle.crush_arguments.proofs.invocation.number_of.Goals as goal

pub returns : goal.returns
returns c =
    each_said 32 (λ text r. ParsesUnsigned 32 10 text r × ExplainsUnsignedError 10 text r × HasUnsignedDigitsIfOk text r) (λ text r given. given.0)
    (found_of c.args.matches.now) c.args.id.now c.get_one.result c.get_one.ensures.none c.get_one.ensures.value
