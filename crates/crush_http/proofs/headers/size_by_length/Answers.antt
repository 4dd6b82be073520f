use Rattle.std.proofs.Common.{sym}
use Rattle.crush_http.proofs.Numbers.{length_small}
use Rattle.crush_http.proofs.headers.size_by_length.Goals as goal

pub number_of-number-requires-clause-digits : goal.number_of-number-requires-clause-digits
number_of-number-requires-clause-digits c = (length_small c.args.text.now (sym c.if-not-is_length.ensures)).0

pub number_of-number-requires-clause-small : goal.number_of-number-requires-clause-small
number_of-number-requires-clause-small c = (length_small c.args.text.now (sym c.if-not-is_length.ensures)).1
