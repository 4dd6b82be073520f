use Rattle.std.proofs.Common.{IsUtf8, subst}
use Rattle.std.proofs.lemmas.Str.{is_utf8-from_IsUtf8}
use Rattle.tenant_core.proofs.route.command.Goals as goal

-- texts are UTF-8
pub invariant_of-result : goal.invariant_of-result
invariant_of-result c = record {
  number = c.requires.number;
  number_text = is_utf8-from_IsUtf8 c.args.number (subst IsUtf8 c.as_str-number.ensures c.as_str-number.utf8);
  path_text = is_utf8-from_IsUtf8 c.path.result.now c.path.utf8;
  body_text = is_utf8-from_IsUtf8 c.args.body.now c.utf8.body;
  order = c.requires.order;
}
