use Rattle.std.proofs.Common.{◌≡◌, true, rules, string_bytes}
use Rattle.std.specs.Str.{is_utf8}
use Rattle.std.proofs.lemmas.Str.{IsUtf8-string_bytes, is_utf8-from_IsUtf8}
use Rattle.tenant_tables.proofs.parts.receipt_from.Goals as goal

pub returns-clause-some : goal.returns-clause-some
returns-clause-some c =
    let number : is_utf8 (string_bytes c.args.row.request) ≡ true = is_utf8-from_IsUtf8 _ (IsUtf8-string_bytes c.args.row.request) in
    let path : is_utf8 (string_bytes c.args.row.path) ≡ true = is_utf8-from_IsUtf8 _ (IsUtf8-string_bytes c.args.row.path) in
    let body : is_utf8 (string_bytes c.args.row.body) ≡ true = is_utf8-from_IsUtf8 _ (IsUtf8-string_bytes c.args.row.body) in
    let reply : is_utf8 (string_bytes c.args.row.reply) ≡ true = is_utf8-from_IsUtf8 _ (IsUtf8-string_bytes c.args.row.reply) in
    search (rules, number, path, body, reply)
