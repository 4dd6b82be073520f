use Rattle.std.proofs.Common.{◌≡◌, false, true, sym, subst}
use Rattle.std.specs.Str.{IsUtf8}
use Rattle.tenant_state.proofs.version.canonical_text.Goals as goal

-- a canonical text is UTF-8
pub unreachable-requires : goal.unreachable-requires
unreachable-requires c =
    let utf8 = subst IsUtf8 (sym c.in_ok-write_map.ensures.text) (c.canonical_texts_are_ascii.ensures.utf8 c.args.map.now c.write_map.ensures.valid) in
    let both = c.from_utf8.ensures.succeeds utf8 in
    let is = c.in-Err.is in
    let no : false ≡ true = rw is at both in cc
