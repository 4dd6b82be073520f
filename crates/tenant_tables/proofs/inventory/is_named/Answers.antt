use Rattle.std.proofs.Common.{◌∙◌, bytes_eq, sym}
use Rattle.tenant_tables.proofs.Counting.{any_map}
use Rattle.tenant_tables.proofs.inventory.is_named.Goals as goal

pub returns : goal.returns
returns c = c.is_one_named.ensures ∙ sym (any_map (λ p. bytes_eq p.parts.name c.args.name.now) (λ p. p.value) c.args.pools.now)
