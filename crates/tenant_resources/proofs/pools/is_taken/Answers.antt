use Rattle.std.proofs.Common.{◌∙◌, sym}
use Rattle.tenant_resources.proofs.Mapped.{any-of}
use Rattle.tenant_resources.proofs.pools.is_taken.Goals as goal
use Rattle.tenant_state.specs.State.{is_like}

pub returns : goal.returns
returns c = c.is_any_like.ensures ∙ sym (any-of (is_like c.args.parts.now) (λ p. p.value) c.as_slice.result.now c.args.pools.now c.as_slice.ensures)
