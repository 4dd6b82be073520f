-- What a change makes, from the code's type.
use Rattle.tenant_state.specs.State as state
use Rattle.tenant_state.specs.declared.state.Product.{Product}
use Rattle.tenant_state.specs.declared.state.Product.TheVariants.{Version, States, Pool, Exceptions, NoPool}

-- a version, a pool and exceptions are shared; what counts is the map, the pool, and the pairs
abbrev pub made_of : Product → state.Product
made_of (Version version) = state.NewVersion version.value
made_of (States changed) = state.NewStates changed
made_of (Pool pool) = state.NewPool pool.value
made_of (Exceptions id pairs) = state.NewExceptions id pairs
made_of (NoPool id) = state.RemovedPool id
