-- The hashes that are stored beside texts, states of devices, exceptions of pools and contents, so
-- that each is made once.
use Rattle.std.specs.Prelude.{ℕ, List, ◌++◌, flat_map, fold}
use Rattle.std.specs.Hash as fed
use Rattle.std.specs.Hash.FoldHasher as folding
use Rattle.std.specs.declared.hash.FoldHasher.{FoldHasher}
use Rattle.crush_pool.specs.declared.exceptions.Pair.{Pair}
use Rattle.crush_pool.specs.declared.pool.PoolParts.{PoolParts}
use Rattle.crush_pool.specs.declared.states.DeviceState.{DeviceState}

-- a hasher after the writes
abbrev pub fed_with : FoldHasher → List (List ℕ) → FoldHasher
fed_with hasher writes = fold folding.write hasher writes

-- what a new hasher answers after the writes
abbrev pub hash_of : List (List ℕ) → ℕ
hash_of writes = folding.finish (fed_with folding.initial writes)

abbrev pub text_hash : List ℕ → ℕ
text_hash text = hash_of (fed.str text)

-- what is fed of a state
abbrev pub state_writes : DeviceState → List (List ℕ)
state_writes s = fed.u32 s.device ++ fed.u32 s.reweight ++ fed.bool s.up

abbrev pub states_hash : List DeviceState → ℕ
states_hash states = hash_of (flat_map state_writes states)

-- what is fed of a pair
abbrev pub pair_writes : Pair → List (List ℕ)
pair_writes p = fed.u32 p.group ++ fed.u32 p.from ++ fed.u32 p.to

abbrev pub pairs_hash : List Pair → ℕ
pairs_hash pairs = hash_of (flat_map pair_writes pairs)

-- what is fed of a pool: all of its settings
abbrev pub pool_writes : PoolParts → List (List ℕ)
pool_writes p =
    fed.u32 p.id ++ fed.str p.name ++ fed.bool p.erasure ++ fed.u32 p.size ++ fed.u32 p.rule ++ fed.u32 p.pg_num ++ fed.u32 p.pgp_num
    ++ fed.bool p.hashpspool

-- the hash of a text's hash, that of states, that of pairs, and a pool
abbrev pub joined_hash : ℕ → ℕ → ℕ → PoolParts → ℕ
joined_hash text states pairs p = hash_of (fed.u64 text ++ fed.u64 states ++ fed.u64 pairs ++ pool_writes p)
