-- What placements depend on.
use Rattle.std.specs.Prelude.{ℕ, Bool, ◌&&◌, ◌==◌, List}
use Rattle.std.specs.Cmp.Lexicographic.{pointwise}
use Rattle.std.specs.Hash as fed
use Rattle.std.specs.Str.{bytes_eq}
use mathlib.Core.Bool.{beq}
use Rattle.crush_writing.specs.Canonical.{canonical}
use Rattle.crush_pool.specs.Placers.{PoolOnMap}
use Rattle.crush_pool.specs.declared.exceptions.Pair.{Pair}
use Rattle.crush_pool.specs.declared.pool.PoolParts.{PoolParts}
use Rattle.crush_pool.specs.declared.states.DeviceState.{DeviceState}
use Rattle.crush_pool.specs.Hashes.{joined_hash, pairs_hash, states_hash, text_hash}

-- the canonical text of a map, all states of devices, a pool, and the pool's pairs
pub record Content : Type 0 where
  pub text : List ℕ
  pub states : List DeviceState
  pub pool : PoolParts
  pub pairs : List Pair

-- the content of a pool on a map, with its pairs and with states of devices
abbrev pub content_of : PoolOnMap → Content
content_of p = record { text = canonical p.map; states = p.states; pool = p.pool; pairs = p.pairs }

-- ---- when they are equal: where all that they have is

abbrev pub state_eq : DeviceState → DeviceState → Bool
state_eq s t = (s.device == t.device) && (s.reweight == t.reweight) && beq s.up t.up

abbrev pub pair_eq : Pair → Pair → Bool
pair_eq p q = (p.group == q.group) && (p.from == q.from) && (p.to == q.to)

abbrev pub pool_eq : PoolParts → PoolParts → Bool
pool_eq p q =
    (p.id == q.id) && bytes_eq p.name q.name && beq p.erasure q.erasure && (p.size == q.size) && (p.rule == q.rule)
    && (p.pg_num == q.pg_num) && (p.pgp_num == q.pgp_num) && beq p.hashpspool q.hashpspool

abbrev pub content_eq : Content → Content → Bool
content_eq a b =
    pool_eq a.pool b.pool && pointwise pair_eq a.pairs b.pairs && pointwise state_eq a.states b.states && bytes_eq a.text b.text

-- ---- what is hashed

-- the hash of all four
abbrev pub content_hash : Content → ℕ
content_hash a = joined_hash (text_hash a.text) (states_hash a.states) (pairs_hash a.pairs) a.pool

-- what is fed of a content: that hash alone
abbrev pub content_writes : Content → List (List ℕ)
content_writes a = fed.u64 (content_hash a)
