-- How many entries a cache has, before and after a call.
use native.Mathlib.Omega.{arith}
use Rattle.std.proofs.Common.{◌≡◌, ◌≤◌, ◌<◌, ◌-◌, List, [], ◌∷◌, Bool, take, length, Option, Some, None, refl}
use Rattle.std.specs.Option.{option_map_or}
use Rattle.std.specs.Map.{lookup_entry, remove_entry}
use Rattle.lru.specs.LruCache.{LruCache, lru_cache, promoted, put_entries}
use Rattle.tenant_cache.proofs.SizeFacts.{total, total-cons, total-promoted, total-removed}

module _ {K V : Type 0} where
  -- each entry counts one
  counted : (es : List (K × V)) → total (λ _. 1) es ≡ length es
  counted [] = refl
  counted (e ∷ es) = omega (arith, total-cons (λ _. 1) e es, counted es)

  pub length_promoted : (old new : LruCache K V) (test : K → Bool) → new ≡ lru_cache (promoted test old.entries) old.cap → length new.entries ≡ length old.entries
  length_promoted old new test now = rw now (omega (arith, counted (promoted test old.entries), counted old.entries, total-promoted (λ _. 1) test old.entries))

  pub length_popped : (old new : LruCache K V) (test : K → Bool) → new ≡ lru_cache (remove_entry test old.entries) old.cap → length new.entries ≤ length old.entries
  length_popped old new test now = rw now (omega (arith, counted (remove_entry test old.entries), counted old.entries, total-removed (λ _. 1) test old.entries))

  module _ (eq : K → K → Bool) (c : LruCache K V) (k : K) (v : V) where
    abbrev put_at : Option (K × V) → List (K × V)
    put_at o = option_map_or (λ e. (e.0, v) ∷ remove_entry (eq k) c.entries) o ((k, v) ∷ take (c.cap - 1) c.entries)

    -- the entry that was put is there
    pub some_put : (new : LruCache K V) → new ≡ lru_cache (put_entries eq c k v) c.cap → 0 < length new.entries
    some_put new now = rw now (go (lookup_entry (eq k) c.entries))
      where
        go : (o : Option (K × V)) → 0 < length (put_at o)
        go None = omega arith
        go (Some e) = omega arith
