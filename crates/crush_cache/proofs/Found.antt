-- What a look-up finds in the entries, and what a put leaves.
use Rattle.std.proofs.Common.{◌≡◌, ◌⊎◌, ◌&&◌, ◌==◌, Bool, List, Option, Some, None, IfSome, Contains, inl, inr, sym, subst, true, eqb-true}
use Rattle.std.specs.Cmp.{first_so, second_so}
use Rattle.std.specs.Map.{lookup}
use Rattle.lru.specs.LruCache.{LruCache, put_entries}
use Rattle.lru.proofs.CallerLemmas.{Contains-lookup, Contains-put_entries}
use Rattle.crush_cache.specs.declared.entries.Key.{Key}

pub some_weaker : {X : Type 0} (P Q : X → Type 0) → ((x : X) → P x → Q x) → (o : Option X) → IfSome o P → IfSome o Q
some_weaker P Q f None h = tt
some_weaker P Q f (Some x) h = f x h

-- what `==` of keys computes to
abbrev pub key_eq : Key → Key → Bool
key_eq a b = (a.number == b.number) && (a.group == b.group)

-- keys that are equal are one
pub key_same : (a b : Key) → key_eq a b ≡ true → a ≡ b
key_same a b h =
    let number = eqb-true a.number b.number (first_so (a.number == b.number) (a.group == b.group) h) in
    let group = eqb-true a.group b.group (second_so (a.number == b.number) (a.group == b.group) h) in
    λ i. record { number = number i; group = group i }

module _ {V : Type 0} where
  -- what a look-up finds is an entry of its key
  pub found_at : (entries : List (Key × V)) (k : Key) (v : V) → lookup (key_eq k) entries ≡ Some v → Contains entries (k, v)
  found_at entries k v h =
      let it = Contains-lookup (key_eq k) entries v h in
      subst (λ j. Contains entries (j, v)) (sym (key_same k it.0 it.2)) it.1

  -- each entry after a put was there, or is the one that was put
  pub kept_at : (c : LruCache Key V) (k : Key) (v : V) (e : Key × V) → Contains (put_entries key_eq c k v) e → Contains c.entries e ⊎ ((e.0 ≡ k) × (e.1 ≡ v))
  kept_at c k v e there = elim (Contains-put_entries key_eq c k v e there) [
    | inl was ↦ inl was
    | inr put ↦ inr (elim put.1 [ inl same ↦ same | inr was ↦ sym (key_same k e.0 was.2) ], put.0)
  ]
