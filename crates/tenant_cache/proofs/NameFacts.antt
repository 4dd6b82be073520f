-- What a name has in a cache, before and after a call.
use native.Mathlib.Omega.{arith}
use Rattle.std.proofs.Common.{zero, suc, take, map, length, ◌-◌, ◌<◌, ◌≡◌, ◌≢◌, ◌⊎◌, inl, inr, ℕ, List, [], Bool, true, false, ◌∷◌, Option, Some, None, option_map, is_some, Contains, refl, sym, ap, subst, ◌∙◌, true≢false, string_bytes, String}
use Rattle.std.specs.declared.alloc.Global.{Global}
use Rattle.std.specs.String.{string_eq, string_eq_equiv}
use Rattle.std.specs.Str.{bytes_eq}
use Rattle.std.specs.List.{IsDistinct}
use Rattle.std.specs.Map.{lookup, lookup_entry, remove_entry, keys_of}
use Rattle.std.proofs.lemmas.Map.{lookup-remove_entry}
use Rattle.std.proofs.lemmas.Map.Views.{lookup-from_Contains}
use Rattle.std.proofs.lemmas.Slice.Eq.{bytes_eq-Decides}
use Rattle.std.specs.Option.{IsSome, option_map_or}
use Rattle.lru.proofs.Pairs.{lookup-lookup_entry}
use Rattle.lru.specs.LruCache.{LruCache, lru_cache, promoted, put_entries}
use Rattle.lru.proofs.CallerLemmas.{Contains-lookup, Contains-lookup_entry, Contains-remove_entry, Contains-promoted, Contains-put_entries, lookup-put_entries}

other : (u name : List ℕ) → bytes_eq u name ≡ false → u ≢ name
other u name differs same = true≢false (sym ((bytes_eq-Decides u name).1 same) ∙ differs)

module _ {V : Type 0} where
  -- what a name has
  abbrev pub at : List (String Global × V) → List ℕ → Option V
  at es u = lookup (λ k. bytes_eq u (string_bytes k)) es

  -- what is found among the first entries is found among all
  pub at_taken : (n : ℕ) (es : List (String Global × V)) (u : List ℕ) (v : V) → at (take n es) u ≡ Some v → at es u ≡ Some v
  at_taken zero es u v found = absurd cc
  at_taken (suc n) [] u v found = absurd cc
  at_taken (suc n) (e ∷ es) u v found = go (at_taken n es u v) (bytes_eq u (string_bytes e.0)) refl
    where
      go : (at (take n es) u ≡ Some v → at es u ≡ Some v) → (b : Bool) → bytes_eq u (string_bytes e.0) ≡ b → at (e ∷ es) u ≡ Some v
      go rest true is = let now = rw is at found in rw is now
      go rest false is = let now = rw is at found in rw is (rest now)

  -- an entry of the name is what a look-up finds
  stands : (es : List (String Global × V)) (u : List ℕ) (k : String Global) (v : V) → IsDistinct string_eq (keys_of es) → string_bytes k ≡ u → Contains es (k, v) → at es u ≡ Some v
  stands es u k v distinct named here = subst (λ w. at es w ≡ Some v) named (lookup-from_Contains string_eq_equiv k v es distinct here)

  -- entries that are all in another list find no more than it does
  pub among : (old new : List (String Global × V)) → IsDistinct string_eq (keys_of old) → ((e : String Global × V) → Contains new e → Contains old e) → (u : List ℕ) (v : V) → at new u ≡ Some v → at old u ≡ Some v
  among old new distinct within u v found =
      let it = Contains-lookup (λ k. bytes_eq u (string_bytes k)) new v found in
      stands old u it.0 v distinct (sym ((bytes_eq-Decides u (string_bytes it.0)).0 it.2)) (within (it.0, v) it.1)

  -- a look-up of a name that is promoted finds what it found
  pub found_promoted : (test : String Global → Bool) (es : List (String Global × V)) → lookup test (promoted test es) ≡ lookup test es
  found_promoted test es = go (lookup_entry test es) refl
    where
      go : (o : Option (String Global × V)) → lookup_entry test es ≡ o → lookup test (option_map_or (λ e. e ∷ remove_entry test es) o es) ≡ lookup test es
      go None h = refl
      go (Some e) h = rw ((Contains-lookup_entry test es e h).1) (sym (ap (option_map (λ (x : String Global × V). x.1)) h) ∙ lookup-lookup_entry test es)

  pub after_promote : (old : List (String Global × V)) (name : List ℕ) → IsDistinct string_eq (keys_of old) → (u : List ℕ) (v : V) → at (promoted (λ k. bytes_eq name (string_bytes k)) old) u ≡ Some v → at old u ≡ Some v
  after_promote old name distinct = among old _ distinct (Contains-promoted (λ k. bytes_eq name (string_bytes k)) old)

  -- the name is gone, and no other name has anything new
  pub after_pop : (old : List (String Global × V)) (name : List ℕ) → IsDistinct string_eq (keys_of old) → (u : List ℕ) (v : V) → at (remove_entry (λ k. bytes_eq name (string_bytes k)) old) u ≡ Some v → (u ≢ name) × (at old u ≡ Some v)
  after_pop old name distinct u v found = (
    (λ same.
        let it = Contains-lookup (λ k. bytes_eq u (string_bytes k)) (remove_entry (λ k. bytes_eq name (string_bytes k)) old) v found in
        let named : u ≡ string_bytes it.0 = (bytes_eq-Decides u (string_bytes it.0)).0 it.2 in
        let mine : bytes_eq name (string_bytes it.0) ≡ true = (bytes_eq-Decides name (string_bytes it.0)).1 (sym same ∙ named) in
        let gone = lookup-remove_entry string_eq_equiv (λ k. bytes_eq name (string_bytes k)) one it.0 old distinct in
        let here : lookup (string_eq it.0) (remove_entry (λ k. bytes_eq name (string_bytes k)) old) ≡ Some v = subst (λ w. at (remove_entry (λ k. bytes_eq name (string_bytes k)) old) w ≡ Some v) named found in
        let never : Some v ≡ None = sym here ∙ gone ∙ rw mine in
        absurd cc),
    among old _ distinct (Contains-remove_entry (λ k. bytes_eq name (string_bytes k)) old) u v found,
  )
    where
      one : (x y : String Global) → bytes_eq name (string_bytes x) ≡ true → bytes_eq name (string_bytes y) ≡ string_eq x y
      one x y same = ap (λ w. bytes_eq w (string_bytes y)) ((bytes_eq-Decides name (string_bytes x)).0 same)

  -- the name has the new value, and no other name has anything new
  pub after_put : (c : LruCache (String Global) V) (k : String Global) (v : V) → IsDistinct string_eq (keys_of c.entries) → (u : List ℕ) (w : V) → at (put_entries string_eq c k v) u ≡ Some w
      → ((u ≡ string_bytes k) × (v ≡ w)) ⊎ ((u ≢ string_bytes k) × (at c.entries u ≡ Some w))
  after_put c k v distinct u w found = go (bytes_eq u (string_bytes k)) refl
    where
      some : Some v ≡ Some w → v ≡ w
      some e = cc

      go : (b : Bool) → bytes_eq u (string_bytes k) ≡ b → ((u ≡ string_bytes k) × (v ≡ w)) ⊎ ((u ≢ string_bytes k) × (at c.entries u ≡ Some w))
      go true same =
          let named = (bytes_eq-Decides u (string_bytes k)).0 same in
          let here : at (put_entries string_eq c k v) (string_bytes k) ≡ Some v = lookup-put_entries string_eq c k v string_eq_equiv in
          inl (named, some (sym here ∙ subst (λ n. at (put_entries string_eq c k v) n ≡ Some w) named found))
      go false differs =
          let apart = other u (string_bytes k) differs in
          let it = Contains-lookup (λ j. bytes_eq u (string_bytes j)) (put_entries string_eq c k v) w found in
          let named : u ≡ string_bytes it.0 = (bytes_eq-Decides u (string_bytes it.0)).0 it.2 in
          inr (
            apart,
            elim (Contains-put_entries string_eq c k v (it.0, w) it.1) [
              | inl here ↦ stands c.entries u it.0 w distinct (sym named) here
              | inr put ↦ elim put.1 [
                | inl same ↦ absurd (apart (named ∙ ap string_bytes same))
                | inr was ↦ absurd (apart (named ∙ sym ((bytes_eq-Decides (string_bytes k) (string_bytes it.0)).0 was.2)))
              ]
            ],
          )

  -- the entry that was put is found, even if only some of the first entries remain
  first_at : (c : LruCache (String Global) V) (k : String Global) (v : V) (n : ℕ) → 0 < n → at (take n (put_entries string_eq c k v)) (string_bytes k) ≡ Some v
  first_at c k v zero some = absurd (omega arith)
  first_at c k v (suc n) some = go (lookup_entry (string_eq k) c.entries) refl
    where
      go : (o : Option (String Global × V)) → lookup_entry (string_eq k) c.entries ≡ o
          → at (take (suc n) (option_map_or (λ e. (e.0, v) ∷ remove_entry (string_eq k) c.entries) o ((k, v) ∷ take (c.cap - 1) c.entries))) (string_bytes k) ≡ Some v
      go None h = let same : bytes_eq (string_bytes k) (string_bytes k) ≡ true = (bytes_eq-Decides (string_bytes k) (string_bytes k)).1 refl in rw same refl
      go (Some e) h = let same : bytes_eq (string_bytes k) (string_bytes e.0) ≡ true = (Contains-lookup_entry (string_eq k) c.entries e h).1 in rw same refl

module _ {V H : Type 0} (f : V → H) where
  -- entries as contracts see them
  abbrev pub shown : List (String Global × V) → List (List ℕ × H)
  shown es = map (λ e. (string_bytes e.0, f e.1)) es

  -- a look-up finds what contracts see
  pub at_shown : (es : List (String Global × V)) (u : List ℕ) → lookup (bytes_eq u) (shown es) ≡ option_map f (at es u)
  at_shown [] u = refl
  at_shown (e ∷ es) u = go (at_shown es u) (bytes_eq u (string_bytes e.0)) refl
    where
      go : lookup (bytes_eq u) (shown es) ≡ option_map f (at es u) → (b : Bool) → bytes_eq u (string_bytes e.0) ≡ b → lookup (bytes_eq u) (shown (e ∷ es)) ≡ option_map f (at (e ∷ es) u)
      go rest true is = rw is refl
      go rest false is = rw is rest

  of_value : (o : Option V) (h : H) → option_map f o ≡ Some h → (v : V) × (o ≡ Some v) × (f v ≡ h)
  of_value None h e = absurd cc
  of_value (Some v) h e = (v, refl, cc)

  pub some_of_value : (o : Option V) → is_some (option_map f o) ≡ is_some o
  some_of_value None = refl
  some_of_value (Some v) = refl

  -- contracts see something of a name where it has an entry
  pub some_shown : (es : List (String Global × V)) (u : List ℕ) → is_some (lookup (bytes_eq u) (shown es)) ≡ is_some (at es u)
  some_shown es u = ap is_some (at_shown es u) ∙ some_of_value (at es u)

  -- the value that contracts see of a name is that of an entry
  pub found_shown : (es : List (String Global × V)) (u : List ℕ) (h : H) → lookup (bytes_eq u) (shown es) ≡ Some h → (v : V) × (at es u ≡ Some v) × (f v ≡ h)
  found_shown es u h found = of_value (at es u) h (sym (at_shown es u) ∙ found)

  pub shows : (es : List (String Global × V)) (u : List ℕ) (v : V) (h : H) → at es u ≡ Some v → f v ≡ h → lookup (bytes_eq u) (shown es) ≡ Some h
  shows es u v h found is = at_shown es u ∙ ap (option_map f) found ∙ ap Some is

  -- what is found in one cache only where it is found in another
  pub shown_among : (old new : List (String Global × V)) → ((u : List ℕ) (v : V) → at new u ≡ Some v → at old u ≡ Some v) → (u : List ℕ) (h : H) → lookup (bytes_eq u) (shown new) ≡ Some h → lookup (bytes_eq u) (shown old) ≡ Some h
  shown_among old new within u h found = let it = found_shown new u h found in shows old u it.0 h (within u it.0 it.1) it.2

  pub shown_popped : (old : List (String Global × V)) (name : List ℕ) → IsDistinct string_eq (keys_of old) → (u : List ℕ) (h : H) → lookup (bytes_eq u) (shown (remove_entry (λ k. bytes_eq name (string_bytes k)) old)) ≡ Some h → (u ≢ name) × (lookup (bytes_eq u) (shown old) ≡ Some h)
  shown_popped old name distinct u h found =
      let it = found_shown (remove_entry (λ k. bytes_eq name (string_bytes k)) old) u h found in
      let now = after_pop old name distinct u it.0 it.1 in
      (now.0, shows old u it.0 h now.1 it.2)

  pub shown_put : (c : LruCache (String Global) V) (k : String Global) (v : V) (new : List (String Global × V)) → IsDistinct string_eq (keys_of c.entries)
      → ((u : List ℕ) (w : V) → at new u ≡ Some w → at (put_entries string_eq c k v) u ≡ Some w)
      → (u : List ℕ) (h : H) → lookup (bytes_eq u) (shown new) ≡ Some h → ((u ≡ string_bytes k) × (Some (f v) ≡ Some h)) ⊎ ((u ≢ string_bytes k) × (lookup (bytes_eq u) (shown c.entries) ≡ Some h))
  shown_put c k v new distinct within u h found =
      let it = found_shown new u h found in
      elim (after_put c k v distinct u it.0 (within u it.0 it.1)) [
        | inl mine ↦ inl (mine.0, ap Some (ap f mine.1 ∙ it.2))
        | inr others ↦ inr (others.0, shows c.entries u it.0 h others.1 it.2)
      ]

  -- contracts see the entry that was put, even if only some of the first entries remain
  pub shown_first : (c new : LruCache (String Global) V) (k : String Global) (v : V) (es : List (String Global × V)) → new ≡ lru_cache (put_entries string_eq c k v) c.cap
      → es ≡ take (length es) new.entries → 0 < length es → lookup (bytes_eq (string_bytes k)) (shown es) ≡ Some (f v)
  shown_first c new k v es now first some =
      shows es (string_bytes k) v (f v) (subst (λ ds. at ds (string_bytes k) ≡ Some v) (sym (first ∙ ap (λ (n : LruCache (String Global) V). take (length es) n.entries) now)) (first_at c k v (length es) some)) refl

  -- an entry that contracts see is there
  pub is_there : (es : List (String Global × V)) (u : List ℕ) → IsSome (lookup (bytes_eq u) (shown es)) → IsSome (at es u)
  is_there es u seen = go (at es u) (subst IsSome (at_shown es u) seen)
    where
      go : (o : Option V) → IsSome (option_map f o) → IsSome o
      go None h = h
      go (Some v) h = refl

  -- the same of caches
  pub seen_promoted : (old new : LruCache (String Global) V) (name : List ℕ) → IsDistinct string_eq (keys_of old.entries) → new ≡ lru_cache (promoted (λ k. bytes_eq name (string_bytes k)) old.entries) old.cap
      → (u : List ℕ) (h : H) → lookup (bytes_eq u) (shown new.entries) ≡ Some h → lookup (bytes_eq u) (shown old.entries) ≡ Some h
  seen_promoted old new name distinct is u h found =
      shown_among old.entries _ (after_promote old.entries name distinct) u h (subst (λ (n : LruCache (String Global) V). lookup (bytes_eq u) (shown n.entries) ≡ Some h) is found)

  pub seen_popped : (old new : LruCache (String Global) V) (name : List ℕ) → IsDistinct string_eq (keys_of old.entries) → new ≡ lru_cache (remove_entry (λ k. bytes_eq name (string_bytes k)) old.entries) old.cap
      → (u : List ℕ) (h : H) → lookup (bytes_eq u) (shown new.entries) ≡ Some h → (u ≢ name) × (lookup (bytes_eq u) (shown old.entries) ≡ Some h)
  seen_popped old new name distinct is u h found =
      shown_popped old.entries name distinct u h (subst (λ (n : LruCache (String Global) V). lookup (bytes_eq u) (shown n.entries) ≡ Some h) is found)

  -- a name that is promoted shows what it showed
  pub same_promoted : (old new : LruCache (String Global) V) (name : List ℕ) → new ≡ lru_cache (promoted (λ k. bytes_eq name (string_bytes k)) old.entries) old.cap
      → option_map f (at new.entries name) ≡ lookup (bytes_eq name) (shown old.entries)
  same_promoted old new name is =
      ap (λ (n : LruCache (String Global) V). option_map f (at n.entries name)) is ∙ ap (option_map f) (found_promoted (λ k. bytes_eq name (string_bytes k)) old.entries) ∙ sym (at_shown old.entries name)
