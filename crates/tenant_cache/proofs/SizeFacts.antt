-- The sum of the sizes of a cache's values, before and after a call.
use native.Mathlib.Omega.{arith}
use Rattle.std.proofs.Common.{◌≡◌, ◌≤◌, ◌<◌, ℕ, zero, suc, ◌+◌, ◌-◌, List, [], ◌∷◌, Bool, length, take, Option, Some, None, option_map, min, ◌^◌, refl, sym, ap, ◌∙◌, ◌⊎◌, inl, inr, subst}
use Rattle.std.specs.Option.{option_map_or, unwrap_or}
use Rattle.std.specs.List.{sum_by, slice_get}
use Rattle.std.specs.Map.{lookup, lookup_entry, remove_entry, values_of}
use Rattle.std.proofs.lemmas.List.{length-take-le}
use Rattle.std.proofs.lemmas.List.Sums.{sum_by-cons}
use Rattle.std.proofs.lemmas.Map.Entries.{sum_by-remove_entry}
use Rattle.std.proofs.Math.Nat.{min-eq_left}
use Rattle.lru.proofs.Pairs.{lookup-lookup_entry}
use Rattle.lru.specs.LruCache.{LruCache, IsValid, lru_cache, last_entry, promoted, put_entries, displaced}

-- the first of the first elements
take_fewer : {X : Type 0} (m n : ℕ) (xs : List X) → m ≤ n → take m (take n xs) ≡ take m xs
take_fewer zero n xs le = refl
take_fewer (suc m) zero xs le = absurd (omega arith)
take_fewer (suc m) (suc n) [] le = refl
take_fewer (suc m) (suc n) (x ∷ xs) le = ap (λ ys. x ∷ ys) (take_fewer m n xs (omega arith))

lt_or_same : (m n : ℕ) → m ≤ n → (m < n) ⊎ (m ≡ n)
lt_or_same zero zero le = inr refl
lt_or_same zero (suc n) le = inl (omega arith)
lt_or_same (suc m) zero le = absurd (omega arith)
lt_or_same (suc m) (suc n) le = elim (lt_or_same m n (omega arith)) [
  | inl less ↦ inl (omega (arith, less))
  | inr same ↦ inr (ap suc same)
]

-- the sum of the sizes after an entry is gone, from a size that is read as a number of 64 bits
freed : (bytes size read old new : ℕ) → bytes ≡ old → new + size ≡ old → bytes < 2 ^ 64 → read ≡ min size (2 ^ 64 - 1) → (read ≤ bytes) × (bytes - read ≡ new)
freed bytes size read old new is sum fits size_is =
    let small : size ≤ 2 ^ 64 - 1 = omega arith in
    let exact : read ≡ size = size_is ∙ min-eq_left small in
    (omega arith, omega arith)

-- a size that is read as a number of 64 bits, and is small
exact : (size read : ℕ) → read ≡ min size (2 ^ 64 - 1) → read < 2 ^ 63 → read ≡ size
exact size read is small = omega arith

module _ {K V : Type 0} (f : V → ℕ) where
  abbrev pub total : List (K × V) → ℕ
  total es = sum_by f (values_of es)

  -- the size of an entry that may be there
  abbrev pub size_of : Option (K × V) → ℕ
  size_of o = unwrap_or (option_map (λ e. f e.1) o) 0

  pub total-cons : (e : K × V) (es : List (K × V)) → total (e ∷ es) ≡ f e.1 + total es
  total-cons e es = sum_by-cons f e.1 (values_of es)

  -- the size by which a removal by key lowers the sum
  pub total-removed : (test : K → Bool) (es : List (K × V)) → total (remove_entry test es) + unwrap_or (option_map f (lookup test es)) 0 ≡ total es
  total-removed = sum_by-remove_entry f

  pub total-popped_entry : (test : K → Bool) (es : List (K × V)) → total (remove_entry test es) + size_of (lookup_entry test es) ≡ total es
  total-popped_entry test es = ap (λ n. total (remove_entry test es) + n) (same (lookup_entry test es) ∙ ap (λ o. unwrap_or (option_map f o) 0) (lookup-lookup_entry test es)) ∙ total-removed test es
    where
      same : (o : Option (K × V)) → size_of o ≡ unwrap_or (option_map f (option_map (λ e. e.1) o)) 0
      same None = refl
      same (Some e) = refl

  -- the sum is the same after an entry goes to the front
  pub total-promoted : (test : K → Bool) (es : List (K × V)) → total (promoted test es) ≡ total es
  total-promoted test es = go (lookup_entry test es) refl
    where
      go : (o : Option (K × V)) → lookup_entry test es ≡ o → total (option_map_or (λ e. e ∷ remove_entry test es) o es) ≡ total es
      go None h = refl
      go (Some e) h =
          let found : Some e.1 ≡ lookup test es = sym (ap (option_map (λ (x : K × V). x.1)) h) ∙ lookup-lookup_entry test es in
          let all = total-removed test es in
          let read : unwrap_or (option_map f (Some e.1)) 0 ≡ unwrap_or (option_map f (lookup test es)) 0 = ap (λ o. unwrap_or (option_map f o) 0) found in
          total-cons e (remove_entry test es) ∙ omega (arith, all, read)

  -- the first entries and the one behind them, where there is no other
  pub total-taken : (n : ℕ) (es : List (K × V)) → length es ≤ n + 1 → total (take n es) + size_of (slice_get es n) ≡ total es
  total-taken zero [] few = refl
  total-taken zero (e ∷ []) few = omega (arith, total-cons e [])
  total-taken zero (e ∷ d ∷ es) few = absurd (omega arith)
  total-taken (suc n) [] few = refl
  total-taken (suc n) (e ∷ es) few = omega (arith, total-taken n es (omega arith), total-cons e es, total-cons e (take n es))

  -- the size by which `pop_lru` lowers the sum
  pub total-popped : (es : List (K × V)) → total (take (length es - 1) es) + size_of (last_entry es) ≡ total es
  total-popped es = total-taken (length es - 1) es (omega arith)

  -- `push` adds the size of the new entry to the sum, and takes off that of the entry it removes
  pub total-pushed : (eq : K → K → Bool) (c : LruCache K V) (k : K) (v : V) → length c.entries ≤ c.cap → 0 < c.cap
      → total (put_entries eq c k v) + size_of (displaced eq c k v) ≡ total c.entries + f v
  total-pushed eq c k v fits some = go (lookup_entry (eq k) c.entries) refl
    where
      go : (o : Option (K × V)) → lookup_entry (eq k) c.entries ≡ o
          → total (option_map_or (λ e. (e.0, v) ∷ remove_entry (eq k) c.entries) o ((k, v) ∷ take (c.cap - 1) c.entries)) + size_of (displaced eq c k v) ≡ total c.entries + f v
      go None h =
          let none : None ≡ lookup (eq k) c.entries = sym (ap (option_map (λ (x : K × V). x.1)) h) ∙ lookup-lookup_entry (eq k) c.entries in
          let out : size_of (displaced eq c k v) ≡ size_of (slice_get c.entries (c.cap - 1)) = ap (λ o. size_of (option_map_or (λ old. Some (k, old)) o (slice_get c.entries (c.cap - 1)))) (sym none) in
          omega (arith, total-cons (k, v) (take (c.cap - 1) c.entries), total-taken (c.cap - 1) c.entries (omega arith), out)
      go (Some e) h =
          let found : Some e.1 ≡ lookup (eq k) c.entries = sym (ap (option_map (λ (x : K × V). x.1)) h) ∙ lookup-lookup_entry (eq k) c.entries in
          let out : size_of (displaced eq c k v) ≡ f e.1 = ap (λ o. size_of (option_map_or (λ old. Some (k, old)) o (slice_get c.entries (c.cap - 1)))) (sym found) in
          let read : unwrap_or (option_map f (lookup (eq k) c.entries)) 0 ≡ f e.1 = ap (λ o. unwrap_or (option_map f o) 0) (sym found) in
          omega (arith, total-cons (e.0, v) (remove_entry (eq k) c.entries), total-removed (eq k) c.entries, out, read)

  -- the last of the first entries goes, where they are too large
  pub fewer : (old es : List (K × V)) (bound : ℕ) → es ≡ take (length es) old → ((n : ℕ) → length es < n → n ≤ length old → bound < total (take n old)) → bound < total es
      → (take (length es - 1) es ≡ take (length (take (length es - 1) es)) old)
      × ((n : ℕ) → length (take (length es - 1) es) < n → n ≤ length old → bound < total (take n old))
  fewer old es bound first most over =
      let len : length (take (length es - 1) es) ≡ length es - 1 = length-take-le (length es - 1) es (omega arith) in
      let all : bound < total (take (length es) old) = subst (λ xs. bound < total xs) first over in (
        ap (take (length es - 1)) first ∙ take_fewer (length es - 1) (length es) old (omega arith) ∙ ap (λ n. take n old) (sym len),
        λ n more within. elim (lt_or_same (length es) n (omega (arith, len, more))) [
          | inl larger ↦ most n larger within
          | inr same ↦ subst (λ m. bound < total (take m old)) same all
        ],
      )

  -- the same of caches
  popped_sum : (test : K → Bool) (old new : LruCache K V) (o : Option (K × V)) → o ≡ lookup_entry test old.entries → new ≡ lru_cache (remove_entry test old.entries) old.cap
      → total new.entries + size_of o ≡ total old.entries
  popped_sum test old new o is now = rw is (rw now (total-popped_entry test old.entries))

  pub promoted_sum : (old new : LruCache K V) (test : K → Bool) → new ≡ lru_cache (promoted test old.entries) old.cap → total new.entries ≡ total old.entries
  promoted_sum old new test now = rw now (total-promoted test old.entries)

  evicted_sum : (old new : LruCache K V) (o : Option (K × V)) → o ≡ last_entry old.entries → new ≡ lru_cache (take (length old.entries - 1) old.entries) old.cap
      → total new.entries + size_of o ≡ total old.entries
  evicted_sum old new o is now = rw is (rw now (total-popped old.entries))

  pushed_sum : (eq : K → K → Bool) (old new : LruCache K V) (k : K) (v : V) (o : Option (K × V)) → IsValid eq old → o ≡ displaced eq old k v → new ≡ lru_cache (put_entries eq old k v) old.cap
      → total new.entries + size_of o ≡ total old.entries + f v
  pushed_sum eq old new k v o valid is now = rw is (rw now (total-pushed eq old k v valid.1 valid.2))

  -- and with sizes that are read as numbers of 64 bits
  pub popped_read : (test : K → Bool) (old new : LruCache K V) (o : Option (K × V)) (bytes read : ℕ) → o ≡ lookup_entry test old.entries → new ≡ lru_cache (remove_entry test old.entries) old.cap
      → bytes ≡ total old.entries → bytes < 2 ^ 64 → read ≡ min (size_of o) (2 ^ 64 - 1) → (read ≤ bytes) × (bytes - read ≡ total new.entries)
  popped_read test old new o bytes read is now counted fits read_is = freed bytes (size_of o) read (total old.entries) (total new.entries) counted (popped_sum test old new o is now) fits read_is

  pub evicted_read : (old new : LruCache K V) (o : Option (K × V)) (bytes read : ℕ) → o ≡ last_entry old.entries → new ≡ lru_cache (take (length old.entries - 1) old.entries) old.cap
      → bytes ≡ total old.entries → bytes < 2 ^ 64 → read ≡ min (size_of o) (2 ^ 64 - 1) → (read ≤ bytes) × (bytes - read ≡ total new.entries)
  evicted_read old new o bytes read is now counted fits read_is = freed bytes (size_of o) read (total old.entries) (total new.entries) counted (evicted_sum old new o is now) fits read_is

  pub pushed_read : (eq : K → K → Bool) (old new : LruCache K V) (k : K) (v : V) (o : Option (K × V)) (bytes size read : ℕ) → IsValid eq old → o ≡ displaced eq old k v
      → new ≡ lru_cache (put_entries eq old k v) old.cap → bytes ≡ total old.entries → bytes < 2 ^ 63 → size ≡ min (f v) (2 ^ 64 - 1) → size < 2 ^ 63
      → read ≡ min (size_of o) (2 ^ 64 - 1) → (read ≤ bytes + size) × (bytes + size - read ≡ total new.entries)
  pushed_read eq old new k v o bytes size read valid is now counted fits size_is room read_is =
      let added : size ≡ f v = exact (f v) size size_is room in
      freed (bytes + size) (size_of o) read (total old.entries + f v) (total new.entries) (omega (arith, counted, added)) (pushed_sum eq old new k v o valid is now) (omega (arith, fits, room)) read_is
