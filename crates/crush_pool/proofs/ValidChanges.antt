-- What it takes for changes to be valid.
use Rattle.std.proofs.Common.{◌≡◌, ◌≢◌, ℕ, suc, ◌&&◌, ◌||◌, ◌≤◌, List, [], ◌∷◌, length, Bool, true, false, not, nat_le, refl, sym, arith}
use Rattle.std.specs.Bool.{Decides}
use Rattle.std.specs.List.{All, AllPairs, list_any}
use Rattle.std.proofs.lemmas.Bool.Decides.{nat_tests, Decides-and, Decides-by_and, Decides-eqb, Decides-like, Decides-not}
use Rattle.std.proofs.lemmas.List.Kept.{AllPairs-cons}
use Rattle.crush_pool.specs.Changes.{is_of_device, are_distinct, are_valid_changes}
use Rattle.crush_pool.specs.declared.changes.DeviceChange.{DeviceChange}
use Rattle.crush_pool.specs.declared.limits.TheConstants.{CHANGE_LIMIT}

Decides-leb : (a b : ℕ) → Decides (nat_le a b) (a ≤ b)
Decides-leb a b = (λ h. grind (arith, nat_tests), λ h. grind (arith, nat_tests))

Decides-none : (device : ℕ) (cs : List DeviceChange) → Decides (not (list_any (is_of_device device) cs)) (All (λ c. c.device ≢ device) cs)
Decides-none device cs =
    Decides-by_and (λ c. not (is_of_device device c)) (λ c. c.device ≢ device) (λ cs. not (list_any (is_of_device device) cs))
    (λ c. Decides-not (is_of_device device c) (Decides-eqb c.device device)) refl (λ c cs. neither (is_of_device device c) (list_any (is_of_device device) cs)) cs
  where
    neither : (a b : Bool) → not (a || b) ≡ (not a && not b)
    neither true b = refl
    neither false b = refl

abbrev pub Differ : DeviceChange → DeviceChange → Type 0
Differ c e = c.device ≢ e.device

pairs-head : (c : DeviceChange) (cs : List DeviceChange) → AllPairs Differ (c ∷ cs) → All (λ (e : DeviceChange). e.device ≢ c.device) cs
pairs-head c cs h k d below same = h 0 (suc k) d (omega arith) (omega arith) (sym same)

pairs-tail : (c : DeviceChange) (cs : List DeviceChange) → AllPairs Differ (c ∷ cs) → AllPairs Differ cs
pairs-tail c cs h i j d before below = h (suc i) (suc j) d (omega arith) (omega arith)

Decides-distinct : (cs : List DeviceChange) → Decides (are_distinct cs) (AllPairs Differ cs)
Decides-distinct [] = (λ h i j d before below. absurd (omega arith), λ h. refl)
Decides-distinct (c ∷ cs) =
    Decides-like _ (λ is. AllPairs-cons Differ c cs (λ k d below same. is.0 k d below (sym same)) is.1)
    (λ is. (pairs-head c cs is, pairs-tail c cs is))
    (Decides-and (not (list_any (is_of_device c.device) cs)) (are_distinct cs) (Decides-none c.device cs) (Decides-distinct cs))

pub record AreValidChanges (cs : List DeviceChange) : Type 0 where
  pub some : 1 ≤ length cs
  pub few : length cs ≤ CHANGE_LIMIT
  pub distinct : AllPairs Differ cs

pub Decides-are_valid_changes : (cs : List DeviceChange) → Decides (are_valid_changes cs) (AreValidChanges cs)
Decides-are_valid_changes cs =
    Decides-like (are_valid_changes cs) (λ is. record { some = is.0.0; few = is.0.1; distinct = is.1 }) (λ is. ((is.some, is.few), is.distinct))
    (Decides-and _ (are_distinct cs)
    (Decides-and (nat_le 1 (length cs)) (nat_le (length cs) CHANGE_LIMIT) (Decides-leb 1 (length cs)) (Decides-leb (length cs) CHANGE_LIMIT))
    (Decides-distinct cs))
