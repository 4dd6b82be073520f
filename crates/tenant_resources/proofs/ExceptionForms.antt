-- Exceptions of a pool are read from a body exactly where the body has their form.
use Rattle.std.proofs.Common.{◌≡◌, ℕ, ◌&&◌, ◌≤◌, List, [], ◌∷◌, true, nat_le, refl}
use Rattle.std.specs.Bool.{Decides}
use Rattle.std.specs.Prelude.{codes}
use Rattle.std.proofs.lemmas.Bool.Decides.{Decides-and}
use Rattle.crush_pool.specs.Exceptions.{are_pairs}
use Rattle.crush_pool.specs.declared.exceptions.Pair.{Pair}
use Rattle.crush_pool.specs.declared.limits.TheConstants.{GROUP_LIMIT, POOL_ID_LIMIT}
use Rattle.tenant_messages.proofs.Finding.{Decides-leb, Finds, finds_as, finds_list, finds_natural, finds_number, finds_object, finds_tested, finds_three, finds_under, is_there}
use Rattle.tenant_messages.specs.Forms.{IsNatural, IsUnder}
use Rattle.tenant_resources.specs.Exceptions.{IsPairForm, IsExceptionsBody, asked_with, exceptions_of, number_under, pair_of, pair_with}

-- ---- a pair

finds_number_under : (key : List ℕ) → Finds (number_under key) (IsUnder key (IsNatural 4294967295))
finds_number_under key = finds_under key (finds_natural 4294967295)

finds_pair : Finds pair_of IsPairForm
finds_pair = finds_as
    (λ d p is. record { keys = is.0; from = is.1.1; group = is.1.0; to = is.1.2 })
    (λ d p is. (is.keys, (is.group, is.from, is.to)))
    (finds_object (codes "from" ∷ codes "group" ∷ codes "to" ∷ []) refl
    (λ d p is. (is_there (codes "from") d p.from is.1, (is_there (codes "group") d p.group is.0, (is_there (codes "to") d p.to is.2, tt))))
    (finds_three pair_with (λ p. p.group) (λ p. p.from) (λ p. p.to) (λ a b c. refl) (λ a b c. refl) (λ a b c. refl) (λ p. refl)
    (finds_number_under (codes "group")) (finds_number_under (codes "from")) (finds_number_under (codes "to"))))

-- ---- the body

abbrev Asked : Type 0
Asked = List ℕ × (ℕ × List Pair)

abbrev InRange : Asked → Type 0
InRange a = (1 ≤ a.1.0) × (are_pairs GROUP_LIMIT a.1.1 ≡ true)

Decides-in_range : (a : Asked) → Decides (nat_le 1 a.1.0 && are_pairs GROUP_LIMIT a.1.1) (InRange a)
Decides-in_range a = Decides-and (nat_le 1 a.1.0) (are_pairs GROUP_LIMIT a.1.1) (Decides-leb 1 a.1.0) (λ h. h, λ h. h)

pub finds_exceptions : Finds exceptions_of IsExceptionsBody
finds_exceptions = finds_as
    (λ d a is. record { keys = is.0; exceptions = is.1.0.2; id = is.1.0.1; request = is.1.0.0; some = is.1.1.0; ranges = is.1.1.1 })
    (λ d a is. (is.keys, ((is.request, is.id, is.exceptions), (is.some, is.ranges))))
    (finds_object (codes "exceptions" ∷ codes "id" ∷ codes "request" ∷ []) refl
    (λ d a is. (is_there (codes "exceptions") d a.1.1 is.0.2, (is_there (codes "id") d a.1.0 is.0.1, (is_there (codes "request") d a.0 is.0.0, tt))))
    (finds_tested (λ (a : Asked). nat_le 1 a.1.0 && are_pairs GROUP_LIMIT a.1.1) InRange (λ a. (Decides-in_range a).0) (λ a. (Decides-in_range a).1)
    (finds_three asked_with (λ (a : Asked). a.0) (λ a. a.1.0) (λ a. a.1.1) (λ a b c. refl) (λ a b c. refl) (λ a b c. refl) (λ a. refl)
    (finds_under (codes "request") finds_number) (finds_under (codes "id") (finds_natural POOL_ID_LIMIT)) (finds_under (codes "exceptions") (finds_list finds_pair)))))
