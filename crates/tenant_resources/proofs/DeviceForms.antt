-- Changes of devices are read from a body exactly where the body has their form.
use Rattle.std.proofs.Common.{◌≡◌, ℕ, ◌+◌, ◌||◌, List, [], ◌∷◌, ◌++◌, length, Bool, true, Option, Some, None, is_some, refl}
use Rattle.std.specs.Prelude.{codes}
use Rattle.crush_choose.specs.declared.weights.TheConstants.{FULL}
use Rattle.crush_map.specs.declared.limits.TheConstants.{NUMBER_LIMIT}
use Rattle.crush_pool.proofs.ValidChanges.{AreValidChanges, Decides-are_valid_changes}
use Rattle.crush_pool.specs.Changes.{are_valid_changes}
use Rattle.tenant_messages.proofs.Finding.{Finds, finds_as, finds_boolean, finds_both, finds_list, finds_natural, finds_number, finds_object, finds_object_with, finds_tested, finds_under, is_there}
use Rattle.tenant_messages.proofs.Objects.{are_different}
use Rattle.tenant_messages.proofs.OptionalKeys.{finds_optional, found_if_any, all_found-append, present-if_any}
use Rattle.tenant_messages.specs.Forms.{IsNatural, IsBoolean, if_any}
use Rattle.tenant_messages.specs.Json.{present}
use Rattle.tenant_resources.specs.Devices.{IsChange, IsDevicesBody, change_with, change_of, changes_of}

-- ---- a change

abbrev id_alone : List (List ℕ)
id_alone = codes "id" ∷ []

abbrev named : Option ℕ → Option Bool → List (List ℕ)
named reweight up = if_any (codes "reweight") reweight ++ if_any (codes "up") up ++ id_alone

differ : (reweight : Option ℕ) (up : Option Bool) → are_different (named reweight up) ≡ true
differ None None = refl
differ None (Some up) = refl
differ (Some reweight) None = refl
differ (Some reweight) (Some up) = refl

as_many : (reweight : Option ℕ) (up : Option Bool) → length (if_any (codes "reweight") reweight) + (length (if_any (codes "up") up) + 1) ≡ length (named reweight up)
as_many None None = refl
as_many None (Some up) = refl
as_many (Some reweight) None = refl
as_many (Some reweight) (Some up) = refl

finds_change : Finds change_of IsChange
finds_change = finds_as
    (λ d c is. record { keys = is.0; device = is.1.0.0; reweight = is.1.0.1.0; up = is.1.0.1.1; some = is.1.1 })
    (λ d c is. (is.keys, ((is.device, (is.reweight, is.up)), is.some)))
    (finds_object_with (λ d. present (codes "reweight") d + (present (codes "up") d + 1)) (λ c. named c.reweight c.up) (λ c. differ c.reweight c.up)
    (λ d c is. all_found-append (if_any (codes "reweight") c.reweight ++ if_any (codes "up") c.up) id_alone d
    (all_found-append (if_any (codes "reweight") c.reweight) (if_any (codes "up") c.up) d
    (found_if_any (IsNatural FULL) (codes "reweight") d c.reweight is.0.1.0) (found_if_any IsBoolean (codes "up") d c.up is.0.1.1))
    (is_there (codes "id") d c.device is.0.0, tt))
    (λ d c is. rw (present-if_any (IsNatural FULL) (codes "reweight") d c.reweight is.0.1.0, present-if_any IsBoolean (codes "up") d c.up is.0.1.1) (as_many c.reweight c.up))
    (finds_tested (λ c. is_some c.reweight || is_some c.up) (λ c. (is_some c.reweight || is_some c.up) ≡ true) (λ c h. h) (λ c h. h)
    (finds_both change_with (λ c. c.device) (λ c. (c.reweight, c.up)) (λ a b. refl) (λ a b. refl) (λ c. refl)
    (finds_under (codes "id") (finds_natural NUMBER_LIMIT))
    (finds_both (λ reweight up. (reweight, up)) (λ p. p.0) (λ p. p.1) (λ a b. refl) (λ a b. refl) (λ p. refl)
    (finds_optional (codes "reweight") (finds_natural FULL)) (finds_optional (codes "up") finds_boolean)))))

-- ---- the body

pub finds_changes : Finds changes_of IsDevicesBody
finds_changes = finds_as
    (λ d a is. record { keys = is.0; devices = is.1.0.1; request = is.1.0.0; some = is.1.1.some; few = is.1.1.few; distinct = is.1.1.distinct })
    (λ d a is. (is.keys, ((is.request, is.devices), record { some = is.some; few = is.few; distinct = is.distinct })))
    (finds_object (codes "devices" ∷ codes "request" ∷ []) refl
    (λ d a is. (is_there (codes "devices") d a.1 is.0.1, (is_there (codes "request") d a.0 is.0.0, tt)))
    (finds_tested (λ a. are_valid_changes a.1) (λ a. AreValidChanges a.1) (λ a. (Decides-are_valid_changes a.1).0) (λ a. (Decides-are_valid_changes a.1).1)
    (finds_both (λ number changes. (number, changes)) (λ a. a.0) (λ a. a.1) (λ a b. refl) (λ a b. refl) (λ a. refl)
    (finds_under (codes "request") finds_number) (finds_under (codes "devices") (finds_list finds_change)))))
