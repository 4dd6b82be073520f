-- The name of an object is read from a body exactly where the body has its form.
use Rattle.std.proofs.Common.{◌≤◌, [], ◌∷◌, length, nat_le, refl}
use Rattle.std.specs.Prelude.{codes}
use Rattle.tenant_messages.proofs.Finding.{Decides-leb, Finds, finds_as, finds_object, finds_tested, finds_text, finds_under, is_there}
use Rattle.tenant_resources.specs.declared.limits.TheConstants.{OBJECT_NAME_LIMIT}
use Rattle.tenant_resources.specs.Groups.{IsLocateBody, name_of}

pub finds_name : Finds name_of IsLocateBody
finds_name = finds_as (λ d n is. record { keys = is.0; name = is.1.0; few = is.1.1 }) (λ d n is. (is.keys, (is.name, is.few)))
    (finds_object (codes "name" ∷ []) refl (λ d n is. (is_there (codes "name") d n is.0, tt))
    (finds_tested (λ n. nat_le (length n) OBJECT_NAME_LIMIT) (λ n. length n ≤ OBJECT_NAME_LIMIT) (λ n. (Decides-leb (length n) OBJECT_NAME_LIMIT).0) (λ n. (Decides-leb (length n) OBJECT_NAME_LIMIT).1)
    (finds_under (codes "name") finds_text)))
