-- An import or a rule test is read from a body exactly where the body has its form.
use Rattle.std.proofs.Common.{◌≡◌, ℕ, ◌+◌, ◌≤◌, List, [], ◌∷◌, ◌++◌, length, true, nat_le, Option, Some, None, refl, ◌∙◌, ap}
use Rattle.std.specs.Prelude.{codes}
use Rattle.crush_choose.specs.declared.limits.TheConstants.{SIZE_LIMIT}
use Rattle.crush_map.specs.declared.limits.TheConstants.{RULE_ID_LIMIT}
use Rattle.tenant_messages.proofs.Finding.{Decides-leb, Finds, finds_as, finds_both, finds_natural, finds_number, finds_object, finds_object_with, finds_tested, finds_text, finds_under, is_there}
use Rattle.tenant_messages.proofs.Objects.{are_different}
use Rattle.tenant_messages.proofs.OptionalKeys.{finds_optional, found_if_any, all_found-append, present-if_any}
use Rattle.tenant_messages.specs.Forms.{IsNatural, if_any}
use Rattle.tenant_messages.specs.Json.{present}
use Rattle.tenant_resources.specs.Maps.{IsImportBody, import_of}
use Rattle.tenant_resources.specs.RuleTests.{IsTestBody, test_with, test_of}

-- ---- imports

pub finds_import : Finds import_of IsImportBody
finds_import = finds_as (λ d a is. record { keys = is.0; request = is.1.0; text = is.1.1 }) (λ d a is. (is.keys, (is.request, is.text)))
    (finds_object (codes "request" ∷ codes "text" ∷ []) refl (λ d a is. (is_there (codes "request") d a.0 is.0, (is_there (codes "text") d a.1 is.1, tt)))
    (finds_both (λ number text. (number, text)) (λ a. a.0) (λ a. a.1) (λ a b. refl) (λ a b. refl) (λ a. refl)
    (finds_under (codes "request") finds_number) (finds_under (codes "text") finds_text)))

-- ---- rule tests

abbrev named_keys : List (List ℕ)
named_keys = codes "rule" ∷ codes "size" ∷ codes "x" ∷ []

differ : (o : Option ℕ) → are_different (if_any (codes "version") o ++ named_keys) ≡ true
differ None = refl
differ (Some n) = refl

four_or_three : (o : Option ℕ) → length (if_any (codes "version") o) + 3 ≡ length (if_any (codes "version") o ++ named_keys)
four_or_three None = refl
four_or_three (Some n) = refl

pub finds_test : Finds test_of IsTestBody
finds_test = finds_as
    (λ d t is. record { keys = is.0; rule = is.1.0.0.0; size = is.1.0.0.1; some = is.1.1; x = is.1.0.1.0; version = is.1.0.1.1 })
    (λ d t is. (is.keys, (((is.rule, is.size), (is.x, is.version)), is.some)))
    (finds_object_with (λ d. present (codes "version") d + 3) (λ t. if_any (codes "version") t.version ++ named_keys) (λ t. differ t.version)
    (λ d t is. all_found-append (if_any (codes "version") t.version) named_keys d (found_if_any (IsNatural 4294967295) (codes "version") d t.version is.0.1.1)
    (is_there (codes "rule") d t.rule is.0.0.0, (is_there (codes "size") d t.size is.0.0.1, (is_there (codes "x") d t.x is.0.1.0, tt))))
    (λ d t is. ap (λ n. n + 3) (present-if_any (IsNatural 4294967295) (codes "version") d t.version is.0.1.1) ∙ four_or_three t.version)
    (finds_tested (λ t. nat_le 1 t.size) (λ t. 1 ≤ t.size) (λ t. (Decides-leb 1 t.size).0) (λ t. (Decides-leb 1 t.size).1)
    (finds_both test_with (λ t. (t.rule, t.size)) (λ t. (t.x, t.version)) (λ a b. refl) (λ a b. refl) (λ t. refl)
    (finds_both (λ rule size. (rule, size)) (λ p. p.0) (λ p. p.1) (λ a b. refl) (λ a b. refl) (λ p. refl)
    (finds_under (codes "rule") (finds_natural RULE_ID_LIMIT)) (finds_under (codes "size") (finds_natural SIZE_LIMIT)))
    (finds_both (λ x version. (x, version)) (λ p. p.0) (λ p. p.1) (λ a b. refl) (λ a b. refl) (λ p. refl)
    (finds_under (codes "x") (finds_natural 4294967295)) (finds_optional (codes "version") (finds_natural 4294967295))))))
