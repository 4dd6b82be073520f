-- A pool or the removal of one is read from a body exactly where the body has its form.
use Rattle.std.proofs.Common.{◌≡◌, ◌∙◌, ℕ, ◌≤◌, List, [], ◌∷◌, Bool, true, false, nat_le, if◌then◌else◌, Option, Some, None, option_and_then, bytes_eq, refl, ap}
use Rattle.std.specs.Prelude.{codes}
use Rattle.std.proofs.lemmas.Slice.Eq.{bytes_eq-Decides}
use Rattle.serde_json.specs.Data.{Data}
use Rattle.serde_json.specs.Find.{as_str}
use Rattle.crush_pool.specs.Pools.{is_pool}
use Rattle.crush_pool.specs.declared.limits.TheConstants.{POOL_ID_LIMIT}
use Rattle.crush_pool.specs.declared.pool.PoolParts.{PoolParts}
use Rattle.tenant_messages.proofs.Finding.{Decides-leb, Finds, finds_as, finds_boolean, finds_both, finds_natural, finds_number, finds_object, finds_tested, finds_text, finds_under, is_there}
use Rattle.tenant_messages.specs.Forms.{IsNatural, IsBoolean, IsText, IsUnder}
use Rattle.tenant_messages.specs.Json.{both}
use Rattle.tenant_messages.specs.Numbers.{IsRequestNumber}
use Rattle.tenant_resources.specs.declared.pools.Sizes.{Sizes}
use Rattle.tenant_resources.specs.Pools.{IsPoolBody, IsRemovalBody, kind_text, kind_named, kind_of, pair, pool_with, number_under, named_of, sizes_of, sizes_with, pool_of, removal_of}

finds_pair : {A B : Type 0} {F : Data → Option A} {G : Data → Option B} {P : Data → A → Type 0} {Q : Data → B → Type 0}
    → Finds F P → Finds G Q → Finds (λ d. both pair (F d) (G d)) (λ d c. P d c.0 × Q d c.1)
finds_pair {A} {B} first second = finds_both pair (λ (c : A × B). c.0) (λ (c : A × B). c.1) (λ a b. refl) (λ a b. refl) (λ c. refl) first second

-- ---- a kind

kind-named : (text : List ℕ) (erasure r e : Bool) → bytes_eq text (codes "replicated") ≡ r → bytes_eq text (codes "erasure") ≡ e
    → (if r then Some false else (if e then Some true else None)) ≡ Some erasure → text ≡ kind_text erasure
kind-named text erasure true e is_r is_e h = let same : false ≡ erasure = cc in rw (← same) ((bytes_eq-Decides text (codes "replicated")).0 is_r)
kind-named text erasure false true is_r is_e h = let same : true ≡ erasure = cc in rw (← same) ((bytes_eq-Decides text (codes "erasure")).0 is_e)
kind-named text erasure false false is_r is_e h = cc

named : (erasure : Bool) → kind_named (kind_text erasure) ≡ Some erasure
named true = refl
named false = refl

kind-says : (d : Data) (erasure : Bool) (o : Option (List ℕ)) → as_str d ≡ o → option_and_then kind_named o ≡ Some erasure → IsText d (kind_text erasure)
kind-says d erasure None is h = cc
kind-says d erasure (Some text) is h =
    let same : text ≡ kind_text erasure = kind-named text erasure _ _ refl refl h in finds_text.says d (kind_text erasure) (is ∙ ap Some same)

finds_kind : Finds kind_of (λ v erasure. IsText v (kind_text erasure))
finds_kind = record {
  says = λ d erasure h. kind-says d erasure (as_str d) refl h;
  found = λ d erasure is. rw (finds_text.found d (kind_text erasure) is) (named erasure);
}

-- ---- the parts of a pool

finds_number_under : (key : List ℕ) → Finds (number_under key) (IsUnder key (IsNatural 4294967295))
finds_number_under key = finds_under key (finds_natural 4294967295)

abbrev SaysNamed : Data → (List ℕ × ℕ) × (List ℕ × Bool) → Type 0
SaysNamed d n =
    (IsUnder (codes "request") IsRequestNumber d n.0.0 × IsUnder (codes "id") (IsNatural 4294967295) d n.0.1)
    × (IsUnder (codes "name") IsText d n.1.0 × IsUnder (codes "kind") (λ v erasure. IsText v (kind_text erasure)) d n.1.1)

finds_named : Finds named_of SaysNamed
finds_named =
    finds_pair (finds_pair (finds_under (codes "request") finds_number) (finds_number_under (codes "id")))
    (finds_pair (finds_under (codes "name") finds_text) (finds_under (codes "kind") finds_kind))

abbrev SaysSizes : Data → Sizes → Type 0
SaysSizes d s =
    ((IsUnder (codes "size") (IsNatural 4294967295) d s.size × IsUnder (codes "rule") (IsNatural 4294967295) d s.rule)
    × (IsUnder (codes "pg_num") (IsNatural 4294967295) d s.pg_num × IsUnder (codes "pgp_num") (IsNatural 4294967295) d s.pgp_num))
    × IsUnder (codes "hashpspool") IsBoolean d s.hashpspool

finds_sizes : Finds sizes_of SaysSizes
finds_sizes = finds_both sizes_with (λ s. ((s.size, s.rule), (s.pg_num, s.pgp_num))) (λ s. s.hashpspool) (λ n b. refl) (λ n b. refl) (λ s. refl)
    (finds_pair (finds_pair (finds_number_under (codes "size")) (finds_number_under (codes "rule")))
    (finds_pair (finds_number_under (codes "pg_num")) (finds_number_under (codes "pgp_num")))) (finds_under (codes "hashpspool") finds_boolean)

-- ---- the body of a creation

abbrev named_part : List ℕ × PoolParts → (List ℕ × ℕ) × (List ℕ × Bool)
named_part a = ((a.0, a.1.id), (a.1.name, a.1.erasure))

abbrev sizes_part : List ℕ × PoolParts → Sizes
sizes_part a = record { size = a.1.size; rule = a.1.rule; pg_num = a.1.pg_num; pgp_num = a.1.pgp_num; hashpspool = a.1.hashpspool }

pub finds_pool : Finds pool_of IsPoolBody
finds_pool = finds_as
    (λ d a is. record {
      keys = is.0;
      request = is.1.0.0.0.0;
      id = is.1.0.0.0.1;
      name = is.1.0.0.1.0;
      kind = is.1.0.0.1.1;
      size = is.1.0.1.0.0.0;
      rule = is.1.0.1.0.0.1;
      pg_num = is.1.0.1.0.1.0;
      pgp_num = is.1.0.1.0.1.1;
      hashpspool = is.1.0.1.1;
      ranges = is.1.1;
    })
    (λ d a is. (
      is.keys,
      (
        (((is.request, is.id), (is.name, is.kind)), (((is.size, is.rule), (is.pg_num, is.pgp_num)), is.hashpspool)),
        is.ranges,
      ),
    ))
    (finds_object (codes "hashpspool" ∷ codes "id" ∷ codes "kind" ∷ codes "name" ∷ codes "pg_num" ∷ codes "pgp_num" ∷ codes "request" ∷ codes "rule" ∷ codes "size" ∷ []) refl
    (λ d a is. (
      is_there (codes "hashpspool") d a.1.hashpspool is.0.1.1,
      (
        is_there (codes "id") d a.1.id is.0.0.0.1,
        (
          is_there (codes "kind") d a.1.erasure is.0.0.1.1,
          (
            is_there (codes "name") d a.1.name is.0.0.1.0,
            (
              is_there (codes "pg_num") d a.1.pg_num is.0.1.0.1.0,
              (
                is_there (codes "pgp_num") d a.1.pgp_num is.0.1.0.1.1,
                (
                  is_there (codes "request") d a.0 is.0.0.0.0,
                  (
                    is_there (codes "rule") d a.1.rule is.0.1.0.0.1,
                    (is_there (codes "size") d a.1.size is.0.1.0.0.0, tt),
                  ),
                ),
              ),
            ),
          ),
        ),
      ),
    ))
    (finds_tested (λ a. is_pool a.1) (λ a. is_pool a.1 ≡ true) (λ a h. h) (λ a h. h)
    (finds_both pool_with named_part sizes_part (λ n s. refl) (λ n s. refl) (λ a. refl) finds_named finds_sizes)))

-- ---- the body of a removal

pub finds_removal : Finds removal_of IsRemovalBody
finds_removal = finds_as
    (λ d a is. record { keys = is.0; request = is.1.0.0; id = is.1.0.1; some = is.1.1 })
    (λ d a is. (is.keys, ((is.request, is.id), is.some)))
    (finds_object (codes "id" ∷ codes "request" ∷ []) refl
    (λ d a is. (is_there (codes "id") d a.1 is.0.1, (is_there (codes "request") d a.0 is.0.0, tt)))
    (finds_tested (λ a. nat_le 1 a.1) (λ a. 1 ≤ a.1) (λ a. (Decides-leb 1 a.1).0) (λ a. (Decides-leb 1 a.1).1)
    (finds_pair (finds_under (codes "request") finds_number) (finds_under (codes "id") (finds_natural POOL_ID_LIMIT)))))
