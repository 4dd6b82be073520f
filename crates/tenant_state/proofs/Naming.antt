-- No two pools have one name, also when a pool is added that is like none, or one is removed.
use Rattle.std.proofs.Common.{◌≡◌, ℕ, ◌==◌, ◌||◌, not, List, [], ◌∷◌, Bool, true, false, nat_le, if◌then◌else◌, bytes_eq, refl, arith}
use Rattle.std.proofs.lemmas.Slice.Eq.{bytes_eq-Decides}
use Rattle.std.specs.List.{list_any}
use Rattle.tenant_state.proofs.Staying.{both_true}
use Rattle.tenant_state.specs.Ordered.{with_element, without}
use Rattle.tenant_state.specs.State.{TenantPool, is_like}
use Rattle.tenant_state.specs.Valid.{are_named_once}

-- ---- a test that no element passes

both_false : (a b : Bool) → (a || b) ≡ false → (a ≡ false) × (b ≡ false)
both_false true b h = cc
both_false false b h = (refl, h)

not_true : (a : Bool) → not a ≡ true → a ≡ false
not_true true h = cc
not_true false h = refl

none_with : {A : Type 0} (t : A → Bool) (number : A → ℕ) (new : A) (xs : List A) → t new ≡ false → list_any t xs ≡ false → list_any t (with_element number new xs) ≡ false
none_with t number new [] h none = rw h refl
none_with t number new (x ∷ xs) h none =
    let are = both_false (t x) (list_any t xs) none in placed (nat_le (number new) (number x)) (number x == number new) are.0 are.1 (none_with t number new xs h are.1)
  where
    placed : (b c : Bool) → t x ≡ false → list_any t xs ≡ false → list_any t (with_element number new xs) ≡ false
        → list_any t (if b then (if c then new ∷ xs else new ∷ x ∷ xs) else x ∷ with_element number new xs) ≡ false
    placed true true one rest later = rw (h, rest) refl
    placed true false one rest later = rw (h, one, rest) refl
    placed false c one rest later = rw (one, later) refl

none_without : {A : Type 0} (t : A → Bool) (number : A → ℕ) (n : ℕ) (xs : List A) → list_any t xs ≡ false → list_any t (without number n xs) ≡ false
none_without t number n [] none = refl
none_without t number n (x ∷ xs) none =
    let are = both_false (t x) (list_any t xs) none in left (number x == n) are.0 are.1 (none_without t number n xs are.1)
  where
    left : (b : Bool) → t x ≡ false → list_any t xs ≡ false → list_any t (without number n xs) ≡ false → list_any t (if b then xs else x ∷ without number n xs) ≡ false
    left true one rest later = rest
    left false one rest later = rw (one, later) refl

-- ---- names of pools

abbrev id_of : TenantPool → ℕ
id_of p = p.parts.id

abbrev has_name : List ℕ → TenantPool → Bool
has_name name q = bytes_eq q.parts.name name

other_way : (xs ys : List ℕ) → bytes_eq xs ys ≡ false → bytes_eq ys xs ≡ false
other_way xs ys h = grind (arith, bytes_eq-Decides xs ys, bytes_eq-Decides ys xs, h)

names_apart : (p : TenantPool) (ps : List TenantPool) → list_any (is_like p.parts) ps ≡ false → list_any (has_name p.parts.name) ps ≡ false
names_apart p [] h = refl
names_apart p (q ∷ qs) h =
    let are = both_false (is_like p.parts q) (list_any (is_like p.parts) qs) h in
    let one = both_false (q.parts.id == p.parts.id) (bytes_eq q.parts.name p.parts.name) are.0 in
    let rest = names_apart p qs are.1 in rw (one.1, rest) refl

pub named_with : (p : TenantPool) (ps : List TenantPool) → list_any (is_like p.parts) ps ≡ false → are_named_once ps ≡ true → are_named_once (with_element id_of p ps) ≡ true
named_with p [] new once = refl
named_with p (q ∷ qs) new once =
    let are = both_true (not (list_any (has_name q.parts.name) qs)) (are_named_once qs) once in
    let apart = both_false (is_like p.parts q) (list_any (is_like p.parts) qs) new in
    let one = both_false (q.parts.id == p.parts.id) (bytes_eq q.parts.name p.parts.name) apart.0 in
    placed (nat_le p.parts.id q.parts.id) (q.parts.id == p.parts.id) one.0
    (names_apart p (q ∷ qs) new)
    (none_with (has_name q.parts.name) id_of p qs (other_way q.parts.name p.parts.name one.1) (not_true (list_any (has_name q.parts.name) qs) are.0))
    (named_with p qs apart.1 are.1)
  where
    placed : (b c : Bool) → c ≡ false → list_any (has_name p.parts.name) (q ∷ qs) ≡ false → list_any (has_name q.parts.name) (with_element id_of p qs) ≡ false
        → are_named_once (with_element id_of p qs) ≡ true
        → are_named_once (if b then (if c then p ∷ qs else p ∷ q ∷ qs) else q ∷ with_element id_of p qs) ≡ true
    placed true true is first other later = cc
    placed true false is first other later = rw first once
    placed false c is first other later = rw (other, later) refl

pub named_without : (n : ℕ) (ps : List TenantPool) → are_named_once ps ≡ true → are_named_once (without id_of n ps) ≡ true
named_without n [] once = refl
named_without n (q ∷ qs) once =
    let are = both_true (not (list_any (has_name q.parts.name) qs)) (are_named_once qs) once in
    left (q.parts.id == n) are.1 (none_without (has_name q.parts.name) id_of n qs (not_true (list_any (has_name q.parts.name) qs) are.0)) (named_without n qs are.1)
  where
    left : (b : Bool) → are_named_once qs ≡ true → list_any (has_name q.parts.name) (without id_of n qs) ≡ false → are_named_once (without id_of n qs) ≡ true
        → are_named_once (if b then qs else q ∷ without id_of n qs) ≡ true
    left true rest first later = rest
    left false rest first later = rw (first, later) refl
