-- The rows of pools and of their pairs are those of one list of pools at most.
use Rattle.std.proofs.Common.{◌≡◌, ◌≢◌, inl, inr, ℕ, ℤ, pos, suc, add-one, ◌+◌, ◌<◌, ◌≤◌, ◌==◌, ◌&&◌, Bool, false, not, nat_le, nat_lt, get_or, drop, take, slice_index_or, List, [], ◌∷◌, ◌++◌, length, map, true, arith, refl, sym, ap, ap₂, subst, ◌∙◌, append_assoc, length-append}
use Rattle.std.specs.List.{list_all}
use Rattle.std.proofs.Math.Seq.{take-suc}
use Rattle.std.proofs.lemmas.Bool.Decides.{nat_tests}
use Rattle.std.proofs.lemmas.List.{append-nil, get_or_default, length-map, map-append, take-append-drop}
use Rattle.table_schema.specs.sqlite_value.specs.Order.{Row}
use Rattle.table_schema.specs.sqlite_rules.specs.Lists.{Has}
use Rattle.crush_map.specs.declared.limits.TheConstants.{NUMBER_LIMIT}
use Rattle.crush_pool.specs.Exceptions.{are_pairs, is_pair}
use Rattle.crush_pool.specs.Pools.{is_pool}
use Rattle.crush_pool.specs.declared.exceptions.Pair.{Pair}
use Rattle.crush_pool.specs.declared.limits.TheConstants.{GROUP_LIMIT, PAIR_LIMIT}
use Rattle.crush_pool.specs.declared.pool.PoolParts.{PoolParts}
use Rattle.tenant_state.specs.State.{TenantPool}
use Rattle.tenant_state.specs.Valid.{is_tenant_pool}
use Rattle.table_schema.specs.Values.{exception_row}
use Rattle.table_schema.specs.declared.values.ExceptionRow.{ExceptionRow}
use Rattle.table_schema.specs.Found.{pool_values}
use Rattle.table_schema.specs.declared.rows.PoolRow.{PoolRow}
use Rattle.tenant_tables.specs.Rows.{row_of_pool, row_of_pair, row_with_count, rows_of_pairs, rows_of_exceptions}
use Rattle.tenant_tables.proofs.Reading.{first, second, heads, tails, same_settings}

-- ---- lists

pub same_front : {A : Type 0} (xs ys us vs : List A) → length xs ≡ length ys → xs ++ us ≡ ys ++ vs → (xs ≡ ys) × (us ≡ vs)
same_front [] [] us vs long same = (refl, same)
same_front [] (y ∷ ys) us vs long same = absurd (omega (arith, long))
same_front (x ∷ xs) [] us vs long same = absurd (omega (arith, long))
same_front (x ∷ xs) (y ∷ ys) us vs long same =
    let rest = same_front xs ys us vs (omega (arith, long)) (tails x y (xs ++ us) (ys ++ vs) same) in
    (ap₂ (λ z zs. z ∷ zs) (heads x y (xs ++ us) (ys ++ vs) same) rest.0, rest.1)

same_number : (m n : ℕ) → pos m ≡ pos n → m ≡ n
same_number m n h = cc

-- one more element, and all of them
pub one_more : {A : Type 0} (xs : List A) (i : ℕ) (x : A) → i < length xs → x ≡ get_or xs i x → take (i + 1) xs ≡ take i xs ++ x ∷ []
one_more xs i x low at = rw add-one (take-suc xs i x low ∙ ap (λ y. take i xs ++ y ∷ []) (sym at))

-- the element that a loop has come to
pub item_is : {A : Type 0} (xs : List A) (i : ℕ) (d : A) → i < length xs → slice_index_or xs i d ≡ get_or xs i (slice_index_or xs i d)
item_is xs i d low = get_or_default xs i d (slice_index_or xs i d) low

pub all_of : {A : Type 0} (xs : List A) (i : ℕ) (x : A) → i < length xs → x ≡ get_or xs i x → xs ≡ take i xs ++ x ∷ drop (i + 1) xs
all_of xs i x low at = sym (take-append-drop (i + 1) xs) ∙ (ap (λ l. l ++ drop (i + 1) xs) (one_more xs i x low at) ∙ append_assoc (take i xs) (x ∷ []) (drop (i + 1) xs))

-- ---- pairs

pub as_many : (pool place : ℕ) (pairs : List Pair) → length (rows_of_pairs pool place pairs) ≡ length pairs
as_many pool place [] = refl
as_many pool place (p ∷ pairs) = ap suc (as_many pool (place + 1) pairs)

same_pair : (pool place : ℕ) (p q : Pair) → row_of_pair pool place p ≡ row_of_pair pool place q → p ≡ q
same_pair pool place p q h =
    let group : p.group ≡ q.group = cc in
    let from : p.from ≡ q.from = cc in
    let to : p.to ≡ q.to = cc in
    λ i. record { group = group i; from = from i; to = to i }

pub same_pairs : (pool place : ℕ) (ps qs : List Pair) → rows_of_pairs pool place ps ≡ rows_of_pairs pool place qs → ps ≡ qs
same_pairs pool place [] [] same = refl
same_pairs pool place [] (q ∷ qs) same = absurd (omega (arith, ap length same))
same_pairs pool place (p ∷ ps) [] same = absurd (omega (arith, ap length same))
same_pairs pool place (p ∷ ps) (q ∷ qs) same =
    ap₂ (λ x xs. x ∷ xs) (same_pair pool place p q (heads (row_of_pair pool place p) (row_of_pair pool place q) (rows_of_pairs pool (place + 1) ps) (rows_of_pairs pool (place + 1) qs) same))
    (same_pairs pool (place + 1) ps qs (tails (row_of_pair pool place p) (row_of_pair pool place q) (rows_of_pairs pool (place + 1) ps) (rows_of_pairs pool (place + 1) qs) same))

-- one row of no pair is enough
pub no_pairs : (done : List ExceptionRow) (row : ExceptionRow) (left : List ExceptionRow) (pool start place : ℕ) → place ≡ start + length done → ((p : Pair) → is_pair GROUP_LIMIT p ≡ true → exception_row row ≢ row_of_pair pool place p)
    → (pairs : List Pair) → list_all (is_pair GROUP_LIMIT) pairs ≡ true → map exception_row (done ++ row ∷ left) ≢ rows_of_pairs pool start pairs
no_pairs [] row left pool start place at none [] all same = absurd (omega (arith, ap length same))
no_pairs [] row left pool start place at none (p ∷ pairs) all same =
    let is : place ≡ start = omega (arith, at) in
    none p (first (is_pair GROUP_LIMIT p) (list_all (is_pair GROUP_LIMIT) pairs) all)
    (rw is (heads (exception_row row) (row_of_pair pool start p) (map exception_row left) (rows_of_pairs pool (start + 1) pairs) same))
no_pairs (e ∷ done) row left pool start place at none [] all same = absurd (omega (arith, ap length same))
no_pairs (e ∷ done) row left pool start place at none (p ∷ pairs) all same =
    no_pairs done row left pool (start + 1) place (omega (arith, at)) none pairs (second (is_pair GROUP_LIMIT p) (list_all (is_pair GROUP_LIMIT) pairs) all)
    (tails (exception_row e) (row_of_pair pool start p) (map exception_row (done ++ row ∷ left)) (rows_of_pairs pool (start + 1) pairs) same)

-- one more pair
pub more_pairs : (pool start place : ℕ) (pairs : List Pair) (p : Pair) → place ≡ start + length pairs → rows_of_pairs pool start (pairs ++ p ∷ []) ≡ rows_of_pairs pool start pairs ++ row_of_pair pool place p ∷ []
more_pairs pool start place [] p at =
    let is : place ≡ start = omega (arith, at) in rw is refl
more_pairs pool start place (q ∷ pairs) p at = ap (λ l. row_of_pair pool start q ∷ l) (more_pairs pool (start + 1) place pairs p (omega (arith, at)))

-- ---- pools with their pairs

same_count : (p q : PoolParts) (m n : ℤ) → row_with_count p m ≡ row_with_count q n → m ≡ n
same_count p q m n h = cc

-- pools with the same row, and rows that begin with their pairs
one_pool : (p q : TenantPool) (us vs : List Row) → row_of_pool p ≡ row_of_pool q → rows_of_pairs p.parts.id 0 p.pairs ++ us ≡ rows_of_pairs q.parts.id 0 q.pairs ++ vs → (p ≡ q) × (us ≡ vs)
one_pool p q us vs row rows =
    let parts = same_settings p.parts q.parts (pos (length p.pairs)) (pos (length q.pairs)) row in
    let many = same_number (length p.pairs) (length q.pairs) (same_count p.parts q.parts (pos (length p.pairs)) (pos (length q.pairs)) row) in
    let its : rows_of_pairs p.parts.id 0 p.pairs ++ us ≡ rows_of_pairs p.parts.id 0 q.pairs ++ vs =
    subst (λ n. rows_of_pairs p.parts.id 0 p.pairs ++ us ≡ rows_of_pairs n 0 q.pairs ++ vs) (ap (λ x. x.id) (sym parts)) rows in
    let both = same_front (rows_of_pairs p.parts.id 0 p.pairs) (rows_of_pairs p.parts.id 0 q.pairs) us vs (as_many p.parts.id 0 p.pairs ∙ (many ∙ sym (as_many p.parts.id 0 q.pairs))) its in
    let pairs = same_pairs p.parts.id 0 p.pairs q.pairs both.0 in
    (λ i. record { parts = parts i; pairs = pairs i }, both.1)

-- and so of lists of them, also where there are more rows
pub same_pools : (ps qs : List TenantPool) (us vs : List Row) → map row_of_pool ps ≡ map row_of_pool qs → rows_of_exceptions ps ++ us ≡ rows_of_exceptions qs ++ vs → (ps ≡ qs) × (us ≡ vs)
same_pools [] [] us vs same rows = (refl, rows)
same_pools [] (q ∷ qs) us vs same rows = absurd (omega (arith, ap length same))
same_pools (p ∷ ps) [] us vs same rows = absurd (omega (arith, ap length same))
same_pools (p ∷ ps) (q ∷ qs) us vs same rows =
    let one = one_pool p q (rows_of_exceptions ps ++ us) (rows_of_exceptions qs ++ vs) (heads (row_of_pool p) (row_of_pool q) (map row_of_pool ps) (map row_of_pool qs) same)
    (sym (append_assoc (rows_of_pairs p.parts.id 0 p.pairs) (rows_of_exceptions ps) us) ∙ (rows ∙ append_assoc (rows_of_pairs q.parts.id 0 q.pairs) (rows_of_exceptions qs) vs)) in
    let rest = same_pools ps qs us vs (tails (row_of_pool p) (row_of_pool q) (map row_of_pool ps) (map row_of_pool qs) same) one.1 in
    (ap₂ (λ x xs. x ∷ xs) one.0 rest.0, rest.1)

pub same_pools_alone : (ps qs : List TenantPool) → map row_of_pool ps ≡ map row_of_pool qs → rows_of_exceptions ps ≡ rows_of_exceptions qs → ps ≡ qs
same_pools_alone ps qs same rows = (same_pools ps qs [] [] same (ap (λ l. l ++ []) rows)).0

-- after the rows of some pools there is that of a pool, and its own pairs follow theirs
pub record IsNext (row : Row) (left : List Row) : Type 0 where
  pub p : TenantPool
  pub valid : is_tenant_pool p ≡ true
  pub row_is : row ≡ row_of_pool p
  pub behind : List Row
  pub left_is : left ≡ rows_of_pairs p.parts.id 0 p.pairs ++ behind

pub next_pool : (qs ps : List TenantPool) (row : Row) (more left : List Row) → list_all is_tenant_pool ps ≡ true → map row_of_pool qs ++ row ∷ more ≡ map row_of_pool ps → rows_of_exceptions qs ++ left ≡ rows_of_exceptions ps → IsNext row left
next_pool [] [] row more left all same rows = absurd (omega (arith, ap length same))
next_pool [] (p ∷ ps) row more left all same rows =
    record {
      p = p;
      valid = first (is_tenant_pool p) (list_all is_tenant_pool ps) all;
      row_is = heads row (row_of_pool p) more (map row_of_pool ps) same;
      behind = rows_of_exceptions ps;
      left_is = rows;
    }
next_pool (q ∷ qs) [] row more left all same rows = absurd (omega (arith, ap length same))
next_pool (q ∷ qs) (p ∷ ps) row more left all same rows =
    let one = one_pool q p (rows_of_exceptions qs ++ left) (rows_of_exceptions ps) (heads (row_of_pool q) (row_of_pool p) (map row_of_pool qs ++ row ∷ more) (map row_of_pool ps) same)
    (sym (append_assoc (rows_of_pairs q.parts.id 0 q.pairs) (rows_of_exceptions qs) left) ∙ rows) in
    next_pool qs ps row more left (second (is_tenant_pool p) (list_all is_tenant_pool ps) all)
    (tails (row_of_pool q) (row_of_pool p) (map row_of_pool qs ++ row ∷ more) (map row_of_pool ps) same) one.1

-- ---- rows that were read

-- the row that follows those that were read
pub next_read : (done left all : List PoolRow) (row : PoolRow) (qs ps : List TenantPool) (every rest : List ExceptionRow) → done ++ row ∷ left ≡ all → map pool_values done ≡ map row_of_pool qs
    → map exception_row every ≡ rows_of_exceptions qs ++ map exception_row rest → list_all is_tenant_pool ps ≡ true → map pool_values all ≡ map row_of_pool ps → map exception_row every ≡ rows_of_exceptions ps
    → IsNext (pool_values row) (map exception_row rest)
next_read done left all row qs ps every rest parts read pairs valid same rows =
    let split : map pool_values done ++ pool_values row ∷ map pool_values left ≡ map row_of_pool ps =
    sym (map-append pool_values done (row ∷ left)) ∙ (ap (map pool_values) parts ∙ same) in
    next_pool qs ps (pool_values row) (map pool_values left) (map exception_row rest) valid (subst (λ l. l ++ pool_values row ∷ map pool_values left ≡ map row_of_pool ps) read split) (sym pairs ∙ rows)

-- a row says how many pairs its pool has
pub count_of : (row : PoolRow) (p : TenantPool) → pool_values row ≡ row_of_pool p → row.pairs ≡ pos (length p.pairs)
count_of row p is = cc

module _ (row : PoolRow) (rest : List ExceptionRow) (next : IsNext (pool_values row) (map exception_row rest)) where
  -- there are as many exceptions
  pub there_are : (n : ℕ) → row.pairs ≡ pos n → n < length rest + 1
  there_are n is =
      let same = same_number n (length next.p.pairs) (sym is ∙ count_of row next.p next.row_is) in
      let long = as_many next.p.parts.id 0 next.p.pairs in
      let both = length-append (rows_of_pairs next.p.parts.id 0 next.p.pairs) next.behind in
      let all = ap length next.left_is in
      let mapped = length-map rest exception_row in
      omega (arith, same, long, both, all, mapped)

  -- the first of which are its own
  pub its_own : (own behind : List ExceptionRow) → rest ≡ own ++ behind → row.pairs ≡ pos (length own) → map exception_row own ≡ rows_of_pairs next.p.parts.id 0 next.p.pairs
  its_own own behind parts is =
      let same = same_number (length own) (length next.p.pairs) (sym is ∙ count_of row next.p next.row_is) in
      let long : length (map exception_row own) ≡ length (rows_of_pairs next.p.parts.id 0 next.p.pairs) =
      length-map own exception_row ∙ (same ∙ sym (as_many next.p.parts.id 0 next.p.pairs)) in
      (same_front (map exception_row own) (rows_of_pairs next.p.parts.id 0 next.p.pairs) (map exception_row behind) next.behind long
      (sym (map-append exception_row own behind) ∙ (ap (map exception_row) (sym parts) ∙ next.left_is))).0

-- one more pool
pub more_pools : (qs : List TenantPool) (p : TenantPool) → rows_of_exceptions (qs ++ p ∷ []) ≡ rows_of_exceptions qs ++ rows_of_pairs p.parts.id 0 p.pairs
more_pools [] p = append-nil (rows_of_pairs p.parts.id 0 p.pairs)
more_pools (q ∷ qs) p = ap (λ l. rows_of_pairs q.parts.id 0 q.pairs ++ l) (more_pools qs p) ∙ sym (append_assoc (rows_of_pairs q.parts.id 0 q.pairs) (rows_of_exceptions qs) (rows_of_pairs p.parts.id 0 p.pairs))

-- the pairs of one more pool are read
pub pairs_read : (qs new : List TenantPool) (p : TenantPool) (every rest own behind : List ExceptionRow) → map exception_row every ≡ rows_of_exceptions qs ++ map exception_row rest → rest ≡ own ++ behind
    → map exception_row own ≡ rows_of_pairs p.parts.id 0 p.pairs → new ≡ qs ++ p ∷ [] → map exception_row every ≡ rows_of_exceptions new ++ map exception_row behind
pairs_read qs new p every rest own behind pairs parts read grown =
    let split : map exception_row rest ≡ rows_of_pairs p.parts.id 0 p.pairs ++ map exception_row behind =
    ap (map exception_row) parts ∙ (map-append exception_row own behind ∙ ap (λ l. l ++ map exception_row behind) read) in
    pairs
    ∙ (ap (λ l. rows_of_exceptions qs ++ l) split
    ∙ (sym (append_assoc (rows_of_exceptions qs) (rows_of_pairs p.parts.id 0 p.pairs) (map exception_row behind))
    ∙ (ap (λ l. l ++ map exception_row behind) (sym (more_pools qs p)) ∙ ap (λ l. rows_of_exceptions l ++ map exception_row behind) (sym grown))))

-- ---- the row with an id

pub has_it : (done : List PoolRow) (row : PoolRow) (rest : List PoolRow) → Has (map pool_values (done ++ row ∷ rest)) (pool_values row)
has_it [] row rest = inl refl
has_it (d ∷ done) row rest = inr (has_it done row rest)

-- none of the rows so far, and not the next one
pub none_more : (P : Row → Type 0) (done : List PoolRow) (row : PoolRow) → ((v : Row) → Has (map pool_values done) v → P v) → P (pool_values row) → (v : Row) → Has (map pool_values (done ++ row ∷ [])) v → P v
none_more P [] row all one v (inl is) = subst P (sym is) one
none_more P [] row all one v (inr none) = absurd none
none_more P (d ∷ done) row all one v (inl is) = all v (inl is)
none_more P (d ∷ done) row all one v (inr has) = none_more P done row (λ w there. all w (inr there)) one v has

-- ---- a pool of a row and its pairs

wider_test : (x y a b c : Bool) → (x ≡ true → y ≡ true) → (x && a && b && c) ≡ true → (y && a && b && c) ≡ true
wider_test false y a b c up h = absurd cc
wider_test true y a b c up h = rw (up refl) h

wider_pair : (n : ℕ) (p : Pair) → n ≤ GROUP_LIMIT → is_pair n p ≡ true → is_pair GROUP_LIMIT p ≡ true
wider_pair n p low h =
    wider_test (nat_lt p.group n) (nat_lt p.group GROUP_LIMIT) (nat_le p.from NUMBER_LIMIT) (nat_le p.to NUMBER_LIMIT) (not (p.from == p.to)) (λ below. below_too below) h
  where
    below_too : nat_lt p.group n ≡ true → nat_lt p.group GROUP_LIMIT ≡ true
    below_too below = grind (arith, nat_tests, below, low)

wider_pairs : (n : ℕ) (pairs : List Pair) → n ≤ GROUP_LIMIT → list_all (is_pair n) pairs ≡ true → list_all (is_pair GROUP_LIMIT) pairs ≡ true
wider_pairs n [] low h = refl
wider_pairs n (p ∷ pairs) low h = both (is_pair GROUP_LIMIT p) (list_all (is_pair GROUP_LIMIT) pairs) (wider_pair n p low (first (is_pair n p) (list_all (is_pair n) pairs) h)) (wider_pairs n pairs low (second (is_pair n p) (list_all (is_pair n) pairs) h))
  where
    both : (a b : Bool) → a ≡ true → b ≡ true → (a && b) ≡ true
    both a b h g = rw (h, g) refl

pool_groups : (p : PoolParts) → is_pool p ≡ true → p.pg_num ≤ GROUP_LIMIT
pool_groups p h = grind (arith, nat_tests)

-- the pairs of a pool are pairs of some pool
pub pairs_in : (p : TenantPool) → is_tenant_pool p ≡ true → list_all (is_pair GROUP_LIMIT) p.pairs ≡ true
pairs_in p h =
    let pool = first (is_pool p.parts) (are_pairs p.parts.pg_num p.pairs) h in
    let pairs = second (is_pool p.parts) (are_pairs p.parts.pg_num p.pairs) h in
    wider_pairs p.parts.pg_num p.pairs (pool_groups p.parts pool) (second (nat_le (length p.pairs) PAIR_LIMIT) (list_all (is_pair p.parts.pg_num) p.pairs) pairs)

module _ (row : PoolRow) (q : PoolParts) (settings : pool_values row ≡ row_with_count q row.pairs) (exceptions : List ExceptionRow) where
  -- what was made of the rows
  pub is_made : (pairs : List Pair) (t : TenantPool) → row.pairs ≡ pos (length exceptions) → is_pool q ≡ true → are_pairs q.pg_num pairs ≡ true → map exception_row exceptions ≡ rows_of_pairs q.id 0 pairs → t ≡ record { parts = q; pairs = pairs }
      → (is_tenant_pool t ≡ true) × (pool_values row ≡ row_of_pool t) × (map exception_row exceptions ≡ rows_of_pairs t.parts.id 0 t.pairs)
  is_made pairs t count valid are rows is =
      let many : length exceptions ≡ length pairs = sym (length-map exceptions exception_row) ∙ (ap length rows ∙ as_many q.id 0 pairs) in
      subst (λ u. (is_tenant_pool u ≡ true) × (pool_values row ≡ row_of_pool u) × (map exception_row exceptions ≡ rows_of_pairs u.parts.id 0 u.pairs)) (sym is)
      (both_true, settings ∙ ap (row_with_count q) (count ∙ ap pos many), rows)
    where
      both_true : (is_pool q && are_pairs q.pg_num pairs) ≡ true
      both_true = rw (valid, are) refl

  module _ (p : TenantPool) (is : pool_values row ≡ row_of_pool p) where
    same_parts : q ≡ p.parts
    same_parts = same_settings q p.parts row.pairs (pos (length p.pairs)) (sym settings ∙ is)

    -- the rows are those of its pairs
    pub its_rows : (id : ℕ) → id ≡ q.id → map exception_row exceptions ≡ rows_of_pairs p.parts.id 0 p.pairs → map exception_row exceptions ≡ rows_of_pairs id 0 p.pairs
    its_rows id at rows = rows ∙ ap (λ n. rows_of_pairs n 0 p.pairs) (ap (λ x. x.id) (sym same_parts) ∙ sym at)

    -- pairs that the pool can not have are not its own
    pub not_refused : (id : ℕ) (pairs : List Pair) → is_tenant_pool p ≡ true → id ≡ q.id → map exception_row exceptions ≡ rows_of_pairs id 0 pairs → false ≡ are_pairs q.pg_num pairs → map exception_row exceptions ≡ rows_of_pairs p.parts.id 0 p.pairs → ⊥
    not_refused id pairs valid at read refused rows =
        let same = same_pairs id 0 pairs p.pairs (sym read ∙ its_rows id at rows) in
        let are = second (is_pool p.parts) (are_pairs p.parts.pg_num p.pairs) valid in
        let never : false ≡ true = refused ∙ (ap (are_pairs q.pg_num) same ∙ (ap (λ x. are_pairs x.pg_num p.pairs) same_parts ∙ are)) in absurd cc
