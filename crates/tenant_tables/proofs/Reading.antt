-- Which lists of parts have given rows.
use Rattle.std.proofs.Common.{◌≡◌, ◌≢◌, if◌then◌else◌, ℕ, ℤ, suc, ◌+◌, List, [], ◌∷◌, ◌++◌, length, map, Bool, true, false, ◌&&◌, arith, refl, sym, ap, ap₂, ◌∙◌}
use Rattle.std.specs.List.{All, list_all}
use Rattle.std.specs.Prelude.{Option, Some, None}
use Rattle.std.proofs.lemmas.List.{map_push}
use Rattle.std.proofs.lemmas.List.Elements.{All-head, All-tail}
use Rattle.table_schema.specs.sqlite_value.specs.Order.{Row}
use Rattle.crush_map.specs.Map.{Map, IsMap}
use Rattle.crush_pool.specs.declared.pool.PoolParts.{PoolParts}
use Rattle.crush_pool.specs.declared.states.DeviceState.{DeviceState}
use Rattle.crush_text.specs.crush_writing.specs.Canonical.{canonical}
use Rattle.tenant_messages.specs.Reply.{success_status}
use Rattle.tenant_messages.specs.declared.reply.SuccessStatus.{SuccessStatus}
use Rattle.tenant_messages.specs.declared.reply.SuccessStatus.TheVariants.{Done, Created}
use Rattle.tenant_state.specs.Ordered.{is_ascending, if_ascending}
use Rattle.tenant_state.specs.declared.receipts.Receipt.{Receipt}
use Rattle.table_schema.specs.Found.{version_values}
use Rattle.table_schema.specs.declared.rows.VersionRow.{VersionRow}
use Rattle.tenant_tables.specs.Rows.{flag, row_of_version, rows_of_versions, row_of_state, row_with_count, row_of_receipt}

-- ---- lists

pub first : (a b : Bool) → (a && b) ≡ true → a ≡ true
first true b h = refl
first false b h = cc

pub second : (a b : Bool) → (a && b) ≡ true → b ≡ true
second true b h = h
second false b h = cc

pub heads : {A : Type 0} (x y : A) (xs ys : List A) → x ∷ xs ≡ y ∷ ys → x ≡ y
heads x y xs ys h = cc

pub tails : {A : Type 0} (x y : A) (xs ys : List A) → x ∷ xs ≡ y ∷ ys → xs ≡ ys
tails x y xs ys h = cc

pub push_front : {A : Type 0} (xs : List A) (x : A) (ys : List A) → (xs ++ x ∷ []) ++ ys ≡ xs ++ x ∷ ys
push_front [] x ys = refl
push_front (w ∷ xs) x ys = ap (λ l. w ∷ l) (push_front xs x ys)

pub longer : {A : Type 0} (xs : List A) (x : A) → length (xs ++ x ∷ []) ≡ suc (length xs)
longer [] x = refl
longer (w ∷ xs) x = ap suc (longer xs x)

-- a list that is read to its end has no remaining elements
pub whole : {A : Type 0} (done left rows : List A) (n : ℕ) → done ++ left ≡ rows → n ≡ length left → n ≡ 0 → done ≡ rows
whole [] [] rows n all long end = all
whole [] (x ∷ left) rows n all long end = absurd (omega (arith, long, end))
whole (x ∷ done) left [] n all long end = absurd (omega (arith, ap length all))
whole (x ∷ done) left (y ∷ rows) n all long end = ap₂ (λ z zs. z ∷ zs) (heads x y (done ++ left) rows all) (whole done left rows n (tails x y (done ++ left) rows all) long end)

-- a list that is refused is out of order
pub refused : {A : Type 0} (before : A → A → Bool) (xs : List A) (o : Option (List A)) → o ≡ if_ascending before xs → o ≡ None → is_ascending before xs ≢ true
refused before xs o is none order =
    by_test (is_ascending before xs) xs o is none order
  where
    by_test : {A : Type 0} (b : Bool) (xs : List A) (o : Option (List A)) → o ≡ (if b then Some xs else None) → o ≡ None → b ≢ true
    by_test true xs o is none order = cc
    by_test false xs o is none order = cc

-- ---- rows of any parts

module _ {R V : Type 0} (f : R → Row) (g : V → Row) (p : V → Bool) where
  -- one row of no part is enough
  pub no_list : (done : List R) (row : R) (left : List R) → ((v : V) → p v ≡ true → f row ≢ g v) → (vs : List V) → list_all p vs ≡ true → map f (done ++ row ∷ left) ≢ map g vs
  no_list [] row left none [] all same = absurd (omega (arith, ap length same))
  no_list [] row left none (v ∷ vs) all same = none v (first (p v) (list_all p vs) all) (heads (f row) (g v) (map f left) (map g vs) same)
  no_list (r ∷ done) row left none [] all same = absurd (omega (arith, ap length same))
  no_list (r ∷ done) row left none (v ∷ vs) all same = no_list done row left none vs (second (p v) (list_all p vs) all) (tails (f r) (g v) (map f (done ++ row ∷ left)) (map g vs) same)

-- parts with the same rows are the same, where each part is
pub same_list : {V : Type 0} (g : V → Row) → ((u v : V) → g u ≡ g v → u ≡ v) → (us vs : List V) → map g us ≡ map g vs → us ≡ vs
same_list g each [] [] same = refl
same_list g each [] (v ∷ vs) same = absurd (omega (arith, ap length same))
same_list g each (u ∷ us) [] same = absurd (omega (arith, ap length same))
same_list g each (u ∷ us) (v ∷ vs) same = ap₂ (λ x xs. x ∷ xs) (each u v (heads (g u) (g v) (map g us) (map g vs) same)) (same_list g each us vs (tails (g u) (g v) (map g us) (map g vs) same))

-- ---- the parts

same_flag : (a b : Bool) → flag a ≡ flag b → a ≡ b
same_flag true true h = refl
same_flag true false h = cc
same_flag false true h = cc
same_flag false false h = refl

same_status : (a b : SuccessStatus) → success_status a ≡ success_status b → a ≡ b
same_status Done Done h = refl
same_status Done Created h = absurd (omega (arith, h))
same_status Created Done h = absurd (omega (arith, h))
same_status Created Created h = refl

pub same_state : (s t : DeviceState) → row_of_state s ≡ row_of_state t → s ≡ t
same_state s t h =
    let device : s.device ≡ t.device = cc in
    let reweight : s.reweight ≡ t.reweight = cc in
    let up = same_flag s.up t.up cc in
    λ i. record { device = device i; reweight = reweight i; up = up i }

pub same_settings : (p q : PoolParts) (m n : ℤ) → row_with_count p m ≡ row_with_count q n → p ≡ q
same_settings p q m n h =
    let id : p.id ≡ q.id = cc in
    let name : p.name ≡ q.name = cc in
    let erasure = same_flag p.erasure q.erasure cc in
    let size : p.size ≡ q.size = cc in
    let rule : p.rule ≡ q.rule = cc in
    let pg_num : p.pg_num ≡ q.pg_num = cc in
    let pgp_num : p.pgp_num ≡ q.pgp_num = cc in
    let hashpspool = same_flag p.hashpspool q.hashpspool cc in
    λ i. record { id = id i; name = name i; erasure = erasure i; size = size i; rule = rule i; pg_num = pg_num i; pgp_num = pgp_num i; hashpspool = hashpspool i }

pub same_receipt : (r s : List ℕ × Receipt) → row_of_receipt r ≡ row_of_receipt s → r ≡ s
same_receipt r s h =
    let number : r.0 ≡ s.0 = cc in
    let path : r.1.path ≡ s.1.path = cc in
    let body : r.1.body ≡ s.1.body = cc in
    let status = same_status r.1.status s.1.status cc in
    let reply : r.1.reply ≡ s.1.reply = cc in
    λ i. (number i, record { path = path i; body = body i; status = status i; reply = reply i })

-- ---- versions

-- one row of no version is enough
pub no_versions : (done : List VersionRow) (row : VersionRow) (left : List VersionRow) (start number : ℕ) → number ≡ start + length done → ((m : Map) → IsMap m → version_values row ≢ row_of_version number m)
    → (maps : List Map) → All IsMap maps → map version_values (done ++ row ∷ left) ≢ rows_of_versions start maps
no_versions [] row left start number at none [] all same = absurd (omega (arith, ap length same))
no_versions [] row left start number at none (m ∷ maps) all same =
    let is : number ≡ start = omega (arith, at) in
    none m (All-head IsMap m maps all) (rw is (heads (version_values row) (row_of_version start m) (map version_values left) (rows_of_versions (start + 1) maps) same))
no_versions (r ∷ done) row left start number at none [] all same = absurd (omega (arith, ap length same))
no_versions (r ∷ done) row left start number at none (m ∷ maps) all same =
    no_versions done row left (start + 1) number (omega (arith, at)) none maps (All-tail IsMap m maps all) (tails (version_values r) (row_of_version start m) (map version_values (done ++ row ∷ left)) (rows_of_versions (start + 1) maps) same)

-- one more version
pub more_versions : (start number : ℕ) (maps : List Map) (m : Map) → number ≡ start + length maps → rows_of_versions start (maps ++ m ∷ []) ≡ rows_of_versions start maps ++ row_of_version number m ∷ []
more_versions start number [] m at =
    let is : number ≡ start = omega (arith, at) in rw is refl
more_versions start number (n ∷ maps) m at = ap (λ l. row_of_version start n ∷ l) (more_versions (start + 1) number maps m (omega (arith, at)))

-- versions with the same rows are the same, since each map has its own canonical text
pub same_versions : ((m n : Map) → IsMap m → IsMap n → canonical m ≡ canonical n → m ≡ n) → (start : ℕ) (ms ns : List Map) → All IsMap ms → All IsMap ns → rows_of_versions start ms ≡ rows_of_versions start ns → ms ≡ ns
same_versions own start [] [] all others same = refl
same_versions own start [] (n ∷ ns) all others same = absurd (omega (arith, ap length same))
same_versions own start (m ∷ ms) [] all others same = absurd (omega (arith, ap length same))
same_versions own start (m ∷ ms) (n ∷ ns) all others same =
    let row = heads (row_of_version start m) (row_of_version start n) (rows_of_versions (start + 1) ms) (rows_of_versions (start + 1) ns) same in
    let text : canonical m ≡ canonical n = cc in
    ap₂ (λ x xs. x ∷ xs) (own m n (All-head IsMap m ms all) (All-head IsMap n ns others) text)
    (same_versions own (start + 1) ms ns (All-tail IsMap m ms all) (All-tail IsMap n ns others) (tails (row_of_version start m) (row_of_version start n) (rows_of_versions (start + 1) ms) (rows_of_versions (start + 1) ns) same))

pub more : (done : List VersionRow) (row : VersionRow) (maps new : List Map) (m : Map) (number : ℕ) → map version_values done ≡ rows_of_versions 1 maps → version_values row ≡ row_of_version number m
    → number ≡ 1 + length maps → new ≡ maps ++ m ∷ [] → map version_values (done ++ row ∷ []) ≡ rows_of_versions 1 new
more done row maps new m number read is at grown =
    map_push version_values done row
    ∙ (ap₂ (λ l r. l ++ r ∷ []) read is ∙ (sym (more_versions 1 number maps m at) ∙ ap (rows_of_versions 1) (sym grown)))
