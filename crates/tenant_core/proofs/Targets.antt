-- The parameters of a path that has a route.
use Rattle.std.proofs.Common.{◌≡◌, ℕ, zero, suc, ◌==◌, ◌&&◌, ltb, cond, List, [], ◌∷◌, length, Bool, true, false, leb, ◌-◌, take, drop, Option, Some, None, IfSome, MatchOption, option_map, Result, Ok, Err, IfOk, refl, sym, subst, arith}
use Rattle.std.proofs.lemmas.Bool.Decides.{nat_tests}
use Rattle.std.proofs.lemmas.Str.{IsAscii-take, IsAscii-drop, IsUtf8-from_ascii}
use Rattle.std.specs.Char.{is_ascii}
use Rattle.std.specs.List.{list_all}
use Rattle.std.specs.Result.{result_ok}
use Rattle.std.specs.Str.{IsAscii, IsUtf8}
use Rattle.matchit.proofs.OnLiterals.{matchit_on_literals}
use Rattle.matchit.specs.Params.{AllText, named, part_of, walk}
use Rattle.matchit.specs.Router.{RouteOf}
use Rattle.matchit.specs.Rows.{param_token, catch_all_token}
use Rattle.matchit.specs.Seek.{first, has_slash, longest_suffix, or_else, own, param_step, same_text, seek, segment, step, with_suffix}
use Rattle.tenant_core.specs.Router.{Table, table}
use Rattle.tenant_core.specs.Target.{Target, parameter}
use Rattle.tenant_core.specs.declared.route.Methods.{Methods}

-- ---- a row that is found is a row of the table

abbrev Row : Type 0
Row = RouteOf Methods

abbrev All : (Row → Type 0) → Table → Type 0
All P [] = Unit {0}
All P (row ∷ rows) = P row.1 × All P rows

cond-all : (P : Row → Type 0) (b : Bool) (xs ys : Table) → All P xs → All P ys → All P (cond b xs ys)
cond-all P true xs ys h k = h
cond-all P false xs ys h k = k

own-all : (P : Row → Type 0) (rows : Table) → All P rows → IfSome (own rows) P
own-all P [] h = tt
own-all P (([], key) ∷ rows) h = h.0
own-all P ((x ∷ t, key) ∷ rows) h = own-all P rows h.1

step-all : (P : Row → Type 0) (b : ℕ) (rows : Table) → All P rows → All P (step b rows)
step-all P b [] h = tt
step-all P b (([], key) ∷ rows) h = step-all P b rows h.1
step-all P b ((x ∷ t, key) ∷ rows) h =
    cond-all P (x == b) ((t, key) ∷ step b rows) (step b rows) (h.0, step-all P b rows h.1) (step-all P b rows h.1)

suffix-all : (P : Row → Type 0) (suffix : List ℕ) (rows : Table) → All P rows → All P (with_suffix suffix rows)
suffix-all P suffix [] h = tt
suffix-all P suffix ((t, key) ∷ rows) h =
    cond-all P (same_text (segment t) suffix) ((t, key) ∷ with_suffix suffix rows) (with_suffix suffix rows)
    (h.0, suffix-all P suffix rows h.1) (suffix-all P suffix rows h.1)

pair-all : (P : Row → Type 0) (b : Bool) (xs ys : ℕ × Table) → All P xs.1 → All P ys.1 → All P (cond b xs ys).1
pair-all P true xs ys h k = h
pair-all P false xs ys h k = k

param-all : (P : Row → Type 0) (rows : Table) (path : List ℕ) → All P rows → All P (param_step rows path).1
unfolding param_step
param-all P rows path h =
    let suffix = longest_suffix (segment path) rows in
    pair-all P (ltb 0 (length suffix)) _ _ (suffix-all P suffix rows h) (pair-all P (has_slash path) _ _ tt h)

or_else-all : (P : Row → Type 0) (first other : Option Row) → IfSome first P → IfSome other P → IfSome (or_else first other) P
or_else-all P None other h k = k
or_else-all P (Some row) other h k = h

seek-all : (P : Row → Type 0) (skip : ℕ) (rows : Table) (path : List ℕ) → All P rows → IfSome (seek skip rows path) P
unfolding seek
seek-all P zero rows [] h = own-all P rows h
seek-all P (suc skip) rows [] h = own-all P rows h
seek-all P (suc skip) rows (b ∷ path) h = seek-all P skip rows path h
seek-all P zero rows (b ∷ path) h =
    or_else-all P _ _ (seek-all P 0 (step b rows) path (step-all P b rows h))
    (or_else-all P _ _ (seek-all P _ _ path (param-all P (step param_token rows) (b ∷ path) (step-all P param_token rows h)))
    (own-all P (step catch_all_token rows) (step-all P catch_all_token rows h)))

-- ---- what the routes write out is ASCII

abbrev HasAsciiText : Row → Type 0
HasAsciiText row = list_all is_ascii row.text ≡ true

both : (a b : Bool) → (a && b) ≡ true → (a ≡ true) × (b ≡ true)
both true b h = (refl, h)
both false b h = let no : false ≡ true = h in cc

rows-ascii : (rows : Table) → list_all (λ row. list_all is_ascii row.1.text) rows ≡ true → All HasAsciiText rows
rows-ascii [] h = tt
rows-ascii (row ∷ rows) h =
    let is = both (list_all is_ascii row.1.text) (list_all (λ row. list_all is_ascii row.1.text) rows) h in (is.0, rows-ascii rows is.1)

table-ascii : list_all (λ row. list_all is_ascii row.1.text) table ≡ true
unfolding matchit_on_literals table
table-ascii = refl

-- the text of a route that is found in the table
pub text_ascii : (rows : Table) (path : List ℕ) (row : Row) → rows ≡ table → first rows path ≡ Some row → list_all is_ascii row.text ≡ true
text_ascii rows path row all found = rw found at (seek-all HasAsciiText 0 rows path (rw all (rows-ascii table table-ascii)))

-- ---- the parameters are text

is-ascii : (bytes : List ℕ) → list_all is_ascii bytes ≡ true → IsAscii bytes
is-ascii [] h i = omega arith
is-ascii (b ∷ bytes) h zero = let is = both (is_ascii b) (list_all is_ascii bytes) h in grind (arith, nat_tests, is.0)
is-ascii (b ∷ bytes) h (suc i) = is-ascii bytes (both (is_ascii b) (list_all is_ascii bytes) h).1 i

part-ascii : (bytes : List ℕ) (start end : ℕ) → IsAscii bytes → IsUtf8 (part_of bytes start end)
part-ascii bytes start end h = part-by (leb start end && leb end (length bytes))
  where
    part-by : (b : Bool) → IsUtf8 (cond b (take (end - start) (drop start bytes)) [])
    part-by true = IsUtf8-from_ascii (take (end - start) (drop start bytes)) (IsAscii-take (drop start bytes) (end - start) (IsAscii-drop bytes start h))
    part-by false = IsUtf8-from_ascii [] (λ i. omega arith)

walk-text : (pattern text path : List ℕ) (names : List (ℕ × ℕ)) (token at : ℕ) → IsAscii text → IsAscii path → AllText (walk pattern text path names token at)
walk-text pattern text path [] token at t p = tt
walk-text pattern text path (name ∷ names) token at t p = (part-ascii text name.0 name.1 t, part-ascii path _ _ p, walk-text pattern text path names _ _ t p)

found-parameter : {S : Type 0} (shown : S → List ℕ) (result : Option S) (found : Option (List ℕ)) → MatchOption result (found ≡ None) (λ s. found ≡ Some (shown s)) → option_map shown result ≡ found
found-parameter shown None found h = sym h
found-parameter shown (Some s) found h = sym h

pub from_ok : {A E : Type 0} (result : Result A E) (P : A → Type 0) (a : A) → IfOk result P → result_ok result ≡ Some a → P a
from_ok (Ok b) P a h is = let same : b ≡ a = cc in subst P same h
from_ok (Err e) P a h is = cc

-- what the router gives for a key is the parameter
pub parameter-given : {S : Type 0} (shown : S → List ℕ) (key : List ℕ) (target : Target) (result : Option S) → list_all is_ascii target.row.text ≡ true → list_all is_ascii target.path ≡ true
    → (AllText (walk target.row.pattern target.row.text target.path target.row.names 0 0)
    → MatchOption result (named key (walk target.row.pattern target.row.text target.path target.row.names 0 0) ≡ None)
    (λ s. named key (walk target.row.pattern target.row.text target.path target.row.names 0 0) ≡ Some (shown s)))
    → option_map shown result ≡ parameter key target
parameter-given shown key target result text path given =
    rw path (found-parameter shown result _ (given (walk-text target.row.pattern target.row.text target.path target.row.names 0 0 (is-ascii target.row.text text) (is-ascii target.path path))))
