-- Lists of devices that can touch a group, and their pairs.
use Rattle.std.proofs.Common.{◌≡◌, ℕ, suc, ◌+◌, ◌-◌, ◌<◌, ◌≤◌, List, [], ◌∷◌, ◌++◌, length, take, drop, get_or, map, Bool, true, false, ◌||◌, ◌==◌, nat_lt, if◌then◌else◌, cond, refl, ap, sym, subst, ◌∙◌, arith, append-nil, length-take, length-drop, get_or-take, get_or-drop, take_all}
use Rattle.std.specs.Prelude.{filter}
use Rattle.std.specs.List.{All, list_any}
use Rattle.std.specs.List.Sorted.{IsPartitionPoint, IsStableByKey, IsStrictlyIncreasing, ties}
use Rattle.std.specs.Ordering.{is_lt, nat_cmp}
use Rattle.std.proofs.lemmas.Bool.Decides.{nat_tests}
use Rattle.std.proofs.lemmas.List.{map-append, take-append-drop, take_more}
use Rattle.std.proofs.lemmas.List.Elements.{All-head, All-tail, filter-append, filter_agree}
use Rattle.std.specs.List.{range_with_len}
use Rattle.crush_bucket.specs.Tables.{tables_of}
use Rattle.crush_choose.specs.Weights.{weights_of}
use Rattle.crush_map.specs.Faults.{has_number}
use Rattle.crush_pool.specs.Exceptions.{is_of_group, targets_of}
use Rattle.crush_pool.specs.Placers.{PoolOnMap, steps_of}
use Rattle.crush_pool.specs.States.{reweights}
use Rattle.crush_report.proofs.Groups.{touched_more}
use Rattle.crush_report.specs.OnMaps.{touched_on, touches_on}
use Rattle.crush_report.specs.Touches.{groups_in}
use Rattle.crush_report.specs.Private.Touching.{AreOnce, touch, touches_of}
use Rattle.crush_report.specs.declared.touches.Touch.{Touch}
use Rattle.crush_pool.specs.declared.exceptions.Pair.{Pair}

-- ---- tests

same_of : (a b : ℕ) → (a == b) ≡ true → a ≡ b
same_of a b h = grind (arith, nat_tests)

or_none : (a : Bool) → a ≡ (a || false)
or_none true = refl
or_none false = refl

or_assoc : (a b c : Bool) → (a || (b || c)) ≡ ((a || b) || c)
or_assoc true b c = refl
or_assoc false b c = refl

-- ---- lists of devices

rising_rest : (x : ℕ) (xs : List ℕ) → IsStrictlyIncreasing (x ∷ xs) → IsStrictlyIncreasing xs
rising_rest x xs rising k h = let e : suc k + 1 ≡ suc (k + 1) = omega arith in rw e at (rising (suc k) (omega arith))

-- of numbers that rise, those below the first are not there
none_below : (d : ℕ) (x : ℕ) (xs : List ℕ) → d ≤ x → IsStrictlyIncreasing (x ∷ xs) → (filter (λ m. m == d) xs ≡ []) × (has_number xs d ≡ false)
none_below d x [] le rising = (refl, refl)
none_below d x (y ∷ ys) le rising =
    let above : x < y = rising 0 (omega arith) in
    let differs : (y == d) ≡ false = grind (arith, nat_tests) in
    let rest = none_below d y ys (omega arith) (rising_rest x (y ∷ ys) rising) in
    (rw differs rest.0, rw differs rest.1)

pub once_rising : (xs : List ℕ) → IsStrictlyIncreasing xs → AreOnce xs
once_rising [] rising d = refl
once_rising (x ∷ xs) rising d = at (x == d) refl (once_rising xs (rising_rest x xs rising) d)
  where
    at : (b : Bool) → (x == d) ≡ b → filter (λ m. m == d) xs ≡ (if has_number xs d then d ∷ [] else [])
        → (if b then x ∷ filter (λ m. m == d) xs else filter (λ m. m == d) xs) ≡ (if (b || has_number xs d) then d ∷ [] else [])
    at false is once = once
    at true is once =
        let same : x ≡ d = same_of x d is in
        let rest = none_below d x xs (omega arith) rising in
        rw (rest.0, same) refl

-- ---- the devices that pairs lead to

targets_append : (xs ys : List Pair) (group : ℕ) → targets_of (xs ++ ys) group ≡ targets_of xs group ++ targets_of ys group
targets_append xs ys group = ap (map (λ q. q.to)) (filter-append (is_of_group group) xs ys) ∙ map-append (λ q. q.to) (filter (is_of_group group) xs) (filter (is_of_group group) ys)

has_append : (xs ys : List ℕ) (d : ℕ) → has_number (xs ++ ys) d ≡ (has_number xs d || has_number ys d)
has_append [] ys d = refl
has_append (x ∷ xs) ys d = ap (λ b. (x == d) || b) (has_append xs ys d) ∙ or_assoc (x == d) (has_number xs d) (has_number ys d)

-- the devices that are there after one more pair
pub targets_more : (was mid now : List ℕ) (pairs : List Pair) (group i d : ℕ) (e : Pair) → i < length pairs
    → has_number mid d ≡ (has_number was d || has_number (targets_of (take i pairs) group) d) → has_number now d ≡ (has_number mid d || has_number (targets_of (get_or pairs i e ∷ []) group) d)
    → has_number now d ≡ (has_number was d || has_number (targets_of (take (i + 1) pairs) group) d)
targets_more was mid now pairs group i d e inside before one =
    let p = get_or pairs i e in
    let a = has_number was d in
    let b = has_number (targets_of (take i pairs) group) d in
    let c = has_number (targets_of (p ∷ []) group) d in
    let more : take (i + 1) pairs ≡ take i pairs ++ p ∷ [] = take_more pairs i e inside in
    one ∙ (ap (λ t. t || c) before ∙ (sym (or_assoc a b c) ∙ ap (λ t. a || t) (sym (ap (λ ps. has_number (targets_of ps group) d) more
    ∙ (ap (λ ts. has_number ts d) (targets_append (take i pairs) (p ∷ []) group) ∙ has_append (targets_of (take i pairs) group) (targets_of (p ∷ []) group) d)))))

-- where no pair is of a group, none leads to a device
pub no_targets : (pairs : List Pair) (group : ℕ) → list_any (is_of_group group) pairs ≡ false → targets_of pairs group ≡ []
no_targets [] group none = refl
no_targets (p ∷ pairs) group none = at (p.group == group) none (no_targets pairs group)
  where
    at : (b : Bool) → (b || list_any (is_of_group group) pairs) ≡ false → (list_any (is_of_group group) pairs ≡ false → targets_of pairs group ≡ [])
        → map (λ q. q.to) (if b then p ∷ filter (is_of_group group) pairs else filter (is_of_group group) pairs) ≡ []
    at true h rest = cc
    at false h rest = rest h

pub touches_without : (trace targets : List ℕ) (d : ℕ) → targets ≡ [] → has_number trace d ≡ (has_number trace d || has_number targets d)
touches_without trace targets d none = or_none (has_number trace d) ∙ ap (λ ts. has_number trace d || has_number ts d) (sym none)

-- ---- pairs of devices and groups

pub groups_append : (xs ys : List Touch) (d : ℕ) → groups_in (xs ++ ys) d ≡ groups_in xs d ++ groups_in ys d
groups_append xs ys d = ap (map (λ t. t.group)) (filter-append (λ t. t.device == d) xs ys) ∙ map-append (λ t. t.group) (filter (λ t. t.device == d) xs) (filter (λ t. t.device == d) ys)

groups_each : (group : ℕ) (devices : List ℕ) (d : ℕ) → groups_in (touches_of group devices) d ≡ map (λ m. group) (filter (λ m. m == d) devices)
groups_each group [] d = refl
groups_each group (x ∷ xs) d = at (x == d) (groups_each group xs d)
  where
    at : (b : Bool) → groups_in (touches_of group xs) d ≡ map (λ m. group) (filter (λ m. m == d) xs)
        → map (λ t. t.group) (if b then touch group x ∷ filter (λ t. t.device == d) (touches_of group xs) else filter (λ t. t.device == d) (touches_of group xs))
        ≡ map (λ m. group) (if b then x ∷ filter (λ m. m == d) xs else filter (λ m. m == d) xs)
    at true rest = ap (λ gs. group ∷ gs) rest
    at false rest = rest

-- of each device among them there is the group, once
pub groups_once : (group : ℕ) (devices : List ℕ) (d : ℕ) → AreOnce devices → groups_in (touches_of group devices) d ≡ cond (has_number devices d) (group ∷ []) []
groups_once group devices d once = groups_each group devices d ∙ (ap (map (λ m. group)) (once d) ∙ at (has_number devices d))
  where
    at : (b : Bool) → map (λ (m : ℕ). group) (if b then d ∷ [] else []) ≡ cond b (group ∷ []) []
    at true = refl
    at false = refl

-- the groups that each device can touch, after one more group
pub pairs_more : (p : PoolOnMap) (n d : ℕ) (old new : List Touch) (devices : List ℕ) → new ≡ old ++ touches_of n devices → AreOnce devices
    → ((e : ℕ) → has_number devices e ≡ touches_on p e n) → groups_in old d ≡ touched_on p d (range_with_len 0 n) → groups_in new d ≡ touched_on p d (range_with_len 0 (n + 1))
pairs_more p n d old new devices is once each before =
    let own = groups_once n devices d once ∙ ap (λ b. cond b (n ∷ []) []) (each d) in
    let more = touched_more (tables_of p.map) (weights_of (reweights p.states)) (steps_of p) p.pool p.pairs d n in
    ap (λ ts. groups_in ts d) is ∙ (groups_append old (touches_of n devices) d ∙ (ap (λ gs. gs ++ groups_in (touches_of n devices) d) before
    ∙ (ap (λ gs. touched_on p d (range_with_len 0 n) ++ gs) own ∙ sym more)))

-- ---- pairs by device

tied : (n m : ℕ) → ties (λ x y. is_lt (nat_cmp x y)) n m ≡ (m == n)
tied n m = grind (arith, nat_tests)

-- a sort by device that leaves pairs of one device in order leaves its groups
pub groups_sorted : (xs ys : List Touch) (d : ℕ) → IsStableByKey (λ t. t.device) nat_cmp xs ys → groups_in ys d ≡ groups_in xs d
groups_sorted xs ys d stable =
    let of = touch 0 d in
    let agree = filter_agree (λ t. t.device == d) (ties (λ x y. is_lt (nat_cmp x.device y.device)) of) (λ t. sym (tied d t.device)) in
    ap (map (λ t. t.group)) (agree ys ∙ (stable of ∙ sym (agree xs)))

-- ---- the pairs of one device

none_pass : {X : Type 0} (p : X → Bool) (xs : List X) → All (λ x. p x ≡ false) xs → filter p xs ≡ []
none_pass p [] h = refl
none_pass p (x ∷ xs) h = let no : p x ≡ false = All-head (λ x. p x ≡ false) x xs h in rw no (none_pass p xs (All-tail (λ x. p x ≡ false) x xs h))

all_pass : {X : Type 0} (p : X → Bool) (xs : List X) → All (λ x. p x ≡ true) xs → filter p xs ≡ xs
all_pass p [] h = refl
all_pass p (x ∷ xs) h = let yes : p x ≡ true = All-head (λ x. p x ≡ true) x xs h in rw yes (ap (λ ys. x ∷ ys) (all_pass p xs (All-tail (λ x. p x ≡ true) x xs h)))

-- all before a place pass a test, and none from there on
before : {X : Type 0} (p : X → Bool) (xs : List X) (n : ℕ) → IsPartitionPoint (λ x. p x ≡ true) (λ x. p x ≡ false) xs n → All (λ x. p x ≡ true) (take n xs)
before p xs n h k d lt = let inside = length-take n xs in let at : k < n = omega arith in rw get_or-take (h.0 k d (omega arith) at)

after : {X : Type 0} (p : X → Bool) (xs : List X) (n : ℕ) → IsPartitionPoint (λ x. p x ≡ true) (λ x. p x ≡ false) xs n → All (λ x. p x ≡ false) (drop n xs)
after p xs n h k d lt = let inside = length-drop n xs in rw get_or-drop (h.1 (n + k) d (omega arith) (omega arith))

abbrev pub Ends : List Touch → ℕ → ℕ → Type 0
Ends pairs least n = IsPartitionPoint (λ t. nat_lt t.device least ≡ true) (λ t. nat_lt t.device least ≡ false) pairs n

above_all : (n d : ℕ) → nat_lt n (d + 1) ≡ false → (n == d) ≡ false
above_all n d h = grind (arith, nat_tests)

below_all : (n d : ℕ) → nat_lt n d ≡ true → (n == d) ≡ false
below_all n d h = grind (arith, nat_tests)

between : (n d : ℕ) → nat_lt n d ≡ false → nat_lt n (d + 1) ≡ true → (n == d) ≡ true
between n d h k = grind (arith, nat_tests)

-- the pairs of a device lie between those of lower devices and those of higher ones
of_rest : (pairs : List Touch) (d a n : ℕ) → Ends pairs d a → Ends (drop a pairs) (d + 1) n → filter (λ t. t.device == d) pairs ≡ take n (drop a pairs)
of_rest pairs d a n first last =
    let p = λ (t : Touch). t.device == d in
    let rest = drop a pairs in
    let front : filter p (take a pairs) ≡ [] = none_pass p (take a pairs) (λ k e lt. below_all (get_or (take a pairs) k e).device d (before (λ t. nat_lt t.device d) pairs a first k e lt)) in
    let back : filter p (drop n rest) ≡ [] = none_pass p (drop n rest) (λ k e lt. above_all (get_or (drop n rest) k e).device d (after (λ t. nat_lt t.device (d + 1)) rest n last k e lt)) in
    let mid : filter p (take n rest) ≡ take n rest = all_pass p (take n rest) (λ k e lt.
    let long = length-take n rest in
    let short : k < length rest = omega arith in
    let inside : k < n = omega arith in
    rw get_or-take (between (get_or rest k e).device d (after (λ t. nat_lt t.device d) pairs a first k e short) (last.0 k e (omega arith) inside))) in
    ap (filter p) (sym (take-append-drop a pairs)) ∙ (filter-append p (take a pairs) rest ∙ (ap (λ ys. ys ++ filter p rest) front
    ∙ (ap (filter p) (sym (take-append-drop n rest)) ∙ (filter-append p (take n rest) (drop n rest) ∙ (ap (λ ys. filter p (take n rest) ++ ys) back ∙ (append-nil (filter p (take n rest)) ∙ mid))))))

-- the remaining pairs are `pairs[a..]`
pub of_device : (pairs : List Touch) (d a n : ℕ) → Ends pairs d a → Ends (take (length pairs - a) (drop a pairs)) (d + 1) n
    → groups_in pairs d ≡ map (λ t. t.group) (take n (take (length pairs - a) (drop a pairs)))
of_device pairs d a n first last =
    let total = length-drop a pairs in
    let whole : take (length pairs - a) (drop a pairs) ≡ drop a pairs = take_all (length pairs - a) (drop a pairs) (omega arith) in
    let same = of_rest pairs d a n first (subst (λ ts. Ends ts (d + 1) n) whole last) in
    ap (map (λ t. t.group)) (same ∙ ap (take n) (sym whole))
