-- Names, and what has them.
use Rattle.std.proofs.Common.{◌≡◌, ◌∙◌, ℕ, ℤ, pos, negsuc, ◌+◌, ◌==◌, List, [], ◌∷◌, ◌++◌, length, map, Bool, true, false, ◌||◌, if◌then◌else◌, refl, sym, ap, arith, Some, None, slice_get, bytes_eq}
use Rattle.std.proofs.lemmas.Bool.Decides.{nat_tests, Decides-int_eq}
use Rattle.std.proofs.lemmas.List.{append-nil}
use Rattle.std.proofs.lemmas.Option.{slice_get_within}
use Rattle.std.proofs.lemmas.Slice.Eq.{bytes_eq-Decides}
use Rattle.std.specs.List.{find, list_any}
use Rattle.std.specs.Option.{option_map_or}
use Rattle.std.specs.Ordering.{int_eq}
use Rattle.crush_map.specs.declared.draft.TypeName.{TypeName}
use Rattle.crush_map.specs.declared.draft.Device.{Device}
use Rattle.crush_map.specs.declared.draft.Bucket.{Bucket}
use Rattle.crush_map.specs.declared.draft.MapDraft.{MapDraft}
use Rattle.crush_map.specs.Map.{Map}
use Rattle.crush_map.specs.Sound.{IsEachOnce, same_id, has_type, has_item, has_device, has_bucket}
use Rattle.crush_writing.specs.Canonical.{type_name, device_name, bucket_name, item_name}
use Rattle.crush_text.specs.Judging.{item_named, of_device, of_bucket, undeclared, undeclared_number}
use Rattle.crush_text.proofs.Found.{any_named, first_name, find_none, find_once, get_before, get_behind, get_mapped}

-- ---- names are those of the first

pub type_first : (types : List TypeName) (n : ℕ) → type_name types n ≡ first_name (λ t. t.number == n) (λ t. t.name) types
unfolding type_name
type_first [] n = refl
type_first (t ∷ types) n = ap (λ name. if t.number == n then t.name else name) (type_first types n)

pub device_first : (devices : List Device) (id : ℕ) → device_name devices id ≡ first_name (λ d. d.id == id) (λ d. d.name) devices
unfolding device_name
device_first [] id = refl
device_first (d ∷ devices) id = ap (λ name. if d.id == id then d.name else name) (device_first devices id)

is_same : (m n : ℕ) → (m == n) ≡ true → m ≡ n
is_same m n h = grind (arith, nat_tests)

pub same_eq : (x y : ℤ) → same_id x y ≡ true → int_eq x y ≡ true
same_eq (pos m) (pos n) h = (Decides-int_eq (pos m) (pos n)).1 (ap pos (is_same m n h))
same_eq (pos m) (negsuc n) h = cc
same_eq (negsuc m) (pos n) h = cc
same_eq (negsuc m) (negsuc n) h = (Decides-int_eq (negsuc m) (negsuc n)).1 (ap negsuc (is_same m n h))

or_right : (a b : Bool) → b ≡ true → (a || b) ≡ true
or_right true b h = refl
or_right false b h = h

any_by : {X : Type 0} (p q : X → Bool) (x : X) (xs : List X) (k : Bool) → p x ≡ k → (p x ≡ true → q x ≡ true) → (list_any p xs ≡ true → list_any q xs ≡ true) → (k || list_any p xs) ≡ true → (q x || list_any q xs) ≡ true
any_by p q x xs true e here more h = rw (here e) refl
any_by p q x xs false e here more h = or_right (q x) (list_any q xs) (more h)

pub any_also : {X : Type 0} (p q : X → Bool) (xs : List X) → ((x : X) → p x ≡ true → q x ≡ true) → list_any p xs ≡ true → list_any q xs ≡ true
any_also p q [] h some = cc
any_also p q (x ∷ xs) h some = any_by p q x xs (p x) refl (h x) (any_also p q xs h) some

pub bucket_first : (buckets : List Bucket) (id : ℤ) → bucket_name buckets id ≡ first_name (λ b. int_eq b.id.0 id) (λ b. b.name) buckets
unfolding bucket_name
bucket_first [] id = refl
bucket_first (b ∷ buckets) id = ap (λ name. if int_eq b.id.0 id then b.name else name) (bucket_first buckets id)

-- ---- a name that is one element's alone leads back to it

same_name : (xs ys : List ℕ) → bytes_eq xs ys ≡ true → xs ≡ ys
same_name xs ys h = (bytes_eq-Decides xs ys).0 h

-- what has the name of an element is found by it
by_name : {X : Type 0} (name : X → List ℕ) (xs : List X) (wanted : List ℕ) (i : ℕ) (x : X) → slice_get xs i ≡ Some x → wanted ≡ name x → IsEachOnce (map name xs) →
    find (λ y. bytes_eq (name y) wanted) xs ≡ Some x
by_name name xs wanted i x at is once =
    find_once (λ y. bytes_eq (name y) wanted) xs i x at ((bytes_eq-Decides (name x) wanted).1 (sym is))
    (λ j y there same. once wanted j i
    (get_mapped name xs j y there ∙ ap (λ n. Some n) (same_name (name y) wanted same))
    (get_mapped name xs i x at ∙ ap (λ n. Some n) (sym is)))

pub type_comes_back : (types : List TypeName) (n : ℕ) → IsEachOnce (map (λ t. t.name) types) → has_type types n ≡ true →
    option_map_or (λ t. t.number) (find (λ t. bytes_eq t.name (type_name types n)) types) undeclared_number ≡ n
type_comes_back types n once has =
    let w = any_named (λ t. t.number == n) (λ t. t.name) types [] has in
    let name : type_name types n ≡ w.element.name = type_first types n ∙ (ap (first_name (λ t. t.number == n) (λ t. t.name)) (sym (append-nil types)) ∙ w.is) in
    ap (λ o. option_map_or (λ t. t.number) o undeclared_number) (by_name (λ t. t.name) types (type_name types n) w.place w.element w.at name once) ∙ is_same w.element.number n w.passes

-- ---- items

names_before : {X Y : Type 0} (f : X → List ℕ) (g : Y → List ℕ) (xs : List X) (ys : List Y) → IsEachOnce (map f xs ++ map g ys) → IsEachOnce (map f xs)
names_before f g xs ys once name i j a b = once name i j (get_before (map f xs) (map g ys) i name a) (get_before (map f xs) (map g ys) j name b)

behind_names : {X Y : Type 0} (f : X → List ℕ) (g : Y → List ℕ) (xs : List X) (ys : List Y) (i : ℕ) (name : List ℕ) → slice_get (map g ys) i ≡ Some name → slice_get (map f xs ++ map g ys) (length (map f xs) + i) ≡ Some name
behind_names f g xs ys i name at = get_behind (map f xs) (map g ys) i ∙ at

names_behind : {X Y : Type 0} (f : X → List ℕ) (g : Y → List ℕ) (xs : List X) (ys : List Y) → IsEachOnce (map f xs ++ map g ys) → IsEachOnce (map g ys)
names_behind f g xs ys once name i j a b =
    let same = once name (length (map f xs) + i) (length (map f xs) + j) (behind_names f g xs ys i name a) (behind_names f g xs ys j name b) in
    omega arith

-- what has a name of ys is none of xs
apart : {X Y : Type 0} (f : X → List ℕ) (g : Y → List ℕ) (xs : List X) (ys : List Y) → IsEachOnce (map f xs ++ map g ys) →
    (i : ℕ) (y : Y) → slice_get ys i ≡ Some y → (wanted : List ℕ) → wanted ≡ g y → (j : ℕ) (x : X) → slice_get xs j ≡ Some x → bytes_eq (f x) wanted ≡ true → ⊥
apart f g xs ys once i y at wanted is j x there same =
    let mapped : slice_get (map f xs) j ≡ Some wanted = get_mapped f xs j x there ∙ ap (λ n. Some n) (same_name (f x) wanted same) in
    let less = slice_get_within (map f xs) j wanted mapped in
    let e = once wanted j (length (map f xs) + i)
    (get_before (map f xs) (map g ys) j wanted mapped)
    (behind_names f g xs ys i wanted (get_mapped g ys i y at ∙ ap (λ n. Some n) (sym is))) in
    absurd (omega arith)

device_comes_back : (d : MapDraft) (m : Map) (more : List Bucket) → m.devices ≡ d.devices → IsEachOnce (map (λ x. x.name) m.devices ++ map (λ b. b.name) m.buckets) →
    (id : ℕ) → has_device d.devices id ≡ true → (item_named d (device_name m.devices id)).0 ≡ record { 0 = pos id }
device_comes_back d m more same once id has =
    let w = any_named (λ x. x.id == id) (λ x. x.name) d.devices [] has in
    let name : device_name m.devices id ≡ w.element.name =
    ap (λ xs. device_name xs id) same ∙ (device_first d.devices id ∙ (ap (first_name (λ x. x.id == id) (λ x. x.name)) (sym (append-nil d.devices)) ∙ w.is)) in
    let mine : IsEachOnce (map (λ x. x.name) d.devices) = rw same at (names_before (λ x. x.name) (λ b. b.name) m.devices m.buckets once) in
    let found = by_name (λ x. x.name) d.devices (device_name m.devices id) w.place w.element w.at name mine in
    ap (λ o. (option_map_or of_device o (option_map_or of_bucket (find (λ b. bytes_eq b.name (device_name m.devices id)) d.buckets) undeclared)).0) found
    ∙ ap (λ n. record { 0 = pos n }) (is_same w.element.id id w.passes)

bucket_comes_back : (d : MapDraft) (m : Map) (more : List Bucket) → m.devices ≡ d.devices → m.buckets ≡ d.buckets ++ more → IsEachOnce (map (λ x. x.name) m.devices ++ map (λ b. b.name) m.buckets) →
    (id : ℤ) → has_bucket d.buckets id ≡ true → (item_named d (bucket_name m.buckets id)).0 ≡ record { 0 = id }
bucket_comes_back d m more same longer once id has =
    let test = λ (b : Bucket). int_eq b.id.0 id in
    let w = any_named test (λ b. b.name) d.buckets more (any_also (λ b. same_id b.id.0 id) test d.buckets (λ b. same_eq b.id.0 id) has) in
    let name : bucket_name m.buckets id ≡ w.element.name =
    ap (λ xs. bucket_name xs id) longer ∙ (bucket_first (d.buckets ++ more) id ∙ w.is) in
    let at : slice_get m.buckets w.place ≡ Some w.element = ap (λ xs. slice_get xs w.place) longer ∙ get_before d.buckets more w.place w.element w.at in
    let none : find (λ x. bytes_eq x.name (bucket_name m.buckets id)) d.devices ≡ None =
    find_none (λ x. bytes_eq x.name (bucket_name m.buckets id)) d.devices
    (λ j x there. apart (λ x. x.name) (λ b. b.name) m.devices m.buckets once w.place w.element at (bucket_name m.buckets id) name j x (ap (λ xs. slice_get xs j) same ∙ there)) in
    let all : IsEachOnce (map (λ b. b.name) m.buckets) = names_behind (λ x. x.name) (λ b. b.name) m.devices m.buckets once in
    let found : find (λ b. bytes_eq b.name (bucket_name m.buckets id)) d.buckets ≡ Some w.element =
    find_once (λ b. bytes_eq b.name (bucket_name m.buckets id)) d.buckets w.place w.element w.at ((bytes_eq-Decides w.element.name (bucket_name m.buckets id)).1 (sym name))
    (λ j y there passes. all (bucket_name m.buckets id) j w.place
    (get_mapped (λ b. b.name) m.buckets j y (ap (λ xs. slice_get xs j) longer ∙ get_before d.buckets more j y there) ∙ ap (λ n. Some n) (same_name y.name (bucket_name m.buckets id) passes))
    (get_mapped (λ b. b.name) m.buckets w.place w.element at ∙ ap (λ n. Some n) (sym name))) in
    rw (none, found) (ap (λ z. record { 0 = z }) ((Decides-int_eq w.element.id.0 id).0 w.passes))

-- the name of an item that is declared leads back to it
pub item_comes_back : (d : MapDraft) (m : Map) (more : List Bucket) → m.devices ≡ d.devices → m.buckets ≡ d.buckets ++ more → IsEachOnce (map (λ x. x.name) m.devices ++ map (λ b. b.name) m.buckets) →
    (id : ℤ) → has_item d.devices d.buckets id ≡ true → (item_named d (item_name m id)).0 ≡ record { 0 = id }
item_comes_back d m more same longer once (pos n) has = device_comes_back d m more same once n has
item_comes_back d m more same longer once (negsuc n) has = bucket_comes_back d m more same longer once (negsuc n) has
