-- Tables of names by number, with one more entry.
use Rattle.std.proofs.Common.{◌≡◌, ◌∙◌, ◌==◌, ℕ, ℤ, Bool, true, false, List, [], ◌∷◌, refl, Option, Some, Bor, if◌then◌else◌}
use Rattle.std.specs.BTreeMap.{BTreeMap, Updates, get}
use Rattle.std.specs.Cmp.{unsigned_tied}
use Rattle.std.specs.Option.{option_map_or}
use Rattle.std.specs.Ordering.{int_cmp, int_eq, is_eq, nat_cmp}
use Rattle.std.specs.declared.cmp.Ordering.{Ordering}
use Rattle.crush_map.specs.declared.draft.Bucket.{Bucket}
use Rattle.crush_map.specs.declared.draft.Device.{Device}
use Rattle.crush_writing.specs.Canonical.{device_name, bucket_name}

-- ---- one more entry

abbrev name_in : {K : Type 0} → (K → K → Ordering) → BTreeMap K (Bor (List ℕ)) → K → List ℕ
name_in cmp table key = option_map_or (λ name. name.now) (get cmp table key) []

chosen : (test : Bool) (name : Bor (List ℕ)) (old : Option (Bor (List ℕ))) →
    option_map_or (λ (n : Bor (List ℕ)). n.now) (if test then Some name else old) [] ≡ (if test then name.now else option_map_or (λ (n : Bor (List ℕ)). n.now) old [])
chosen true name old = refl
chosen false name old = refl

one_more : {K : Type 0} (cmp : K → K → Ordering) (m n : BTreeMap K (Bor (List ℕ))) (k q : K) (name : Bor (List ℕ)) (test : Bool) → Updates cmp m n k (Some name) → is_eq (cmp k q) ≡ test →
    name_in cmp n q ≡ (if test then name.now else name_in cmp m q)
one_more cmp m n k q name test updates same = rw (updates.0 q, same) (chosen test name (get cmp m q))

pub device_listed : (m n : BTreeMap ℕ (Bor (List ℕ))) (d : Device) (name : Bor (List ℕ)) (others : List Device) → name.now ≡ d.name → Updates nat_cmp m n d.id (Some name) →
    ((id : ℕ) → name_in nat_cmp m id ≡ device_name others id) → (id : ℕ) → name_in nat_cmp n id ≡ device_name (d ∷ others) id
unfolding device_name
device_listed m n d name others same updates before id =
    one_more nat_cmp m n d.id id name (d.id == id) updates (unsigned_tied d.id id) ∙ rw (same, before id) refl

pub bucket_listed : (m n : BTreeMap ℤ (Bor (List ℕ))) (b : Bucket) (name : Bor (List ℕ)) (others : List Bucket) → name.now ≡ b.name → Updates int_cmp m n b.id.0 (Some name) →
    ((id : ℤ) → name_in int_cmp m id ≡ bucket_name others id) → (id : ℤ) → name_in int_cmp n id ≡ bucket_name (b ∷ others) id
unfolding bucket_name
bucket_listed m n b name others same updates before id =
    one_more int_cmp m n b.id.0 id name (int_eq b.id.0 id) updates refl ∙ rw (same, before id) refl
