-- What holds for elements without a fault.
use Rattle.std.proofs.Common.{rules, ◌≡◌, ◌∙◌, Bool, true, false, ◌||◌, Option, Some, None, List, [], ◌∷◌, ℕ, zero, suc, ℤ, pos, negsuc, refl, sym, IsTrue, slice_get}
use Rattle.crush_map.specs.declared.fault.FaultCode.{FaultCode}
use Rattle.crush_map.specs.Faults.{first_of, or_else, ◌when◌, is_bucket_id}
use Rattle.crush_map.specs.Private.Tables.{is_id}

-- ---- checks

pub first_none : {X : Type 0} (x y : Option X) → or_else x y ≡ None → x ≡ None
first_none None y h = refl
first_none (Some x) y h = cc

pub second_none : {X : Type 0} (x y : Option X) → or_else x y ≡ None → y ≡ None
second_none None y h = h
second_none (Some x) y h = cc

-- if a list of checks finds no fault, each check of it finds none
pub passes : (checks : List (Option FaultCode)) (i : ℕ) (check : Option FaultCode) → slice_get checks i ≡ Some check → first_of checks ≡ None → check ≡ None
passes [] i check at h = cc
passes (c ∷ checks) zero check at h = let e : c ≡ check = cc in sym e ∙ first_none c (first_of checks) h
passes (c ∷ checks) (suc i) check at h = passes checks i check at (second_none c (first_of checks) h)

-- if a check finds no fault, its test is false
pub fails : (code : FaultCode) (test : Bool) → (code when test) ≡ None → test ≡ false
fails code true h = cc
fails code false h = refl

-- ---- tests of which one or the other

pub left_false : (a b : Bool) → (a || b) ≡ false → a ≡ false
left_false true b h = h
left_false false b h = refl

pub right_false : (a b : Bool) → (a || b) ≡ false → b ≡ false
right_false true b h = cc
right_false false b h = h

-- ---- ids

-- an id that a bucket can have is one that a table is for
pub bucket_is : (id : ℤ) → is_bucket_id id ≡ true → IsTrue (is_id id)
bucket_is (pos n) h = cc
bucket_is (negsuc n) h = search rules
