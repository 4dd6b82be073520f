-- The lanes of the labels below a node.
use Rattle.std.proofs.Common.{◌≡◌, ℕ, zero, suc, ◌+◌, ◌-◌, ◌*◌, ◌<◌, ◌≤◌, ◌^◌, List, slice_index, Bool, true, false, refl, ap, ◌∙◌, arith}
use Rattle.std.proofs.Math.Nat.{pow-succ'}
use Rattle.crush_hash.specs.Hash.{hash4}
use Rattle.crush_map.specs.crush_types.specs.declared.ItemId.{ItemId}
use Rattle.crush_bucket.specs.Bucket.{word}
use Rattle.crush_bucket.specs.Private.Descent.{is_left, child, lane_below, labels, down_by}

-- a node has its label at a lane
record InLane (node quarter lane below : ℕ) : Type 0 where
  low : lane < 7
  same : slice_index (labels node quarter) lane ≡ below

first_lane : (nodes : List ℕ) (hash node quarter : ℕ) → InLane node quarter (lane_below nodes hash node (2 * quarter) 0) (child nodes hash node (2 * quarter))
first_lane nodes hash node quarter =
    let half = 2 * quarter in
    let go : (b : Bool) → is_left nodes hash node half ≡ b → InLane node quarter (lane_below nodes hash node half 0) (child nodes hash node half) = λ b. elim b as (λ b. is_left nodes hash node half ≡ b → InLane node quarter (lane_below nodes hash node half 0) (child nodes hash node half)) [
      | true ↦ λ e. record { low = rw e (omega arith); same = rw e refl }
      | false ↦ λ e. record { low = rw e (omega arith); same = rw e refl }
    ] in go (is_left nodes hash node half) refl

second_lane : (nodes : List ℕ) (hash next node quarter : ℕ) → InLane node quarter (lane_below nodes next (child nodes hash node (2 * quarter)) quarter (lane_below nodes hash node (2 * quarter) 0)) (child nodes next (child nodes hash node (2 * quarter)) quarter)
second_lane nodes hash next node quarter =
    let half = 2 * quarter in
    let goal : Type 0 = InLane node quarter (lane_below nodes next (child nodes hash node half) quarter (lane_below nodes hash node half 0)) (child nodes next (child nodes hash node half) quarter) in
    let left : (b : Bool) → is_left nodes next (node - half) quarter ≡ b → is_left nodes hash node half ≡ true → goal = λ b. elim b as (λ b. is_left nodes next (node - half) quarter ≡ b → is_left nodes hash node half ≡ true → goal) [
      | true ↦ λ e f. record { low = rw (f, e) (omega arith); same = rw (f, e) refl }
      | false ↦ λ e f. record { low = rw (f, e) (omega arith); same = rw (f, e) refl }
    ] in
    let right : (b : Bool) → is_left nodes next (node + half) quarter ≡ b → is_left nodes hash node half ≡ false → goal = λ b. elim b as (λ b. is_left nodes next (node + half) quarter ≡ b → is_left nodes hash node half ≡ false → goal) [
      | true ↦ λ e f. record { low = rw (f, e) (omega arith); same = rw (f, e) refl }
      | false ↦ λ e f. record { low = rw (f, e) (omega arith); same = rw (f, e) refl }
    ] in
    let go : (b : Bool) → is_left nodes hash node half ≡ b → goal = λ b. elim b as (λ b. is_left nodes hash node half ≡ b → goal) [
      | true ↦ λ f. left (is_left nodes next (node - half) quarter) refl f
      | false ↦ λ f. right (is_left nodes next (node + half) quarter) refl f
    ] in go (is_left nodes hash node half) refl

-- the hash of the label at each lane
abbrev pub AreHashes : ItemId → ℕ → ℕ → ℕ → ℕ → List ℕ → Type 0
AreHashes id x r node quarter hashes =
    (n : ℕ) → n < 8 → slice_index hashes n ≡ hash4 x (slice_index (labels node quarter) n) r (word id)

-- two steps by hashes in lanes, and where the next hash lies
pub record TwoDown (id : ItemId) (nodes : List ℕ) (x r node level : ℕ) (hashes : List ℕ) (to : ℕ × ℕ) : Type 0 where
  pub at : to.0 ≡ down_by id nodes x r 2 level node
  pub hash : slice_index hashes to.1 ≡ hash4 x to.0 r (word id)

pub two_down : (id : ItemId) (nodes : List ℕ) (x r node level quarter : ℕ) (hashes : List ℕ) (one two : ℕ × ℕ) → 2 ≤ level → quarter ≡ 2 ^ (level - 2) → AreHashes id x r node quarter hashes
    → one ≡ (child nodes (slice_index hashes 0) node (2 * quarter), lane_below nodes (slice_index hashes 0) node (2 * quarter) 0)
    → two ≡ (child nodes (slice_index hashes one.1) one.0 quarter, lane_below nodes (slice_index hashes one.1) one.0 quarter one.1)
    → TwoDown id nodes x r node level hashes two
two_down id nodes x r node level quarter hashes one two some q are is_one is_two =
    let hash : ℕ → ℕ = λ (n : ℕ). hash4 x n r (word id) in
    let half = 2 * quarter in
    let s = child nodes (hash node) node half in
    let l = lane_below nodes (hash node) node half 0 in
    let t = child nodes (hash s) s quarter in
    let m = lane_below nodes (hash s) s quarter l in
    let first : InLane node quarter l s = first_lane nodes (hash node) node quarter in
    let second : InLane node quarter m t = second_lane nodes (hash node) (hash s) node quarter in
    let h0 : slice_index hashes 0 ≡ hash node = are 0 (omega arith) in
    let e1 : one ≡ (s, l) = is_one ∙ ap (λ (h : ℕ). (child nodes h node half, lane_below nodes h node half 0)) h0 in
    let h1 : slice_index hashes l ≡ hash s = are l (let w = first.low in omega arith) ∙ ap hash first.same in
    let e2 : two ≡ (t, m) = is_two ∙ (ap (λ (p : ℕ × ℕ). (child nodes (slice_index hashes p.1) p.0 quarter, lane_below nodes (slice_index hashes p.1) p.0 quarter p.1)) e1 ∙ ap (λ (h : ℕ). (child nodes h s quarter, lane_below nodes h s quarter l)) h1) in
    let h2 : slice_index hashes m ≡ hash t = are m (let w = second.low in omega arith) ∙ ap hash second.same in
    let up : level - 1 ≡ suc (level - 2) = omega arith in
    let wide : 2 ^ (level - 1) ≡ half = rw up (omega (arith, pow-succ' 2 (level - 2))) in
    let down : level - 1 - 1 ≡ level - 2 = omega arith in
    record { at = ap (λ (p : ℕ × ℕ). p.0) e2 ∙ rw (wide, down, ← q) refl; hash = rw e2 h2 }

pub three_down : (id : ItemId) (nodes : List ℕ) (x r node level : ℕ) (hashes : List ℕ) (two : ℕ × ℕ) (to : ℕ) → 3 ≤ level → TwoDown id nodes x r node level hashes two → to ≡ child nodes (slice_index hashes two.1) two.0 (2 ^ (level - 3)) → to ≡ down_by id nodes x r 3 level node
three_down id nodes x r node level hashes two to some is e =
    let down : level - 1 - 1 - 1 ≡ level - 3 = omega arith in e ∙ rw (is.hash, is.at, down) refl

-- what holds of each number below four
pub below_four : (P : ℕ → Type 0) → P 0 → P 1 → P 2 → P 3 → (n : ℕ) → n < 4 → P n
below_four P p0 p1 p2 p3 zero h = p0
below_four P p0 p1 p2 p3 (suc zero) h = p1
below_four P p0 p1 p2 p3 (suc (suc zero)) h = p2
below_four P p0 p1 p2 p3 (suc (suc (suc zero))) h = p3
below_four P p0 p1 p2 p3 (suc (suc (suc (suc n)))) h = absurd (omega arith)

-- the hashes of a node and of its children, at the first lanes
abbrev pub AreThree : ItemId → ℕ → ℕ → ℕ → List ℕ → Type 0
AreThree id x r node hashes =
    (n : ℕ) → n < 3 → slice_index hashes n ≡ hash4 x (slice_index (labels node 1) n) r (word id)

first_low : (nodes : List ℕ) (hash node half : ℕ) → lane_below nodes hash node half 0 < 3
first_low nodes hash node half =
    let go : (b : Bool) → is_left nodes hash node half ≡ b → lane_below nodes hash node half 0 < 3 = λ b. elim b as (λ b. is_left nodes hash node half ≡ b → lane_below nodes hash node half 0 < 3) [
      | true ↦ λ e. rw e (omega arith)
      | false ↦ λ e. rw e (omega arith)
    ] in go (is_left nodes hash node half) refl

-- the last two steps by the hashes of a node and of its children
pub last_two : (id : ItemId) (nodes : List ℕ) (x r node : ℕ) (hashes : List ℕ) (one two : ℕ × ℕ) → AreThree id x r node hashes
    → one ≡ (child nodes (slice_index hashes 0) node 2, lane_below nodes (slice_index hashes 0) node 2 0)
    → two ≡ (child nodes (slice_index hashes one.1) one.0 1, lane_below nodes (slice_index hashes one.1) one.0 1 one.1)
    → two.0 ≡ down_by id nodes x r 2 2 node
last_two id nodes x r node hashes one two are is_one is_two =
    let hash : ℕ → ℕ = λ (n : ℕ). hash4 x n r (word id) in
    let s = child nodes (hash node) node 2 in
    let l = lane_below nodes (hash node) node 2 0 in
    let first : InLane node 1 l s = first_lane nodes (hash node) node 1 in
    let h0 : slice_index hashes 0 ≡ hash node = are 0 (omega arith) in
    let e1 : one ≡ (s, l) = is_one ∙ ap (λ (h : ℕ). (child nodes h node 2, lane_below nodes h node 2 0)) h0 in
    let h1 : slice_index hashes l ≡ hash s = are l (first_low nodes (hash node) node 2) ∙ ap hash first.same in
    ap (λ (p : ℕ × ℕ). p.0) is_two ∙ ap (λ (p : ℕ × ℕ). child nodes (slice_index hashes p.1) p.0 1) e1 ∙ ap (λ (h : ℕ). child nodes h s 1) h1
