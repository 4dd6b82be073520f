use Rattle.std.proofs.Common.{◌≡◌, ℕ, ◌<◌, ◌≤◌, ◌==◌, List, length, slice_index, slice_index_or, Result, Ok, Err, is_ok, sym, ◌∙◌, arith, ◌⊎◌, inl, inr}
use Rattle.std.specs.List.{list_any}
use Rattle.std.specs.Ordering.{nat_cmp}
use Rattle.std.specs.List.Sorted.{IsStrictlyIncreasing, IsBinarySearchResult}
use Rattle.std.proofs.lemmas.Bool.Decides.{Decides-eqb}
use Rattle.std.proofs.lemmas.Bool.{false_from_ne_true}
use Rattle.std.proofs.lemmas.List.{get_or_default}
use Rattle.std.specs.Result.{MatchResult}
use Rattle.std.proofs.lemmas.List.Folds.{list_any_at, list_any_none}
use Rattle.std.proofs.lemmas.List.Kept.{AllPairs-from_increasing}
use Rattle.std.proofs.lemmas.List.Sorted.{searched}
use Rattle.crush_bucket.proofs.tables.Tables.has_device.Goals as goal

by_answer : (ids : List ℕ) (id : ℕ) (found : Result ℕ ℕ) → MatchResult found (λ i. (i < length ids) × (slice_index ids i ≡ id)) (λ i. (i ≤ length ids) × ((k : ℕ) → k < i → slice_index ids k < id) × ((k : ℕ) → i ≤ k → k < length ids → id < slice_index ids k)) → is_ok found ≡ list_any (λ d. d == id) ids
by_answer ids id (Ok i) at = sym (list_any_at (λ d. d == id) ids i 0 at.0 ((Decides-eqb (slice_index ids i) id).1 at.1))
by_answer ids id (Err i) around =
    sym (list_any_none (λ d. d == id) ids (λ k d within. false_from_ne_true (slice_index_or ids k d == id) (λ same. (
    let is : slice_index_or ids k d ≡ id = (Decides-eqb (slice_index_or ids k d) id).0 same in
    let at : slice_index ids k ≡ slice_index_or ids k d = get_or_default ids k 0 d within in
    let either : (k < i) ⊎ (i ≤ k) = grind arith in
    elim either [
      | inl low ↦ let below = around.1 k low in omega arith
      | inr high ↦ let above = around.2 k high within in omega arith
    ]))))

-- in ascending numbers a number is found where it is one of them
is_found : (ids : List ℕ) (id : ℕ) (found : Result ℕ ℕ) → IsStrictlyIncreasing ids → IsBinarySearchResult (λ y. nat_cmp y id) ids found → is_ok found ≡ list_any (λ d. d == id) ids
is_found ids id found order says =
    let ascend : (i j : ℕ) → i ≤ j → j < length ids → slice_index ids i ≤ slice_index ids j = λ i j below within. (
    let either : (i ≡ j) ⊎ (i < j) = grind arith in
    elim either [ inl same ↦ rw same (omega arith) | inr less ↦ (let up : slice_index ids i < slice_index ids j = AllPairs-from_increasing ids order i j 0 less within in omega arith) ])
    in
    by_answer ids id found (searched ids id found says ascend)

pub returns : goal.returns
returns c =
    let says : IsBinarySearchResult (λ y. nat_cmp y c.args.id) c.self.inside.devices.items c.binary_search.result = rw c.deref.ensures.value at c.binary_search.ensures.position in
    rw (← c.self.view_is) (c.is_ok.ensures.value ∙ is_found c.self.inside.devices.items c.args.id c.binary_search.result c.self.invariant.order says)
