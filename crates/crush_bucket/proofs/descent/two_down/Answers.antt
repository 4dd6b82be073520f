use Rattle.std.proofs.Common.{◌≡◌, ℕ, ◌<◌, ◌-◌, ◌+◌, [], ◌∷◌, slice_index, refl, arith, ◌∙◌}
use Rattle.crush_bucket.proofs.Lanes.{AreThree, below_four, last_two}
use Rattle.crush_bucket.proofs.descent.two_down.Goals as goal

pub returns : goal.returns
returns c =
    let four = c.hash4_four-four.result in
    let hashes = slice_index four 0 ∷ slice_index four 1 ∷ slice_index four 2 ∷ 0 ∷ 0 ∷ 0 ∷ 0 ∷ 0 ∷ [] in
    let node = c.args.node in
    let is : (n : ℕ) → n < 4 → n < 3 → slice_index hashes n ≡ slice_index four n = below_four (λ (n : ℕ). n < 3 → slice_index hashes n ≡ slice_index four n) (λ h. refl) (λ h. refl) (λ h. refl) (λ h. absurd (omega (arith, h))) in
    let same : (n : ℕ) → n < 4 → n < 3 → slice_index (node ∷ (node - 2) ∷ (node + 2) ∷ 0 ∷ []) n ≡ slice_index (node ∷ (node - 2) ∷ (node + 2) ∷ (node - 2 - 1) ∷ (node - 2 + 1) ∷ (node + 2 - 1) ∷ (node + 2 + 1) ∷ 0 ∷ []) n = below_four _ (λ h. refl) (λ h. refl) (λ h. refl) (λ h. absurd (omega (arith, h))) in
    let are : AreThree c.args.id c.args.x c.args.r node hashes = λ n h. is n (omega (arith, h)) h ∙ c.hash4_four-four.ensures n (omega (arith, h)) ∙ rw (same n (omega (arith, h)) h, c.word.ensures) refl in
    last_two c.args.id c.args.nodes.now c.args.x c.args.r node hashes c.step-below.result c.step.result are c.step-below.ensures.value c.step.ensures.value
