use Rattle.std.proofs.Common.{◌≡◌, ℕ, ◌+◌, ◌-◌, ◌%◌, slice_index, [], ◌∷◌}
use Rattle.crush_hash.specs.Private.Eight.{place_before}
use Rattle.crush_hash.proofs.MemberLanes.{below_eight}
use Rattle.crush_hash.proofs.eight.places_before.Goals as goal

pub returns : goal.returns
returns c =
    let at = c.args.at.now in
    let hashes = c.args.hashes.now in
    let sizes = c.args.sizes.now in
    let n = c.args.n in
    let result = c.place_before.result ∷ c.place_before-2.result ∷ c.place_before-3.result ∷ c.place_before-4.result ∷ c.place_before-5.result ∷ c.place_before-6.result ∷ c.place_before-7.result ∷ c.place_before-8.result ∷ [] in
    below_eight (λ (lane : ℕ). slice_index result lane ≡ place_before (slice_index at lane) n (n + slice_index hashes lane % (slice_index sizes lane - n)))
    c.place_before.ensures c.place_before-2.ensures c.place_before-3.ensures c.place_before-4.ensures
    c.place_before-5.ensures c.place_before-6.ensures c.place_before-7.ensures c.place_before-8.ensures
