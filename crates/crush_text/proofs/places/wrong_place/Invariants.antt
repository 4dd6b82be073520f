use Rattle.std.proofs.Common.{◌≡◌, ℕ, length, take, drop, slice_index_or, false}
use Rattle.std.specs.List.{list_any}
use Rattle.crush_text.specs.Places.{names_place, wrong_place_from}
use Rattle.crush_text.proofs.places.wrong_place.Given as goal

abbrev pub invariant-loop-item : goal.invariant-loop-item
invariant-loop-item l = record {
  size : length l.named.items ≡ length l.items;
  table : (k : ℕ) → slice_index_or l.named.items k false ≡ list_any (names_place k) (take l.item-index l.items);
  rest : wrong_place_from (length l.items) (take l.item-index l.items) (drop l.item-index l.items) ≡ wrong_place_from (length l.items) (take 0 l.items) l.items;
}
