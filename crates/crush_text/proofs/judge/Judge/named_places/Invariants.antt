use Rattle.std.proofs.Common.{◌≡◌, ◌<◌, ℕ, length, take, option_map, find, slice_index_or, None}
use Rattle.crush_text.specs.Judging.{item_of}
use Rattle.crush_text.specs.Places.{names_place}
use Rattle.crush_text.proofs.judge.Judge.named_places.Given as goal

abbrev pub invariant-loop-item : goal.invariant-loop-item
invariant-loop-item l = record {
  size : length l.named.items ≡ length l.items;
  table : (k : ℕ) → k < length l.items → slice_index_or l.named.items k None ≡ option_map (item_of l.self.draft) (find (names_place k) (take l.item-index l.items));
}
