-- The canonical text of a map: the one text that is written of it.
--
-- Source: what `crushtool -d` writes, with its headings and no other remark and with five decimals
-- in a weight.
use Rattle.std.specs.Prelude.{ℕ, ℤ, pos, negsuc, ◌==◌, Bool, true, false, List, [], ◌∷◌, ◌++◌, codes, flat_map, if◌then◌else◌}
use Rattle.std.specs.List.{list_any}
use Rattle.std.specs.Ordering.{int_eq}
use Rattle.std.specs.Fmt.{decimal, signed_decimal}
use Rattle.crush_map.specs.declared.draft.TypeName.{TypeName}
use Rattle.crush_map.specs.declared.draft.Device.{Device}
use Rattle.crush_map.specs.declared.draft.Bucket.{Bucket}
use Rattle.crush_map.specs.declared.draft.Step.{Step}
use Rattle.crush_map.specs.declared.draft.Step.TheVariants.{Take, SetChooseTries, SetLeafTries, SetVaryR, SetStable, Choose, Emit}
use Rattle.crush_map.specs.declared.draft.Rule.{Rule}
use Rattle.crush_map.specs.declared.draft.Tunables.{Tunables}
use Rattle.crush_map.specs.crush_types.specs.declared.ItemId.{ItemId}
use Rattle.crush_map.specs.crush_types.specs.declared.Weight.{Weight}
use Rattle.crush_map.specs.crush_types.specs.Kinds.{is_straw2, kind_name}
use Rattle.crush_map.specs.Mark.{straw2_mark}
use Rattle.crush_map.specs.Map.{Map}
use Rattle.crush_map.specs.WeightText.{text_of}

-- ---- lines

-- words with one space between two
abbrev pub spaced : List (List ℕ) → List ℕ
spaced [] = []
spaced (word ∷ words) = word ++ flat_map (λ other. 32 ∷ other) words

-- words, and a final LF
abbrev pub line : List (List ℕ) → List ℕ
line words = spaced words ++ 10 ∷ []

-- a line of what stands in braces
abbrev pub inner_line : List (List ℕ) → List ℕ
inner_line words = 9 ∷ line words

-- ---- names of what has a number; what has none has the empty name

unfoldable pub type_name : List TypeName → ℕ → List ℕ
type_name [] number = []
type_name (t ∷ types) number = if t.number == number then t.name else type_name types number

unfoldable pub device_name : List Device → ℕ → List ℕ
device_name [] id = []
device_name (d ∷ devices) id = if d.id == id then d.name else device_name devices id

unfoldable pub bucket_name : List Bucket → ℤ → List ℕ
bucket_name [] id = []
bucket_name (b ∷ buckets) id = if int_eq b.id.0 id then b.name else bucket_name buckets id

abbrev pub item_name : Map → ℤ → List ℕ
item_name m (pos id) = device_name m.devices id
item_name m (negsuc n) = bucket_name m.buckets (negsuc n)

-- ---- elements

unfoldable pub tunable_line : List ℕ → ℕ → List ℕ
tunable_line name value = line (codes "tunable" ∷ name ∷ decimal value ∷ [])

-- local tries are 0 in every map
unfoldable pub tunable_lines : Tunables → List ℕ
tunable_lines t =
    tunable_line (codes "choose_local_tries") 0
    ++ tunable_line (codes "choose_local_fallback_tries") 0
    ++ tunable_line (codes "choose_total_tries") t.total_tries
    ++ tunable_line (codes "chooseleaf_descend_once") t.descend_once
    ++ tunable_line (codes "chooseleaf_vary_r") t.vary_r
    ++ tunable_line (codes "chooseleaf_stable") t.stable

unfoldable pub device_line : Device → List ℕ
device_line d = line (codes "device" ∷ decimal d.id ∷ d.name ∷ [])

unfoldable pub type_line : TypeName → List ℕ
type_line t = line (codes "type" ∷ decimal t.number ∷ t.name ∷ [])

unfoldable pub item_line : Map → ItemId × Weight → List ℕ
item_line m item = inner_line (codes "item" ∷ item_name m item.0.0 ∷ codes "weight" ∷ text_of item.1 ∷ [])

unfoldable pub bucket_lines : Map → Bucket → List ℕ
bucket_lines m b =
    line (type_name m.types b.kind_of ∷ b.name ∷ codes "{" ∷ [])
    ++ inner_line (codes "id" ∷ signed_decimal b.id.0 ∷ [])
    ++ inner_line (codes "alg" ∷ kind_name b.alg ∷ [])
    ++ inner_line (codes "hash" ∷ codes "0" ∷ [])
    ++ flat_map (item_line m) b.items
    ++ line (codes "}" ∷ [])

abbrev pub choose_text : Bool → List ℕ
choose_text true = codes "chooseleaf"
choose_text false = codes "choose"

abbrev pub firstn_text : Bool → List ℕ
firstn_text true = codes "firstn"
firstn_text false = codes "indep"

abbrev pub step_text : Map → Step → List (List ℕ)
step_text m (Take id) = codes "take" ∷ item_name m id.0 ∷ []
step_text m (SetChooseTries tries) = codes "set_choose_tries" ∷ decimal tries ∷ []
step_text m (SetLeafTries tries) = codes "set_chooseleaf_tries" ∷ decimal tries ∷ []
step_text m (SetVaryR value) = codes "set_chooseleaf_vary_r" ∷ decimal value ∷ []
step_text m (SetStable value) = codes "set_chooseleaf_stable" ∷ decimal value ∷ []
step_text m (Choose firstn leaf n wanted) = choose_text leaf ∷ firstn_text firstn ∷ signed_decimal n ∷ codes "type" ∷ type_name m.types wanted ∷ []
step_text m Emit = codes "emit" ∷ []

unfoldable pub step_line : Map → Step → List ℕ
step_line m s = inner_line (codes "step" ∷ step_text m s)

abbrev pub erasure_text : Bool → List ℕ
erasure_text true = codes "erasure"
erasure_text false = codes "replicated"

unfoldable pub rule_lines : Map → Rule → List ℕ
rule_lines m r =
    line (codes "rule" ∷ r.name ∷ codes "{" ∷ [])
    ++ inner_line (codes "id" ∷ decimal r.id ∷ [])
    ++ inner_line (codes "type" ∷ erasure_text r.erasure ∷ [])
    ++ flat_map (step_line m) r.steps
    ++ line (codes "}" ∷ [])

-- ---- maps

-- whether a bucket needs the mark
abbrev pub has_straw2 : Map → Bool
has_straw2 m = list_any (λ b. is_straw2 b.alg) m.buckets

-- the mark, before all else, where a bucket needs it
unfoldable pub mark_line : Map → List ℕ
mark_line m = if has_straw2 m then line (straw2_mark ∷ []) else []

unfoldable pub canonical : Map → List ℕ
canonical m =
    mark_line m ++ codes "# begin crush map\n" ++ tunable_lines m.tunables
    ++ codes "\n# devices\n" ++ flat_map device_line m.devices
    ++ codes "\n# types\n" ++ flat_map type_line m.types
    ++ codes "\n# buckets\n" ++ flat_map (bucket_lines m) m.buckets
    ++ codes "\n# rules\n" ++ flat_map (rule_lines m) m.rules
    ++ codes "\n# end crush map\n"
