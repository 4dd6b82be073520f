-- What single words of a map text say.
use Rattle.std.specs.Prelude.{ℕ, nat_lt, ◌&&◌, ◌||◌, Bool, true, false, List, length, Option, Some, None, if◌then◌else◌, codes, bytes_eq}
use Rattle.std.specs.List.{list_all}
use Rattle.crush_map.specs.crush_types.specs.declared.Kind.{Kind}
use Rattle.crush_map.specs.crush_types.specs.declared.Kind.TheVariants.{Straw2}
use Rattle.crush_map.specs.crush_types.specs.Kinds.{kind_name, kind_named}
use Rattle.crush_map.specs.Faults.{is_name_byte, is_reserved}
use Rattle.crush_grammar.specs.Words.{Word}
use Rattle.crush_grammar.specs.declared.declaration.TunableName.{TunableName}
use Rattle.crush_grammar.specs.declared.declaration.TunableName.TheVariants as tunables
use Rattle.crush_grammar.specs.declared.declaration.Setting.{Setting}
use Rattle.crush_grammar.specs.declared.declaration.Setting.TheVariants as settings

-- a run of the bytes of names; how long a name may be is judged later
unfoldable pub name_of : List ℕ → Option (List ℕ)
name_of text = if nat_lt 0 (length text) && list_all is_name_byte text then Some text else None

-- the type of a bucket: no word that begins another declaration, and not class
unfoldable pub type_of : List ℕ → Option (List ℕ)
type_of text = if is_reserved text then None else name_of text

unfoldable pub tunable_of : List ℕ → Option TunableName
tunable_of text =
    if bytes_eq text (codes "choose_local_tries") then Some tunables.LocalTries
    else (if bytes_eq text (codes "choose_local_fallback_tries") then Some tunables.LocalFallbackTries
    else (if bytes_eq text (codes "choose_total_tries") then Some tunables.TotalTries
    else (if bytes_eq text (codes "chooseleaf_descend_once") then Some tunables.DescendOnce
    else (if bytes_eq text (codes "chooseleaf_vary_r") then Some tunables.VaryR
    else (if bytes_eq text (codes "chooseleaf_stable") then Some tunables.Stable
    else (if bytes_eq text (codes "straw_calc_version") then Some tunables.StrawCalcVersion
    else (if bytes_eq text (codes "allowed_bucket_algs") then Some tunables.AllowedBucketAlgs else None)))))))

-- the kind of a bucket; straw2 in a text that asks for it alone
unfoldable pub alg_of : Word → Option Kind
alg_of w = if w.straw2 && bytes_eq w.text (kind_name Straw2) then Some Straw2 else kind_named w.text

-- the hash: 0 or rjenkins1, which are the same
unfoldable pub hash_of : List ℕ → Option ℕ
hash_of text = if bytes_eq text (codes "0") || bytes_eq text (codes "rjenkins1") then Some 0 else None

-- the word before the id of a rule: id or ruleset, which are the same
unfoldable pub rule_id_of : List ℕ → Option ℕ
rule_id_of text = if bytes_eq text (codes "id") || bytes_eq text (codes "ruleset") then Some 0 else None

-- the type of a rule: for erasure coded pools, or not
unfoldable pub erasure_of : List ℕ → Option Bool
erasure_of text = if bytes_eq text (codes "replicated") then Some false else (if bytes_eq text (codes "erasure") then Some true else None)

-- how a step chooses: firstn, or indep
unfoldable pub firstn_of : List ℕ → Option Bool
firstn_of text = if bytes_eq text (codes "firstn") then Some true else (if bytes_eq text (codes "indep") then Some false else None)

unfoldable pub setting_of : List ℕ → Option Setting
setting_of text =
    if bytes_eq text (codes "set_choose_tries") then Some settings.ChooseTries
    else (if bytes_eq text (codes "set_chooseleaf_tries") then Some settings.LeafTries
    else (if bytes_eq text (codes "set_chooseleaf_vary_r") then Some settings.VaryR
    else (if bytes_eq text (codes "set_chooseleaf_stable") then Some settings.Stable
    else (if bytes_eq text (codes "set_choose_local_tries") then Some settings.LocalTries
    else (if bytes_eq text (codes "set_choose_local_fallback_tries") then Some settings.LocalFallbackTries else None)))))
