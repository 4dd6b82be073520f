-- The names of the kinds of buckets, as Ceph's CRUSH map manual has them.
use Rattle.std.specs.Prelude.{ℕ, Bool, true, false, List, Option, Some, None, codes, if◌then◌else◌}
use Rattle.std.specs.Str.{bytes_eq}
use Rattle.crush_types.specs.declared.word.Kind.{Kind}
use Rattle.crush_types.specs.declared.word.Kind.TheVariants.{Uniform, List as ListKind, Tree, Straw2}

abbrev pub kind_name : Kind → List ℕ
kind_name Uniform = codes "uniform"
kind_name ListKind = codes "list"
kind_name Tree = codes "tree"
kind_name Straw2 = codes "straw2"

-- the kind with a name, of those that each text and each request may name; straw2 is named in texts
-- that ask for it alone
abbrev pub kind_named : List ℕ → Option Kind
kind_named name =
    if bytes_eq name (kind_name Uniform) then Some Uniform
    else (if bytes_eq name (kind_name ListKind) then Some ListKind
    else (if bytes_eq name (kind_name Tree) then Some Tree else None))

-- whether all items of a bucket of this kind must have the same weight
abbrev pub is_uniform : Kind → Bool
is_uniform Uniform = true
is_uniform ListKind = false
is_uniform Tree = false
is_uniform Straw2 = false

abbrev pub is_straw2 : Kind → Bool
is_straw2 Straw2 = true
is_straw2 Uniform = false
is_straw2 ListKind = false
is_straw2 Tree = false
