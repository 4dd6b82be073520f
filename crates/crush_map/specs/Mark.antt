-- The mark of texts that ask for straw2 buckets.
use Rattle.std.specs.Prelude.{ℕ, List, codes}

-- a line by which a text asks for straw2 where it is the first; to Ceph's compiler of map texts it
-- is a comment
abbrev pub straw2_mark : List ℕ
straw2_mark = codes "# crushcalc: straw2"
