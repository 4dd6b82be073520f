-- What the looks at the files of a store find.
use Rattle.std.specs.Prelude.{◌≡◌, List, [], ◌∷◌, Bool, true, false, drop, Option, Some, IfSome}

-- what the next look finds. Where the list has no look, the files aren't there
abbrev pub next_look : List Bool → Bool
next_look [] = false
next_look (look ∷ later) = look

-- a look found `is_there`, and the later looks follow
abbrev pub Looks : Bool → Option (List Bool) → Option (List Bool) → Type 0
Looks is_there old new = IfSome old (λ looks. (is_there ≡ next_look looks) × (new ≡ Some (drop 1 looks)))

-- the next look finds the files
abbrev pub FindsFiles : Option (List Bool) → Type 0
FindsFiles looks = IfSome looks (λ known. next_look known ≡ true)
