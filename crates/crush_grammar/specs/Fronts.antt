-- Where words leave the grammar, and what is declared before.
use Rattle.std.specs.Prelude.{◌≡◌, ℕ, suc, ◌<◌, ◌||◌, ◌⊎◌, true, false, codes, bytes_eq, Bool, List, [], ◌∷◌, ◌++◌, length, take, slice_get, Some, IsSomeAnd, is_some}
use Rattle.crush_map.specs.crush_types.specs.declared.Weight.{Weight}
use Rattle.crush_grammar.specs.Words.{Word}
use Rattle.crush_grammar.specs.Sayings.{name_of}
use Rattle.crush_grammar.specs.Syntax.{Declares}
use Rattle.crush_grammar.specs.declared.code.TextCode.{TextCode}
use Rattle.crush_grammar.specs.declared.code.TextCode.TheVariants.{X1, X2, X3, X4, X6}
use Rattle.crush_grammar.specs.declared.code.TextFault.{TextFault}
use Rattle.crush_grammar.specs.declared.declaration.DeclaredBucket.{DeclaredBucket}
use Rattle.crush_grammar.specs.declared.declaration.DeclaredItem.{DeclaredItem}
use Rattle.crush_grammar.specs.declared.declaration.DeclaredRule.{DeclaredRule}
use Rattle.crush_grammar.specs.declared.declaration.DeclaredStep.{DeclaredStep}
use Rattle.crush_grammar.specs.declared.declaration.DeclaredStep.TheVariants.{Take}
use Rattle.crush_grammar.specs.declared.declaration.Declaration.{Declaration}
use Rattle.crush_grammar.specs.declared.declaration.Declaration.TheVariants.{Bucket, Rule}

-- the words are the front of a text: with some words after them they are a text
abbrev pub IsFront : List Word → Type 0
IsFront ws = (more : List Word) × (ds : List Declaration) × Declares (ws ++ more) ds

-- the words are a whole text
abbrev pub IsWhole : List Word → Type 0
IsWhole ws = (ds : List Declaration) × Declares ws ds

-- the word at place i is the first with which the words are no front of a text
abbrev pub LeavesAt : List Word → ℕ → Type 0
LeavesAt ws i = (i < length ws) × IsFront (take i ws) × ¬ (IsFront (take (suc i) ws))

-- ---- what is wrong with a word after a front

abbrev pub is : List ℕ → Word → Bool
is text w = bytes_eq w.text text

-- a word of names' bytes, or a brace; any other word is a byte that no text may have
abbrev pub is_token : Word → Bool
is_token w = is_some (name_of w.text) || is (codes "{") w || is (codes "}") w

-- a word with this text, of a text that doesn't ask for straw2; no line of a word decides whether
-- words are a text
abbrev pub word : List ℕ → Word
word text = record { line = 0; text = text; straw2 = false }

-- straw or straw2 as the algorithm of a bucket: with list and a brace after it, the front is a text
-- that ends with a bucket without items, so that list is the algorithm there. In a text that asks
-- for straw2 that word is of the grammar there, so that straw alone is wrong
abbrev pub IsStraw : List Word → Word → Type 0
IsStraw front w =
    ((is (codes "straw") w || is (codes "straw2") w) ≡ true)
    × ((ds : List Declaration) × (b : DeclaredBucket)
    × Declares (front ++ word (codes "list") ∷ word (codes "}") ∷ []) (ds ++ Bucket b ∷ []) × (b.items ≡ []))

-- class after a take step: with a brace after it, the front is a text that ends with a rule whose
-- last step is that take
abbrev pub IsClassOfTake : List Word → Word → Type 0
IsClassOfTake front w =
    (is (codes "class") w ≡ true)
    × ((ds : List Declaration) × (r : DeclaredRule) × (before : List DeclaredStep) × (name : List ℕ)
    × Declares (front ++ word (codes "}") ∷ []) (ds ++ Rule r ∷ []) × (r.steps ≡ before ++ Take name ∷ []))

-- choose_args where a declaration may begin
abbrev pub IsChooseArgs : List Word → Word → Type 0
IsChooseArgs front w = (is (codes "choose_args") w ≡ true) × IsWhole front

-- 0.5 in 16.16 fixed point
abbrev pub one_half : Weight
one_half = record { 0 = 32768 }

-- a name or a brace as the weight of an item: with 0.5 and a brace after it, the front is a text
-- that ends with a bucket whose last item has the weight 0.5, so that 0.5 is the weight there
abbrev pub IsNoWeight : List Word → Word → Type 0
IsNoWeight front w =
    (is_token w ≡ true)
    × ((ds : List Declaration) × (b : DeclaredBucket) × (before : List DeclaredItem) × (item : DeclaredItem)
    × Declares (front ++ word (codes "0.5") ∷ word (codes "}") ∷ []) (ds ++ Bucket b ∷ [])
    × (b.items ≡ before ++ item ∷ []) × (item.weight ≡ Some one_half))

-- the code of a word that leaves the grammar after a front
abbrev pub HasCode : List Word → Word → TextCode → Type 0
HasCode front w X2 = IsStraw front w
HasCode front w X3 = IsClassOfTake front w
HasCode front w X4 = IsChooseArgs front w
HasCode front w X6 = IsNoWeight front w
HasCode front w X1 = ¬ (IsStraw front w) × ¬ (IsClassOfTake front w) × ¬ (IsChooseArgs front w) × ¬ (IsNoWeight front w)
HasCode front w other = ⊥

-- ---- what is declared before a fault

-- the words begin one declaration: with some words after them they are a text that declares it
-- alone
abbrev pub BeginsOne : List Word → Type 0
BeginsOne ys = (more : List Word) × (d : Declaration) × Declares (ys ++ more) (d ∷ [])

-- what a front declares: all, if it is whole; else all declarations before the one that it breaks
-- off. So a word that does not continue a device that is whole belongs to the next declaration.
abbrev pub FrontDeclares : List Word → List Declaration → Type 0
FrontDeclares front ds = Declares front ds ⊎ (¬ (IsWhole front) × ((xs : List Word) × (ys : List Word) × (front ≡ xs ++ ys) × Declares xs ds × BeginsOne ys))

-- ---- faults of the form

-- the line of the last word, or `line` where there is no word
abbrev pub last_line : ℕ → List Word → ℕ
last_line line [] = line
last_line line (w ∷ ws) = last_line w.line ws

-- a word leaves the grammar, and before it this is declared
abbrev pub LeavesWith : List Word → List Declaration → TextFault → Type 0
LeavesWith ws ds f =
    (i : ℕ) × LeavesAt ws i × IsSomeAnd (slice_get ws i) (λ w. (f.line ≡ w.line) × HasCode (take i ws) w f.code) × FrontDeclares (take i ws) ds

-- the words are a front, and end before they are whole
abbrev pub EndsEarly : List Word → List Declaration → TextFault → Type 0
EndsEarly ws ds f = IsFront ws × ¬ (IsWhole ws) × (f ≡ record { line = last_line 1 ws; code = X1 }) × FrontDeclares ws ds

-- what is declared before the fault of the form, and that fault
abbrev pub Breaks : List Word → List Declaration → TextFault → Type 0
Breaks ws ds f = LeavesWith ws ds f ⊎ EndsEarly ws ds f
