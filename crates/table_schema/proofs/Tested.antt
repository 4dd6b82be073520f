-- The one test in the schema, by its nodes.
use Rattle.std.proofs.Common.{◌≡◌, ℕ, zero, suc, pos, List, [], ◌∷◌, length, slice_index_or, slice_get, unwrap_or, None, sym, ap, ◌∙◌}
use Rattle.std.proofs.lemmas.Option.{unwrap_or-slice_get}
use Rattle.sqlite_value.specs.declared.value.Value.TheVariants.{Null, Int}
use Rattle.sqlite_value.specs.declared.keys.Collation.TheVariants.{Binary as ByBytes}
use Rattle.sqlite_sql.specs.Term.{Term, lit, col, op2}
use Rattle.sqlite_sql.specs.declared.ops.BinaryOp.{BinaryOp}
use Rattle.sqlite_sql.specs.declared.ops.BinaryOp.TheVariants.{Compare}
use Rattle.sqlite_sql.specs.declared.ops.CompareOp.TheVariants.{Eq}
use Rattle.sqlite_schema.specs.declared.code.Op.{Op}
use Rattle.sqlite_schema.specs.declared.code.Op.TheVariants.{Literal, Column, Unary, Binary, Case}
use Rattle.sqlite_schema.specs.Code.{op_term, term_to, term_in}

abbrev pub equality : BinaryOp
equality = Compare Eq ByBytes

abbrev pub node : List Op → ℕ → Op
node ops at = slice_index_or ops at (Literal Null)

-- the nodes of the test
pub record IsTest (ops : List Op) (root : ℕ) : Type 0 where
  pub first : ℕ
  pub second : ℕ
  pub equal : node ops root ≡ Binary equality first second
  pub column : node ops first ≡ Column 1 0
  pub one : node ops second ≡ Literal (Int (pos 1))

reads_column : (below : ℕ → Term) (o : Op) → op_term below o ≡ col 1 0 → o ≡ Column 1 0
reads_column below (Literal v) h = absurd cc
reads_column below (Column slot at) h = cc
reads_column below (Unary op a) h = absurd cc
reads_column below (Binary op a b) h = absurd cc
reads_column below (Case t a b) h = absurd cc

reads_one : (below : ℕ → Term) (o : Op) → op_term below o ≡ lit (Int (pos 1)) → o ≡ Literal (Int (pos 1))
reads_one below (Literal v) h = cc
reads_one below (Column slot at) h = absurd cc
reads_one below (Unary op a) h = absurd cc
reads_one below (Binary op a b) h = absurd cc
reads_one below (Case t a b) h = absurd cc

reads_equality : (below : ℕ → Term) (o : Op) (x y : Term) → op_term below o ≡ op2 equality x y → (a : ℕ) × (b : ℕ) × (o ≡ Binary equality a b) × (below a ≡ x) × (below b ≡ y)
reads_equality below (Literal v) x y h = absurd cc
reads_equality below (Column slot at) x y h = absurd cc
reads_equality below (Unary op a) x y h = absurd cc
reads_equality below (Binary op a b) x y h = (a, b, cc, cc, cc)
reads_equality below (Case t a b) x y h = absurd cc

test_to : (ops : List Op) (depth root : ℕ) → term_to ops depth root ≡ op2 equality (col 1 0) (lit (Int (pos 1))) → IsTest ops root
test_to ops zero root h = absurd cc
test_to ops (suc zero) root h = let it = reads_equality (term_to ops zero) (node ops root) _ _ h in absurd (let none = it.3 in cc)
test_to ops (suc (suc depth)) root h =
    let it = reads_equality (term_to ops (suc depth)) (node ops root) _ _ h in
    record { first = it.0; second = it.1; equal = it.2; column = reads_column (term_to ops depth) (node ops it.0) it.3; one = reads_one (term_to ops depth) (node ops it.1) it.4 }

pub is_test : (ops : List Op) (root : ℕ) → term_in ops root ≡ op2 equality (col 1 0) (lit (Int (pos 1))) → IsTest ops root
is_test ops root = test_to ops (length ops) root

term_there : (ops : List Op) (depth root : ℕ) → IsTest ops root → term_to ops (suc (suc depth)) root ≡ op2 equality (col 1 0) (lit (Int (pos 1)))
term_there ops depth root it = rw (it.equal, it.column, it.one)

pub from_test : (ops : List Op) (root : ℕ) → IsTest ops root → term_in ops root ≡ op2 equality (col 1 0) (lit (Int (pos 1)))
from_test [] root it = absurd (let none = it.equal in cc)
from_test (o ∷ []) zero it = absurd (alone it.first it.equal it.column)
  where
    alone : (first : ℕ) → o ≡ Binary equality first it.second → node (o ∷ []) first ≡ Column 1 0 → ⊥
    alone zero p q = absurd (let e = sym p ∙ q in cc)
    alone (suc n) p q = absurd cc
from_test (o ∷ []) (suc root) it = absurd (let none = it.equal in cc)
from_test (o ∷ p ∷ ops) root it = term_there (o ∷ p ∷ ops) (length ops) root it

-- past the end there is NULL
pub past : (ops : List Op) (at : ℕ) → slice_get ops at ≡ None → node ops at ≡ Literal Null
past ops at none = sym (unwrap_or-slice_get ops at (Literal Null)) ∙ ap (λ o. unwrap_or o (Literal Null)) none
