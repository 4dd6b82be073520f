-- The orders of a tenant's rows are transitive.
use Rattle.std.specs.Ordering.{ordering_then}
use Rattle.std.proofs.Common.{◌≡◌, Ordering, Less, Equal, Greater, refl, sym, ap, ◌∙◌}
use Rattle.std.proofs.lemmas.Cmp.{alike_right}
use Rattle.sqlite_value.specs.Order.{Row, column, value_cmp}
use Rattle.sqlite_value.proofs.OrderLemmas.{value_cmp_total}
use Rattle.table_schema.specs.Found.{IsBelow, Precedes}

pub below_then : (a b c : Row) → IsBelow a b → IsBelow b c → IsBelow a c
below_then a b c = value_cmp_total.trans _ _ _

pub precedes_then : (a b c : Row) → Precedes a b → Precedes b c → Precedes a c
precedes_then a b c p q = go (value_cmp (column a 0) (column b 0)) (value_cmp (column b 0) (column c 0)) refl refl p q
  where
    go : (o r : Ordering) → value_cmp (column a 0) (column b 0) ≡ o → value_cmp (column b 0) (column c 0) ≡ r
        → ordering_then o (value_cmp (column a 1) (column b 1)) ≡ Less → ordering_then r (value_cmp (column b 1) (column c 1)) ≡ Less → Precedes a c
    go Less Less e f p q = ap (λ o. ordering_then o (value_cmp (column a 1) (column c 1))) (value_cmp_total.trans _ _ _ e f)
    go Less Equal e f p q = ap (λ o. ordering_then o (value_cmp (column a 1) (column c 1))) (sym (alike_right value_cmp_total (column b 0) (column c 0) (column a 0) f) ∙ e)
    go Less Greater e f p q = absurd cc
    go Equal r e f p q = rw (value_cmp_total.congr (column a 0) (column b 0) (column c 0) e, f) (second_of r p q)
      where
        second_of : (r : Ordering) → value_cmp (column a 1) (column b 1) ≡ Less → ordering_then r (value_cmp (column b 1) (column c 1)) ≡ Less → ordering_then r (value_cmp (column a 1) (column c 1)) ≡ Less
        second_of Less p q = refl
        second_of Equal p q = value_cmp_total.trans _ _ _ p q
        second_of Greater p q = absurd cc
    go Greater r e f p q = absurd cc
