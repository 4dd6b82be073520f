-- What is written as records is read as those records.
use Rattle.std.proofs.Common.{◌≡◌, ◌∷◌, [], ℕ, List, None, map, refl, sym}
use Rattle.csv.specs.Machine.{next_record}
use Rattle.csv.specs.Reading.{Reached, default_config, records}
use Rattle.csv.specs.Writing.{read_back}
use Rattle.csv.specs.declared.parser.State.TheVariants as st
use Rattle.csv.proofs.RoundTrip.{read-write}
use Rattle.crush_report.specs.Csv.{records_text}
use Rattle.crush_report.proofs.Reached.{reached_all}

rows_are_reached : {X : Type 0} (fields : X → List (List ℕ)) → ((x : X) → read_back (fields x) ≡ fields x) → (rows : List X)
    → Reached default_config st.StartRecord (records_text (map fields rows)) (map fields rows) st.StartRecord []
unfolding Reached
rows_are_reached fields same [] = (refl, refl)
rows_are_reached fields same (x ∷ rows) =
    let rest = records_text (map fields rows) in
    ((read_back (fields x), st.StartRecord, rest), read-write (fields x) rest, sym (same x), rows_are_reached fields same rows)

nothing_more : next_record default_config st.StartRecord [] [] [] ≡ None
unfolding next_record
nothing_more = refl

-- a head and rows, none of which is without fields
pub table_is_read : {X : Type 0} (head : List (List ℕ)) (fields : X → List (List ℕ)) → read_back head ≡ head → ((x : X) → read_back (fields x) ≡ fields x) → (rows : List X)
    → records default_config (records_text (head ∷ map fields rows)) ≡ head ∷ map fields rows
unfolding Reached
table_is_read head fields own same rows =
    let rest = records_text (map fields rows) in
    reached_all (head ∷ map fields rows) (records_text (head ∷ map fields rows))
    (st.StartRecord, [], ((read_back head, st.StartRecord, rest), read-write head rest, sym own, rows_are_reached fields same rows), nothing_more)
