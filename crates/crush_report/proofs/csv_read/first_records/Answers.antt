use Rattle.std.proofs.Common.{◌+◌, Bor, List, ℕ, ◌≤◌, ◌∙◌, ◌∷◌, [], sym, refl, arith, inl, inr, map, Some, length}
use Rattle.std.proofs.lemmas.List.{length-append, length-map, map-append}
use Rattle.csv.specs.Reading.{Reached, default_config, strip_bom}
use Rattle.csv.specs.Records.{fields_of}
use Rattle.csv.specs.declared.parser.State.TheVariants as st
use Rattle.csv.proofs.ReadFacts.{rows-end, rows-more}
use Rattle.crush_report.proofs.Reached.{all_are_first, reached_are_first, stops_if_flexible}
use Rattle.crush_report.proofs.csv_read.first_records.Goals as goal
use Rattle.crush_report.proofs.csv_read.first_records.Goals.{in-None, in-Some+then-len}
use Rattle.crush_pool.specs.declared.limits.TheConstants.{CHANGE_LIMIT}

pub loop-next-init : goal.loop-next-init
unfolding Reached
loop-next-init c =
    let fr = c.from_reader-reader.ensures in
    let h = c.has_headers.ensures in
    let f = c.flexible.ensures in
    let start = c.into_iter-next-iterator.ensures.into_iter_gives ∙ refl in
    let rdr = c.into_byte_records-next-items.ensures.rdr in
    let left = c.into_byte_records-next-items.ensures.left in
    rw (start, rdr, c.new-found.ensures.items) (
      rw (f, h) at fr.trim ∙ c.new.ensures.trim,
      inr (inr (rw (f, h) at fr.has_headers, fr.headers)),
      left,
      rw (f, h) at fr.config ∙ c.new.ensures.config,
      omega arith,
      rw f at fr.flexible,
      strip_bom c.args.text.now,
      fr.source,
      (sym fr.state, refl),
    )

pub loop-next-preserved : goal.loop-next-preserved
loop-next-preserved c =
    let inv = c.loop-next.invariant in
    let steps = c.next.ensures.steps inv.2 inv.0 in
    let s = rw (c.in-Some.is, c.in-Ok.is) at (steps.0 inv.1) in
    let flexible = rw (c.in-Some.is, c.in-Ok.is) at steps.3 ∙ inv.5 in
    let items = c.in_ok-push-in-Ok.ensures.items in
    let few : length c.push.new.self.items ≤ CHANGE_LIMIT + 2 = rw (items, length-append c.loop-next.found.items (c.in-Ok.row ∷ [])) (omega (arith, inv.4, c.len.ensures, c.if-len.false)) in
    let m = rows-more (λ (s : Bor (List ℕ)). Some s.now) c.loop-next.next-iterator.rdr c.next.new.self.rdr (fields_of c.in-Ok.row) default_config st.StartRecord (strip_bom c.args.text.now) inv.6 (map fields_of c.loop-next.found.items) inv.3 inv.7 inv.8 s.0 in
    (s.0.3 ∙ inv.0, inl s.1, s.2, s.0.2 ∙ inv.3, few, flexible, m.0, m.1, rw (items, map-append fields_of c.loop-next.found.items (c.in-Ok.row ∷ [])) m.2)

pub allocation_error-requires : goal.allocation_error-requires
allocation_error-requires c =
    let inv = c.loop-next.invariant in
    let steps = c.next.ensures.steps inv.2 inv.0 in
    stops_if_flexible (λ (s : Bor (List ℕ)). Some s.now) c.loop-next.next-iterator.rdr c.next.new.self.rdr _ inv.5 (rw (c.in-Some.is, c.in-Err.is) at (steps.0 inv.1))

pub returns : goal.returns
returns c =
    let inv = c.loop-next.invariant in
    let count = length-map c.loop-next.found.items fields_of in
    elim c.match-next.branch [
      | in-None w ↦
          let s = rw w.in-None.is at ((c.next.ensures.steps inv.2 inv.0).0 inv.1) in
          let last = rows-end (λ (s : Bor (List ℕ)). Some s.now) c.loop-next.next-iterator.rdr c.next.new.self.rdr [] default_config inv.6 inv.3 inv.7 s in
          all_are_first (CHANGE_LIMIT + 2) (map fields_of c.loop-next.found.items) (strip_bom c.args.text.now) (rw count inv.4) (c.loop-next.next-iterator.rdr.state, inv.6, inv.8, last)
      | in-Some+then-len w ↦
          reached_are_first (CHANGE_LIMIT + 2) (map fields_of c.loop-next.found.items) c.loop-next.next-iterator.rdr.state (strip_bom c.args.text.now) inv.6 (omega (arith, count, w.len.ensures, w.if-len.true)) inv.8
    ]
