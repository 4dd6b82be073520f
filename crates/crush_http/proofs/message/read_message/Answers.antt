use Rattle.std.proofs.Common.{ℕ, List, arith, subst, refl, length-append}
use Rattle.crush_http.specs.Messages.{IsHalf}
use Rattle.crush_http.specs.Private.Reading.{IsRequest}
use Rattle.crush_http.proofs.Streams.{reads_both, reads_nothing}
use Rattle.crush_http.proofs.Finding.{half_body, whole_body, behind, room_long, room_front}
use Rattle.crush_http.proofs.message.read_message.Goals as goal

pub returns-in-Whole-clause-found : goal.returns-in-Whole-clause-found
returns-in-Whole-clause-found g c =
    let head = c.in-Ok.ensures.ok.0 in
    let is : IsRequest c.read_head.new.buffer c.in-Ok.request head = subst (λ (b : List ℕ). IsRequest b c.in-Ok.request head) c.bytes-bytes.ensures.value c.in-Ok.ensures.ok.1 in
    let room = room_long c.in-Ok.request.size c.args.body.now (omega (arith, c.requires.room, is.small)) in
    reads_both c.args.buffer.now c.read_head.new.buffer (g.R.Read.remaining c.args.reader.now) (g.R.Read.remaining c.read_head.new.reader) (g.R.Read.remaining c.read_body.new.reader) _ c.read_head.ensures.read
    (whole_body c.read_head.new.buffer c.in-Ok.request head _ c.read_body.new.body _ (g.R.Read.remaining c.read_head.new.reader) (g.R.Read.remaining c.read_body.new.reader) is
    (behind c.in-Ok.request.len c.bytes-bytes.result.now c.read_head.new.buffer c.bytes-bytes.ensures.value)
    (omega (arith, c.read_body.auto.body, room))
    (room_front c.in-Ok.request.size c.read_body.new.body _ (omega (arith, c.read_body.auto.body, room)))
    (omega (arith, length-append {A = ℕ}, c.read_body.auto.body, room))
    (c.in-Whole.ensures.whole refl))

pub returns-in-Ended-read_body-clause-found : goal.returns-in-Ended-read_body-clause-found
returns-in-Ended-read_body-clause-found g c =
    let head = c.in-Ok.ensures.ok.0 in
    let is : IsRequest c.read_head.new.buffer c.in-Ok.request head = subst (λ (b : List ℕ). IsRequest b c.in-Ok.request head) c.bytes-bytes.ensures.value c.in-Ok.ensures.ok.1 in (
      reads_both c.args.buffer.now c.read_head.new.buffer (g.R.Read.remaining c.args.reader.now) (g.R.Read.remaining c.read_head.new.reader) (g.R.Read.remaining c.read_body.new.reader) IsHalf c.read_head.ensures.read
          (half_body c.read_head.new.buffer c.in-Ok.request head _ _ (g.R.Read.remaining c.read_head.new.reader) (g.R.Read.remaining c.read_body.new.reader) is
          (behind c.in-Ok.request.len c.bytes-bytes.result.now c.read_head.new.buffer c.bytes-bytes.ensures.value)
          (room_long c.in-Ok.request.size c.args.body.now (omega (arith, c.requires.room, is.small)))
          (c.in-Ended-read_body.ensures.few refl)),
      c.in-Ended-read_body.ensures.ended refl,
    )

pub returns-in-Fault-read_body-clause-found : goal.returns-in-Fault-read_body-clause-found
returns-in-Fault-read_body-clause-found g c =
    let head = c.in-Ok.ensures.ok.0 in
    let is : IsRequest c.read_head.new.buffer c.in-Ok.request head = subst (λ (b : List ℕ). IsRequest b c.in-Ok.request head) c.bytes-bytes.ensures.value c.in-Ok.ensures.ok.1 in
    reads_both c.args.buffer.now c.read_head.new.buffer (g.R.Read.remaining c.args.reader.now) (g.R.Read.remaining c.read_head.new.reader) (g.R.Read.remaining c.read_body.new.reader) IsHalf c.read_head.ensures.read
    (half_body c.read_head.new.buffer c.in-Ok.request head _ _ (g.R.Read.remaining c.read_head.new.reader) (g.R.Read.remaining c.read_body.new.reader) is
    (behind c.in-Ok.request.len c.bytes-bytes.result.now c.read_head.new.buffer c.bytes-bytes.ensures.value)
    (room_long c.in-Ok.request.size c.args.body.now (omega (arith, c.requires.room, is.small)))
    (c.in-Fault-read_body.ensures.fault refl))

pub returns-in-Never-clause-kept : goal.returns-in-Never-clause-kept
returns-in-Never-clause-kept g c = reads_nothing c.args.buffer.now c.read_head.new.buffer (g.R.Read.remaining c.args.reader.now) (g.R.Read.remaining c.read_head.new.reader) c.read_head.ensures.read

pub returns-in-Fault-clause-kept : goal.returns-in-Fault-clause-kept
returns-in-Fault-clause-kept g c = reads_nothing c.args.buffer.now c.read_head.new.buffer (g.R.Read.remaining c.args.reader.now) (g.R.Read.remaining c.read_head.new.reader) c.read_head.ensures.read

pub returns-in-Whole-clause-kept : goal.returns-in-Whole-clause-kept
returns-in-Whole-clause-kept g c = reads_nothing c.args.buffer.now c.read_head.new.buffer (g.R.Read.remaining c.args.reader.now) (g.R.Read.remaining c.read_head.new.reader) c.read_head.ensures.read

pub returns-in-Ended-read_body-clause-kept : goal.returns-in-Ended-read_body-clause-kept
returns-in-Ended-read_body-clause-kept g c = reads_nothing c.args.buffer.now c.read_head.new.buffer (g.R.Read.remaining c.args.reader.now) (g.R.Read.remaining c.read_head.new.reader) c.read_head.ensures.read

pub returns-in-Fault-read_body-clause-kept : goal.returns-in-Fault-read_body-clause-kept
returns-in-Fault-read_body-clause-kept g c = reads_nothing c.args.buffer.now c.read_head.new.buffer (g.R.Read.remaining c.args.reader.now) (g.R.Read.remaining c.read_head.new.reader) c.read_head.ensures.read
