-- A connection goes on, message by message.
use Rattle.std.proofs.Common.{◌≡◌, ℕ, ◌-◌, ◌==◌, ◌||◌, ◌⊎◌, inl, inr, Bool, true, false, List, [], ◌∷◌, ◌++◌, length, take, drop, Option, Some, None, IfSome, refl, ap, sym, ◌∙◌, arith, append_assoc, subst, length-append, length-take, ◌≤◌, ◌<◌}
use Rattle.std.proofs.lemmas.Bool.Decides.{nat_tests}
use Rattle.std.proofs.lemmas.List.{append-nil, map-append}
use Rattle.std.specs.Io.KnownBytes.{Appends, Consumes, IsAtEnd}
use Rattle.tenant_core.specs.tenant_messages.specs.declared.call.Call.{Call}
use Rattle.tenant_core.specs.tenant_messages.specs.declared.reply.Reply.{Reply}
use Rattle.tenant_service.specs.Input.{OfInput}
use Rattle.tenant_service.specs.Writing.{AppendsPart, AppendsUpTo}
use Rattle.tenant_service.proofs.Written.{appends_none}
use Rattle.crush_http.specs.Head.{HeadAt}
use Rattle.crush_http.specs.Headers.{bytes}
use Rattle.crush_http.specs.Messages.{Message, MessageAt, message_of, calls_of, Stop, input_ended, refused, last_served, read_failed, write_failed, HasMessages, GoesOn, IsHalf, IsRejected}
use Rattle.crush_http.specs.Serving.{due, EndsAs, Writes, LeavesUnread, ServesInput}
use Rattle.crush_http.specs.Wire.{output, reply_wire, rejection_wire}
use Rattle.crush_http.specs.declared.connection.ConnectionEnd.{ConnectionEnd}
use Rattle.crush_http.specs.declared.connection.ConnectionEnd.TheVariants.{WriteFault}
use Rattle.crush_http.specs.declared.limits.TheConstants.{MESSAGE_LIMIT}
use Rattle.crush_http.specs.declared.rejection.Rejection.{Rejection}
use Rattle.crush_http.specs.declared.request.MessagePlaces.{MessagePlaces}
use Rattle.crush_http.specs.Private.Reading.{ReadsOn, IsMessageOf, used, call_in}
use Rattle.crush_http.specs.Private.Served.{ServesOne, ServesAtMostOne, EndsOn, EndsHeld, EndsCut}
use Rattle.crush_http.proofs.Finding.{MessageAt-append, rejected-append}
use Rattle.crush_http.proofs.Holding.{up_to_on, part_on, up_to_written, part_written}
use Rattle.crush_http.proofs.Streams.{consumes_none, consumes_both}

-- ---- lists of messages, one after the other

calls_of-append : (ms ns : List Message) → calls_of (ms ++ ns) ≡ calls_of ms ++ calls_of ns
calls_of-append ms ns = map-append (λ (m : Message). m.call) ms ns

output-append : (ms ns : List Message) (rs qs : List Reply) → length rs ≡ length ms → output (ms ++ ns) (rs ++ qs) ≡ output ms rs ++ output ns qs
output-append [] ns [] qs h = refl
output-append [] ns (r ∷ rs) qs h = absurd (omega arith)
output-append (m ∷ ms) ns [] qs h = absurd (omega arith)
output-append (m ∷ ms) ns (r ∷ rs) qs h =
    ap (λ ys. reply_wire m.last r ++ ys) (output-append ms ns rs qs (omega arith)) ∙ sym (append_assoc (reply_wire m.last r) (output ms rs) (output ns qs))

-- ---- the unread bytes of a reader

known_left : (a : Option (List ℕ)) → (unread : List ℕ) × IfSome a (λ known. known ≡ unread)
known_left None = ([], tt)
known_left (Some xs) = (xs, refl)

at_end : (a : Option (List ℕ)) → IsAtEnd a → IfSome a (λ known. known ≡ [])
at_end None end = tt
at_end (Some xs) end = end

known_input : (a b : Option (List ℕ)) (read unread : List ℕ) → Consumes a b read → IfSome b (λ known. known ≡ unread) → IfSome a (λ known. read ++ unread ≡ known)
known_input None b read unread taken left = tt
known_input (Some xs) None read unread taken left = absurd taken
known_input (Some xs) (Some ys) read unread taken left = ap (λ zs. read ++ zs) (sym left) ∙ sym taken

-- ---- what is due goes on

due-append : (stop : Stop) (ms ns : List Message) (rs qs : List Reply) → length rs ≡ length ms → due stop (ms ++ ns) (rs ++ qs) ≡ output ms rs ++ due stop ns qs
due-append input_ended ms ns rs qs count = output-append ms ns rs qs count
due-append (refused reason) ms ns rs qs count = ap (λ l. l ++ rejection_wire reason) (output-append ms ns rs qs count) ∙ append_assoc (output ms rs) (output ns qs) (rejection_wire reason)
due-append last_served ms ns rs qs count = output-append ms ns rs qs count
due-append (read_failed unread) ms ns rs qs count = output-append ms ns rs qs count
due-append write_failed ms ns rs qs count = output-append ms ns rs qs count

-- what was held is written at the end, or a part of it
pub finished : (e end : ConnectionEnd) (stop : Stop) (a b c d : Option (List ℕ)) (held now xs more : List ℕ) → AppendsUpTo held a b xs → EndsHeld e held now b c stop more
    → ((end ≡ e) × Appends c d now) ⊎ ((end ≡ WriteFault) × AppendsPart c d now) → Writes end stop (xs ++ more) a d
finished e end stop a b c d held now xs more first ends (inl whole) =
    inl (subst (EndsAs stop) (sym whole.0) ends.0, up_to_written a c d now (xs ++ more) (up_to_on a b c held now xs more first ends.1) whole.1)
finished e end stop a b c d held now xs more first ends (inr part) =
    inr (part.0, part_written a c d now (xs ++ more) (up_to_on a b c held now xs more first ends.1) part.1)

-- a write failed before
pub cut : (end : ConnectionEnd) (stop : Stop) (a b c : Option (List ℕ)) (held xs more : List ℕ) → AppendsUpTo held a b xs → EndsCut held b c stop more → end ≡ WriteFault → Writes end stop (xs ++ more) a c
cut end stop a b c held xs more first ends e = inr (e, part_on a b c held xs more first ends)

-- ---- the messages so far

-- so far the messages were served so that their calls and the replies meet `Meets`; the replies
-- were written but for those that are held; whatever messages the rest has follow
pub record Reached (Meets : List Call → List Reply → Type 0) (most : ℕ) (buffer held : List ℕ) (old new from to : Option (List ℕ)) : Type 0 where
  pub read : List ℕ
  pub taken : Consumes old new read
  pub messages : List Message
  pub goes_on : (after : List ℕ) (ns : List Message) (stop : Stop) → HasMessages most (buffer ++ after) ns stop → HasMessages MESSAGE_LIMIT (read ++ after) (messages ++ ns) stop
  pub replies : List Reply
  pub count : length replies ≡ length messages
  pub meets : Meets (calls_of messages) replies
  pub written : AppendsUpTo held from to (output messages replies)

pub reached_none : (Meets : List Call → List Reply → Type 0) (buffer held : List ℕ) (a from : Option (List ℕ)) → buffer ≡ [] → held ≡ [] → Meets [] [] → Reached Meets MESSAGE_LIMIT buffer held a a from from
reached_none Meets buffer held a from empty silent meets = record {
  read = [];
  taken = consumes_none a;
  messages = [];
  goes_on = λ after ns stop h. subst (λ l. HasMessages MESSAGE_LIMIT (l ++ after) ns stop) empty h;
  replies = [];
  count = refl;
  meets = meets;
  written = record { front = []; all = silent; written = appends_none from };
}

-- one message more
pub reached_one : (Meets Then : List Call → List Reply → Type 0) (One : Call → Reply → Type 0) (most : ℕ) (buffer rest held now : List ℕ) (a b c from mid to : Option (List ℕ))
    → Reached Meets most buffer held a b from mid → ReadsOn buffer b c (ServesOne One most rest held now mid to) → ((cs : List Call) (rs : List Reply) (call : Call) (reply : Reply) → Meets cs rs → One call reply → Then (cs ++ call ∷ []) (rs ++ reply ∷ []))
    → Reached Then (most - 1) rest now a c from to
reached_one Meets Then One most buffer rest held now a b c from mid to first read join =
    let one = read.holds in
    let m = one.message in record {
      read = first.read ++ read.more;
      taken = consumes_both a b c first.read read.more first.taken read.taken;
      messages = first.messages ++ m ∷ [];
      goes_on = λ after ns stop h.
          let at : MessageAt most (buffer ++ (read.more ++ after)) m (rest ++ after) =
          subst (λ xs. MessageAt most xs m (rest ++ after)) (append_assoc buffer read.more after) (MessageAt-append most (buffer ++ read.more) after m rest one.at) in
          let has : HasMessages most (buffer ++ (read.more ++ after)) (m ∷ ns) stop =
          (rest ++ after, at, subst (λ l. GoesOn l ns stop (HasMessages (most - 1) (rest ++ after) ns stop)) (sym one.goes_on) h) in
          subst (λ xs. HasMessages MESSAGE_LIMIT xs ((first.messages ++ m ∷ []) ++ ns) stop) (sym (append_assoc first.read read.more after))
          (subst (λ ms. HasMessages MESSAGE_LIMIT (first.read ++ (read.more ++ after)) ms stop) (sym (append_assoc first.messages (m ∷ []) ns))
          (first.goes_on (read.more ++ after) (m ∷ ns) stop has));
      replies = first.replies ++ one.reply ∷ [];
      count = omega (arith, length-append first.replies (one.reply ∷ []), length-append first.messages (m ∷ []), first.count);
      meets = subst (λ cs. Then cs (first.replies ++ one.reply ∷ [])) (sym (calls_of-append first.messages (m ∷ []))) (join (calls_of first.messages) first.replies m.call one.reply first.meets one.replied);
      written =
          subst (AppendsUpTo now from to)
          (ap (λ l. output first.messages first.replies ++ l) (sym (append-nil (reply_wire false one.reply)) ∙ ap (λ l. reply_wire l one.reply ++ []) (sym one.goes_on))
          ∙ sym (output-append first.messages (m ∷ []) first.replies (one.reply ∷ []) first.count))
          (up_to_on from mid to held now (output first.messages first.replies) (reply_wire false one.reply) first.written one.put);
    }

-- the end
pub reached_end : (Meets Then Last : List Call → List Reply → Type 0) (most : ℕ) (buffer held : List ℕ) (a b c from mid to : Option (List ℕ)) (e : ConnectionEnd) (Holds : Stop → List ℕ → Type 0)
    → Reached Meets most buffer held a b from mid → EndsOn Last most buffer b c Holds → ((cs ds : List Call) (rs qs : List Reply) → Meets cs rs → Last ds qs → Then (cs ++ ds) (rs ++ qs))
    → ((stop : Stop) (xs more : List ℕ) → AppendsUpTo held from mid xs → Holds stop more → Writes e stop (xs ++ more) from to) → OfInput a (λ input. ServesInput Then input c from to e)
reached_end Meets Then Last most buffer held a b c from mid to e Holds first end join writes = record {
  input = (first.read ++ end.read) ++ end.unread;
  same = known_input a c (first.read ++ end.read) end.unread (consumes_both a b c first.read end.read first.taken end.taken) end.left;
  holds = record {
    messages = first.messages ++ end.messages;
    stop = end.stop;
    has =
        subst (λ xs. HasMessages MESSAGE_LIMIT xs (first.messages ++ end.messages) end.stop) (sym (append_assoc first.read end.read end.unread))
        (first.goes_on (end.read ++ end.unread) end.messages end.stop end.has);
    replies = first.replies ++ end.replies;
    count = omega (arith, length-append first.replies end.replies, length-append first.messages end.messages, first.count, end.count);
    meets =
        subst (λ cs. Then cs (first.replies ++ end.replies)) (sym (calls_of-append first.messages end.messages))
        (join (calls_of first.messages) (calls_of end.messages) first.replies end.replies first.meets end.meets);
    written =
        subst (λ all. Writes e end.stop all from to) (sym (due-append end.stop first.messages end.messages first.replies end.replies first.count))
        (writes end.stop (output first.messages first.replies) (due end.stop end.messages end.replies) first.written end.holds);
    unread = end.leaves;
  };
}

-- ---- stops before another message

module _ (Same : Type 0) (One : Call → Reply → Type 0) (same : Same) (most : ℕ) (there : List ℕ) (a b : Option (List ℕ)) (Holds : Stop → List ℕ → Type 0) where
  pub ended_before : ReadsOn there a b IsHalf → IsAtEnd b → Holds input_ended [] → EndsOn (ServesAtMostOne Same One) most there a b Holds
  ended_before read end holds = record {
    read = read.more;
    taken = read.taken;
    unread = [];
    left = at_end b end;
    messages = [];
    stop = input_ended;
    has = subst (λ l. IsHalf (there ++ l)) (sym (append-nil read.more)) read.holds;
    replies = [];
    count = refl;
    meets = same;
    holds = holds;
    leaves = tt;
  }

  pub failed_before : ReadsOn there a b IsHalf → ((unread : List ℕ) → Holds (read_failed unread) []) → EndsOn (ServesAtMostOne Same One) most there a b Holds
  failed_before read holds =
      let left = known_left b in record {
        read = read.more;
        taken = read.taken;
        unread = left.0;
        left = left.1;
        messages = [];
        stop = read_failed left.0;
        has = (there ++ read.more, sym (append_assoc there read.more left.0), read.holds);
        replies = [];
        count = refl;
        meets = same;
        holds = holds left.0;
        leaves = left.1;
      }

  pub rejected_before : (reason : Rejection) → ReadsOn there a b (λ all. IsRejected all reason) → Holds (refused reason) (rejection_wire reason) → EndsOn (ServesAtMostOne Same One) most there a b Holds
  rejected_before reason read holds =
      let left = known_left b in record {
        read = read.more;
        taken = read.taken;
        unread = left.0;
        left = left.1;
        messages = [];
        stop = refused reason;
        has = subst (λ l. IsRejected l reason) (append_assoc there read.more left.0) (rejected-append (there ++ read.more) left.0 reason read.holds);
        replies = [];
        count = refl;
        meets = same;
        holds = holds;
        leaves = tt;
      }

  -- a write failed, and nothing was read
  pub cut_before : Consumes a b [] → Holds write_failed [] → EndsOn (ServesAtMostOne Same One) most there a b Holds
  cut_before taken holds =
      let left = known_left b in record {
        read = [];
        taken = taken;
        unread = left.0;
        left = left.1;
        messages = [];
        stop = write_failed;
        has = tt;
        replies = [];
        count = refl;
        meets = same;
        holds = holds;
        leaves = tt;
      }

-- ---- a message

-- a message with the call, the last or not, and the rest that follows it
pub record Finds (most : ℕ) (asked : Call) (ends : Bool) (rest input : List ℕ) : Type 0 where
  pub message : Message
  pub at : MessageAt most input message rest
  pub call : message.call ≡ asked
  pub last : message.last ≡ ends

taken_size : (n : ℕ) (body : List ℕ) → n ≤ length body → length (take n body) ≡ n
taken_size n body h = omega (arith, length-take n body)

finds : (most : ℕ) (there buffer : List ℕ) (r : MessagePlaces) (body rest : List ℕ) (last : Bool) (a b : Option (List ℕ)) → ReadsOn there a b (IsMessageOf buffer r body) → rest ≡ drop (used r (length buffer)) buffer
    → last ≡ (r.closes || most == 1) → ReadsOn there a b (Finds most (call_in buffer r (take r.size body)) last rest)
finds most there buffer r body rest last a b read e f =
    let h = read.holds in record {
      more = read.more;
      taken = read.taken;
      holds = record {
        message = message_of most h.head (take r.size body);
        at = record {
          head = h.head;
          body = take r.size body;
          begins = subst (λ l. HeadAt (there ++ read.more) h.head (take r.size body ++ l)) (sym e) h.begins;
          size = h.is.size ∙ ap (λ n. bytes n) (sym (taken_size r.size body h.long));
          is = refl;
        };
        call = λ i. record { method = sym h.is.method i; path = sym h.is.path i; body = take r.size body };
        last = ap (λ c. c || most == 1) (sym h.is.closes) ∙ sym f;
      };
    }

-- the same in the words of the code
pub finds_call : (most : ℕ) (there front buffer : List ℕ) (r : MessagePlaces) (body rest : List ℕ) (last : Bool) (count : ℕ) (asked : Call) (a b : Option (List ℕ)) → ReadsOn there a b (IsMessageOf buffer r body)
    → front ≡ buffer → count ≡ used r (length front) → rest ≡ drop count buffer → last ≡ (r.closes || most == 1) → asked ≡ call_in front r (take r.size body) → ReadsOn there a b (Finds most asked last rest)
finds_call most there front buffer r body rest last count asked a b read same counted dropped is_last is_call =
    subst (λ k. ReadsOn there a b (Finds most k last rest)) (sym (is_call ∙ ap (λ f. call_in f r (take r.size body)) same))
    (finds most there buffer r body rest last a b read (dropped ∙ ap (λ n. drop n buffer) (counted ∙ ap (λ f. used r (length f)) same)) is_last)

pub more_to_come : (closes last : Bool) (most : ℕ) → 0 < most → last ≡ (closes || most == 1) → last ≡ false → 1 < most
more_to_come true last most some e f = let both : true ≡ false = sym e ∙ f in cc
more_to_come false last most some e f = let no : (most == 1) ≡ false = sym e ∙ f in grind (arith, nat_tests, no)

module _ (Same : Type 0) (One : Call → Reply → Type 0) (most : ℕ) (there rest : List ℕ) (call : Call) (reply : Reply) (a b : Option (List ℕ)) (one : One call reply) where
  replied : (m : Message) → m.call ≡ call → One m.call reply
  replied m e = subst (λ c. One c reply) (sym e) one

  pub next_after : (held now : List ℕ) (from to : Option (List ℕ)) → ReadsOn there a b (Finds most call false rest) → AppendsUpTo now from to (held ++ reply_wire false reply)
      → ReadsOn there a b (ServesOne One most rest held now from to)
  next_after held now from to read put = record {
    more = read.more;
    taken = read.taken;
    holds = record {
      message = read.holds.message;
      at = read.holds.at;
      goes_on = read.holds.last;
      reply = reply;
      replied = replied read.holds.message read.holds.call;
      put = put;
    };
  }

  -- the message was served, and the connection then stops so
  stops_after : (last : Bool) (stop : Stop) (Holds : Stop → List ℕ → Type 0) → ReadsOn there a b (Finds most call last rest) → ((input : List ℕ) → GoesOn last [] stop (HasMessages (most - 1) input [] stop))
      → ((m : Message) → due stop (m ∷ []) (reply ∷ []) ≡ reply_wire m.last reply ++ []) → LeavesUnread stop b → Holds stop (reply_wire last reply) → EndsOn (ServesAtMostOne Same One) most there a b Holds
  stops_after last stop Holds read goes_on owed leaves holds =
      let left = known_left b in
      let m = read.holds.message in record {
        read = read.more;
        taken = read.taken;
        unread = left.0;
        left = left.1;
        messages = m ∷ [];
        stop = stop;
        has = (
          rest ++ left.0,
          subst (λ xs. MessageAt most xs m (rest ++ left.0)) (append_assoc there read.more left.0) (MessageAt-append most (there ++ read.more) left.0 m rest read.holds.at),
          subst (λ l. GoesOn l [] stop (HasMessages (most - 1) (rest ++ left.0) [] stop)) (sym read.holds.last) (goes_on (rest ++ left.0)),
        );
        replies = reply ∷ [];
        count = refl;
        meets = replied m read.holds.call;
        holds = subst (Holds stop) (sym (owed m ∙ append-nil (reply_wire m.last reply) ∙ ap (λ l. reply_wire l reply) read.holds.last)) holds;
        leaves = leaves;
      }

  pub last_after : (Holds : Stop → List ℕ → Type 0) → ReadsOn there a b (Finds most call true rest) → Holds last_served (reply_wire true reply) → EndsOn (ServesAtMostOne Same One) most there a b Holds
  last_after Holds read holds = stops_after true last_served Holds read (λ input. tt) (λ m. refl) tt holds

  either_way : (last : Bool) (input : List ℕ) → GoesOn last [] write_failed (HasMessages (most - 1) input [] write_failed)
  either_way true input = tt
  either_way false input = tt

  pub cut_after : (last : Bool) (Holds : Stop → List ℕ → Type 0) → ReadsOn there a b (Finds most call last rest) → Holds write_failed (reply_wire last reply) → EndsOn (ServesAtMostOne Same One) most there a b Holds
  cut_after last Holds read holds = stops_after last write_failed Holds read (either_way last) (λ m. refl) tt holds
