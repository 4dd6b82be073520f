-- A script as a session: what was written, and what a stop leaves.
use Rattle.std.proofs.Common.{◌≡◌, ℕ, ◌≤◌, List, [], ◌∷◌, ◌++◌, length, Bool, true, false, Option, Some, None, refl, ap, sym, ◌∙◌, append_assoc}
use Rattle.std.specs.Io.KnownBytes.{Appends}
use Rattle.std.specs.Str.Lines.{lines}
use Rattle.tenant_core.specs.States.{Outcomes, States}
use Rattle.tenant_service.proofs.Served.{session_both, session_open}
use Rattle.tenant_service.specs.Served.{IsSession}
use Rattle.tenant_core.specs.tenant_messages.specs.declared.call.Call.{Call}
use Rattle.tenant_core.specs.tenant_messages.specs.declared.reply.Reply.{Reply}
use Rattle.tenant_service.proofs.OneSession.{Rests}
use Rattle.tenant_service.proofs.Written.{appends_both}
use Rattle.tenant_service.specs.Writing.{AppendsPart, AppendsUpTo}
use Rattle.crush_app.proofs.Playing.{PlaysRest, append_none, calls_in-append, messages-line, output-append}
use Rattle.crush_app.specs.Play.{Plays, WritesSession}
use Rattle.crush_app.specs.Script.{bad_line, calls_in, messages, messages_in, output, wire}

-- ---- one message

-- its line was written whole, or in part
pub all_written : (a b : Option (List ℕ)) (bytes : List ℕ) → Appends a b bytes → AppendsUpTo [] a b bytes
all_written a b bytes written = record { front = bytes; all = append_none bytes; written = written }

-- what was written of a line, whether it was written whole
pub line_written : (whole : Bool) (a b : Option (List ℕ)) (bytes : List ℕ) → (whole ≡ true → Appends a b bytes) → (whole ≡ false → AppendsPart a b bytes)
    → (rest : List ℕ) × AppendsUpTo rest a b bytes
line_written true a b bytes all part = ([], all_written a b bytes (all refl))
line_written false a b bytes all part = let some = part refl in (some.rest, some.front)

pub call_stopped : (old : States) (left : Outcomes) (call : Call) (reply : Reply) (a b : Option (List ℕ)) → IsSession old left (call ∷ []) (reply ∷ [])
    → (rest : List ℕ) × AppendsUpTo rest a b (wire reply) → WritesSession old left (Some call ∷ []) a b
call_stopped old left call reply a b session line = record {
  served = Some call ∷ [];
  later = [];
  all = refl;
  replies = reply ∷ [];
  rest = line.0;
  written = record { front = line.1.front; all = line.1.all ∙ sym (append_none (wire reply)); written = line.1.written };
  headline = session;
}

pub bad_stopped : (old : States) (left : Outcomes) (a b : Option (List ℕ)) → IsSession old left [] [] → (rest : List ℕ) × AppendsUpTo rest a b (wire bad_line)
    → WritesSession old left (None ∷ []) a b
bad_stopped old left a b session line = record {
  served = None ∷ [];
  later = [];
  all = refl;
  replies = [];
  rest = line.0;
  written = record { front = line.1.front; all = line.1.all ∙ sym (append_none (wire bad_line)); written = line.1.written };
  headline = session;
}

-- ---- an input

-- messages that were played whole
pub stopped_whole : (old new : States) (left : Outcomes) (ms : List (Option Call)) (a b : Option (List ℕ)) → Rests false new left → Plays false old new ms a b → WritesSession old left ms a b
stopped_whole old new left ms a b rests plays = record {
  served = ms;
  later = [];
  all = append_none ms;
  replies = plays.replies;
  rest = [];
  written = all_written a b (output ms plays.replies) plays.written;
  headline = session_open old new left (calls_in ms) plays.replies plays.meets (rests.one refl) (rests.settled refl);
}

-- the next line was the last one
pub rest_stopped : (old mid : States) (left : Outcomes) (a b c : Option (List ℕ)) (input rest line after : List ℕ) → lines rest ≡ line ∷ lines after
    → PlaysRest old mid a b input rest → WritesSession mid left (messages_in (line ∷ [])) b c → WritesSession old left (messages input) a c
rest_stopped old mid left a b c input rest line after h played one =
    let done = played.done in
    let before = played.plays in
    record {
      served = done ++ one.served;
      later = one.later ++ messages after;
      all =
          append_assoc done one.served (one.later ++ messages after)
          ∙ ap (λ ms. done ++ ms) (sym (append_assoc one.served one.later (messages after)) ∙ ap (λ ms. ms ++ messages after) one.all ∙ sym (messages-line rest line after h))
          ∙ played.all;
      replies = before.replies ++ one.replies;
      rest = one.rest;
      written = record {
        front = output done before.replies ++ one.written.front;
        all =
            append_assoc (output done before.replies) one.written.front one.rest ∙ ap (λ ys. output done before.replies ++ ys) one.written.all
            ∙ sym (output-append done one.served before.replies one.replies before.meets.count);
        written = appends_both a b c (output done before.replies) one.written.front before.written one.written.written;
      };
      headline = rw (calls_in-append done one.served) (session_both old mid left (calls_in done) before.replies (calls_in one.served) one.replies before.meets one.headline);
    }
