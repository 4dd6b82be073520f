-- A script is played line by line.
use Rattle.std.proofs.Common.{◌≡◌, ℕ, ◌==◌, ◌≤◌, List, [], ◌∷◌, ◌++◌, length, map, filter, length-append, Bool, true, false, if◌then◌else◌, Option, Some, None, refl, ap, sym, subst, ◌∙◌, arith, append_assoc}
use Rattle.std.proofs.lemmas.Bool.Decides.{nat_tests}
use Rattle.std.specs.Io.KnownBytes.{Appends}
use Rattle.std.specs.Str.Lines.{lines}
use Rattle.tenant_core.specs.States.{Headline, States, MeetsDefinition, Outcomes, Serves}
use Rattle.tenant_service.proofs.Served.{leaves_latched}
use Rattle.tenant_service.specs.Served.{LeavesSession}
use Rattle.tenant_service.proofs.OneSession.{Rests}
use Rattle.crush_app.specs.Private.Latching.{PlaysLatching}
use Rattle.tenant_core.specs.StoreReply.{IsUnavailable}
use Rattle.tenant_core.specs.tenant_messages.specs.declared.call.Call.{Call}
use Rattle.tenant_core.specs.tenant_messages.specs.declared.reply.Reply.{Reply}
use Rattle.tenant_core.proofs.Running.{run_both, run_latched, run_one, run_none}
use Rattle.tenant_service.specs.Writing.{AppendsPart}
use Rattle.crush_app.specs.Play.{Plays, PlaysUntilLatched, PlaysUpTo, WritesHeadline}
use Rattle.crush_app.specs.Script.{bad_line, call_of_line, calls_in, is_nonempty, messages_in, messages, output, wire}
use Rattle.tenant_service.proofs.Written.{appends_both, appends_none}

pub append_none : {A : Type 0} (xs : List A) → xs ++ [] ≡ xs
append_none [] = refl
append_none (x ∷ xs) = ap (λ ys. x ∷ ys) (append_none xs)

-- ---- messages, one after the other

pub calls_in-append : (ms ns : List (Option Call)) → calls_in (ms ++ ns) ≡ calls_in ms ++ calls_in ns
calls_in-append [] ns = refl
calls_in-append (None ∷ ms) ns = calls_in-append ms ns
calls_in-append (Some c ∷ ms) ns = ap (λ cs. c ∷ cs) (calls_in-append ms ns)

pub output-append : (ms ns : List (Option Call)) (rs qs : List Reply) → length rs ≡ length (calls_in ms) → output (ms ++ ns) (rs ++ qs) ≡ output ms rs ++ output ns qs
output-append [] ns [] qs h = refl
output-append [] ns (r ∷ rs) qs h = absurd (omega arith)
output-append (None ∷ ms) ns rs qs h = ap (λ ys. wire bad_line ++ ys) (output-append ms ns rs qs h) ∙ sym (append_assoc (wire bad_line) (output ms rs) (output ns qs))
output-append (Some c ∷ ms) ns [] qs h = absurd (omega arith)
output-append (Some c ∷ ms) ns (r ∷ rs) qs h = ap (λ ys. wire r ++ ys) (output-append ms ns rs qs (omega arith)) ∙ sym (append_assoc (wire r) (output ms rs) (output ns qs))

filter-front : (b : Bool) (line : List ℕ) (rest : List (List ℕ)) → map call_of_line (if b then line ∷ filter is_nonempty rest else filter is_nonempty rest) ≡ map call_of_line (if b then line ∷ [] else []) ++ map call_of_line (filter is_nonempty rest)
filter-front true line rest = refl
filter-front false line rest = refl

-- the messages of a line and of those that follow it
pub messages_in-front : (line : List ℕ) (rest : List (List ℕ)) → messages_in (line ∷ rest) ≡ messages_in (line ∷ []) ++ messages_in rest
messages_in-front line rest = filter-front (is_nonempty line) line rest

-- ---- scripts, one after the other

pub plays_none : (old : States) (a : Option (List ℕ)) → Plays false old old [] a a
plays_none old a = record { replies = []; meets = run_none false old old (λ _ t s. (λ has. has, λ has. has)); written = appends_none a }

pub plays_both : (latched : Bool) (old mid new : States) (a b c : Option (List ℕ)) (ms ns : List (Option Call)) → Plays false old mid ms a b → Plays latched mid new ns b c → Plays latched old new (ms ++ ns) a c
plays_both latched old mid new a b c ms ns first second = record {
  replies = first.replies ++ second.replies;
  meets = rw (calls_in-append ms ns) (run_both latched old mid new (calls_in ms) first.replies (calls_in ns) second.replies first.meets second.meets);
  written = rw (output-append ms ns first.replies second.replies first.meets.count) (appends_both a b c (output ms first.replies) (output ns second.replies) first.written second.written);
}

-- ---- one message

-- a call is served, by a store that is then latched, or not
one_call : (latched : Bool) (old new : States) (call : Call) (reply : Reply) → (latched ≡ false → Serves call old new reply) → (latched ≡ true → IsUnavailable reply)
    → MeetsDefinition latched old new (call ∷ []) (reply ∷ [])
one_call false old new call reply serves silent = run_one old new call reply (serves refl)
one_call true old new call reply serves silent =
    run_latched true old old new [] [] call reply (run_none true old old (λ no. let both : true ≡ false = no in cc)) (silent refl)

-- a call, and its reply as a line
pub plays_call : (latched : Bool) (old new : States) (call : Call) (reply : Reply) (a b : Option (List ℕ)) → (latched ≡ false → Serves call old new reply)
    → (latched ≡ true → IsUnavailable reply) → Appends a b (wire reply) → Plays latched old new (Some call ∷ []) a b
plays_call latched old new call reply a b serves silent written = record {
  replies = reply ∷ [];
  meets = one_call latched old new call reply serves silent;
  written = rw (append_none (wire reply)) written;
}

-- a call, and its reply as a line in part
pub cut_call : (latched : Bool) (old new : States) (call : Call) (reply : Reply) (a b : Option (List ℕ)) → (latched ≡ false → Serves call old new reply)
    → (latched ≡ true → IsUnavailable reply) → AppendsPart a b (wire reply) → PlaysUpTo latched old new (Some call ∷ []) a b
cut_call latched old new call reply a b serves silent part = record {
  before = [];
  cut = Some call;
  later = [];
  all = refl;
  replies = [];
  last = reply ∷ [];
  count = refl;
  meets = one_call latched old new call reply serves silent;
  line = part.front.front;
  rest = part.rest;
  some = part.some;
  part = part.front.all ∙ sym (append_none (wire reply));
  written = part.front.written;
}

-- a line that isn't of the form
pub plays_bad : (old : States) (a b : Option (List ℕ)) → Appends a b (wire bad_line) → Plays false old old (None ∷ []) a b
plays_bad old a b written = record {
  replies = [];
  meets = run_none false old old (λ _ t s. (λ has. has, λ has. has));
  written = rw (append_none (wire bad_line)) written;
}

pub cut_bad : (old : States) (a b : Option (List ℕ)) → AppendsPart a b (wire bad_line) → PlaysUpTo false old old (None ∷ []) a b
cut_bad old a b part = record {
  before = [];
  cut = None;
  later = [];
  all = refl;
  replies = [];
  last = [];
  count = refl;
  meets = run_none false old old (λ _ t s. (λ has. has, λ has. has));
  line = part.front.front;
  rest = part.rest;
  some = part.some;
  part = part.front.all ∙ sym (append_none (wire bad_line));
  written = part.front.written;
}

-- an empty line asks nothing
pub plays_empty : (old : States) (a : Option (List ℕ)) (line : List ℕ) → true ≡ (length line == 0) → Plays false old old (messages_in (line ∷ [])) a a
plays_empty old a [] empty = plays_none old a
plays_empty old a (b ∷ line) empty = let none : length (b ∷ line) ≡ 0 = grind (arith, nat_tests, sym empty) in absurd (omega (arith, none))

-- ---- an input

-- the messages of what was taken from an input were played, and `rest` remains
pub record PlaysRest (old mid : States) (a b : Option (List ℕ)) (input rest : List ℕ) : Type 0 where
  pub done : List (Option Call)
  pub all : done ++ messages rest ≡ messages input
  pub plays : Plays false old mid done a b

pub messages-line : (rest line after : List ℕ) → lines rest ≡ line ∷ lines after → messages rest ≡ messages_in (line ∷ []) ++ messages after
messages-line rest line after h = ap messages_in h ∙ messages_in-front line (lines after)

moved : (done m after rest input : List (Option Call)) → rest ≡ m ++ after → done ++ rest ≡ input → (done ++ m) ++ after ≡ input
moved done m after rest input e h = append_assoc done m after ∙ ap (λ ys. done ++ ys) (sym e) ∙ h

-- one more line was played
pub rest_more : (old mid new : States) (a b c : Option (List ℕ)) (input rest line after : List ℕ) → lines rest ≡ line ∷ lines after
    → PlaysRest old mid a b input rest → Plays false mid new (messages_in (line ∷ [])) b c → PlaysRest old new a c input after
rest_more old mid new a b c input rest line after h played one = record {
  done = played.done ++ messages_in (line ∷ []);
  all = moved played.done (messages_in (line ∷ [])) (messages after) (messages rest) (messages input) (messages-line rest line after h) played.all;
  plays = plays_both false old mid new a b c played.done (messages_in (line ∷ [])) played.plays one;
}

-- a cut message after messages that were played whole, and before others
cut-between : (done before after later : List (Option Call)) (cut : Option Call) → (done ++ before) ++ cut ∷ (later ++ after) ≡ done ++ ((before ++ cut ∷ later) ++ after)
cut-between done before after later cut = append_assoc done before (cut ∷ (later ++ after)) ∙ ap (λ ys. done ++ ys) (sym (append_assoc before (cut ∷ later) after))

pub cut_after : (latched : Bool) (old mid new : States) (a b c : Option (List ℕ)) (done ms after : List (Option Call)) → Plays false old mid done a b → PlaysUpTo latched mid new ms b c
    → PlaysUpTo latched old new (done ++ (ms ++ after)) a c
cut_after latched old mid new a b c done ms after first second = record {
  before = done ++ second.before;
  cut = second.cut;
  later = second.later ++ after;
  all = cut-between done second.before after second.later second.cut ∙ ap (λ ys. done ++ (ys ++ after)) second.all;
  replies = first.replies ++ second.replies;
  last = second.last;
  count = let one = first.meets.count in let two = second.count in rw (calls_in-append done second.before) (simp length-append (omega arith));
  meets =
      let both = run_both latched old mid new (calls_in done) first.replies (calls_in (second.before ++ second.cut ∷ [])) (second.replies ++ second.last) first.meets second.meets in
      rw (append_assoc done second.before (second.cut ∷ []), calls_in-append done (second.before ++ second.cut ∷ []), append_assoc first.replies second.replies second.last) both;
  line = second.line;
  rest = second.rest;
  some = second.some;
  part = second.part;
  written =
      rw (output-append done second.before first.replies second.replies first.meets.count, append_assoc (output done first.replies) (output second.before second.replies) second.line)
      (appends_both a b c (output done first.replies) (output second.before second.replies ++ second.line) first.written second.written);
}

-- the next line was cut
pub rest_cut : (latched : Bool) (old mid new : States) (a b c : Option (List ℕ)) (input rest line after : List ℕ) → lines rest ≡ line ∷ lines after
    → PlaysRest old mid a b input rest → PlaysUpTo latched mid new (messages_in (line ∷ [])) b c → PlaysUpTo latched old new (messages input) a c
rest_cut latched old mid new a b c input rest line after h played one =
    rw (sym played.all, messages-line rest line after h) (cut_after latched old mid new a b c played.done (messages_in (line ∷ [])) (messages after) played.plays one)

-- the next line latched the store
pub rest_latched : (old mid new : States) (kept left : Outcomes) (a b c : Option (List ℕ)) (input rest line after : List ℕ) → lines rest ≡ line ∷ lines after
    → Rests false mid kept → PlaysRest old mid a b input rest → PlaysLatching mid left (messages_in (line ∷ [])) b c
    → PlaysUntilLatched old new left (messages input) a c
rest_latched old mid new kept left a b c input rest line after h one played last =
    let first = played.plays in
    record {
      before = played.done;
      call = last.call;
      later = messages after;
      all = ap (λ ms. played.done ++ ms) (ap (λ ms. ms ++ messages after) (sym last.one) ∙ sym (messages-line rest line after h)) ∙ played.all;
      replies = first.replies;
      reply = last.reply;
      silent = last.silent;
      meets = run_latched false old mid new (calls_in played.done) first.replies last.call last.reply first.meets last.silent;
      leaves = subst (λ place. LeavesSession old left (calls_in played.done ++ last.call ∷ []) (first.replies ++ last.reply ∷ []) (Some place)) first.meets.count
          (leaves_latched old mid left (calls_in played.done) first.replies last.call last.reply first.meets (one.one refl) last.silent last.leaves);
      written = appends_both a b c (output played.done first.replies) (wire last.reply) first.written last.written;
    }

-- no line remains
pub rest_none : (old new : States) (a b : Option (List ℕ)) (input rest : List ℕ) → length rest ≤ 0 → PlaysRest old new a b input rest → Plays false old new (messages input) a b
rest_none old new a b input [] h played = rw (sym played.all ∙ append_none played.done) played.plays
rest_none old new a b input (x ∷ rest) h played = absurd (omega arith)

-- ---- the headline of what was written

pub headline_whole : (latched : Bool) (old new : States) (ms : List (Option Call)) (a b : Option (List ℕ)) → Plays latched old new ms a b → WritesHeadline old ms a b
headline_whole latched old new ms a b plays = record {
  served = ms;
  later = [];
  all = append_none ms;
  replies = plays.replies;
  rest = [];
  written = record { front = output ms plays.replies; all = append_none (output ms plays.replies); written = plays.written };
  headline = plays.meets.headline;
}

with_call : (ms : List (Option Call)) (call : Call) → calls_in (ms ++ Some call ∷ []) ≡ calls_in ms ++ call ∷ []
with_call ms call = calls_in-append ms (Some call ∷ [])

before_count : (ms : List (Option Call)) (call : Call) (rs : List Reply) (r : Reply) → length (rs ++ r ∷ []) ≡ length (calls_in ms ++ call ∷ []) → length rs ≡ length (calls_in ms)
before_count ms call rs r h = omega (arith, h, length-append rs (r ∷ []), length-append (calls_in ms) (call ∷ []))

pub headline_latched : (old new : States) (left : Outcomes) (ms : List (Option Call)) (a b : Option (List ℕ)) → PlaysUntilLatched old new left ms a b → WritesHeadline old ms a b
headline_latched old new left ms a b first = record {
  served = first.before ++ Some first.call ∷ [];
  later = first.later;
  all = append_assoc first.before (Some first.call ∷ []) first.later ∙ first.all;
  replies = first.replies ++ first.reply ∷ [];
  rest = [];
  written = record {
    front = output first.before first.replies ++ wire first.reply;
    all =
        append_none (output first.before first.replies ++ wire first.reply) ∙ ap (λ ys. output first.before first.replies ++ ys) (sym (append_none (wire first.reply)))
        ∙ sym (output-append first.before (Some first.call ∷ []) first.replies (first.reply ∷ []) (before_count first.before first.call first.replies first.reply first.meets.count));
    written = first.written;
  };
  headline = subst (λ cs. Headline old cs (first.replies ++ first.reply ∷ [])) (sym (with_call first.before first.call)) first.meets.headline;
}

pub headline_part : (latched : Bool) (old new : States) (ms : List (Option Call)) (a b : Option (List ℕ)) → PlaysUpTo latched old new ms a b → WritesHeadline old ms a b
headline_part latched old new ms a b plays = record {
  served = plays.before ++ plays.cut ∷ [];
  later = plays.later;
  all = append_assoc plays.before (plays.cut ∷ []) plays.later ∙ plays.all;
  replies = plays.replies ++ plays.last;
  rest = plays.rest;
  written = record {
    front = output plays.before plays.replies ++ plays.line;
    all =
        append_assoc (output plays.before plays.replies) plays.line plays.rest ∙ ap (λ ys. output plays.before plays.replies ++ ys) plays.part
        ∙ sym (output-append plays.before (plays.cut ∷ []) plays.replies plays.last plays.count);
    written = plays.written;
  };
  headline = plays.meets.headline;
}
