-- What is said of how a script ends.
use Rattle.std.proofs.Common.{◌≡◌, ℕ, List, Bool, true, false, Option, Some, None, Result, Ok, Err, refl}
use Rattle.std.specs.Io.KnownBytes.{Keeps}
use Rattle.std.specs.declared.alloc.AllocError.{AllocError}
use Rattle.tenant_core.specs.States.{Outcomes, States}
use Rattle.tenant_core.specs.tenant_messages.specs.declared.call.Call.{Call}
use Rattle.tenant_core.specs.tenant_messages.specs.declared.reply.Reply.{Reply}
use Rattle.crush_app.proofs.Inputs.{of_script}
use Rattle.crush_app.proofs.Playing.{headline_latched, headline_part, headline_whole}
use Rattle.crush_app.specs.End.{EndsScript, IsTooLong, ServesNothing, ServesScript}
use Rattle.crush_app.specs.Play.{PlaysBy, PlaysTo, PlaysUpToBy, WritesFirst, WritesHeadline}
use Rattle.crush_app.specs.Script.{messages}
use Rattle.crush_app.specs.declared.play.ScriptEnd.{ScriptEnd}
use Rattle.crush_app.specs.declared.play.ScriptEnd.TheVariants.{Done, Latched, TooLong, ReadFault, WriteFault}

pub keeps_itself : (a : Option (List ℕ)) → Keeps a a
keeps_itself None = tt
keeps_itself (Some xs) = refl

-- the headline of what was written, however the script ended
pub headline_of : (end : ScriptEnd) (latched : Bool) (old new : States) (left : Outcomes) (ms : List (Option Call)) (a b : Option (List ℕ)) → PlaysTo end latched old new left ms a b
    → WritesHeadline old ms a b
headline_of Done latched old new left ms a b plays = headline_whole false old new ms a b plays
headline_of WriteFault latched old new left ms a b plays = headline_part latched old new ms a b plays
headline_of Latched latched old new left ms a b plays = headline_latched old new left ms a b plays
headline_of TooLong latched old new left ms a b plays = absurd plays
headline_of ReadFault latched old new left ms a b plays = absurd plays

-- ---- what is met by the calls of messages that were served

module _ (M N : List Call → List Reply → Type 0) (follows : (cs : List Call) (rs : List Reply) → M cs rs → N cs rs) (ms : List (Option Call)) (from to : Option (List ℕ)) where
  pub plays_map : PlaysBy M ms from to → PlaysBy N ms from to
  plays_map plays = record { replies = plays.replies; meets = follows _ _ plays.meets; written = plays.written }

  pub cut_map : PlaysUpToBy M ms from to → PlaysUpToBy N ms from to
  cut_map plays = record {
    before = plays.before;
    cut = plays.cut;
    later = plays.later;
    all = plays.all;
    replies = plays.replies;
    last = plays.last;
    count = plays.count;
    meets = follows _ _ plays.meets;
    line = plays.line;
    rest = plays.rest;
    some = plays.some;
    part = plays.part;
    written = plays.written;
  }

  pub first_map : WritesFirst M ms from to → WritesFirst N ms from to
  first_map writes = record {
    served = writes.served;
    later = writes.later;
    all = writes.all;
    replies = writes.replies;
    rest = writes.rest;
    written = writes.written;
    headline = follows _ _ writes.headline;
  }

-- ---- what follows from what is said

pub serves_map : (P Q : List (Option Call) → Type 0) (reads left : Option (List ℕ)) → ((ms : List (Option Call)) → P ms → Q ms) → ServesScript P reads left → ServesScript Q reads left
serves_map P Q reads left follows s = record {
  said = of_script reads {P = λ (input : List ℕ). P (messages input)} {Q = λ (input : List ℕ). Q (messages input)} (λ input. follows (messages input)) s.said;
  rest = s.rest;
}

pub nothing_map : (A B : Type 0) (from to : Option (List ℕ)) → (A → B) → ServesNothing A from to → ServesNothing B from to
nothing_map A B from to follows s = record { as_before = follows s.as_before; unwritten = s.unwritten }

-- for each end that the script may have
pub ends_map : (A B : Type 0) (P Q : ScriptEnd → List (Option Call) → Type 0) (r : Result ScriptEnd AllocError) (reads left from to : Option (List ℕ)) → (A → B)
    → ((end : ScriptEnd) (ms : List (Option Call)) → r ≡ Ok end → P end ms → Q end ms) → EndsScript A P r reads left from to → EndsScript B Q r reads left from to
ends_map A B P Q (Ok Done) reads left from to as_before follows s = serves_map (P Done) (Q Done) reads left (λ ms. follows Done ms refl) s
ends_map A B P Q (Ok WriteFault) reads left from to as_before follows s = serves_map (P WriteFault) (Q WriteFault) reads left (λ ms. follows WriteFault ms refl) s
ends_map A B P Q (Ok Latched) reads left from to as_before follows s = serves_map (P Latched) (Q Latched) reads left (λ ms. follows Latched ms refl) s
ends_map A B P Q (Ok TooLong) reads left from to as_before follows s = (nothing_map A B from to as_before s.0, s.1)
ends_map A B P Q (Ok ReadFault) reads left from to as_before follows s = nothing_map A B from to as_before s
ends_map A B P Q (Err e) reads left from to as_before follows s = nothing_map A B from to as_before s
