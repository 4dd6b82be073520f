-- What is said of a script over states is said of the same states.
use Rattle.std.proofs.lemmas.Bool.{false≢true}
use Rattle.std.proofs.Common.{◌≡◌, ℕ, List, Bool, true, false, Option, refl, sym}
use Rattle.tenant_files.specs.tenant_core.specs.States.{Headline, MeetsDefinition, Outcomes, States, Same}
use Rattle.crush_app.proofs.Ending.{cut_map, first_map, plays_map}
use Rattle.crush_app.specs.Play.{Plays, PlaysScript, PlaysTo, PlaysUntilLatched, PlaysUpTo, WritesHeadline, WritesSession}
use Rattle.crush_app.specs.declared.play.ScriptEnd.{ScriptEnd}
use Rattle.crush_app.specs.declared.play.ScriptEnd.TheVariants.{Done, Latched, TooLong, ReadFault, WriteFault}
use Rattle.tenant_files.proofs.StoredFacts.{damaged_too, meets_same}

plays_same : (a b c d : States) (ms : _) (from to : Option (List ℕ)) → Same a b → Same c d → Plays false a c ms from to → Plays false b d ms from to
plays_same a b c d ms from to before after plays =
    plays_map (MeetsDefinition false a c) (MeetsDefinition false b d) (λ cs rs meets. meets_same false a b c d cs rs before (λ works. after) meets) ms from to plays

-- where the last line was cut, nothing is said of what the store then shows
meets_weaker : (latched : Bool) (a b c d : States) (cs : _) (rs : _) → Same a b → MeetsDefinition latched a c cs rs → MeetsDefinition true b d cs rs
meets_weaker latched a b c d cs rs before meets = record {
  count = meets.count;
  headline = λ t s has. meets.headline t s ((before t s).1 has);
  leaves = λ never. absurd (false≢true (sym never));
  nobody = meets.nobody;
  damaged = λ t damaged. meets.damaged t (damaged_too a b before t damaged);
  stays = λ never. absurd (false≢true (sym never));
  causes = meets.causes;
}

cut_weaker : (latched : Bool) (a b c d : States) (ms : _) (from to : Option (List ℕ)) → Same a b → PlaysUpTo latched a c ms from to → PlaysUpTo true b d ms from to
cut_weaker latched a b c d ms from to before plays =
    cut_map (MeetsDefinition latched a c) (MeetsDefinition true b d) (λ cs rs meets. meets_weaker latched a b c d cs rs before meets) ms from to plays

latched_same : (a b c d : States) (left : Outcomes) (ms : _) (from to : Option (List ℕ)) → Same a b → PlaysUntilLatched a c left ms from to → PlaysUntilLatched b d left ms from to
latched_same a b c d left ms from to before plays = record {
  before = plays.before;
  call = plays.call;
  later = plays.later;
  all = plays.all;
  replies = plays.replies;
  reply = plays.reply;
  silent = plays.silent;
  meets = meets_same true a b c d _ _ before (λ never. absurd (false≢true (sym never))) plays.meets;
  leaves = λ f t next has there. plays.leaves f t next ((before t (f t)).1 has) there;
  written = plays.written;
}

headline_same : (a b : States) (ms : _) (from to : Option (List ℕ)) → Same a b → WritesHeadline a ms from to → WritesHeadline b ms from to
headline_same a b ms from to before writes = first_map (Headline a) (Headline b) (λ cs rs headline t s has. headline t s ((before t s).1 has)) ms from to writes

session_same : (a b : States) (left : Outcomes) (ms : _) (from to : Option (List ℕ)) → Same a b → WritesSession a left ms from to → WritesSession b left ms from to
session_same a b left ms from to same writes = record {
  served = writes.served;
  later = writes.later;
  all = writes.all;
  replies = writes.replies;
  rest = writes.rest;
  written = writes.written;
  headline = record {
    doubt = writes.headline.doubt;
    sound = λ f t has. writes.headline.sound f t ((same t (f t)).1 has);
    crash = λ f t next has there. writes.headline.crash f t next ((same t (f t)).1 has) there;
  };
}

to_same : (how : ScriptEnd) (latched : Bool) (a b c d : States) (left : Outcomes) (ms : _) (from to : Option (List ℕ)) → Same a b → (how ≡ Done → Same c d)
    → PlaysTo how latched a c left ms from to → PlaysTo how true b d left ms from to
to_same Done latched a b c d left ms from to before after plays = plays_same a b c d ms from to before (after refl) plays
to_same WriteFault latched a b c d left ms from to before after plays = cut_weaker latched a b c d ms from to before plays
to_same Latched latched a b c d left ms from to before after plays = latched_same a b c d left ms from to before plays
to_same TooLong latched a b c d left ms from to before after plays = absurd plays
to_same ReadFault latched a b c d left ms from to before after plays = absurd plays

-- only after a whole script is it said what the store shows afterwards
pub script_same : (how : ScriptEnd) (latched : Bool) (a b c d : States) (left : Outcomes) (ms : _) (from to : Option (List ℕ)) → Same a b → (how ≡ Done → Same c d)
    → PlaysScript how latched a c left ms from to → PlaysScript how true b d left ms from to
script_same how latched a b c d left ms from to before after script = record {
  plays = to_same how latched a b c d left ms from to before after script.plays;
  headline = headline_same a b ms from to before script.headline;
  stop = session_same a b left ms from to before script.stop;
}
