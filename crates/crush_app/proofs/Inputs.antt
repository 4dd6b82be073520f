-- An input that is read up to a limit, and what is said of it.
use Rattle.std.proofs.Common.{◌≡◌, ℕ, ◌+◌, ◌≤◌, ◌<◌, List, ◌++◌, length, Option, Some, None, refl, sym, ap, ◌∙◌, arith, length-append}
use Rattle.std.proofs.lemmas.List.{append-nil}
use Rattle.tenant_service.specs.Input.{OfInput}
use Rattle.crush_app.specs.Script.{OfScript}
use Rattle.crush_app.specs.Private.Reading.{IsReadUpTo}

-- what was read is the whole input, where it isn't one byte more than the limit
pub whole_input : (limit : ℕ) (bytes : List ℕ) (old new : Option (List ℕ)) → IsReadUpTo (limit + 1) bytes old new → length bytes ≤ limit
    → OfInput old (λ input. (bytes ≡ input) × (length input ≤ limit))
whole_input limit bytes None new read few = record { input = bytes; same = tt; holds = (refl, few) }
whole_input limit bytes (Some xs) None read few = absurd read.taken
whole_input limit bytes (Some xs) (Some ys) read few =
    record { input = bytes; same = sym (read.taken ∙ ap (λ l. bytes ++ l) (read.end (omega (arith, few))) ∙ append-nil bytes); holds = (refl, few) }

-- otherwise the input is longer than the limit
pub long_input : (limit : ℕ) (bytes : List ℕ) (old new : Option (List ℕ)) → IsReadUpTo (limit + 1) bytes old new → limit < length bytes → OfInput old (λ input. limit < length input)
long_input limit bytes None new read long = record { input = bytes; same = tt; holds = long }
long_input limit bytes (Some xs) None read long = absurd read.taken
long_input limit bytes (Some xs) (Some ys) read long = record { input = xs; same = refl; holds = rw read.taken (simp length-append (omega (arith, long))) }

-- ---- what is said of an input

-- what follows from what holds of an input holds of it too
pub of_input : (known : Option (List ℕ)) {P Q : List ℕ → Type 0} → ((input : List ℕ) → P input → Q input) → OfInput known P → OfInput known Q
of_input known follows said = record { input = said.input; same = said.same; holds = follows said.input said.holds }

-- what follows from what holds of a script holds of it too
pub of_script : (known : Option (List ℕ)) {P Q : List ℕ → Type 0} → ((input : List ℕ) → P input → Q input) → OfScript known P → OfScript known Q
of_script known follows said = of_input known (λ input both. (both.0, follows input both.1)) said
