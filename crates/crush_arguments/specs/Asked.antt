-- What the matches of a command line ask for.
use Rattle.std.specs.Prelude.{◌≡◌, ℕ, List, Option, Some, None, codes, option_map}
use Rattle.std.specs.Int.NonZero.{non_zero_usize_get}
use Rattle.std.specs.Str.Parse.{digits_value, without_leading_plus}
use Rattle.clap.specs.Words.{Row, Text, first_of, one_of}
use Rattle.crush_arguments.specs.declared.invocation.Invocation.{Invocation}
use Rattle.crush_arguments.specs.declared.invocation.Invocation.TheVariants.{Script, Serve, Check}

-- the number that the words say for an argument, or its default
abbrev pub number_of : Text → List Row → Option ℕ
number_of id rows = option_map (λ text. digits_value 10 (without_leading_plus text)) (one_of id rows)

-- a command and what its arguments say are the invocation: the same command, on the same file and
-- port, with the same numbers
abbrev pub IsAsked : Text → List Row → Invocation → Type 0
IsAsked name rows (Script db placements) = (name ≡ codes "script")
    × (option_map (λ path. path.now) db ≡ first_of (codes "db") rows)
    × (Some (non_zero_usize_get placements) ≡ number_of (codes "cache") rows)
IsAsked name rows (Serve db placements port connections) = (name ≡ codes "serve")
    × (Some db.now ≡ first_of (codes "db") rows)
    × (Some (non_zero_usize_get placements) ≡ number_of (codes "cache") rows)
    × (Some port ≡ number_of (codes "port") rows)
    × (Some connections ≡ number_of (codes "connections") rows)
IsAsked name rows (Check path) =
    (name ≡ codes "check") × (Some path.now ≡ first_of (codes "FILE") rows)

-- the command that was named, if one was, is the invocation
abbrev pub Asks : Option (Text × List Row) → Invocation → Type 0
Asks None invocation = ⊥
Asks (Some met) invocation = IsAsked met.0 met.1 invocation
