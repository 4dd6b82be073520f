-- Whether there is a head at the front of an input. Heads are those of the grammar of `httparse`
-- (RFC 9112, sections 2 to 5): a line may end with LF alone, and empty lines may come before.
use Rattle.std.specs.Prelude.{ℕ, ◌<◌, ◌≤◌, ◌⊎◌, List, length}
use Rattle.httparse.specs.Grammar.{RequestHead, ReadsRequest, HasNoRequest, MayBecomeRequest, print_request}
use Rattle.httparse.specs.Spans.{RequestOverflows}
use Rattle.crush_http.specs.declared.limits.TheConstants.{HEAD_LIMIT, HEADER_LIMIT}

-- the input is the head and then the rest, and the head, with the empty lines before it, is within
-- the limits
pub record HeadAt (input : List ℕ) (head : RequestHead) (rest : List ℕ) : Type 0 where
  pub reads : ReadsRequest input head rest
  pub bytes : length (print_request head) ≤ HEAD_LIMIT
  pub headers : length head.fields ≤ HEADER_LIMIT

-- as many bytes as a head may have, without a whole one
pub record IsTooLong (input : List ℕ) : Type 0 where
  pub many : HEAD_LIMIT ≤ length input
  pub none : (head : RequestHead) (rest : List ℕ) → ReadsRequest input head rest → HEAD_LIMIT < length (print_request head)

-- there is no head within the limits at the front, whatever bytes follow: there is none at all,
-- since the bytes are no head's (a target that isn't UTF-8 is one case), or it has too many
-- headers, or it is too long
abbrev pub HasNoHead : List ℕ → Type 0
HasNoHead input = RequestOverflows HEADER_LIMIT input ⊎ IsTooLong input

-- there is no head yet, and there may be one when more bytes come
pub record IsHalfHead (input : List ℕ) : Type 0 where
  pub few : length input < HEAD_LIMIT
  pub none : HasNoRequest input
  pub opens : MayBecomeRequest input
