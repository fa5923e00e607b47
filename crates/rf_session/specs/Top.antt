-- What a session says of the bytes that were left in its source.
use Rattle.std.specs.Prelude.{◌≡◌, ◌≤◌, ◌&&◌, not, ℕ, Bool, true, false, List, ◌++◌, length}
use Rattle.rf_base.specs.Input.{Input, is_long, lines_of}
use Rattle.rf_base.specs.Script.{ended_lines}
use Rattle.rf_base.specs.declared.status.Status.{Status}
use Rattle.rf_base.specs.declared.status.Status.TheVariants.{Read}
use Rattle.rf_session.specs.declared.machine.Stop.{Stop}
use Rattle.rf_session.specs.Fetches.{Outside}
use Rattle.rf_session.specs.Run.{answered, quits, Step, Cut, Answered}
use Rattle.rf_session.specs.Session.{BreaksOff, Ends}
use Rattle.rf_session.specs.Shows.{Steps, Parts}
use Rattle.rf_session.specs.Unfetched.{IsBounded}
use Rattle.rf_editor.specs.History.{History, first_history}

-- how many bytes of a script count
abbrev pub script_limit : ℕ
script_limit = 67_108_864

-- a script of which nothing was taken
abbrev pub script : List ℕ → Input
script bytes = record { bytes = bytes; limit = script_limit; ended = false }

-- The headline: the sink gained the replies of a run over the script from the first history, `refusal` says whether one of
-- them is a refusal, and no file was answered E11 more often than its count rose.
pub record Headline (before after : Outside) (bytes : List ℕ) (refusal : Bool) : Type 0 where
  pub last : History
  pub all : Answered (Step Steps) first_history last before after (answered (lines_of (script bytes))) refusal
  pub shelf : IsBounded before after (answered (lines_of (script bytes))) all.replies

-- After a fault of the source: the sink gained the replies to the lines whose line feed was taken, none of which is `quit`.
pub record RepliesToTaken (before after : Outside) (bytes left : List ℕ) : Type 0 where
  pub taken : List ℕ
  pub from : bytes ≡ taken ++ left
  pub within : length taken ≤ script_limit
  pub last : History
  pub refusal : Bool
  pub all : Answered (Step Steps) first_history last before after (answered (ended_lines taken)) refusal
  pub shelf : IsBounded before after (answered (ended_lines taken)) all.replies
  pub no_quit : quits (ended_lines taken) ≡ false

-- Of a script that is too long: the sink gained the replies to the lines that count, none of which is `quit`.
pub record RepliesToAll (before after : Outside) (bytes : List ℕ) : Type 0 where
  pub last : History
  pub refusal : Bool
  pub all : Answered (Step Steps) first_history last before after (answered (lines_of (script bytes))) refusal
  pub shelf : IsBounded before after (answered (lines_of (script bytes))) all.replies
  pub long : is_long (script bytes) ≡ true
  pub no_quit : quits (lines_of (script bytes)) ≡ false

-- After a fault of the sink or want of memory: the sink gained the replies to some lines, and then at most a part of the
-- reply to the next one.
pub record RepliesToSome (stop : Stop) (before after : Outside) (bytes : List ℕ) : Type 0 where
  pub some : BreaksOff (Step Steps) (λ state. Cut Parts state stop) first_history before after (script bytes)
  pub shelf : IsBounded before after some.done some.replies

-- the script was read to its end or to `quit`
abbrev pub IsReadThrough : List ℕ → Type 0
IsReadThrough bytes = (is_long (script bytes) && not (quits (lines_of (script bytes)))) ≡ false

-- The session ran from the first history over the script, and these bytes are left in its source.
pub record Serves (status : Status) (before after : Outside) (bytes left : List ℕ) : Type 0 where
  pub last : History
  pub rest : Input
  pub ends : Ends (Step Steps) (Cut Parts) status first_history last before after (script bytes) rest
  pub drained : status ≡ Read → rest.bytes ≡ left
