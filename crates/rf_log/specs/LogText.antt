-- The log that a text writes.
use Rattle.std.specs.Prelude.{ℕ, ◌<◌, ◌+◌, List, [], ◌∷◌, ◌++◌, Bool, false, ◌&&◌, ◌||◌, length, take, drop, replicate, ◌-◌, ◌≡◌, Some, None, Result, Ok, Err, is_some, codes, if◌then◌else◌}
use Rattle.std.specs.List.{All}
use Rattle.std.specs.Str.{bytes_eq}
use Rattle.rf_base.specs.Decimal.{number_of}
use Rattle.rf_terms.specs.declared.kind.Kind.{Kind}
use Rattle.rf_terms.specs.Kinds.{roles_of}
use Rattle.rf_log.specs.declared.cond.Cond.{Cond}
use Rattle.rf_log.specs.declared.hint.Hint.{Hint}
use Rattle.rf_log.specs.declared.hint.Hint.TheVariants.{Earlier, Ban, Rule}
use Rattle.rf_log.specs.declared.line.LogLine.{LogLine}
use Rattle.rf_log.specs.declared.log.LogText.{LogText}
use Rattle.rf_log.specs.declared.log.LogText.TheVariants.{BadLine, Memory}
use Rattle.rf_log.specs.declared.line.LogLine.TheVariants.{Nogood, Branch, Up}
use Rattle.rf_log.specs.Words.{words_in, lines_in}
use Rattle.rf_log.specs.Operands.{only}
use Rattle.rf_log.specs.Reading.{line_in}

-- a log: its names, and its lines, whose carriers are places among the names
pub record LogData : Type 0 where
  pub names : List (List ℕ)
  pub lines : List LogLine

abbrev pub is_spent : List (List ℕ) → Bool
is_spent [] = false
is_spent (word ∷ words) = bytes_eq word (codes "spent") && is_some (only number_of words)

-- `plan`, `refuted`, or `spent` with a number
abbrev pub is_ending : List ℕ → Bool
is_ending line = bytes_eq line (codes "plan") || bytes_eq line (codes "refuted") || is_spent (words_in line)

-- the lines before the first that ends the log
abbrev pub before_ending : List (List ℕ) → List (List ℕ)
before_ending [] = []
before_ending (line ∷ lines) = if is_ending line then [] else line ∷ before_ending lines

-- the log with further lines, or the number of the first that is outside the grammar
abbrev pub log_with : LogData → List (List ℕ) → Result LogData ℕ
log_with log [] = Ok log
log_with log (line ∷ lines) = elim (line_in log.names line) as (λ _. Result LogData ℕ) [
  | None ↦ Err (length log.lines + 1)
  | Some read ↦ log_with (record { names = read.1; lines = log.lines ++ read.0 ∷ [] }) lines
]

-- the log that a text writes, or the number of its first line that is outside the grammar, the first line being 1
abbrev pub log_of : List ℕ → Result LogData ℕ
log_of bytes = log_with (record { names = []; lines = [] }) (before_ending (lines_in bytes))

-- what an error says of what the text writes
abbrev pub Tells : Result LogData ℕ → LogText → Type 0
Tells read (BadLine line) = read ≡ Err line
Tells read Memory = Unit {0}

-- the roles of a rule: those of the kind are carriers below n, the others are 0, and the target is one of the kind's
pub record IsRuleBelow (n : ℕ) (kind : Kind) (roles : List ℕ) (target : ℕ) : Type 0 where
  pub known : All (λ c. c < n) (take (roles_of kind) roles)
  pub rest : drop (roles_of kind) roles ≡ replicate (4 - roles_of kind) 0
  pub place : target < roles_of kind
  pub full : length roles ≡ 4

-- the carriers of the hint are below n
abbrev pub IsHintBelow : ℕ → Hint → Type 0
IsHintBelow n (Earlier line) = Unit {0}
IsHintBelow n (Ban carrier lo hi) = carrier < n
IsHintBelow n (Rule kind roles target lo hi) = IsRuleBelow n kind roles target

abbrev pub IsCondBelow : ℕ → Cond → Type 0
IsCondBelow n cond = cond.carrier < n

-- the carriers of the line are below n
abbrev pub IsLineBelow : ℕ → LogLine → Type 0
IsLineBelow n (Nogood conds hints) = All (IsCondBelow n) conds × All (IsHintBelow n) hints
IsLineBelow n (Branch cut carrier at) = carrier < n
IsLineBelow n (Up line) = Unit {0}

-- the carriers of each line are places among the names, and there are fewer lines than numbers of 32 bits
pub record IsLog (log : LogData) : Type 0 where
  pub known : All (IsLineBelow (length log.names)) log.lines
  pub few : length log.lines < 4294967296
