-- How far a session has come in its input.
use Rattle.std.proofs.Common.{◌≡◌, ◌+◌, ℕ, false, List, [], ◌∷◌, ◌++◌, length, refl, sym, ◌∙◌, inl, inr, arith, append_assoc, append-nil, length-append}
use Rattle.std.proofs.lemmas.Bool.{false≢true}
use Rattle.rf_base.specs.Input.{Input, TakesLine, lines_of, is_long}
use Rattle.rf_base.specs.Script.{Line, HasNoFeed, ended_line, ended_lines}
use Rattle.rf_base.proofs.InputLaws.{GoesTo-takes}
use Rattle.rf_base.proofs.ScriptLaws.{ended_lines-ended}
use Rattle.rf_session.specs.Run.{is_quit, answered, quits}
use Rattle.rf_session.proofs.Runs.{answered-more, quits-more}

-- what more bytes add to those that were taken: the lines of these bytes
pub record AddsLines (done : List Line) (taken more : List ℕ) : Type 0 where
  pub lines : answered (ended_lines (taken ++ more)) ≡ done ++ answered (ended_lines more)
  pub quit : quits (ended_lines (taken ++ more)) ≡ quits (ended_lines more)

-- From the whole input these lines were answered, and the rest is still to be given.
pub record Follows (done : List Line) (whole rest : Input) : Type 0 where
  pub lines : answered (lines_of whole) ≡ done ++ answered (lines_of rest)
  pub quit : quits (lines_of whole) ≡ quits (lines_of rest)
  pub long : is_long whole ≡ is_long rest
  pub taken : List ℕ
  pub bytes : whole.bytes ≡ taken ++ rest.bytes
  pub within : whole.limit ≡ length taken + rest.limit
  pub adds : rest.ended ≡ false → (more : List ℕ) → AddsLines done taken more

pub Follows-begin : (whole : Input) → Follows [] whole whole
Follows-begin whole = record {
  lines = refl;
  quit = refl;
  long = refl;
  taken = [];
  bytes = refl;
  within = omega arith;
  adds = λ open_yet more. record { lines = refl; quit = refl };
}

-- a line that a line feed ends
adds_line : (done : List Line) (line : Line) (taken raw more : List ℕ) → is_quit line ≡ false → ended_line raw ≡ line →
    HasNoFeed raw → AddsLines done taken (raw ++ 10 ∷ more) → AddsLines (done ++ answered (line ∷ [])) (taken ++ (raw ++ 10 ∷ [])) more
adds_line done line taken raw more other is free adds =
    let same : (taken ++ (raw ++ 10 ∷ [])) ++ more ≡ taken ++ (raw ++ 10 ∷ more) = simp append_assoc in
    let first : ended_lines (raw ++ 10 ∷ more) ≡ line ∷ ended_lines more = rw (← is) (ended_lines-ended raw more free) in
    record {
      lines = rw (same, adds.lines, first, answered-more line (ended_lines more) other) (sym (append_assoc done (answered (line ∷ [])) (answered (ended_lines more))));
      quit = rw (same, adds.quit, first) (quits-more line (ended_lines more) other);
    }

follows_lines : (done : List Line) (line : Line) (whole rest next : Input) → answered (lines_of whole) ≡ done ++ answered (lines_of rest) →
    is_quit line ≡ false → lines_of rest ≡ line ∷ lines_of next → answered (lines_of whole) ≡ (done ++ answered (line ∷ [])) ++ answered (lines_of next)
follows_lines done line whole rest next so_far other goes =
    rw (so_far, goes, answered-more line (lines_of next) other) (sym (append_assoc done (answered (line ∷ [])) (answered (lines_of next))))

-- one line further
pub Follows-line : (done : List Line) (line : Line) (whole rest next : Input) → Follows done whole rest → TakesLine line rest next →
    is_quit line ≡ false → Follows (done ++ answered (line ∷ [])) whole next
Follows-line done line whole rest next so_far (raw, inl (takes, is)) other =
    let goes = GoesTo-takes line rest next (raw, inl (takes, is)) in
    record {
      lines = follows_lines done line whole rest next so_far.lines other goes.lines;
      quit = rw (so_far.quit, goes.lines) (quits-more line (lines_of next) other);
      long = so_far.long ∙ goes.long;
      taken = so_far.taken ++ (raw ++ 10 ∷ []);
      bytes = rw (so_far.bytes, takes.bytes) (simp append_assoc);
      within = simp length-append (omega (arith, so_far.within, takes.limit));
      adds = λ open_yet more. adds_line done line so_far.taken raw more other is takes.no_feed (so_far.adds (sym takes.ended ∙ open_yet) (raw ++ 10 ∷ more));
    }
Follows-line done line whole rest next so_far (raw, inr (takes, is)) other =
    let goes = GoesTo-takes line rest next (raw, inr (takes, is)) in
    record {
      lines = follows_lines done line whole rest next so_far.lines other goes.lines;
      quit = rw (so_far.quit, goes.lines) (quits-more line (lines_of next) other);
      long = so_far.long ∙ goes.long;
      taken = so_far.taken ++ raw;
      bytes = rw (so_far.bytes, takes.bytes, takes.none_left) (sym (append-nil (so_far.taken ++ raw)));
      within = simp length-append (omega (arith, so_far.within, takes.limit));
      adds = λ open_yet more. absurd (false≢true (sym open_yet ∙ takes.ended));
    }
