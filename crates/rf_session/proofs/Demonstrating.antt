-- A script that is played line by line.
use Rattle.std.proofs.Common.{◌≡◌, ◌∙◌, ℕ, ◌+◌, Bool, List, [], ◌∷◌, refl, sym, ap₂, subst, cond, arith}
use Rattle.std.proofs.lemmas.List.Sums.{sum_by-cons}
use Rattle.rf_editor.specs.History.{History, first_history}
use Rattle.rf_session.specs.Demonstrated.{Played, Plays}
use Rattle.rf_session.specs.Reply.{is_refusal}

-- the rest of a script is still to be played: however that goes, the whole script goes so
abbrev pub GoesOn : List (List ℕ) → List (List ℕ) → History → ℕ → Type 0
GoesOn all rest now refused = (more : ℕ) (last : History) → Played rest now more last → Played all first_history (refused + more) last

Played-none : (h : History) → Played [] h 0 h
Played-none h = record { fetches = []; replies = []; run = refl; counted = refl }

Played-line : (line : List ℕ) (lines : List (List ℕ)) (old mid new : History) (refusal : Bool) (more : ℕ) → Plays line old refusal mid →
    Played lines mid more new → Played (line ∷ lines) old (cond refusal 1 0 + more) new
Played-line line lines old mid new refusal more (fetched, reply, took, is) rest = record {
  fetches = fetched ∷ rest.fetches;
  replies = reply ∷ rest.replies;
  run = (mid, took, rest.run);
  counted =
      ap₂ (λ (b : Bool) (n : ℕ). cond b 1 0 + n) is rest.counted ∙ sym (sum_by-cons (λ r. cond (is_refusal r) 1 0) reply rest.replies);
}

-- a line was played
pub GoesOn-line : (all rest rest' : List (List ℕ)) (line : List ℕ) (old new : History) (refusal : Bool) (refused : ℕ) → rest ≡ line ∷ rest' →
    Plays line old refusal new → GoesOn all rest old refused → GoesOn all rest' new (refused + cond refusal 1 0)
GoesOn-line all rest rest' line old new refusal refused is plays goes more last played =
    let whole = goes (cond refusal 1 0 + more) last (rw is (Played-line line rest' old new last refusal more plays played)) in
    let same : refused + (cond refusal 1 0 + more) ≡ (refused + cond refusal 1 0) + more = omega arith in
    subst (λ n. Played all first_history n last) same whole

-- the script was played to its end
pub GoesOn-end : (all rest : List (List ℕ)) (now : History) (refused : ℕ) → rest ≡ [] → GoesOn all rest now refused → Played all first_history refused now
GoesOn-end all rest now refused is goes =
    let same : refused + 0 ≡ refused = omega arith in
    subst (λ n. Played all first_history n now) same (goes 0 now (rw is (Played-none now)))
