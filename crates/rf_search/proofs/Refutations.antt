-- Conditions and hints that were replayed are a valid nogood line.
use Rattle.std.proofs.Common.{◌≡◌, ℕ, zero, suc, ◌<◌, ◌≤◌, List, [], ◌∷◌, length, take, true, refl, sym, ◌∙◌, ap, subst, arith, slice_index}
use Rattle.std.specs.Prelude.{Option, Some, None, is_some, All, Contains, nat_lt, slice_index_or}
use Rattle.std.specs.List.{list_all}
use Rattle.std.proofs.lemmas.List.Elements.{All-nil, All-cons}
use Rattle.std.proofs.lemmas.Bool.{and_parts, and_from, true≢false}
use Rattle.rf_terms.specs.Kinds.{roles_of}
use Rattle.rf_log.specs.declared.cond.Cond.{Cond}
use Rattle.rf_log.specs.declared.hint.Hint.{Hint}
use Rattle.rf_log.specs.declared.hint.Hint.TheVariants.{Earlier, Ban, Rule}
use Rattle.rf_log.specs.declared.line.LogLine.{LogLine}
use Rattle.rf_log.specs.Case.{Case, counts_of}
use Rattle.rf_log.specs.Box.{Box, box_of}
use Rattle.rf_log.specs.Hints.{Line, line_at, nogood_at, by_line, effect_of, after_hints_of, is_dead_after}
use Rattle.rf_log.specs.Walk.{knows_cond, fits_cond, fits}
use Rattle.rf_domain.specs.Sets.{AreCounts}
use Rattle.rf_propagate.specs.Laws.{AreInRange}
use Rattle.rf_propagate.specs.Applied.{IsHintIn}
use Rattle.rf_search.specs.declared.limits.TheConstants.{MAX_NUMBER}
use Rattle.rf_search.specs.Out.{IsCondOf, IsHintOf}
use Rattle.rf_search.specs.Paths.{IsLineOf}
use Rattle.rf_search.specs.Replays.{IsReplayed}
use Rattle.rf_search.specs.State.{Marked, start, decide, because, path_of, Agrees, AreDecided, IsRefuting}
use Rattle.rf_search.specs.declared.level.Level.{Level}
use Rattle.rf_trail.specs.declared.entry.Entry.{Entry}
use Rattle.rf_search.proofs.LineValid.{known_range, is_known, line_valid, conds_of}
use Rattle.rf_search.proofs.WritableLemmas.{index_short, line_writable}
use Rattle.rf_search.proofs.Steps.{effect-agrees}
use Rattle.rf_base.proofs.ListLaws.{tested_below}

conds_in_range : (case : Case) (conds : List Cond) → AreInRange case conds → (list_all (knows_cond case) conds ≡ true) × (list_all (fits_cond case) conds ≡ true)
conds_in_range case [] range = (refl, refl)
conds_in_range case (cond ∷ conds) range =
    let has : Contains (cond ∷ conds) cond = (0, omega arith, refl) in
    let here = known_range case cond.carrier cond.lo cond.hi (range.ordered cond has) (range.known cond has) in
    let rest = conds_in_range case conds (record {
      ordered = λ d in_. range.ordered d (suc in_.0, omega (arith, in_.1), in_.2);
      known = λ d in_. range.known d (suc in_.0, omega (arith, in_.1), in_.2);
    }) in
    (and_from (knows_cond case cond) _ here.0 rest.0, and_from (fits_cond case cond) _ here.1 rest.1)

one_known : (case : Case) (lines : List Line) (log : List LogLine) (b next : Box) (hint : Hint) → Agrees (line_at lines) (nogood_at log) → IsHintIn case hint
    → effect_of case (line_at lines) b hint ≡ Some next → is_known case log hint ≡ true
one_known case lines log b next (Earlier line) agrees fit works =
    let P : Option (List Cond) → Type 0 = λ o. line_at lines line ≡ o → by_line case b o ≡ Some next → is_some (nogood_at log line) ≡ true in
    (elim (line_at lines line) as P [
      | None ↦ λ is w. cc
      | Some conds ↦ λ is w. ap is_some (agrees.each line conds is)
    ]) refl works
one_known case lines log b next (Ban carrier lo hi) agrees fit works =
    let r = known_range case carrier lo hi fit.ordered fit.known in
    and_from (nat_lt carrier (length case.carriers)) _ r.0 (and_from (fits case carrier lo hi) _ r.1 refl)
one_known case lines log b next (Rule kind roles target lo hi) agrees fit works =
    let c = slice_index roles target in
    let r = known_range case c lo hi fit.1.ordered fit.1.known in
    and_from (list_all (λ c. nat_lt c (length case.carriers)) (take (roles_of kind) roles)) _ (tested_below (length case.carriers) (take (roles_of kind) roles) fit.0.known)
    (and_from (fits case c lo hi) _ r.1 refl)

tail_all : {A : Type 0} (P : A → Type 0) (x : A) (xs : List A) → All P (x ∷ xs) → All P xs
tail_all P x xs all k d low = all (suc k) d (omega arith)

-- what is replayed over the theory's lines is so over those of the log
replayed_in : (case : Case) (lines : List Line) (log : List LogLine) (b : Box) (hints : List Hint) → Agrees (line_at lines) (nogood_at log) → All (IsHintIn case) hints
    → is_dead_after case (after_hints_of case (line_at lines) b hints) ≡ true
    → (list_all (is_known case log) hints ≡ true) × (is_dead_after case (after_hints_of case (nogood_at log) b hints) ≡ true)
replayed_in case lines log b [] agrees fit dead = (refl, dead)
replayed_in case lines log b (hint ∷ hints) agrees fit dead =
    let Goal : Type 0 = (list_all (is_known case log) (hint ∷ hints) ≡ true) × (is_dead_after case (after_hints_of case (nogood_at log) b (hint ∷ hints)) ≡ true) in
    let P : Option Box → Type 0 = λ o. effect_of case (line_at lines) b hint ≡ o
    → is_dead_after case (elim o as (λ _. Option Box) [ None ↦ None | Some x ↦ after_hints_of case (line_at lines) x hints ]) ≡ true → Goal in
    (elim (effect_of case (line_at lines) b hint) as P [
      | None ↦ λ is e. absurd (true≢false (sym e))
      | Some x ↦ λ is e.
          let rest = replayed_in case lines log x hints agrees (tail_all (IsHintIn case) hint hints fit) e in
          let here = effect-agrees case (line_at lines) (nogood_at log) b x hint agrees is in (
            and_from (is_known case log hint) _ (one_known case lines log b x hint agrees (fit 0 hint (omega arith)) is) rest.0,
            ap (λ (o : Option Box). is_dead_after case (elim o as (λ _. Option Box) [ None ↦ None | Some y ↦ after_hints_of case (nogood_at log) y hints ])) here ∙ rest.1,
          )
    ]) refl dead

conds_short : (case : Case) (conds : List Cond) → AreCounts (counts_of case) → AreInRange case conds → All (IsCondOf (length case.carriers)) conds
conds_short case [] small range = All-nil (IsCondOf (length case.carriers))
conds_short case (cond ∷ conds) small range =
    let has : Contains (cond ∷ conds) cond = (0, omega arith, refl) in
    let at = index_short case cond.carrier cond.hi small (range.known cond has) in
    let ordered = range.ordered cond has in
    All-cons (IsCondOf (length case.carriers)) cond conds (at.0, (omega (arith, ordered, at.1), at.1)) (conds_short case conds small (record {
      ordered = λ d in_. range.ordered d (suc in_.0, omega (arith, in_.1), in_.2);
      known = λ d in_. range.known d (suc in_.0, omega (arith, in_.1), in_.2);
    }))

-- a line's number is one of the log
pub number_in : (log : List LogLine) (n : ℕ) (conds : List Cond) → nogood_at log n ≡ Some conds → n ≤ length log
number_in log zero conds e = omega arith
number_in [] (suc n) conds e = cc
number_in (line ∷ log) (suc zero) conds e = omega arith
number_in (line ∷ log) (suc (suc n)) conds e = omega (arith, number_in log (suc n) conds e)

hint_short : (case : Case) (log : List LogLine) (hint : Hint) → AreCounts (counts_of case) → length log ≤ MAX_NUMBER → IsHintIn case hint → is_known case log hint ≡ true
    → IsHintOf (length case.carriers) hint
hint_short case log (Earlier line) small few fit known =
    let P : Option (List Cond) → Type 0 = λ o. nogood_at log line ≡ o → is_some o ≡ true → line ≤ length log in
    let all : (o : Option (List Cond)) → P o = λ o. elim o as P [
      | None ↦ λ is e. absurd (true≢false (sym e))
      | Some conds ↦ λ is e. number_in log line conds is
    ] in
    let low = all (nogood_at log line) refl known in
    omega (arith, low, few)
hint_short case log (Ban carrier lo hi) small few fit known =
    let at = index_short case carrier hi small fit.known in
    (at.0, (omega (arith, fit.ordered, at.1), at.1))
hint_short case log (Rule kind roles target lo hi) small few fit known =
    let at = index_short case (slice_index roles target) hi small fit.1.known in
    (fit.0.known, fit.0.rest, fit.0.place, (omega (arith, fit.1.ordered, at.1), at.1))

hints_short : (case : Case) (log : List LogLine) (hints : List Hint) → AreCounts (counts_of case) → length log ≤ MAX_NUMBER → All (IsHintIn case) hints
    → list_all (is_known case log) hints ≡ true → All (IsHintOf (length case.carriers)) hints
hints_short case log [] small few fit known = All-nil (IsHintOf (length case.carriers))
hints_short case log (hint ∷ hints) small few fit known =
    let parts = and_parts (is_known case log hint) _ known in
    All-cons (IsHintOf (length case.carriers)) hint hints (hint_short case log hint small few (fit 0 hint (omega arith)) parts.0)
    (hints_short case log hints small few (tail_all (IsHintIn case) hint hints fit) parts.1)

range_more : (case : Case) (cond : Cond) (path : List Cond) → cond.lo ≤ cond.hi → cond.hi < slice_index_or (counts_of case) cond.carrier 0 → AreInRange case path → AreInRange case (cond ∷ path)
range_more case cond path ordered low range = record { ordered = one; known = two }
  where
    one : (d : Cond) → Contains (cond ∷ path) d → d.lo ≤ d.hi
    one d (zero, below, is) = subst (λ (x : Cond). x.lo ≤ x.hi) is ordered
    one d (suc k, below, is) = range.ordered d (k, omega arith, is)

    two : (d : Cond) → Contains (cond ∷ path) d → d.hi < slice_index_or (counts_of case) d.carrier 0
    two d (zero, below, is) = subst (λ (x : Cond). x.hi < slice_index_or (counts_of case) x.carrier 0) is low
    two d (suc k, below, is) = range.known d (k, omega arith, is)

-- the decisions of a path are in range
pub path_range : {case : Case} {lines : List Line} {levels : List Level} {es : List Entry} → Marked case lines levels es → AreInRange case (path_of levels)
path_range start = record { ordered = λ d has. absurd (omega (arith, has.1)); known = λ d has. absurd (omega (arith, has.1)) }
path_range {case} (decide {levels = levels} {level = level} marked at ordered known) = range_more case level.cond (path_of levels) ordered known (path_range marked)
path_range (because marked why) = path_range marked

pub decided_range : (case : Case) (path conds : List Cond) → AreInRange case path → AreDecided path conds → AreInRange case conds
decided_range case path conds range among = record { ordered = λ d has. range.ordered d (among.each d has); known = λ d has. range.known d (among.each d has) }

pub refuting : (case : Case) (lines : List Line) (path conds : List Cond) (hints : List Hint) (n : ℕ) (line : LogLine) → IsLineOf conds (take n hints) line
    → AreCounts (counts_of case) → AreInRange case conds → AreDecided path conds → IsReplayed case (line_at lines) (box_of case conds) hints n
    → IsRefuting case lines path line conds
refuting case lines path conds hints n line is small range among replayed = record {
  is = conds_of conds (take n hints) line is;
  valid = λ log agrees.
      let r = replayed_in case lines log (box_of case conds) (take n hints) agrees replayed.fit replayed.dead in
      let known = conds_in_range case conds range in
      line_valid case log path conds (take n hints) line is known.0 known.1 r.0 r.1;
  among = among;
  range = range;
  writable = λ log agrees few.
      let r = replayed_in case lines log (box_of case conds) (take n hints) agrees replayed.fit replayed.dead in
      line_writable (length case.carriers) conds (take n hints) line is (conds_short case conds small range) (hints_short case log (take n hints) small few replayed.fit r.0);
}
