-- What a try without one lock keeps.
use Rattle.std.proofs.Common.{◌≡◌, ℕ, zero, suc, ◌+◌, ◌<◌, ◌≤◌, ◌++◌, List, [], ◌∷◌, length, get_or, remove, Some, None, refl, sym, subst, ap, ◌∙◌, arith, inl, inr, slice_index_or, Result}
use Rattle.std.proofs.Common.{Ok, Err, IfOk}
use Rattle.rf_log.specs.Case.{IsPlan}
use Rattle.rf_log.specs.Solved.{refuted, spent}
use Rattle.rf_log.specs.declared.line.LogLine.{LogLine}
use Rattle.rf_show.specs.Show.{ShowData}
use Rattle.rf_show.specs.Case.{case_of}
use Rattle.rf_tighter.specs.Locked.{FewerLocksKeepPlans, kept}
use Rattle.rf_decide.specs.Decisions.{Calls, and_call}
use Rattle.rf_solving.specs.Solving.{IsSolvedBy}
use Rattle.rf_core.specs.Blocking.{AreLocks, IsStuck, locks_of}
use Rattle.rf_core.specs.Sparing.{AtMostOnce, IsUnderWay, untried}
use Rattle.rf_core.specs.declared.sparing.Held.{Held}
use Rattle.rf_core.proofs.LockLists.{among-back, among-both, kept-all, kept-same, locks-are, locks-remove, lost-lock}

pub length-more : (ps : List (List ℕ)) (p : List ℕ) → length (ps ++ p ∷ []) ≡ suc (length ps)
length-more [] p = refl
length-more (q ∷ qs) p = ap (λ n. suc n) (length-more qs p)

-- the plans of a list, one more at its end
pub plans-more : (P : ℕ → List ℕ → Type 0) (plans : List (List ℕ)) (plan : List ℕ) → ((i : ℕ) → i < length plans → P i (slice_index_or plans i [])) → P (length plans) plan
    → (i : ℕ) → i < length (plans ++ plan ∷ []) → P i (slice_index_or (plans ++ plan ∷ []) i [])
plans-more P [] plan h last zero low = last
plans-more P [] plan h last (suc i) low = absurd (omega (arith, low))
plans-more P (p ∷ ps) plan h last zero low = h 0 (omega arith)
plans-more P (p ∷ ps) plan h last (suc i) low =
    plans-more (λ i. P (suc i)) ps plan (λ i l. h (suc i) (omega (arith, l))) last i (omega (arith, low))

-- the plans without each of the first locks, where a later lock goes too
pub plans-less : FewerLocksKeepPlans → (show : ShowData) (keep : List ℕ) (at i : ℕ) (plan : List ℕ) → i < at → IsPlan (case_of (kept show (remove keep i))) plan
    → IsPlan (case_of (kept show (remove (remove keep at) i))) plan
plans-less law show keep at i plan low is = law show _ _ plan (λ c. among-both keep at i c low) is

pub stuck-at : (show : ShowData) (n : ℕ) (keep : List ℕ) (all log : List LogLine) (at lost : ℕ) → AreLocks show 0 keep → at < length keep → lost ≡ get_or keep at lost
    → IsSolvedBy (kept show keep) n refuted all → IsSolvedBy (kept show (remove keep at)) n spent log → IsStuck show n (remove keep at) log (Some (lost, all))
stuck-at show n keep all log at lost locks low e before has =
    let gone = lost-lock show 0 keep at lost locks low e in
    record {
      locks = locks-remove show 0 keep at locks;
      used_up = has;
      last = (
        gone.1,
        gone.2,
        subst (λ s. IsSolvedBy s n refuted all) (sym (kept-same show (lost ∷ remove keep at) keep (λ c. among-back keep at c lost low e))) before,
      );
    }

pub stuck-first : (show : ShowData) (n : ℕ) (log : List LogLine) (keep : List ℕ) → keep ≡ locks_of show → IsSolvedBy show n spent log → IsStuck show n keep log None
stuck-first show n log keep e has = record {
  locks = subst (λ xs. AreLocks show 0 xs) (sym e) (locks-are show);
  used_up = subst (λ s. IsSolvedBy s n spent log) (sym (ap (λ xs. kept show xs) e ∙ kept-all show)) has;
  last = e;
}

pub refuted-first : (show : ShowData) (n : ℕ) (log : List LogLine) (keep : List ℕ) → keep ≡ locks_of show → IsSolvedBy show n refuted log → IsSolvedBy (kept show keep) n refuted log
refuted-first show n log keep e has = subst (λ s. IsSolvedBy s n refuted log) (sym (ap (λ xs. kept show xs) e ∙ kept-all show)) has

pub if-ok : {A E : Type 0} {P Q : A → Type 0} (r : Result A E) → ((a : A) → P a → Q a) → IfOk r P → IfOk r Q
if-ok {A} {E} {P} {Q} (Ok a) f h = f a h
if-ok {A} {E} {P} {Q} (Err e) f h = tt

-- ---- how often

pub once-more : {S : Type 0} {asked : S → ShowData → S → Type 0} {show : ShowData} {n : ℕ} {first mid last : S} {held : Held} → IsUnderWay asked show n first mid held
    → length held.plans.items < length held.keep.items → AtMostOnce asked mid last
    → (x : ℕ) × (x + untried held ≤ length (locks_of show) + 1) × (x ≤ length (locks_of show)) × Calls asked x first last
once-more {S} {asked} {show} {n} {first} {mid} {last} {held} u room (inl same) =
    (u.done, omega (arith, u.sum), omega (arith, u.sum), subst (λ s. Calls asked u.done first s) (sym same) u.calls)
once-more {S} {asked} {show} {n} {first} {mid} {last} {held} u room (inr made) =
    (suc u.done, omega (arith, u.sum), omega (arith, u.sum, room), and_call u.calls made.1)
