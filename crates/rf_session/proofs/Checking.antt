-- What a check fetches and finds, stage by stage.
use Rattle.std.proofs.Common.{◌≡◌, ◌≢◌, ◌∙◌, ℕ, false, List, [], ◌∷◌, ◌++◌, Some, None, Result, Ok, Err, refl, sym, ap, subst, arith, append_assoc, append-nil}
use Rattle.std.specs.Str.{bytes_eq}
use Rattle.std.specs.declared.option.Option.{Option}
use Rattle.rf_base.specs.Input.{lines_of}
use Rattle.rf_log.specs.LogText.{log_of}
use Rattle.rf_show.specs.Show.{ShowData}
use Rattle.rf_session.specs.declared.check.CheckFault.{CheckFault}
use Rattle.rf_session.specs.declared.check.CheckFault.TheVariants.{Shelf, Memory}
use Rattle.rf_session.specs.declared.finding.Finding.{Finding}
use Rattle.rf_session.specs.declared.finding.Finding.TheVariants.{ShowLarge, ShowLine}
use Rattle.rf_session.specs.declared.reply.Code.{Code}
use Rattle.rf_session.specs.declared.show_file.ShowFault.{ShowFault}
use Rattle.rf_session.specs.declared.show_file.ShowFault.TheVariants.{Line as BadLine, Shelf as NotFetched}
use Rattle.rf_session.specs.Checked.{Fetching, Found, FoundInLog, FoundOver, IfFound, Judging, FindsOf, FindsOn, KeepsOthers, log_limit}
use Rattle.rf_session.specs.Fetches.{Fetched, absent, fault, found, too_large, of_file, Got, Outside, MayCome, Brought, BroughtWithin, KeptCounts}
use Rattle.rf_session.specs.ShowFile.{IfShow, ShowRead, are_naming}
use Rattle.rf_session.specs.Top.{script}
use Rattle.rf_session.proofs.FetchLaws.{Brought-none, Brought-then, BroughtWithin-none, KeptCounts-file, KeptCounts-then, other_name}

-- less holds too
pub IfFound-weaker : (r : Result Finding CheckFault) (P Q : Result Finding CheckFault → Type 0) →
    ((end : Result Finding CheckFault) → P end → Q end) → IfFound r P → IfFound r Q
IfFound-weaker (Ok finding) P Q weaker holds = weaker _ holds
IfFound-weaker (Err Shelf) P Q weaker holds = weaker _ holds
IfFound-weaker (Err Memory) P Q weaker holds = tt

-- nothing more is fetched
pub Fetching-first : (finds : List Fetched → List Fetched → Type 0) (before after : Outside) (fs : List Fetched) → Brought before after fs →
    KeptCounts before after fs → finds fs [] → Fetching finds before after
Fetching-first finds before after fs brought kept holds = record {
  first = fs;
  last = [];
  finds = holds;
  mid = after;
  brought = brought;
  brought_log = BroughtWithin-none log_limit after;
  kept = rw (append-nil fs) kept;
}

-- these were fetched before
pub Fetching-after : (finds more : List Fetched → List Fetched → Type 0) (before mid after : Outside) (fs : List Fetched) → Brought before mid fs →
    KeptCounts before mid fs → ((gs hs : List Fetched) → finds gs hs → more (fs ++ gs) hs) → Fetching finds mid after → Fetching more before after
Fetching-after finds more before mid after fs brought kept goes later = record {
  first = fs ++ later.first;
  last = later.last;
  finds = goes later.first later.last later.finds;
  mid = later.mid;
  brought = Brought-then before mid later.mid fs later.first brought later.brought;
  brought_log = later.brought_log;
  kept = rw (append_assoc fs later.first later.last) (KeptCounts-then before mid after fs (later.first ++ later.last) kept later.kept);
}

-- the log alone is fetched
pub FoundInLog-fetched : (judge : Judging) (r : Result Finding CheckFault) (show : ShowData) (log : List ℕ) (got : Got) (before after : Outside) →
    BroughtWithin log_limit before after (of_file log got ∷ []) → ((other : List ℕ) → other ≢ log → after.faults other ≡ before.faults other) →
    IfFound r (FindsOn judge show got) → IfFound r (FoundInLog judge show log before after)
FoundInLog-fetched judge r show log got before after brought others finds =
    IfFound-weaker r (FindsOn judge show got) (FoundInLog judge show log before after) (λ end is. record {
      first = [];
      last = of_file log got ∷ [];
      finds = (refl, (got, refl, is));
      mid = before;
      brought = Brought-none before;
      brought_log = brought;
      kept = KeptCounts-file before after log got others;
    }) finds

-- the text of the log is judged
pub FoundInLog-judged : (judge : Judging) (r : Result Finding CheckFault) (show : ShowData) (log bytes text : List ℕ) (got : Got) (before after : Outside) → got ≡ found bytes →
    text ≡ bytes → BroughtWithin log_limit before after (of_file log got ∷ []) → ((other : List ℕ) → other ≢ log → after.faults other ≡ before.faults other) →
    IfFound r (FindsOf judge show (log_of text)) → IfFound r (FoundInLog judge show log before after)
FoundInLog-judged judge r show log bytes text got before after is same brought others finds =
    FoundInLog-fetched judge r show log got before after brought others
    (IfFound-weaker r (FindsOf judge show (log_of text)) (FindsOn judge show got)
    (λ end holds. subst (λ (g : Got). FindsOn judge show g end) (sym is) (subst (λ t. FindsOf judge show (log_of t) end) same holds)) finds)

-- the show was made, and the log is judged over it
pub FoundOver-made : (judge : Judging) (r : Result Finding CheckFault) (bytes log : List ℕ) (show : ShowData) (before mid after : Outside) →
    ShowRead (lines_of (script bytes)) before mid (Ok show) → IfFound r (FoundInLog judge show log mid after) → IfFound r (FoundOver judge bytes log before after)
FoundOver-made judge r bytes log show before mid after read finds =
    IfFound-weaker r (FoundInLog judge show log mid after) (FoundOver judge bytes log before after)
    (λ end later. Fetching-after _ _ before mid after read.fetches read.brought read.kept
    (λ gs hs holds. rw (holds.0, append-nil read.fetches) (Ok show, read.reads, holds.1)) later) finds

-- a line of the show was refused
pub FoundOver-line : (judge : Judging) (r : Result ShowData ShowFault) (line : ℕ) (code : Code) (bytes log : List ℕ) (before after : Outside) → r ≡ Err (BadLine line code) →
    IfShow r (ShowRead (lines_of (script bytes)) before after) → FoundOver judge bytes log before after (Ok (ShowLine line code))
FoundOver-line judge r line code bytes log before after is shown =
    let read = subst (λ (q : Result ShowData ShowFault). IfShow q (ShowRead (lines_of (script bytes)) before after)) is shown in
    Fetching-first _ before after read.fetches read.brought read.kept (Err (BadLine line code), read.reads, (refl, refl))

-- the shelf failed at a file that a line of the show names
pub FoundOver-shelf : (judge : Judging) (r : Result ShowData ShowFault) (bytes log : List ℕ) (before after : Outside) → r ≡ Err NotFetched →
    IfShow r (ShowRead (lines_of (script bytes)) before after) → FoundOver judge bytes log before after (Err Shelf)
FoundOver-shelf judge r bytes log before after is shown =
    let read = subst (λ (q : Result ShowData ShowFault). IfShow q (ShowRead (lines_of (script bytes)) before after)) is shown in
    Fetching-first _ before after read.fetches read.brought read.kept (Err NotFetched, read.reads, (refl, refl))

-- the bytes of the show's file came
pub Found-fetched : (judge : Judging) (r : Result Finding CheckFault) (show log bytes : List ℕ) (got : Got) (before mid after : Outside) → got ≡ found bytes →
    Brought before mid (of_file show got ∷ []) → ((other : List ℕ) → other ≢ show → mid.faults other ≡ before.faults other) →
    IfFound r (FoundOver judge bytes log mid after) → IfFound r (Found judge show log before after)
Found-fetched judge r show log bytes got before mid after is brought others finds =
    IfFound-weaker r (FoundOver judge bytes log mid after) (Found judge show log before after)
    (λ end later. Fetching-after _ _ before mid after (of_file show got ∷ []) brought (KeptCounts-file before mid show got others)
    (λ gs hs holds. (found bytes, gs, ap (λ g. of_file show g ∷ gs) is, holds)) later) finds

-- the show's file is too large
pub Found-large : (judge : Judging) (show log : List ℕ) (got : Got) (before after : Outside) → got ≡ too_large → Brought before after (of_file show got ∷ []) →
    ((other : List ℕ) → other ≢ show → after.faults other ≡ before.faults other) → Found judge show log before after (Ok ShowLarge)
Found-large judge show log got before after is brought others =
    Fetching-first _ before after (of_file show got ∷ []) brought (KeptCounts-file before after show got others)
    (too_large, [], ap (λ g. of_file show g ∷ []) is, (refl, refl, refl))

-- the shelf failed at the show's file
pub Found-fault : (judge : Judging) (show log : List ℕ) (got : Got) (before after : Outside) → got ≡ fault → Brought before after (of_file show got ∷ []) →
    ((other : List ℕ) → other ≢ show → after.faults other ≡ before.faults other) → Found judge show log before after (Err Shelf)
Found-fault judge show log got before after is brought others =
    Fetching-first _ before after (of_file show got ∷ []) brought (KeptCounts-file before after show got others)
    (fault, [], ap (λ g. of_file show g ∷ []) is, (refl, refl, refl))

-- a fault may always come
pub may_fail : (told : Option (Option (List ℕ))) → MayCome told fault
may_fail None = tt
may_fail (Some None) = tt
may_fail (Some (Some held)) = tt

-- the counts of other files, where these bytes of the show's file came
pub KeepsOthers-fetched : (show log bytes : List ℕ) (got : Got) (before mid after : Outside) → got ≡ found bytes → Brought before mid (of_file show got ∷ []) →
    ((other : List ℕ) → other ≢ show → mid.faults other ≡ before.faults other) →
    ((name : List ℕ) → bytes_eq log name ≡ false → are_naming name (lines_of (script bytes)) ≡ false → after.faults name ≡ mid.faults name) →
    KeepsOthers show log before after
KeepsOthers-fetched show log bytes got before mid after is brought first later = record {
  got = found bytes;
  may = subst (λ (g : Got). MayCome (before.file show) g) is (brought.told 0 absent (omega arith));
  others = λ name not_show not_log unnamed. later name not_log unnamed ∙ first name (other_name show name not_show);
}
