use Rattle.std.proofs.Common.{◌≡◌, ◌+◌, ◌∙◌, rules, true, string_bytes, Ok, Err}
use Rattle.std.specs.Result.{is_ok}
use Rattle.toml.specs.View.{view}
use Rattle.rf_profiles.specs.File.{profile_at}
use Rattle.rf_profiles.proofs.DocumentLemmas.{Fits-more, Fits-end}
use Rattle.rf_profiles.proofs.FileLemmas.{profile_bad, profile_good, profiles_done}
use Rattle.rf_profiles.proofs.file.profiles_in.Goals as goal

pub returns-in-Err-clause-fault : goal.returns-in-Err-clause-fault
returns-in-Err-clause-fault c _ =
    let step = rw c.in-Some.is at c.next.ensures.steps in
    let n : c.in-Some-checked_add.number ≡ c.loop-key.number + 1 = search rules in
    let bad : profile_at (string_bytes c.in-Some.key.now) (view c.in-Some.value.now) ≡ Err c.in-Err.field = search rules in
    rw n (c.loop-key.invariant.0 ∙ profile_bad _ _ _ _ _ _ step bad)

pub loop-key-preserved : goal.loop-key-preserved
loop-key-preserved c =
    let step = rw c.in-Some.is at c.next.ensures.steps in
    let n : c.in-Some-checked_add.number ≡ c.loop-key.number + 1 = search rules in
    let good : profile_at (string_bytes c.in-Some.key.now) (view c.in-Some.value.now) ≡ Ok c.in-Ok.profile = search rules in
    let name : c.in-Ok.profile.name ≡ string_bytes c.in-Some.key.now = search rules in
    let pushed : is_ok c.push.result ≡ true = search rules in
    let items = rw pushed at c.push.ensures.items in (
      rw (n, items) (c.loop-key.invariant.0 ∙ profile_good _ _ _ _ _ _ step good),
      rw items (Fits-more _ _ _ _ _ _ c.loop-key.invariant.1 step name c.in-Ok.ensures.numbers),
    )

pub returns-clause-profiles : goal.returns-clause-profiles
returns-clause-profiles c =
    let step = rw c.in-None.is at c.next.ensures.steps in
    c.loop-key.invariant.0 ∙ profiles_done _ _ _ step.0

pub returns-clause-names : goal.returns-clause-names
returns-clause-names c =
    let step = rw c.in-None.is at c.next.ensures.steps in
    Fits-end _ _ (rw step.0 at c.loop-key.invariant.1) c.into_iter-key-iterator.ensures.into_iter_gives.5
