use Rattle.std.proofs.Common.{◌∙◌, sym}
use Rattle.std.proofs.lemmas.Bool.{false≢true}
use Rattle.std.proofs.lemmas.Result.{IfOk-weaker, IfErr-weaker}
use Rattle.rf_profiles.proofs.FileLemmas.{file_read, file_refused}
use Rattle.rf_profiles.proofs.file.read_profiles.Goals as goal

pub returns-in-Ok-clause-profiles : goal.returns-in-Ok-clause-profiles
returns-in-Ok-clause-profiles c =
    IfOk-weaker c.profiles_in.result _ _ (λ ps h. file_read c.args.bytes.now _ c.in-Ok.ensures.ok ∙ h) c.profiles_in.ensures.profiles

pub returns-in-Ok-clause-fault : goal.returns-in-Ok-clause-fault
returns-in-Ok-clause-fault c =
    IfErr-weaker c.profiles_in.result _ _ (λ e h n. file_read c.args.bytes.now _ c.in-Ok.ensures.ok ∙ h n) c.profiles_in.ensures.fault

pub returns-else-is_memory-clause-fault : goal.returns-else-is_memory-clause-fault
returns-else-is_memory-clause-fault c _ =
    file_refused c.args.bytes.now (c.in-Err.ensures.refused (λ m. false≢true (sym c.if-is_memory.false ∙ c.is_memory.ensures.1 m)))
