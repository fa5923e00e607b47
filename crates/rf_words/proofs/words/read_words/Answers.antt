use Rattle.std.proofs.Common.{◌∙◌, ap}
use Rattle.std.proofs.lemmas.Result.{IfErr-weaker, IfOk-weaker}
use Rattle.clap.specs.Words.{is_simple, is_simple_and_free}
use Rattle.rf_words.proofs.PlainLaws.{app_free, app_simple, asked_plain, not_taken, plain_asked, taken}
use Rattle.rf_words.proofs.words.read_words.Goals as goal

pub returns-in-Err-clause-plain : goal.returns-in-Err-clause-plain
returns-in-Err-clause-plain c = plain_asked _

pub returns-in-Err-clause-of_plain : goal.returns-in-Err-clause-of_plain
returns-in-Err-clause-of_plain c = asked_plain _

pub returns-in-Ok-try_get_matches_from-clause-asked : goal.returns-in-Ok-try_get_matches_from-clause-asked
returns-in-Ok-try_get_matches_from-clause-asked c =
    let answer = c.in-Ok-try_get_matches_from.ensures in
    IfOk-weaker c.asked_of.result _ _
    (λ asked is. taken _ _ _ c.in-Ok.ensures (answer.kinds (ap is_simple_and_free c.in-Ok.ensures ∙ app_free))
    (answer.matches (ap is_simple c.in-Ok.ensures ∙ app_simple)).1 ∙ is) c.asked_of.ensures.asked

pub returns-in-Ok-try_get_matches_from-clause-usage : goal.returns-in-Ok-try_get_matches_from-clause-usage
returns-in-Ok-try_get_matches_from-clause-usage c =
    let answer = c.in-Ok-try_get_matches_from.ensures in
    IfErr-weaker c.asked_of.result _ _
    (λ e is other. taken _ _ _ c.in-Ok.ensures (answer.kinds (ap is_simple_and_free c.in-Ok.ensures ∙ app_free))
    (answer.matches (ap is_simple c.in-Ok.ensures ∙ app_simple)).1 ∙ is other) c.asked_of.ensures.usage

pub returns-in-Ok-try_get_matches_from-clause-plain : goal.returns-in-Ok-try_get_matches_from-clause-plain
returns-in-Ok-try_get_matches_from-clause-plain c = plain_asked _

pub returns-in-Ok-try_get_matches_from-clause-of_plain : goal.returns-in-Ok-try_get_matches_from-clause-of_plain
returns-in-Ok-try_get_matches_from-clause-of_plain c = asked_plain _

pub returns-in-OutOfMemory-clause-plain : goal.returns-in-OutOfMemory-clause-plain
returns-in-OutOfMemory-clause-plain c = plain_asked _

pub returns-in-OutOfMemory-clause-of_plain : goal.returns-in-OutOfMemory-clause-of_plain
returns-in-OutOfMemory-clause-of_plain c = asked_plain _

pub returns : goal.returns
returns c = record {
  asked = tt;
  usage = λ _. not_taken _ _ c.in-Err-try_get_matches_from.e c.in-Ok.ensures
      (c.in-Err-try_get_matches_from.ensures.kinds (ap is_simple_and_free c.in-Ok.ensures ∙ app_free))
      (λ memory. c.in_default.not-OutOfMemory (c.kind.ensures ∙ memory));
  plain = plain_asked _;
  of_plain = asked_plain _;
}
