use Rattle.std.proofs.Common.{◌≡◌, ◌∙◌, ap, ap₂, rules, codes}
use Rattle.std.proofs.lemmas.Result.{IfOk-weaker}
use Rattle.clap.specs.Words.{App, app_of, new_app}
use Rattle.clap.specs.Simple.{with_subcommand}
use Rattle.rf_words.specs.Words.{app, bare, two_operands}
use Rattle.rf_words.proofs.words.command.Goals as goal

pub returns : goal.returns
unfolding app
returns c =
    let bare_is : app_of c.disable_help_subcommand.result ≡ bare = search rules in
    let first : app_of c.in_ok-subcommand.field-0 ≡ with_subcommand bare (new_app (codes "session")).top =
    c.in_ok-subcommand.ensures.shape c.new-session.ensures.local ∙ ap₂ with_subcommand bare_is (ap (λ (a : App). a.top) c.new-session.ensures.app) in
    let second : app_of c.in_ok-subcommand-2.field-0 ≡ with_subcommand (with_subcommand bare (new_app (codes "session")).top) (two_operands (codes "check") (codes "show") (codes "log")).top =
    c.in_ok-subcommand-2.ensures.shape c.in_ok-check.ensures.local ∙ ap₂ with_subcommand first (ap (λ (a : App). a.top) c.in_ok-check.ensures.app) in
    let third = c.in_ok-subcommand-3.ensures.shape c.in_ok-audit.ensures.local ∙ ap₂ with_subcommand second (ap (λ (a : App). a.top) c.in_ok-audit.ensures.app) in
    IfOk-weaker c.subcommand-4.result _ _
    (λ r adds. adds.shape c.in_ok-demo.ensures.local ∙ ap₂ with_subcommand third (ap (λ (a : App). a.top) c.in_ok-demo.ensures.app)) c.subcommand-4.ensures
