-- What each show of a session's history keeps: no spacing or margin is wider than a text may give, so that the show can be raised.
use Rattle.std.specs.Prelude.{◌≡◌, true}
use Rattle.std.specs.List.{list_all}
use Rattle.rf_editor.specs.History.{History}
use Rattle.rf_show.specs.Raised.{is_textual}

pub record AreTextual (history : History) : Type 0 where
  pub earlier : list_all is_textual history.earlier ≡ true
  pub show : is_textual history.show ≡ true
  pub later : list_all is_textual history.later ≡ true
