-- What a table is, and the show for which it stands.
use Rattle.std.specs.Prelude.{◌≡◌, ℕ}
use Rattle.rf_show.specs.Show.{ShowData}
use Rattle.rf_rules.specs.Analyses.{analysed}
use Rattle.rf_rules.specs.declared.analysis.Analysis.{Analysis}

-- a show, an analysis, and how many products' values were computed so far
pub record TableData : Type 0 where
  pub kept : ShowData
  pub analysis : Analysis
  pub evaluated : ℕ

-- the show is this, and so is the analysis
pub record StandsFor (table : TableData) (show : ShowData) : Type 0 where
  pub kept : table.kept ≡ show
  pub analysis : table.analysis ≡ analysed show
