use Rattle.std.proofs.Common.{◌≡◌, ap, subst, ◌∙◌, IfOk}
use Rattle.rf_show.specs.Show.{ShowData}
use Rattle.rf_rules.specs.Products.{listed}
use Rattle.rf_table.specs.Tables.{TableData}
use Rattle.rf_table.proofs.table.Table.products.Goals as goal

pub returns : goal.returns
returns c = λ show stands.
    let e : c.self.inside.kept ≡ show = ap (λ (t : TableData). t.kept) c.self.view_is ∙ stands.kept in
    let P : ShowData → Type 0 = λ s. IfOk c.products.result (λ found. found ≡ listed s c.args.lo c.args.hi) in
    subst P e c.products.ensures
