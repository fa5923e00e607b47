use Rattle.rf_terms.specs.Kinds.{text_of}
use Rattle.rf_report.proofs.LineLemmas.{line_in_pieces}
use Rattle.rf_report.specs.Names.{source_names}
use Rattle.rf_report.specs.Reports.{conflict_line, hit_words}
use Rattle.rf_report.proofs.report.write_conflict.Goals as goal

pub returns-in_ok-write_hit-in-Product : goal.returns-in_ok-write_hit-in-Product
unfolding conflict_line
returns-in_ok-write_hit-in-Product c =
    let p = c.in-Product in
    let carriers = c.args.carriers.now in
    let victim = c.name_at-victim.ensures in
    rw (p.is, ← victim) (line_in_pieces _ _ _ (text_of p.kind) (source_names carriers p.kind p.sources) (hit_words c.name_at-victim.result.now p.product p.distance p.needs)
    c.in_ok-write_product-in-Product.ensures c.in_ok-write_hit-in-Product.ensures)
