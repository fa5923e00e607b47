use Rattle.std.proofs.Common.{◌≡◌, ◌++◌, take, string_bytes}
use Rattle.std.specs.List.{flat_map}
use Rattle.rf_report.specs.Reports.{product_line}
use Rattle.rf_report.proofs.product_report.write_lines.Given as goal

abbrev pub invariant-loop-product : goal.invariant-loop-product
invariant-loop-product l =
    string_bytes l.text ≡ string_bytes l.initial.text ++ flat_map (product_line l.carriers) (take l.product-index l.products)
