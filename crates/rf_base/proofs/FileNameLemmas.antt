-- File names are text.
use Rattle.std.proofs.Common.{ℕ, ◌<◌, List, IsTrue, arith}
use Rattle.std.proofs.lemmas.Bool.Decides.{nat_tests}
use Rattle.std.specs.List.{list_all}
use Rattle.std.specs.Str.{IsUtf8}
use Rattle.rf_base.specs.FileName.{is_visible}
use Rattle.rf_base.proofs.TextLaws.{text_of_low}

visible_low : (b : ℕ) → IsTrue (is_visible b) → b < 128
visible_low b v = grind (arith, nat_tests)

-- visible bytes are text
pub visible_text : (bs : List ℕ) → IsTrue (list_all is_visible bs) → IsUtf8 bs
visible_text = text_of_low is_visible visible_low
