-- Names are text.
use Rattle.std.proofs.Common.{ℕ, ◌<◌, List, IsTrue, arith, ◌≡◌, true}
use Rattle.std.proofs.lemmas.Bool.Decides.{nat_tests}
use Rattle.std.specs.List.{list_all}
use Rattle.std.specs.Str.{IsUtf8}
use Rattle.rf_base.specs.Name.{is_name_byte, same_name}
use Rattle.rf_base.proofs.TextLaws.{text_of_low}
use Rattle.std.specs.Cmp.Lexicographic.{nat_list_eq_equiv}

name_low : (b : ℕ) → IsTrue (is_name_byte b) → b < 128
name_low b v = grind (arith, nat_tests)

pub name_text : (bs : List ℕ) → IsTrue (list_all is_name_byte bs) → IsUtf8 bs
name_text = text_of_low is_name_byte name_low

pub own_name : (name : List ℕ) → same_name name name ≡ true
own_name name = nat_list_eq_equiv.refl name
