use Rattle.std.proofs.Common.{rules, ℕ, List, refl}
use Rattle.rf_base.specs.FileName.{IsFileName}
use Rattle.rf_base.proofs.PaddedLemmas.{padded_is}
use Rattle.rf_base.proofs.file_name.FileName.read.Goals as goal
use Rattle.rf_base.proofs.ListLaws.{take_word}

pub invariant_of-result : goal.invariant_of-result
invariant_of-result c =
    let word : List ℕ = c.args.word.now in
    let name : IsFileName word = search rules in
    rw (c.copy_from_slice.ensures.after, take_word) (name, padded_is 255 word _ refl, refl)
