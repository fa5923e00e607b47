use Rattle.std.proofs.Common.{rules, ℕ, List, refl}
use Rattle.rf_base.specs.Name.{IsName}
use Rattle.rf_base.proofs.PaddedLemmas.{padded_is}
use Rattle.rf_base.proofs.name.Name.read.Goals as goal
use Rattle.rf_base.proofs.ListLaws.{take_word}

pub invariant_of-result : goal.invariant_of-result
invariant_of-result c =
    let word : List ℕ = c.args.word.now in
    let name : IsName word = search rules in
    rw (c.copy_from_slice.ensures.after, take_word) (name, padded_is 32 word _ refl, refl)
