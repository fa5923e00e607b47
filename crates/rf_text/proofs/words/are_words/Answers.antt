use Rattle.std.proofs.Common.{rules, tests}
use Rattle.std.proofs.lemmas.Iterator.Search.{all_from_yields_List}
use Rattle.std.proofs.lemmas.Iterator.Splits.{YieldsList-from_slice_split}
use Rattle.rf_text.specs.Words as spec
use Rattle.rf_base.specs.Words.{is_space}
use Rattle.rf_text.proofs.words.are_words.Goals as goal

pub returns : goal.returns
returns c = all_from_yields_List spec.is_word _ _ _ c.all.ensures.ran
    (YieldsList-from_slice_split _ is_space c.args.line.now c.split.ensures.rest c.split.ensures.done c.split.ensures.closure (λ x b q k. search (rules, tests)))
    (λ x b q k. search (rules, tests))
