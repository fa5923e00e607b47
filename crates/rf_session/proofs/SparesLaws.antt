-- The text of an answer on spare channels is the reply.
use Rattle.std.proofs.Common.{◌≡◌, ◌∙◌, ℕ, List, refl, subst}
use Rattle.rf_show.specs.Show.{ShowData}
use Rattle.rf_spares.specs.Spare.{chosen, spare_channels}
use Rattle.rf_spares.specs.Texts.{spares_text_of, text_of}
use Rattle.rf_spares.specs.declared.answer.Spares.{Spares}

same_text : (show : ShowData) (profile zone count : ℕ) (found : Spares) → found.free ≡ spare_channels show profile zone →
    found.taken ≡ chosen show profile zone count → text_of show profile found ≡ spares_text_of show profile zone count
same_text show profile zone count found free taken = rw (free, taken) refl

pub spares_text_is : (show here : ShowData) (profile zone count : ℕ) (found : Spares) (text : List ℕ) → here ≡ show →
    found.free ≡ spare_channels here profile zone → found.taken ≡ chosen here profile zone count → text ≡ text_of here profile found →
    text ≡ spares_text_of show profile zone count
spares_text_is show here profile zone count found text same free taken is =
    subst (λ (s : ShowData). text ≡ spares_text_of s profile zone count) same (is ∙ same_text here profile zone count found free taken)
