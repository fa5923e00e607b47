use Rattle.std.proofs.Common.{◌≡◌, ◌++◌, ◌∷◌, [], ◌∙◌, ap, arith, length, sym, None, Some, length-append}
use Rattle.rf_spares.specs.Harms.{harms}
use Rattle.rf_spares.specs.Searches.{site}
use Rattle.rf_spares.proofs.FieldLemmas.{gained-marks}
use Rattle.rf_spares.proofs.HarmLemmas.{harms-more}
use Rattle.rf_spares.proofs.field.Field.settle.Goals as goal

pub returns-clause-known : goal.returns-clause-known
returns-clause-known c =
    let old = c.args.self.now in
    let more = c.in_ok-push.ensures.items in
    let all : c.deref.result.now ≡ old.ats.items ++ Some c.args.khz ∷ [] = c.deref.ensures.value ∙ more in
    let place : c.len-place.result ≡ length old.ats.items =
    omega (arith, c.len-place.ensures, c.deref.ensures.len, c.in_ok-push.ensures.len, ap length all, length-append old.ats.items (Some c.args.khz ∷ [])) in
    let gains = rw (all, place) at c.mark_all.ensures in
    record {
      known = c.requires.known.known;
      few = omega (arith, c.requires.room, ap length more, length-append old.ats.items (Some c.args.khz ∷ []));
      spans = λ k low. let spans = c.requires.known.spans k low in (omega (arith, spans.0, gains.low), omega (arith, spans.1, gains.low, gains.size));
      marks = λ f few spans. gained-marks old.marks c.mark_all.new.marks _ _ c.requires.known.marks gains f few spans
          ∙ (sym (harms-more (site old.crowd) old.ats.items c.args.khz f) ∙ ap (λ zs. harms (site old.crowd) zs None f) (sym more));
    }
