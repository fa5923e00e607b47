use Rattle.std.proofs.Common.{◌≡◌, ◌∙◌, ◌+◌, ◌<◌, ◌++◌, ◌∷◌, [], ℕ, List, Bool, length, ap, arith, length-append, Option, None, slice_index_or}
use Rattle.rf_show.specs.Case.{case_of}
use Rattle.rf_audit.specs.Left.{has, fixed_at}
use Rattle.rf_log.specs.Case.{count_of, is_allowed}
use Rattle.rf_audit.proofs.Sets.{at-push}
use Rattle.rf_audit.proofs.Starts.{free-more, starts}
use Rattle.rf_audit.proofs.left.Left.start.Goals as goal

pub loop-row-preserved : goal.loop-row-preserved
loop-row-preserved c =
    let case = case_of c.args.show.now in
    let i = c.loop-row.row-index in
    let sets = c.loop-row.sets.items in
    let fixed = c.loop-row.fixed.items in
    let marks = c.in_ok-copy.field-0 in
    let more : c.push.new.self.items ≡ sets ++ marks ∷ [] = c.in_ok-push.ensures.items in
    let more_fixed : c.push-in-loop-row.new.self.items ≡ fixed ++ None ∷ [] = c.in_ok-push-2.ensures.items in
    let low : i < length c.args.table.now.rows.items = let e = ap length c.deref-row-items.ensures.value in let t = c.loop-row-test.true in omega (arith, e, t) in
    let row = c.requires.table.row i low c.row-item.result (c.row-item.is ∙ ap (λ xs. slice_index_or xs i c.row-item.result) c.deref-row-items.ensures.value) in
    record {
      full = ap length more ∙ length-append sets (marks ∷ []) ∙ ap (λ (m : ℕ). m + 1) c.loop-row.invariant.full;
      fixed_full = ap length more_fixed ∙ length-append fixed (None ∷ []) ∙ ap (λ (m : ℕ). m + 1) c.loop-row.invariant.fixed_full;
      free = λ d. ap (λ (fs : List (Option ℕ)). fixed_at fs d) more_fixed ∙ free-more fixed c.loop-row.invariant.free d;
      sizes = rw more (at-push (λ d ms. length ms ≡ count_of case d) sets marks [] i c.loop-row.invariant.full c.loop-row.invariant.sizes (ap length c.in_ok-copy.ensures ∙ row.full));
      allowed = rw more (λ d k low_d. at-push (λ d ms. k < count_of case d → has ms k ≡ is_allowed case d k) sets marks [] i c.loop-row.invariant.full
          (λ x low_x. c.loop-row.invariant.allowed x k low_x) (λ known. ap (λ (m : List Bool). has m k) c.in_ok-copy.ensures ∙ row.allows k known) d low_d);
    }

pub returns : goal.returns
returns c =
    let last : c.loop-row.row-index ≡ length (case_of c.args.show.now).carriers =
    omega (arith, c.requires.table.full, ap length c.deref-row-items.ensures.value, c.loop-row-test.false, c.loop-row.auto.row-index-end) in
    starts (case_of c.args.show.now) c.loop-row.fixed.items c.loop-row.sets.items (c.loop-row.invariant.full ∙ last) (c.loop-row.invariant.fixed_full ∙ last) c.loop-row.invariant.free
    (λ d low. c.loop-row.invariant.sizes d (omega (arith, last, low))) (λ d k low known. c.loop-row.invariant.allowed d k (omega (arith, last, low)) known)
