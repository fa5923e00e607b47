use Rattle.std.proofs.Common.{◌≡◌, ◌∙◌, true, false, length, Some, arith, rules, refl, ap, inr, ◌==◌}
use Rattle.csv.specs.Reading.{builder_config, builder_names_headers, builder_trim}
use Rattle.rf_scan.specs.Scan.{scan_from}
use Rattle.rf_scan.proofs.ScanLemmas.{started, read_one, read_end, number_fits, taken, refused, handed_on}
use Rattle.rf_scan.proofs.scan.read_scan.Goals as goal

pub loop-row-init : goal.loop-row-init
loop-row-init c =
    let fr = c.from_reader-rdr.ensures in
    let start = c.into_iter-row-iterator.ensures.into_iter_gives ∙ refl in
    let rdr = c.into_byte_records-row-items.ensures.rdr in
    let left = c.into_byte_records-row-items.ensures.left in
    let f = c.flexible.ensures in
    let h = c.has_headers.ensures in
    let d = c.delimiter.ensures in
    rw (start, rdr, c.new-points.ensures.items) (started c.args.sep c.args.bytes.now c.from_reader-rdr.result _
    (fr.trim ∙ ap builder_trim f ∙ ap builder_trim h ∙ ap builder_trim d ∙ c.new.ensures.trim)
    (inr (inr (fr.has_headers ∙ ap builder_names_headers f ∙ ap builder_names_headers h, fr.headers)))
    left
    (fr.config ∙ ap builder_config f ∙ ap builder_config h ∙ ap builder_config d ∙ rw (c.new.ensures.config, c.separator.ensures) refl)
    fr.state fr.source)

pub overflow_add-number : goal.overflow_add-number
overflow_add-number c =
    let inv = c.loop-row.invariant in
    let a = read_one c.next.new.self.rdr c.next.new.self.left inv (c.next.ensures.steps inv.at.turns inv.at.trim).0 (c.in-Some.is ∙ ap Some c.in-Ok.is) in
    omega (arith, number_fits a, c.requires)

pub returns-in_err-take_record-clause-fault : goal.returns-in_err-take_record-clause-fault
returns-in_err-take_record-clause-fault c =
    let inv = c.loop-row.invariant in
    let a = read_one c.next.new.self.rdr c.next.new.self.left inv (c.next.ensures.steps inv.at.turns inv.at.trim).0 (c.in-Some.is ∙ ap Some c.in-Ok.is) in
    handed_on _ _ _ c.from_residual.ensures.1 (λ other. refused _ a (c.in_err-take_record.ensures.fault other))

pub loop-row-preserved : goal.loop-row-preserved
loop-row-preserved c =
    let inv = c.loop-row.invariant in
    let a = read_one c.next.new.self.rdr c.next.new.self.left inv (c.next.ensures.steps inv.at.turns inv.at.trim).0 (c.in-Some.is ∙ ap Some c.in-Ok.is) in
    taken _ a c.in_ok-take_record.ensures.taken

pub returns-then-is_empty-clause-fault : goal.returns-then-is_empty-clause-fault
unfolding scan_from
returns-then-is_empty-clause-fault c _ =
    let inv = c.loop-row.invariant in
    let e = read_end c.next.new.self.rdr c.next.new.self.left inv (c.next.ensures.steps inv.at.turns inv.at.trim).0 c.in-None.is in
    let none : (length c.loop-row.points.items == 0) ≡ true = search rules in
    e ∙ rw none refl

pub returns-clause-points : goal.returns-clause-points
unfolding scan_from
returns-clause-points c =
    let inv = c.loop-row.invariant in
    let e = read_end c.next.new.self.rdr c.next.new.self.left inv (c.next.ensures.steps inv.at.turns inv.at.trim).0 c.in-None.is in
    let some : (length c.loop-row.points.items == 0) ≡ false = search rules in
    e ∙ rw some refl
