use Rattle.std.proofs.Common.{◌≡◌, true, rules}
use Rattle.std.specs.Result.{is_ok}
use Rattle.csv.specs.Records.{fields_of}
use Rattle.rf_scan.proofs.ScanLemmas.{passed_over, one_point, bad_record, too_many}
use Rattle.rf_scan.proofs.scan.take_record.Goals as goal

pub returns-then-is_passed_over-clause-taken : goal.returns-then-is_passed_over-clause-taken
returns-then-is_passed_over-clause-taken c = λ rest.
    passed_over c.args.number c.args.points.now.items (fields_of c.args.row.now) rest (search rules)

pub returns-in-Err-clause-fault : goal.returns-in-Err-clause-fault
returns-in-Err-clause-fault c _ = λ rest.
    bad_record c.args.number c.args.points.now.items (fields_of c.args.row.now) c.in-Err.field rest (search rules) (search rules)

pub returns-then-len-ge-MAX_POINTS-clause-fault : goal.returns-then-len-ge-MAX_POINTS-clause-fault
returns-then-len-ge-MAX_POINTS-clause-fault c _ = λ rest.
    too_many c.args.number c.args.points.now.items (fields_of c.args.row.now) c.in-Ok.point rest (search rules) (search rules) (search rules)

pub returns-clause-taken : goal.returns-clause-taken
returns-clause-taken c = λ rest.
    let good : is_ok c.push.result ≡ true = search rules in
    let items = rw good at c.push.ensures.items in
    rw items (one_point c.args.number c.args.points.now.items (fields_of c.args.row.now) c.in-Ok.point rest (search rules) (search rules) (search rules))
