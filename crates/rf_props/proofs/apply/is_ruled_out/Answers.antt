use Rattle.std.proofs.Common.{◌∙◌, ◌&&◌, Bool, sym, ap, nat_le, le-leb}
use Rattle.rf_problem.specs.Problem.{case_of}
use Rattle.rf_domain.specs.Sets.{has}
use Rattle.rf_props.proofs.ApplyLemmas.{by_many, by_none, by_range, off_and}
use Rattle.rf_props.proofs.apply.is_ruled_out.Goals as goal

pub returns-in_default : goal.returns-in_default
returns-in_default c =
    by_many (case_of c.args.problem.now) (has c.args.sets.now) c.args.kind c.args.roles.now c.others_of-all.result c.args.place c.args.lo c.args.hi c.requires.place c.others_of-all.ensures
    (sym c.is_instance.ensures ∙ c.if-not-is_instance.false) c.in_default.ensures c.requires.range

pub returns-in-None : goal.returns-in-None
returns-in-None c =
    by_none (case_of c.args.problem.now) (has c.args.sets.now) c.args.kind c.args.roles.now c.others_of-all.result c.in-Some.freqs c.args.place c.args.lo c.args.hi c.requires.place
    c.others_of-all.ensures
    (sym c.is_instance.ensures ∙ c.if-not-is_instance.false) c.in-Some.ensures c.in-None.ensures c.requires.range

pub returns-then-first-lo : goal.returns-then-first-lo
returns-then-first-lo c =
    ap (λ (b : Bool). b && nat_le c.args.hi c.in-Some-broken_range.last) (sym (le-leb c.in-Some-broken_range.first c.args.lo c.if-first-lo.true))
    ∙ by_range (case_of c.args.problem.now) (has c.args.sets.now) c.args.kind c.args.roles.now c.others_of-all.result c.in-Some.freqs c.args.place c.in-Some-broken_range.first
    c.in-Some-broken_range.last c.args.lo c.args.hi
    c.requires.place c.others_of-all.ensures (sym c.is_instance.ensures ∙ c.if-not-is_instance.false) c.in-Some.ensures c.in-Some-broken_range.ensures c.requires.range

pub returns-else-first-lo : goal.returns-else-first-lo
returns-else-first-lo c =
    off_and c.in-Some-broken_range.first c.args.lo (nat_le c.args.hi c.in-Some-broken_range.last) c.if-first-lo.false
    ∙ by_range (case_of c.args.problem.now) (has c.args.sets.now) c.args.kind c.args.roles.now c.others_of-all.result c.in-Some.freqs c.args.place c.in-Some-broken_range.first
    c.in-Some-broken_range.last c.args.lo c.args.hi
    c.requires.place c.others_of-all.ensures (sym c.is_instance.ensures ∙ c.if-not-is_instance.false) c.in-Some.ensures c.in-Some-broken_range.ensures c.requires.range
