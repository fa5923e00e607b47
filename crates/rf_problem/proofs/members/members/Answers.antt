use Rattle.std.proofs.Common.{◌≡◌, ◌∙◌, ◌+◌, true, false, length, sym, ap, arith}
use Rattle.std.proofs.lemmas.List.{length_push}
use Rattle.rf_zones.specs.Masks.{has_bit}
use Rattle.rf_problem.specs.Problem.{members_of}
use Rattle.rf_problem.proofs.MemberLemmas.{members_passed, members_taken, members_on, members_fewer}
use Rattle.rf_problem.proofs.members.members.Goals as goal

pub loop-c-preserved-then-not-has : goal.loop-c-preserved-then-not-has
loop-c-preserved-then-not-has c =
    let off : has_bit c.args.mask c.loop-c.c ≡ false = sym c.has.ensures ∙ c.if-not-has.true in
    members_passed c.args.mask c.loop-c.c c.loop-c.len c.loop-c.all c.loop-c.invariant off

pub bounds-all-len : goal.bounds-all-len
bounds-all-len c =
    let on : has_bit c.args.mask c.loop-c.c ≡ true = sym c.has.ensures ∙ c.if-not-has.false in
    omega (
      arith,
      c.loop-c.invariant.counted,
      members_fewer c.args.mask (c.loop-c.c + 1) c.args.count (omega arith),
      ap length (members_on c.args.mask c.loop-c.c on),
      length_push (members_of c.loop-c.c c.args.mask) c.loop-c.c,
      c.requires.four,
    )

pub loop-c-preserved : goal.loop-c-preserved
loop-c-preserved c =
    let on : has_bit c.args.mask c.loop-c.c ≡ true = sym c.has.ensures ∙ c.if-not-has.false in
    members_taken c.args.mask c.loop-c.c c.loop-c.len c.loop-c.all c.loop-c.invariant on
    (omega (
      arith,
      c.loop-c.invariant.counted,
      members_fewer c.args.mask (c.loop-c.c + 1) c.args.count (omega arith),
      ap length (members_on c.args.mask c.loop-c.c on),
      length_push (members_of c.loop-c.c c.args.mask) c.loop-c.c,
      c.requires.four,
    ))
