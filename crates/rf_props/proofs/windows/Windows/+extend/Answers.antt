use Rattle.std.proofs.Common.{◌≡◌, ◌+◌, ◌<◌, length, take, arith}
use Rattle.std.proofs.lemmas.List.Elements.{All-push}
use Rattle.rf_terms.specs.Kinds.{roles_of}
use Rattle.rf_props.proofs.SweepLemmas.{role_more}
use Rattle.rf_props.proofs.windows.Windows.+extend.Goals as goal

pub extend-requires : goal.extend-requires
extend-requires t c =
    let s = c.args.self.now in
    let four : length c.args.others ≡ 4 = omega arith in
    let deep : c.args.depth + 1 < roles_of s.kind = omega (arith, c.requires.depth, c.roles.ensures.value) in
    let e = role_more c.args.others c.args.depth c.loop-carrier.carrier (roles_of s.kind) four c.requires.depth (omega (arith, c.roles.ensures.value, c.roles.ensures.bounds.1)) in
    let low : c.loop-carrier.carrier < length s.problem.now.carriers = omega (arith, c.carriers-carrier-end.ensures.counted) in (
      omega (arith, deep, c.decreases),
      (
        c.requires.sized,
        (
          c.requires.target,
          (
            c.requires.few,
            (
              c.requires.place,
              (
                deep,
                rw e (All-push (λ x. x < length s.problem.now.carriers) (take c.args.depth c.args.others) c.loop-carrier.carrier c.requires.known low),
              ),
            ),
          ),
        ),
      ),
    )
