use Rattle.std.proofs.Common.{◌≡◌, pos, map, take}
use Rattle.rf_terms.specs.Forms.{form}
use Rattle.rf_terms.proofs.form.weighted.Given as goal

abbrev pub invariant-loop-i : goal.invariant-loop-i
invariant-loop-i l = l.sum ≡ form (take l.i l.coefficients) (map pos (take l.i l.freqs))
