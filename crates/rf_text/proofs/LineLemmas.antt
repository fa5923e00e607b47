-- What is written one after another.
use Rattle.std.proofs.Common.{append_assoc}
use Rattle.std.proofs.lemmas.List.Concat.{flat_map-append}

pub ruleset pieces = (flat_map-append, append_assoc)
