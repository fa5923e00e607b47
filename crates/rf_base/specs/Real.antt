-- What the system's errors mean for a file.
use Rattle.rf_base.specs.declared.shelf.Fetch.{Fetch}
use Rattle.rf_base.specs.declared.shelf.Fetch.TheVariants.{Failed, Memory}
use Rattle.std.specs.declared.io.ErrorKind.{ErrorKind}
use Rattle.std.specs.declared.io.ErrorKind.TheVariants.{OutOfMemory}

-- want of memory, where the system says so
abbrev pub fetch_of : ErrorKind → Fetch
fetch_of OutOfMemory = Memory
fetch_of _ = Failed
