-- The asks that a shelf in memory keeps.
use Rattle.std.specs.Prelude.{◌<◌, List, map, vec_len, vec_capacity}
use Rattle.std.specs.String.{string_bytes}
use Rattle.rf_base.specs.Shelf.{Ask}
use Rattle.rf_base.specs.declared.asks.Asked.{Asked}
use Rattle.rf_base.specs.declared.asks.Asks.{Asks}

abbrev pub ask_of : Asked → Ask
ask_of asked = (string_bytes asked.name, asked.failed)

-- the asks, in order
abbrev pub asks_in : Asks → List Ask
asks_in asks = map ask_of asks.items.items

-- There is room for one ask more.
abbrev pub HasRoom : Asks → Type 0
HasRoom asks = vec_len asks.items < vec_capacity asks.items
