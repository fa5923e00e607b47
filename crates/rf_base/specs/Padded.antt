use Rattle.std.specs.Prelude.{ℕ, List, ◌++◌, ◌-◌, length, replicate}

-- a word, and zeros up to a width
unfoldable pub padded : ℕ → List ℕ → List ℕ
padded width word = word ++ replicate (width - length word) 0
