-- Places in some bytes.
use Rattle.std.specs.Prelude.{ℕ, ◌-◌, List, take, drop}

-- the bytes from one place to another
abbrev pub between : List ℕ → ℕ → ℕ → List ℕ
between bytes from to = take (to - from) (drop from bytes)
