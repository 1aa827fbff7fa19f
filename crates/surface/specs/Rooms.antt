-- How many records a table has left.
use Rattle.std.specs.Prelude.{ℕ, ◌-◌, min}

-- of a table of that length, with so many records taken; numbers have 32 bits, so that no more than 4,294,967,295 records are used
abbrev pub room_left : ℕ → ℕ → ℕ
room_left long count = min long 4294967295 - count
