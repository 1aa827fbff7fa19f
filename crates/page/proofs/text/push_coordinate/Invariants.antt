use Rattle.std.proofs.Common.{◌≡◌, ◌+◌, ◌%◌, ◌≤◌, ◌++◌, map, take}
use Rattle.arrayvec.specs.ArrayString.{array_string_len}
use Rattle.page.proofs.text.push_coordinate.Given as goal

-- the text so far has the last digits of the numbers that are past
abbrev pub invariant-loop-front : goal.invariant-loop-front
invariant-loop-front l =
    (l.text.bytes ≡ l.initial.text.bytes ++ map (λ m. 48 + m % 10) (take l.front-index l.front-items))
    × (array_string_len l.text ≤ array_string_len l.initial.text + l.front-index)
