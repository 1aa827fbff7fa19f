-- What the questions answer.
use Rattle.std.specs.Prelude.{◌≡◌, ℕ, ◌<◌, ◌≤◌, List, Ok, Err, Result, slice_index_or}
use Rattle.refusal.specs.declared.refusals.Refusal.{Refusal}
use Rattle.refusal.specs.declared.refusals.Refusal.TheVariants.{Outside}

-- the record of the number n, of those below the count; another number is refused
abbrev pub RecordAnswer : {X : Type 0} → List X → ℕ → ℕ → Result X Refusal → Type 0
RecordAnswer {X} items count n (Ok x) = (n < count) × ((d : X) → x ≡ slice_index_or items n d)
RecordAnswer items count n (Err e) = (count ≤ n) × (e ≡ Outside n)
