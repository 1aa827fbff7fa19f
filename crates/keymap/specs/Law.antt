-- What makes the table a map.
use Rattle.std.specs.Prelude.{◌≡◌, ℕ, true, List, is_some, Some, Option, ◌≢◌}
use Rattle.keymap.specs.declared.table.Entry.{Entry}
use Rattle.keymap.specs.Probe.{slot, lookup, Sound}

-- After `k` was put with the number `v`, where there was an entry for it: the table is sound again, it holds `v` for `k`, and for every
-- other meaning what it held before.
pub record Maps {K : Type 0} (meaning : K → List ℕ) (hashed : List ℕ → ℕ) (before after : List (Option (Entry K))) (k : K) (v : ℕ) : Type 0 where
  pub sound : Sound meaning hashed after
  pub here : is_some (slot meaning hashed before (meaning k)) ≡ true → lookup meaning hashed after (meaning k) ≡ Some v
  pub others : (m : List ℕ) → (m ≢ meaning k) → lookup meaning hashed after m ≡ lookup meaning hashed before m
