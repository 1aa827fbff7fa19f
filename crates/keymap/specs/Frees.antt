-- How many entries of a table are free.
use Rattle.std.specs.Prelude.{ℕ, List, Option, is_none, count_by}
use Rattle.keymap.specs.declared.table.Entry.{Entry}

-- the number of free entries
unfoldable pub free : {K : Type 0} → List (Option (Entry K)) → ℕ
free es = count_by is_none es
