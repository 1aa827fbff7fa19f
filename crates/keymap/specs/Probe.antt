-- How a table with open addressing is probed, entry after entry, over the list of its entries. A key counts by its meaning alone.
use Rattle.std.specs.Prelude.{◌≡◌, ℕ, zero, suc, ◌+◌, ◌*◌, ◌%◌, ◌^◌, ◌<◌, Bool, true, false, cond, ◌&&◌, List, [], ◌∷◌, length, Some, None, Option, ◌==◌, ◌≢◌, slice_index_or, slice_set}
use Rattle.keymap.specs.declared.table.Entry.{Entry}

-- two meanings are the same
abbrev pub alike : List ℕ → List ℕ → Bool
alike [] [] = true
alike [] (y ∷ ys) = false
alike (x ∷ xs) [] = false
alike (x ∷ xs) (y ∷ ys) = x == y && alike xs ys

-- the entry after `i` of `n`, and the first after the last
abbrev pub next : ℕ → ℕ → ℕ
next n i = cond (i + 1 == n) 0 (i + 1)

-- where probing for a key of the hash `h` begins, in a table of `n` entries
abbrev pub start : ℕ → ℕ → ℕ
start h n = ((h * 2654435761) % 2 ^ 32) % n

-- probing for a key of the meaning `m` ends at this entry: it is free, or holds the key
abbrev pub stops : {K : Type 0} → (K → List ℕ) → List ℕ → Option (Entry K) → Bool
stops meaning m None = true
stops meaning m (Some e) = alike (meaning e.key) m

-- where probing ends that has come to the entry `i`, with `left` entries to look at: at the first one that is free or holds the key
unfoldable pub seek : {K : Type 0} → (K → List ℕ) → List (Option (Entry K)) → List ℕ → ℕ → ℕ → Option ℕ
seek meaning es m zero i = None
seek meaning es m (suc left) i = cond (stops meaning m (slice_index_or es i None)) (Some i) (seek meaning es m left (next (length es) i))

-- where probing for the meaning `m` ends: none if every entry holds another key
unfoldable pub slot : {K : Type 0} → (K → List ℕ) → (List ℕ → ℕ) → List (Option (Entry K)) → List ℕ → Option ℕ
slot meaning hashed es m = seek meaning es m (length es) (start (hashed m) (length es))

-- the number that an entry holds
abbrev pub number_in : {K : Type 0} → Option (Entry K) → Option ℕ
number_in None = None
number_in (Some e) = Some e.number

-- the number at the entry where probing ended
abbrev pub number_at : {K : Type 0} → List (Option (Entry K)) → Option ℕ → Option ℕ
number_at es None = None
number_at es (Some i) = number_in (slice_index_or es i None)

-- the number that the table holds for the meaning `m`
abbrev pub lookup : {K : Type 0} → (K → List ℕ) → (List ℕ → ℕ) → List (Option (Entry K)) → List ℕ → Option ℕ
lookup meaning hashed es m = number_at es (slot meaning hashed es m)

-- the table once the key `k` is put with the number `v` where probing ended; if it ended nowhere, the table is as it was
abbrev pub put : {K : Type 0} → List (Option (Entry K)) → Option ℕ → K → ℕ → List (Option (Entry K))
put es None k v = es
put es (Some i) k v = slice_set es i (Some (record { key = k; number = v }))

-- every held key is found where probing for it ends
pub record Sound {K : Type 0} (meaning : K → List ℕ) (hashed : List ℕ → ℕ) (es : List (Option (Entry K))) : Type 0 where
  pub own : (i : ℕ) (e : Entry K) → slice_index_or es i None ≡ Some e → slot meaning hashed es (meaning e.key) ≡ Some i

-- no entry is free
abbrev pub Crowded : {K : Type 0} → List (Option (Entry K)) → Type 0
Crowded es = (i : ℕ) → i < length es → slice_index_or es i None ≢ None
