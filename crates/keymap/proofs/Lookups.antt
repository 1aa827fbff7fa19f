-- What a table holds, after a put, by its entries and once it is cleared. Assumes nothing.
use Rattle.std.proofs.Common.{◌≡◌, ℕ, zero, suc, ◌<◌, true, List, length, get_or, replicate, is_some, Some, None, Option, refl, ap, ◌∙◌, ⊎_elim}
use Rattle.std.proofs.lemmas.List.{get_or_past}
use Rattle.std.proofs.lemmas.Bool.{cases_lt, false≢true}
use Rattle.keymap.specs.declared.table.Entry.{Entry}
use Rattle.keymap.specs.Probe.{stops, slot, number_in, number_at, lookup, put, Sound}
use Rattle.keymap.proofs.Laws.{held, alike_true, slot_stops, slot_below, lookup_set}

-- an entry that holds the number `n` for a key of the meaning `m`
pub record Holder {K : Type 0} (meaning : K → List ℕ) (es : List (Option (Entry K))) (m : List ℕ) (n : ℕ) : Type 0 where
  pub index : ℕ
  pub key : K
  pub below : index < length es
  pub held : get_or es index None ≡ Some (record { key = key; number = n })
  pub means : meaning key ≡ m

module _ {K : Type 0} where
  -- each entry of a cleared table is free
  cleared_free : (n i : ℕ) → get_or {A = Option (Entry K)} (replicate n None) i None ≡ None
  cleared_free zero i = refl
  cleared_free (suc n) zero = refl
  cleared_free (suc n) (suc i) = cleared_free n i

  -- what holds a key is an entry of the table
  pub held_below : (es : List (Option (Entry K))) (i : ℕ) (k : K) (v : ℕ) → get_or es i None ≡ held k v → i < length es
  held_below es i k v e =
      ⊎_elim
      (λ b. b)
      (λ b. let p : get_or es i None ≡ None = get_or_past es i None b in cc)
      (cases_lt i (length es))

  module _ (meaning : K → List ℕ) (hashed : List ℕ → ℕ) where
    pub sound_cleared : (n : ℕ) → Sound meaning hashed (replicate n None)
    sound_cleared n = record {
      own = λ i x e. let f : get_or {A = Option (Entry K)} (replicate n None) i None ≡ None = cleared_free n i in cc;
    }

    cleared_at : (n : ℕ) (o : Option ℕ) → number_at {K = K} (replicate n None) o ≡ None
    cleared_at n None = refl
    cleared_at n (Some i) = ap number_in (cleared_free n i)

    -- a cleared table holds nothing
    pub lookup_cleared : (n : ℕ) (m : List ℕ) → lookup meaning hashed (replicate n None) m ≡ None
    lookup_cleared n m = cleared_at n (slot meaning hashed (replicate n None) m)

    module _ (es : List (Option (Entry K))) where
      put_at : (k : K) (v : ℕ) (o : Option ℕ) → slot meaning hashed es (meaning k) ≡ o → is_some o ≡ true → lookup meaning hashed (put es o k v) (meaning k) ≡ Some v
      put_at k v None e s = absurd (false≢true s)
      put_at k v (Some i) e s = lookup_set meaning hashed es k v i e

      -- a key that was put is held with its number, whatever the table
      pub lookup_put : (k : K) (v : ℕ) → is_some (slot meaning hashed es (meaning k)) ≡ true → lookup meaning hashed (put es (slot meaning hashed es (meaning k)) k v) (meaning k) ≡ Some v
      lookup_put k v = put_at k v (slot meaning hashed es (meaning k)) refl

      holder_in : (m : List ℕ) (n i : ℕ) (x : Option (Entry K)) → i < length es → get_or es i None ≡ x → stops meaning m x ≡ true → number_in x ≡ Some n → Holder meaning es m n
      holder_in m n i None b e s h = cc
      holder_in m n i (Some x) b e s h = record {
        index = i;
        key = x.key;
        below = b;
        held = (let p : x.number ≡ n = cc in e ∙ ap (held x.key) p);
        means = alike_true (meaning x.key) m s;
      }

      holder_at : (m : List ℕ) (n : ℕ) (o : Option ℕ) → slot meaning hashed es m ≡ o → number_at es o ≡ Some n → Holder meaning es m n
      holder_at m n None e h = cc
      holder_at m n (Some i) e h = holder_in m n i (get_or es i None) (slot_below meaning hashed es m i e) refl (slot_stops meaning hashed es m i e) h

      -- a number that is found is held by an entry
      pub lookup_holder : (m : List ℕ) (n : ℕ) → lookup meaning hashed es m ≡ Some n → Holder meaning es m n
      lookup_holder m n = holder_at m n (slot meaning hashed es m) refl

      -- a number that an entry of a sound table holds is found
      pub holder_lookup : Sound meaning hashed es → (i : ℕ) (k : K) (n : ℕ) → get_or es i None ≡ held k n → lookup meaning hashed es (meaning k) ≡ Some n
      holder_lookup sound i k n e = ap (number_at es) (sound.own i (record { key = k; number = n }) e) ∙ ap number_in e

      slot_at : (m : List ℕ) (n : ℕ) (o : Option ℕ) → number_at es o ≡ Some n → is_some o ≡ true
      slot_at m n None h = cc
      slot_at m n (Some i) h = refl

      -- the search for a held key ends at an entry, in a full table too
      pub lookup_slot : (m : List ℕ) (n : ℕ) → lookup meaning hashed es m ≡ Some n → is_some (slot meaning hashed es m) ≡ true
      lookup_slot m n = slot_at m n (slot meaning hashed es m)

      -- a sound table holds a key once
      pub held_once : Sound meaning hashed es → (i j : ℕ) (k l : K) (v w : ℕ) → get_or es i None ≡ held k v → get_or es j None ≡ held l w → meaning k ≡ meaning l → i ≡ j
      held_once sound i j k l v w e f g =
          let p : slot meaning hashed es (meaning k) ≡ Some i = sound.own i (record { key = k; number = v }) e in
          let q : slot meaning hashed es (meaning l) ≡ Some j = sound.own j (record { key = l; number = w }) f in
          cc
