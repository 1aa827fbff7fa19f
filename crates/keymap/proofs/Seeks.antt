-- A search is two runs of the table: from where it begins up to the last entry, and then those before. Assumes nothing.
use Rattle.std.proofs.Common.{mod-lt, add-one, ◌≡◌, ℕ, zero, suc, ◌+◌, ◌-◌, ◌<◌, Bool, true, false, cond, eqb, List, [], ◌∷◌, length, get_or, take, drop, Some, None, Option, sym, refl, ap, ◌∙◌, arith}
use Rattle.std.proofs.Math.ListN.{drop_of_length-le}
use Rattle.std.proofs.Math.Seq.{drop-cons}
use Rattle.std.proofs.lemmas.Bool.{eq-eqb, ne_eqb, cond-true, cond-false}
use Rattle.std.specs.List.{position, position_from}
use Rattle.std.specs.Option.{option_map, option_or}
use Rattle.std.proofs.lemmas.Iterator.Adapters.{position_from-zero}
use Rattle.keymap.specs.declared.table.Entry.{Entry}
use Rattle.keymap.specs.Probe.{next, start, stops, seek, slot}

or_cond : (b : Bool) (i : ℕ) (o other : Option ℕ) → cond b (Some i) (option_or o other) ≡ option_or (cond b (Some i) o) other
or_cond true i o other = refl
or_cond false i o other = refl

map_cond : (b : Bool) (i j : ℕ) (o : Option ℕ) → cond b (Some (i + j)) (option_map (λ k. i + k) o) ≡ option_map (λ k. i + k) (cond b (Some j) o)
map_cond true i j o = refl
map_cond false i j o = refl

-- a position, counted on from `i`
position_on : {X : Type 0} (p : X → Bool) (i j : ℕ) (xs : List X) → position_from p (i + j) xs ≡ option_map (λ k. i + k) (position_from p j xs)
position_on p i j [] = refl
position_on p i j (x ∷ xs) =
    let e : i + j + 1 ≡ i + (j + 1) = omega arith in
    ap (λ n. cond (p x) (Some (i + j)) (position_from p n xs)) e ∙ ap (cond (p x) (Some (i + j))) (position_on p i (j + 1) xs) ∙ map_cond (p x) i j (position_from p (j + 1) xs)

module _ {K : Type 0} (meaning : K → List ℕ) (es : List (Option (Entry K))) (m : List ℕ) where
  abbrev test : Option (Entry K) → Bool
  test = stops meaning m

  -- the entry at `i`, and those after
  cut : (i : ℕ) → i < length es → drop i es ≡ get_or es i None ∷ drop (i + 1) es
  cut i b = rw add-one (drop-cons es i None b)

  -- the search that goes on for `d` entries and then is not past the last
  ahead : (d i : ℕ) → i + d < length es → seek meaning es m d i ≡ position_from test i (take d (drop i es))
  unfolding seek
  ahead zero i b = refl
  ahead (suc d) i b =
      let n : next (length es) i ≡ i + 1 = cond-false (eqb (i + 1) (length es)) 0 (i + 1) (ne_eqb (i + 1) (length es) (λ e. omega arith)) in
      let on : seek meaning es m d (next (length es) i) ≡ position_from test (i + 1) (take d (drop (i + 1) es)) = ap (seek meaning es m d) n ∙ ahead d (i + 1) (omega arith) in
      ap (cond (test (get_or es i None)) (Some i)) on ∙ ap (λ xs. position_from test i (take (suc d) xs)) (sym (cut i (omega arith)))

  -- the search that goes on from the first entry, after it looked at the last
  round : (d i r : ℕ) → i + d + 1 ≡ length es → seek meaning es m (suc (d + r)) i ≡ option_or (position_from test i (drop i es)) (seek meaning es m r 0)
  unfolding seek
  round zero i r e =
      let n : next (length es) i ≡ 0 = cond-true (eqb (i + 1) (length es)) 0 (i + 1) (eq-eqb (i + 1) (length es) (omega arith)) in
      let on : seek meaning es m (0 + r) (next (length es) i) ≡ option_or (position_from test (i + 1) (drop (i + 1) es)) (seek meaning es m r 0) =
      (let z : 0 + r ≡ r = omega arith in
      let none : drop (i + 1) es ≡ [] = drop_of_length-le es (omega arith) in
      rw none (ap (λ k. seek meaning es m k (next (length es) i)) z ∙ ap (seek meaning es m r) n)) in
      ap (cond (test (get_or es i None)) (Some i)) on
      ∙ or_cond (test (get_or es i None)) i (position_from test (i + 1) (drop (i + 1) es)) (seek meaning es m r 0)
      ∙ ap (λ xs. option_or (position_from test i xs) (seek meaning es m r 0)) (sym (cut i (omega arith)))
  round (suc d) i r e =
      let n : next (length es) i ≡ i + 1 = cond-false (eqb (i + 1) (length es)) 0 (i + 1) (ne_eqb (i + 1) (length es) (λ f. omega arith)) in
      let s : suc d + r ≡ suc (d + r) = omega arith in
      let on : seek meaning es m (suc d + r) (next (length es) i) ≡ option_or (position_from test (i + 1) (drop (i + 1) es)) (seek meaning es m r 0) =
      ap (λ k. seek meaning es m k (next (length es) i)) s ∙ ap (seek meaning es m (suc (d + r))) n ∙ round d (i + 1) r (omega arith) in
      ap (cond (test (get_or es i None)) (Some i)) on
      ∙ or_cond (test (get_or es i None)) i (position_from test (i + 1) (drop (i + 1) es)) (seek meaning es m r 0)
      ∙ ap (λ xs. option_or (position_from test i xs) (seek meaning es m r 0)) (sym (cut i (omega arith)))

  -- from `s` up to the last, and then those before `s`
  whole : (s : ℕ) → s < length es → seek meaning es m (length es) s ≡ option_or (position_from test s (drop s es)) (position_from test 0 (take s es))
  whole s b =
      let d : ℕ = length es - s - 1 in
      let e : length es ≡ suc (d + s) = omega arith in
      ap (λ k. seek meaning es m k s) e ∙ round d s s (omega arith) ∙ ap (option_or (position_from test s (drop s es))) (ahead s 0 (omega arith))

  module _ (hashed : List ℕ → ℕ) (h : ℕ) (is : h ≡ hashed m) (some : 0 < length es) where
    -- the entry at which the search begins
    abbrev from : ℕ
    from = start h (length es)

    split : slot meaning hashed es m ≡ option_or (option_map (λ k. from + k) (position test (drop from es))) (position test (take from es))
    unfolding slot
    split =
        let w : from < length es = mod-lt _ some in
        let on : position_from test from (drop from es) ≡ option_map (λ k. from + k) (position test (drop from es)) =
        (let z : from ≡ from + 0 = omega arith in
        ap (λ n. position_from test n (drop from es)) z
        ∙ position_on test from 0 (drop from es)
        ∙ ap (option_map (λ k. from + k)) (sym (position_from-zero test (drop from es)))) in
        ap (λ n. seek meaning es m (length es) (start n (length es))) (sym is)
        ∙ whole from w
        ∙ ap (λ o. option_or o (position_from test 0 (take from es))) on
        ∙ ap (option_or (option_map (λ k. from + k) (position test (drop from es)))) (sym (position_from-zero test (take from es)))

    module _ (before after : List (Option (Entry K))) (front : before ≡ take from es) (back : after ≡ drop from es) where
      parts : slot meaning hashed es m ≡ option_or (option_map (λ k. from + k) (position test after)) (position test before)
      parts = rw (front, back) split

      -- a search that ends at an entry from there on
      pub slot_after : (j : ℕ) → position test after ≡ Some j → Some (from + j) ≡ slot meaning hashed es m
      slot_after j e = sym (rw e at parts)

      -- and one that does not
      pub slot_before : position test after ≡ None → position test before ≡ slot meaning hashed es m
      slot_before e = sym (rw e at parts)

  -- in a table of no entries it ends nowhere
  pub slot_empty : (hashed : List ℕ → ℕ) → length es ≡ 0 → None ≡ slot meaning hashed es m
  unfolding seek slot
  slot_empty hashed z = sym (ap (λ n. seek meaning es m n (start (hashed m) (length es))) z)
