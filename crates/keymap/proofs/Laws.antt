-- A table whose held keys are found by their own search stays so, and is a map. Assumes nothing.
use Rattle.std.proofs.Common.{◌≡◌, ℕ, zero, suc, ◌+◌, ◌-◌, ◌<◌, ◌≤◌, true, false, eqb, List, [], ◌∷◌, length, get_or, set, is_some, Some, None, Option, sym, refl, ap, ◌∙◌, subst, ⊎_elim, mod-lt, arith, length-set, get_or-set_other, get_or-set_same}
use Rattle.std.proofs.lemmas.Bool.{eqb-true, eqb-false, eq-eqb, ne_eqb, and_parts, cases_Bool, cases_eq, cases_lt, cond-true, cond-false, true≢false, false≢true}
use Rattle.keymap.specs.declared.table.Entry.{Entry}
use Rattle.keymap.specs.Probe.{alike, next, start, stops, seek, slot, number_in, number_at, lookup, put, Sound, Crowded}
use Rattle.keymap.specs.Law.{Maps}

-- `alike` decides
pub alike_same : (m : List ℕ) → alike m m ≡ true
alike_same [] = refl
alike_same (x ∷ xs) = rw (eq-eqb x x refl) (alike_same xs)

pub alike_true : (m n : List ℕ) → alike m n ≡ true → m ≡ n
alike_true [] [] e = refl
alike_true [] (y ∷ ys) e = absurd (false≢true e)
alike_true (x ∷ xs) [] e = absurd (false≢true e)
alike_true (x ∷ xs) (y ∷ ys) e =
    let p = and_parts (eqb x y) (alike xs ys) e in
    let h : x ≡ y = eqb-true x y p.0 in
    let t : xs ≡ ys = alike_true xs ys p.1 in
    cc

some_none : {X : Type 0} (x : X) → Some x ≡ None → ⊥
some_none x e = cc

some_same : {X : Type 0} (x y : X) → Some x ≡ Some y → x ≡ y
some_same x y e = cc

module _ {K : Type 0} where
  -- an entry that holds `k` with the number `v`
  abbrev pub held : K → ℕ → Option (Entry K)
  held k v = Some (record { key = k; number = v })

  held_key : (k : K) (v : ℕ) (x : Entry K) → held k v ≡ Some x → k ≡ x.key
  held_key k v x e = ap (λ (y : Entry K). y.key) (some_same (record { key = k; number = v }) x e)

module _ {K : Type 0} (meaning : K → List ℕ) where
  -- a search ends where it stops
  seek_stops : (es : List (Option (Entry K))) (m : List ℕ) (f s j : ℕ) → seek meaning es m f s ≡ Some j → stops meaning m (get_or es j None) ≡ true
  unfolding seek
  seek_stops es m zero s j e = absurd (some_none j (sym e))
  seek_stops es m (suc f) s j e =
      ⊎_elim
      (λ t. let h : s ≡ j = some_same s j (sym (cond-true _ (Some s) (seek meaning es m f (next (length es) s)) t) ∙ e) in subst (λ (i : ℕ). stops meaning m (get_or es i None) ≡ true) h t)
      (λ t. seek_stops es m f (next (length es) s) j (sym (cond-false _ (Some s) (seek meaning es m f (next (length es) s)) t) ∙ e))
      (cases_Bool (stops meaning m (get_or es s None)))

  module _ (es fs : List (Option (Entry K))) (m : List ℕ) (len : length fs ≡ length es) (fewer : (j : ℕ) → stops meaning m (get_or es j None) ≡ false → stops meaning m (get_or fs j None) ≡ false) where
    -- one step where both go on
    pass : (f s : ℕ) → stops meaning m (get_or es s None) ≡ false → seek meaning fs m (suc f) s ≡ seek meaning fs m f (next (length es) s)
    unfolding seek
    pass f s t = cond-false _ (Some s) (seek meaning fs m f (next (length fs) s)) (fewer s t) ∙ ap (λ (n : ℕ). seek meaning fs m f (next n s)) len

    seek_none : (f s : ℕ) → seek meaning es m f s ≡ None → seek meaning fs m f s ≡ None
    unfolding seek
    seek_none zero s e = refl
    seek_none (suc f) s e =
        ⊎_elim
        (λ t. absurd (some_none s (sym (cond-true _ (Some s) (seek meaning es m f (next (length es) s)) t) ∙ e)))
        (λ t. pass f s t ∙ seek_none f (next (length es) s) (sym (cond-false _ (Some s) (seek meaning es m f (next (length es) s)) t) ∙ e))
        (cases_Bool (stops meaning m (get_or es s None)))

    seek_some : (f s j : ℕ) → seek meaning es m f s ≡ Some j → stops meaning m (get_or fs j None) ≡ true → seek meaning fs m f s ≡ Some j
    unfolding seek
    seek_some zero s j e h = e
    seek_some (suc f) s j e h =
        ⊎_elim
        (λ t. let i : s ≡ j = some_same s j (sym (cond-true _ (Some s) (seek meaning es m f (next (length es) s)) t) ∙ e) in
        let k : stops meaning m (get_or fs s None) ≡ true = subst (λ (i : ℕ). stops meaning m (get_or fs i None) ≡ true) (sym i) h in
        cond-true _ (Some s) (seek meaning fs m f (next (length fs) s)) k ∙ ap Some i)
        (λ t. pass f s t ∙ seek_some f (next (length es) s) j (sym (cond-false _ (Some s) (seek meaning es m f (next (length es) s)) t) ∙ e) h)
        (cases_Bool (stops meaning m (get_or es s None)))

  next_below : (n s : ℕ) → s < n → next n s < n
  next_below n s b =
      ⊎_elim
      (λ t. rw (cond-true (eqb (s + 1) n) 0 (s + 1) t) (omega arith))
      (λ t. rw (cond-false (eqb (s + 1) n) 0 (s + 1) t) (omega (arith, eqb-false (s + 1) n t)))
      (cases_Bool (eqb (s + 1) n))

  seek_below : (es : List (Option (Entry K))) (m : List ℕ) (f s j : ℕ) → s < length es → seek meaning es m f s ≡ Some j → j < length es
  unfolding seek
  seek_below es m zero s j b e = absurd (some_none j (sym e))
  seek_below es m (suc f) s j b e =
      ⊎_elim
      (λ t. let h : s ≡ j = some_same s j (sym (cond-true _ (Some s) (seek meaning es m f (next (length es) s)) t) ∙ e) in omega arith)
      (λ t. seek_below es m f (next (length es) s) j (next_below (length es) s b) (sym (cond-false _ (Some s) (seek meaning es m f (next (length es) s)) t) ∙ e))
      (cases_Bool (stops meaning m (get_or es s None)))

  -- an entry where the search for `k` stops, once it holds `k`, stops no search that it did not stop
  held_stops : (k : K) (v : ℕ) (m : List ℕ) (x : Option (Entry K)) → stops meaning (meaning k) x ≡ true → stops meaning m x ≡ false → stops meaning m (held k v) ≡ false
  held_stops k v m None h t = absurd (true≢false t)
  held_stops k v m (Some e) h t = ap (λ (q : List ℕ). alike q m) (sym (alike_true (meaning e.key) (meaning k) h)) ∙ t

  -- an entry where the searches for two meanings stop is free
  both_stop : (m n : List ℕ) (x : Option (Entry K)) → stops meaning m x ≡ true → stops meaning n x ≡ true → (m ≡ n → ⊥) → number_in x ≡ None
  both_stop m n None h t d = refl
  both_stop m n (Some e) h t d = absurd (d (sym (alike_true (meaning e.key) m h) ∙ alike_true (meaning e.key) n t))

  number_held : (x : Option (Entry K)) (m : List ℕ) → stops meaning m x ≡ true → ((e : Entry K) → x ≡ Some e → meaning e.key ≡ m → ⊥) → number_in x ≡ None
  number_held None m h d = refl
  number_held (Some e) m h d = absurd (d e refl (alike_true (meaning e.key) m h))

  module _ (hashed : List ℕ → ℕ) (es : List (Option (Entry K))) where
    pub slot_stops : (m : List ℕ) (j : ℕ) → slot meaning hashed es m ≡ Some j → stops meaning m (get_or es j None) ≡ true
    unfolding slot
    slot_stops m j e = seek_stops es m (length es) (start (hashed m) (length es)) j e

    pub slot_below : (m : List ℕ) (j : ℕ) → slot meaning hashed es m ≡ Some j → j < length es
    unfolding seek slot
    slot_below m j e =
        ⊎_elim
        (λ p. seek_below es m (length es) (start (hashed m) (length es)) j (mod-lt _ p) e)
        (λ p. let z : length es ≡ 0 = omega arith in absurd (some_none j (sym e ∙ ap (λ (n : ℕ). seek meaning es m n (start (hashed m) (length es))) z)))
        (cases_lt 0 (length es))

  module _ (hashed : List ℕ → ℕ) (es : List (Option (Entry K))) (k : K) (v i : ℕ) (at : slot meaning hashed es (meaning k) ≡ Some i) where
    abbrev after : List (Option (Entry K))
    after = set es i (held k v)

    after_at : get_or after i None ≡ held k v
    after_at = get_or-set_same es i (held k v) None (slot_below hashed es (meaning k) i at)

    after_other : (j : ℕ) → (j ≡ i → ⊥) → get_or after j None ≡ get_or es j None
    after_other j d = get_or-set_other es i j (held k v) None d

    fewer : (m : List ℕ) (j : ℕ) → stops meaning m (get_or es j None) ≡ false → stops meaning m (get_or after j None) ≡ false
    fewer m j t =
        ⊎_elim
        (λ e. let u : stops meaning m (get_or es i None) ≡ false = subst (λ (n : ℕ). stops meaning m (get_or es n None) ≡ false) e t in
        subst (λ (n : ℕ). stops meaning m (get_or after n None) ≡ false) (sym e)
        (ap (stops meaning m) after_at ∙ held_stops k v m (get_or es i None) (slot_stops hashed es (meaning k) i at) u))
        (λ d. ap (stops meaning m) (after_other j d) ∙ t)
        (cases_eq j i)

    to_slot : (m : List ℕ) → slot meaning hashed after m ≡ seek meaning after m (length es) (start (hashed m) (length es))
    unfolding slot
    to_slot m = ap (λ (n : ℕ). seek meaning after m n (start (hashed m) n)) (length-set es i (held k v))

    slot_none : (m : List ℕ) → slot meaning hashed es m ≡ None → slot meaning hashed after m ≡ None
    unfolding slot
    slot_none m e = to_slot m ∙ seek_none es after m (length-set es i (held k v)) (fewer m) (length es) (start (hashed m) (length es)) e

    slot_some : (m : List ℕ) (j : ℕ) → slot meaning hashed es m ≡ Some j → stops meaning m (get_or after j None) ≡ true → slot meaning hashed after m ≡ Some j
    unfolding slot
    slot_some m j e h = to_slot m ∙ seek_some es after m (length-set es i (held k v)) (fewer m) (length es) (start (hashed m) (length es)) j e h

    slot_here : slot meaning hashed after (meaning k) ≡ Some i
    slot_here = slot_some (meaning k) i at (ap (stops meaning (meaning k)) after_at ∙ alike_same (meaning k))

    -- `k` is then held with its number
    pub lookup_set : lookup meaning hashed (set es i (held k v)) (meaning k) ≡ Some v
    lookup_set = ap (number_at after) slot_here ∙ ap number_in after_at

    module _ (sound : Sound meaning hashed es) where
      own_after : (j : ℕ) (x : Entry K) → get_or after j None ≡ Some x → slot meaning hashed after (meaning x.key) ≡ Some j
      own_after j x e =
          ⊎_elim
          (λ p. let q : held k v ≡ Some x = sym after_at ∙ ap (λ (n : ℕ). get_or after n None) (sym p) ∙ e in
          let r : k ≡ x.key = held_key k v x q in
          ap (λ (l : K). slot meaning hashed after (meaning l)) (sym r) ∙ slot_here ∙ ap Some (sym p))
          (λ d. slot_some (meaning x.key) j (sound.own j x (sym (after_other j d) ∙ e)) (ap (stops meaning (meaning x.key)) e ∙ alike_same (meaning x.key)))
          (cases_eq j i)

      -- where another meaning's search ends at a free entry that now holds `k`
      moved : (m : List ℕ) → (m ≡ meaning k → ⊥) → slot meaning hashed es m ≡ Some i → (o : Option ℕ) → slot meaning hashed after m ≡ o → number_at after o ≡ None
      moved m d e None f = refl
      moved m d e (Some j) f =
          number_held (get_or after j None) m (slot_stops hashed after m j f)
          (λ x h g. ⊎_elim
          (λ p. let q : held k v ≡ Some x = sym after_at ∙ ap (λ (n : ℕ). get_or after n None) (sym p) ∙ h in
          d (sym g ∙ ap meaning (sym (held_key k v x q))))
          (λ a. a (sym (some_same i j (sym e ∙ ap (slot meaning hashed es) (sym g) ∙ sound.own j x (sym (after_other j a) ∙ h)))))
          (cases_eq j i))

      others_at : (m : List ℕ) → (m ≡ meaning k → ⊥) → (o : Option ℕ) → slot meaning hashed es m ≡ o → lookup meaning hashed after m ≡ number_at es o
      others_at m d None e = ap (number_at after) (slot_none m e)
      others_at m d (Some j) e =
          ⊎_elim
          (λ p. let f : slot meaning hashed es m ≡ Some i = e ∙ ap Some p in
          moved m d f (slot meaning hashed after m) refl
          ∙ sym (ap (λ (n : ℕ). number_in (get_or es n None)) p ∙ both_stop m (meaning k) (get_or es i None) (slot_stops hashed es m i f) (slot_stops hashed es (meaning k) i at) d))
          (λ a. let x : get_or after j None ≡ get_or es j None = after_other j a in
          ap (number_at after) (slot_some m j e (ap (stops meaning m) x ∙ slot_stops hashed es m j e)) ∙ ap number_in x)
          (cases_eq j i)

      others : (m : List ℕ) → (m ≡ meaning k → ⊥) → lookup meaning hashed after m ≡ lookup meaning hashed es m
      others m d = others_at m d (slot meaning hashed es m) refl

  -- the law: what `put` leaves is a map
  put_maps_at : (hashed : List ℕ → ℕ) (es : List (Option (Entry K))) (k : K) (v : ℕ) → Sound meaning hashed es → (o : Option ℕ) → slot meaning hashed es (meaning k) ≡ o → Maps meaning hashed es (put es o k v) k v
  put_maps_at hashed es k v s None e = record {
    sound = s;
    here = λ h. absurd (false≢true (sym (ap is_some e) ∙ h));
    others = λ m d. refl;
  }
  put_maps_at hashed es k v s (Some i) e = record {
    sound = record { own = own_after hashed es k v i e s };
    here = λ h. lookup_set hashed es k v i e;
    others = others hashed es k v i e s;
  }

  pub put_maps : (hashed : List ℕ → ℕ) (es : List (Option (Entry K))) (k : K) (v : ℕ) → Sound meaning hashed es → Maps meaning hashed es (put es (slot meaning hashed es (meaning k)) k v) k v
  put_maps hashed es k v s = put_maps_at hashed es k v s (slot meaning hashed es (meaning k)) refl

  -- a search that never stops has passed each entry from `s` up to the last
  walk_up : (es : List (Option (Entry K))) (m : List ℕ) (f s d : ℕ) → seek meaning es m f s ≡ None → d < f → s + d < length es → stops meaning m (get_or es (s + d) None) ≡ false
  unfolding seek
  walk_up es m zero s d e b w = absurd (omega arith)
  walk_up es m (suc f) s d e b w =
      ⊎_elim
      (λ t. absurd (some_none s (sym (cond-true _ (Some s) (seek meaning es m f (next (length es) s)) t) ∙ e)))
      (λ t. let r : seek meaning es m f (next (length es) s) ≡ None = sym (cond-false _ (Some s) (seek meaning es m f (next (length es) s)) t) ∙ e in
      ⊎_elim
      (λ z. let q : s ≡ s + d = omega arith in subst (λ (n : ℕ). stops meaning m (get_or es n None) ≡ false) q t)
      (λ p. let x : next (length es) s ≡ s + 1 = cond-false (eqb (s + 1) (length es)) 0 (s + 1) (ne_eqb (s + 1) (length es) (λ g. omega arith)) in
      let q : s + 1 + (d - 1) ≡ s + d = omega arith in
      subst (λ (n : ℕ). stops meaning m (get_or es n None) ≡ false) q
      (walk_up es m f (s + 1) (d - 1) (ap (seek meaning es m f) (sym x) ∙ r) (omega arith) (omega arith)))
      (cases_eq d 0))
      (cases_Bool (stops meaning m (get_or es s None)))

  -- and each before `s`
  walk_over : (es : List (Option (Entry K))) (m : List ℕ) (f s d : ℕ) → seek meaning es m f s ≡ None → d < f → s < length es → d < length es → length es ≤ s + d → stops meaning m (get_or es (s + d - length es) None) ≡ false
  unfolding seek
  walk_over es m zero s d e b w g h = absurd (omega arith)
  walk_over es m (suc f) s d e b w g h =
      ⊎_elim
      (λ t. absurd (some_none s (sym (cond-true _ (Some s) (seek meaning es m f (next (length es) s)) t) ∙ e)))
      (λ t. let r : seek meaning es m f (next (length es) s) ≡ None = sym (cond-false _ (Some s) (seek meaning es m f (next (length es) s)) t) ∙ e in
      ⊎_elim
      (λ z. let x : next (length es) s ≡ 0 = cond-true (eqb (s + 1) (length es)) 0 (s + 1) (eq-eqb (s + 1) (length es) z) in
      let q : 0 + (d - 1) ≡ s + d - length es = omega arith in
      subst (λ (n : ℕ). stops meaning m (get_or es n None) ≡ false) q
      (walk_up es m f 0 (d - 1) (ap (seek meaning es m f) (sym x) ∙ r) (omega arith) (omega arith)))
      (λ z. let x : next (length es) s ≡ s + 1 = cond-false (eqb (s + 1) (length es)) 0 (s + 1) (ne_eqb (s + 1) (length es) z) in
      let q : s + 1 + (d - 1) - length es ≡ s + d - length es = omega arith in
      subst (λ (n : ℕ). stops meaning m (get_or es n None) ≡ false) q
      (walk_over es m f (s + 1) (d - 1) (ap (seek meaning es m f) (sym x) ∙ r) (omega arith) (omega arith) (omega arith) (omega arith)))
      (cases_eq (s + 1) (length es)))
      (cases_Bool (stops meaning m (get_or es s None)))

  -- where the search for a key finds no entry, none is free
  pub crowded : (hashed : List ℕ → ℕ) (es : List (Option (Entry K))) (m : List ℕ) → slot meaning hashed es m ≡ None → Crowded es
  unfolding slot
  crowded hashed es m e j b free =
      let s : ℕ = start (hashed m) (length es) in
      let w : start (hashed m) (length es) < length es = mod-lt _ (omega arith) in
      let t : stops meaning m (get_or es j None) ≡ false =
      ⊎_elim
      (λ below. let q : s + (length es - s + j) - length es ≡ j = omega arith in
      subst (λ (n : ℕ). stops meaning m (get_or es n None) ≡ false) q
      (walk_over es m (length es) s (length es - s + j) e (omega arith) w (omega arith) (omega arith)))
      (λ up. let q : s + (j - s) ≡ j = omega arith in
      subst (λ (n : ℕ). stops meaning m (get_or es n None) ≡ false) q
      (walk_up es m (length es) s (j - s) e (omega arith) (omega arith)))
      (cases_lt j s) in
      true≢false (sym (ap (stops meaning m) free) ∙ t)

  -- the law at what a search answered
  pub slot_maps : (hashed : List ℕ → ℕ) (es : List (Option (Entry K))) (k : K) (o : Option ℕ) → o ≡ slot meaning hashed es (meaning k) → (v : ℕ) → Sound meaning hashed es → Maps meaning hashed es (put es o k v) k v
  slot_maps hashed es k o e v s = put_maps_at hashed es k v s o (sym e)

  pub slot_full : (hashed : List ℕ → ℕ) (es : List (Option (Entry K))) (m : List ℕ) (o : Option ℕ) → o ≡ slot meaning hashed es m → is_some o ≡ false → Crowded es
  slot_full hashed es m None e h = crowded hashed es m (sym e)
  slot_full hashed es m (Some i) e h = absurd (true≢false h)
