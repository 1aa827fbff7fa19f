-- In a mesh that keeps the first three rules, going on round a vertex is a function that comes back. Assumes nothing.
use Rattle.std.proofs.Common.{◌≡◌, ℕ, zero, suc, ◌+◌, ◌-◌, ◌<◌, true, false, cond, ◌||◌, eqb, ltb, ◌⊎◌, List, length, sym, refl, ap, ◌∙◌, subst, inl, inr, ⊎_elim, arith}
use Rattle.std.proofs.lemmas.Bool.{cases_Bool, and_parts, ltb-true, eqb-true, or_cases, both_ways}
use Rattle.std.proofs.lemmas.Bool.Decides.{nat_tests}
use Rattle.grid.specs.declared.geometry.Triangle.{Triangle}
use Rattle.mesh.specs.Triangles.{triangle_at, Corner, Runs, Apart, Has}
use Rattle.mesh.specs.Rings.{At, GoesOn, Leads, stay, step, OneRing, MoreRings}
use Rattle.mesh.specs.Surfaces.{Surface}
use Rattle.mesh.specs.Counting.{count, is_at}
use Rattle.mesh.specs.EdgeTables.{after}
use Rattle.mesh.proofs.Counting.{hit_or}
use Rattle.mesh.proofs.Walks.{after_none, after_more, after_add, whole, more}

-- the mesh keeps the first three rules
pub record Mesh (ts : List (Triangle ℕ)) : Type 0 where
  pub different : (k : ℕ) → k < length ts → Apart (triangle_at ts k)
  pub once : (j k u v : ℕ) → j < length ts → k < length ts → Runs (triangle_at ts j) u v → Runs (triangle_at ts k) u v → j ≡ k
  pub paired : (k u v : ℕ) → k < length ts → Runs (triangle_at ts k) u v → Has ts (length ts) v u

pub surface_mesh : (n : ℕ) (ts : List (Triangle ℕ)) → Surface n ts → Mesh ts
surface_mesh n ts s = record { different = s.different; once = s.once; paired = s.paired }

-- what one triangle says

-- the vertex before `v` in a triangle with the corner `v`
abbrev pub before : Triangle ℕ → ℕ → ℕ
before t v = cond (eqb v t.a) t.c (cond (eqb v t.b) t.a t.b)

pub runs_before : (t : Triangle ℕ) (v : ℕ) → Corner t v → Runs t (before t v) v
runs_before t v c = grind (arith, nat_tests)

pub before_one : (t : Triangle ℕ) (u v : ℕ) → Apart t → Runs t u v → u ≡ before t v
before_one t u v d r = grind arith

pub after_one : (t : Triangle ℕ) (v x y : ℕ) → Apart t → Runs t v x → Runs t v y → x ≡ y
after_one t v x y d p q = grind arith

-- three directed edges go round
pub runs_third : (t : Triangle ℕ) (v x : ℕ) → Apart t → Runs t v x → Runs t x (before t v)
runs_third t v x d r = grind arith

pub runs_corner : (t : Triangle ℕ) (v x : ℕ) → Runs t v x → Corner t v
runs_corner t v x r = grind arith

pub at_is : (ts : List (Triangle ℕ)) (v k : ℕ) → At ts v k → is_at ts v k ≡ true
at_is ts v k a = grind arith

pub is_at_at : (ts : List (Triangle ℕ)) (v k : ℕ) → is_at ts v k ≡ true → At ts v k
is_at_at ts v k e =
    let t = triangle_at ts k in
    let p = and_parts (ltb k (length ts)) (eqb v t.a || (eqb v t.b || eqb v t.c)) e in
    record {
      within = ltb-true k (length ts) p.0;
      corner = ⊎_elim
          (λ x. inl (eqb-true v t.a x))
          (λ o. ⊎_elim (λ x. inr (inl (eqb-true v t.b x))) (λ x. inr (inr (eqb-true v t.c x))) (or_cases (eqb v t.b) (eqb v t.c) o))
          (or_cases (eqb v t.a) (eqb v t.b || eqb v t.c) p.1);
    }

pub goes_at : (ts : List (Triangle ℕ)) (v j k : ℕ) → GoesOn ts v j k → At ts v k
goes_at ts v j k g = record { within = g.within; corner = runs_corner (triangle_at ts k) v g.over g.outward }

module _ (ts : List (Triangle ℕ)) (mesh : Mesh ts) (v : ℕ) where
  reverse : (j : ℕ) → At ts v j → Has ts (length ts) v (before (triangle_at ts j) v)
  reverse j a = mesh.paired j (before (triangle_at ts j) v) v a.within (runs_before (triangle_at ts j) v a.corner)

  abbrev pick : (j : ℕ) → (is_at ts v j ≡ true) ⊎ (is_at ts v j ≡ false) → ℕ
  pick j (inl e) = (reverse j (is_at_at ts v j e)).at
  pick j (inr e) = 0

  -- the triangle that the ring goes on to
  pub onward : ℕ → ℕ
  onward j = pick j (cases_Bool (is_at ts v j))

  goes_by : (j : ℕ) (o : (is_at ts v j ≡ true) ⊎ (is_at ts v j ≡ false)) → At ts v j → GoesOn ts v j (pick j o)
  goes_by j (inl e) a =
      let r = reverse j (is_at_at ts v j e) in
      record {
        within = r.within;
        over = before (triangle_at ts j) v;
        inward = runs_before (triangle_at ts j) v a.corner;
        outward = r.runs;
      }
  goes_by j (inr e) a = absurd (both_ways (is_at ts v j) e (at_is ts v j a))

  pub goes : (j : ℕ) → At ts v j → GoesOn ts v j (onward j)
  unfolding onward
  goes j a = goes_by j (cases_Bool (is_at ts v j)) a

  goes_one : (j k : ℕ) → At ts v j → GoesOn ts v j k → onward j ≡ k
  goes_one j k a g =
      let h = goes j a in
      let d = mesh.different j a.within in
      let x : g.over ≡ h.over = before_one (triangle_at ts j) g.over v d g.inward ∙ sym (before_one (triangle_at ts j) h.over v d h.inward) in
      mesh.once (onward j) k v h.over h.within g.within h.outward (subst (λ (w : ℕ). Runs (triangle_at ts k) v w) x g.outward)

  closed : (j : ℕ) → is_at ts v j ≡ true → is_at ts v (onward j) ≡ true
  closed j e = at_is ts v (onward j) (goes_at ts v j (onward j) (goes j (is_at_at ts v j e)))

  single : (j k : ℕ) → is_at ts v j ≡ true → is_at ts v k ≡ true → onward j ≡ onward k → j ≡ k
  single j k ej ek e =
      let aj = is_at_at ts v j ej in
      let ak = is_at_at ts v k ek in
      let gj = goes j aj in
      let gk = goes k ak in
      let m = onward j in
      let out : Runs (triangle_at ts m) v gk.over = subst (λ (n : ℕ). Runs (triangle_at ts n) v gk.over) (sym e) gk.outward in
      let x : gk.over ≡ gj.over = after_one (triangle_at ts m) v gk.over gj.over (mesh.different m gj.within) out gj.outward in
      mesh.once j k gj.over v aj.within ak.within gj.inward (subst (λ (w : ℕ). Runs (triangle_at ts k) w v) x gk.inward)

  within : (k : ℕ) → is_at ts v k ≡ true → k < length ts
  within k e = (is_at_at ts v k e).within

  -- steps and their number

  walk_on : {j k l : ℕ} → Leads ts v j k → Leads ts v k l → Leads ts v j l
  walk_on stay w = w
  walk_on (step g j) w = step g (walk_on j w)

  pub stepped : (j : ℕ) → At ts v j → (n : ℕ) → At ts v (after onward n j) × Leads ts v j (after onward n j)
  unfolding after
  stepped j a zero = (a, stay)
  stepped j a (suc n) =
      let r = stepped j a n in
      let g = goes (after onward n j) r.0 in
      (goes_at ts v (after onward n j) (after onward (suc n) j) g, walk_on r.1 (step g stay))

  numbered : {j k : ℕ} → At ts v j → Leads ts v j k → (n : ℕ) × (after onward n j ≡ k)
  numbered {j = j} a stay = (0, after_none onward j)
  numbered {j = j} a (step {k = m} g w) =
      let e = goes_one j m a g in
      let r = numbered (goes_at ts v j m g) w in
      let one : after onward 1 j ≡ m = after_more onward 0 j ∙ ap onward (after_none onward j) ∙ e in
      (r.0 + 1, after_add onward r.0 1 j ∙ ap (after onward r.0) one ∙ r.1)

  -- a walk that comes back as late as it can shows one ring, and one that comes back earlier shows more
  pub ring_whole : (s : ℕ) → At ts v s → ((m : ℕ) → 0 < m → m < count (is_at ts v) (length ts) → after onward m s ≡ s → ⊥) → OneRing ts v
  ring_whole s a late =
      let r = whole (is_at ts v) onward (length ts) within closed single s (at_is ts v s a) (count (is_at ts v) (length ts)) refl late in
      record {
        leads = λ j k x y.
            let n = r j k (at_is ts v j x) (at_is ts v k y) in
            subst (λ (i : ℕ). Leads ts v j i) n.1 (stepped j x n.0).1;
      }

  pub ring_more : (s : ℕ) → At ts v s → (n : ℕ) → 0 < n → n < count (is_at ts v) (length ts) → after onward n s ≡ s → MoreRings ts v
  ring_more s a n some few early =
      let r = more (is_at ts v) onward (length ts) within closed single s (at_is ts v s a) n some few early in
      record {
        from = r.from;
        to = r.to;
        from_at = is_at_at ts v r.from r.from_member;
        to_at = is_at_at ts v r.to r.to_member;
        apart = λ w. let k = numbered (is_at_at ts v r.from r.from_member) w in r.apart k.0 k.1;
      }

  -- one or the other
  pub ring_or : (s : ℕ) → At ts v s → OneRing ts v ⊎ MoreRings ts v
  ring_or s a =
      let d = count (is_at ts v) (length ts) in
      ⊎_elim
      (λ r. inr (ring_more s a (r.0 + 1) (omega arith) (omega (arith, r.1)) r.2))
      (λ none. inl (ring_whole s a (λ m p q e.
      let z : m - 1 + 1 ≡ m = omega arith in
      none (m - 1) (omega arith) (ap (λ (n : ℕ). after onward n s) z ∙ e))))
      (hit_or (λ i. after onward (i + 1) s) (d - 1) s)
