-- A table that takes the directed edges of the triangles one by one. Assumes nothing.
use Rattle.std.proofs.Common.{◌≡◌, ℕ, ◌+◌, ◌<◌, Bool, true, false, ◌||◌, is_none, List, [], ◌∷◌, length, replicate, is_some, Some, None, Option, sym, refl, ap, ◌∙◌, subst, inl, inr, ⊎_elim, arith}
use Rattle.std.proofs.lemmas.Bool.{cases_eq, or_cases, or_left, or_right, true≢false, false≢true}
use Rattle.std.specs.List.{list_any}
use Rattle.grid.specs.declared.geometry.Triangle.{Triangle}
use Rattle.keymap.specs.declared.table.Entry.{Entry}
use Rattle.keymap.proofs.Lookups.{sound_cleared, lookup_cleared}
use Rattle.mesh.specs.declared.sides.DirectedEdge.{DirectedEdge}
use Rattle.mesh.specs.Sides.{edge_ends, edge_hash, edges_of}
use Rattle.mesh.specs.Triangles.{triangle_at, Runs, Apart}
use Rattle.mesh.specs.Faults.{Doubled, Unpaired}
use Rattle.mesh.specs.EdgeTables.{found, seen, missed, Noted, Noting}
use Rattle.mesh.proofs.Round.{after_one, before, runs_third}
use Rattle.mesh.proofs.Judging.{runs_or}

some_is : (o : Option ℕ) → is_some o ≡ true → (j : ℕ) × (o ≡ Some j)
some_is None e = absurd (false≢true e)
some_is (Some j) e = (j, refl)

none_is : (o : Option ℕ) → ((j : ℕ) → o ≡ Some j → ⊥) → is_none o ≡ true
none_is None d = refl
none_is (Some j) d = absurd (d j refl)

-- a test of the directed edges of a triangle passes at one that it runs along
any_runs : (p : DirectedEdge → Bool) (t : Triangle ℕ) → list_any p (edges_of t) ≡ true → (u : ℕ) × (v : ℕ) × Runs t u v × (p (record { from = u; to = v }) ≡ true)
any_runs p t s =
    ⊎_elim
    (λ e. (t.a, t.b, inl (refl, refl), e))
    (λ o. ⊎_elim
    (λ e. (t.b, t.c, inr (inl (refl, refl)), e))
    (λ q. ⊎_elim (λ e. (t.c, t.a, inr (inr (refl, refl)), e)) (λ e. absurd (false≢true e)) (or_cases _ _ q))
    (or_cases _ _ o))
    (or_cases _ _ s)

runs_any : (p : DirectedEdge → Bool) (t : Triangle ℕ) (u v : ℕ) → Runs t u v → p (record { from = u; to = v }) ≡ true → list_any p (edges_of t) ≡ true
runs_any p t u v r e =
    let at : (x y : ℕ) → u ≡ x → v ≡ y → p (record { from = x; to = y }) ≡ true =
    λ x y f g. ap (λ (w : ℕ). p (record { from = x; to = w })) (sym g) ∙ ap (λ (w : ℕ). p (record { from = w; to = v })) (sym f) ∙ e in
    let a = p (record { from = t.a; to = t.b }) in
    let b = p (record { from = t.b; to = t.c }) in
    let c = p (record { from = t.c; to = t.a }) in
    ⊎_elim
    (λ q. or_left a (b || (c || false)) (at t.a t.b q.0 q.1))
    (λ o. or_right a (b || (c || false)) (⊎_elim
    (λ q. or_left b (c || false) (at t.b t.c q.0 q.1))
    (λ q. or_right b (c || false) (or_left c false (at t.c t.a q.0 q.1)))
    o))
    r

pub noted_none : (ts : List (Triangle ℕ)) (n : ℕ) → Noted ts 0 (replicate n None)
unfolding found
noted_none ts n = record {
  sound = sound_cleared edge_ends edge_hash n;
  held = λ u v w k h r s. absurd (omega arith);
  only = λ u v w e. let none = lookup_cleared edge_ends edge_hash n (u ∷ v ∷ []) in cc;
}

module _ (ts : List (Triangle ℕ)) (k : ℕ) (es : List (Option (Entry DirectedEdge))) (noted : Noted ts k es) where
  doubled : (u v : ℕ) → Runs (triangle_at ts k) u v → is_some (found es u v) ≡ true → Doubled ts k
  doubled u v r s =
      let o = some_is (found es u v) s in
      let q = noted.only u v o.0 o.1 in
      record { earlier = q.at; before = q.within; from = u; to = v; here = r; there = q.runs }

  pub seen_doubled : seen es (triangle_at ts k) ≡ true → Doubled ts k
  seen_doubled s = let r = any_runs (λ e. is_some (found es e.from e.to)) (triangle_at ts k) s in doubled r.0 r.1 r.2 r.3

  module _ (unseen : seen es (triangle_at ts k) ≡ false) where
    fresh : (u v w : ℕ) → Runs (triangle_at ts k) u v → found es u v ≡ Some w → ⊥
    fresh u v w r e = true≢false (sym (runs_any (λ e. is_some (found es e.from e.to)) (triangle_at ts k) u v r (ap is_some e)) ∙ unseen)

    module _ (different : (j : ℕ) → j < k + 1 → Apart (triangle_at ts j)) where
      earlier : (u v j : ℕ) → j < k → Runs (triangle_at ts j) u v → found es u v ≡ Some (before (triangle_at ts j) u)
      earlier u v j h r = noted.held u v (before (triangle_at ts j) u) j h r (runs_third (triangle_at ts j) u v (different j (omega arith)) r)

      pub unseen_clear : Doubled ts k → ⊥
      unseen_clear d = fresh d.from d.to _ d.here (earlier d.from d.to d.earlier d.before d.there)

      module _ (e1 e2 e3 : List (Option (Entry DirectedEdge)))
          (ab : Noting es e1 (record { from = (triangle_at ts k).a; to = (triangle_at ts k).b }) (triangle_at ts k).c)
          (bc : Noting e1 e2 (record { from = (triangle_at ts k).b; to = (triangle_at ts k).c }) (triangle_at ts k).a)
          (ca : Noting e2 e3 (record { from = (triangle_at ts k).c; to = (triangle_at ts k).a }) (triangle_at ts k).b) where
        -- the new directed edges, each with the vertex that follows
        ours : (u v : ℕ) → Runs (triangle_at ts k) u v → (w : ℕ) × (found e3 u v ≡ Some w) × Runs (triangle_at ts k) v w
        ours u v r =
            let t = triangle_at ts k in
            let apart = different k (omega arith) in
            let at : (x y w : ℕ) → u ≡ x → v ≡ y → found e3 x y ≡ Some w → found e3 u v ≡ Some w =
            λ x y w p q e. ap (λ (z : ℕ). found e3 z v) p ∙ ap (λ (z : ℕ). found e3 x z) q ∙ e in
            ⊎_elim
            (λ p. (
              t.c,
              at t.a t.b t.c p.0 p.1
                  (ca.others t.a t.b (λ z. apart.ca (sym z.0)) ∙ bc.others t.a t.b (λ z. apart.ab z.0) ∙ ab.here),
              inr (inl (p.1, refl)),
            ))
            (λ o. ⊎_elim
            (λ p. (t.a, at t.b t.c t.a p.0 p.1 (ca.others t.b t.c (λ z. apart.bc z.0) ∙ bc.here), inr (inr (p.1, refl))))
            (λ p. (t.b, at t.c t.a t.b p.0 p.1 ca.here, inl (p.1, refl)))
            o)
            r

        kept : (u v : ℕ) → (Runs (triangle_at ts k) u v → ⊥) → found e3 u v ≡ found es u v
        kept u v d = ca.others u v (λ z. d (inr (inr z))) ∙ bc.others u v (λ z. d (inr (inl z))) ∙ ab.others u v (λ z. d (inl z))

        new_held : (u v w : ℕ) → Runs (triangle_at ts k) u v → Runs (triangle_at ts k) v w → found e3 u v ≡ Some w
        new_held u v w r s =
            let o = ours u v r in
            o.1 ∙ ap Some (after_one (triangle_at ts k) v o.0 w (different k (omega arith)) o.2 s)

        pub noted_more : Noted ts (k + 1) e3
        noted_more = record {
          sound = ca.sound;
          held = λ u v w j h r s. ⊎_elim
              (λ q. new_held u v w (subst (λ (n : ℕ). Runs (triangle_at ts n) u v) q r) (subst (λ (n : ℕ). Runs (triangle_at ts n) v w) q s))
              (λ o. let old : found es u v ≡ Some w = noted.held u v w j (omega arith) r s in kept u v (λ z. fresh u v w z old) ∙ old)
              (cases_eq j k);
          only = λ u v w e. ⊎_elim
              (λ r. let o = ours u v r in
              let q : o.0 ≡ w = (let f = o.1 in cc) in
              record { at = k; within = omega arith; runs = r; on = subst (λ (n : ℕ). Runs (triangle_at ts k) v n) q o.2 })
              (λ d. let old = noted.only u v w (sym (kept u v d) ∙ e) in record { at = old.at; within = omega (arith, old.within); runs = old.runs; on = old.on })
              (runs_or (triangle_at ts k) u v);
        }

-- once all are noted

module _ (ts : List (Triangle ℕ)) (es : List (Option (Entry DirectedEdge))) (noted : Noted ts (length ts) es) (different : (j : ℕ) → j < length ts → Apart (triangle_at ts j)) (k : ℕ) where
  alone : (u v : ℕ) → Runs (triangle_at ts k) u v → is_none (found es v u) ≡ true → Unpaired ts k
  alone u v r e = record {
    from = u;
    to = v;
    runs = r;
    alone = λ j h q. true≢false (sym e ∙ ap is_none (noted.held v u (before (triangle_at ts j) v) j h q (runs_third (triangle_at ts j) v u (different j h) q)));
  }

  pub missed_unpaired : missed es (triangle_at ts k) ≡ true → Unpaired ts k
  missed_unpaired m = let r = any_runs (λ e. is_none (found es e.to e.from)) (triangle_at ts k) m in alone r.0 r.1 r.2 r.3

  pub unpaired_missed : Unpaired ts k → missed es (triangle_at ts k) ≡ true
  unpaired_missed l =
      runs_any (λ e. is_none (found es e.to e.from)) (triangle_at ts k) l.from l.to l.runs
      (none_is (found es l.to l.from) (λ w e. let r = noted.only l.to l.from w e in l.alone r.at r.within r.runs))
