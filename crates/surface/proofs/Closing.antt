-- Once every cell is marched the mesh is a closed oriented surface. Assumes nothing.
use Rattle.std.proofs.Common.{◌≡◌, ℕ, zero, suc, ◌<◌, true, false, List, length, get_or, sym, refl, ap, ◌∙◌, subst, inl, inr, ⊎_elim, arith}
use Rattle.grid.specs.declared.geometry.GridEdge.{GridEdge}
use Rattle.grid.specs.declared.geometry.Triangle.{Triangle}
use Rattle.grid.specs.Points.{crossed}
use Rattle.mesh.specs.Triangles.{triangle_at, Corner, Runs, Has}
use Rattle.mesh.specs.Rings.{At, GoesOn, Leads as Leads-on, stay as stay-on, step as step-on}
use Rattle.mesh.specs.Surfaces.{Surface as Closed-surface}
use Rattle.topology.specs.Rings.{Step, Leads, stay, on, Ring}
use Rattle.topology.specs.Sides.{Side, Lives, start, end, rest, source, third, Padded}
use Rattle.topology.proofs.Ringed.{ringed}
use Rattle.topology.proofs.Whole.{padded_grounded}
use Rattle.surface.specs.Marches.{State, Field}
use Rattle.surface.specs.Skins.{vertex_count, vertex_at, mesh, Carries, VerticesKept, TrianglesKept, AllMarched}
use Rattle.surface.proofs.Laid.{side_of, side_of_lives}
use Rattle.surface.proofs.Models.{true_false}
use Rattle.surface.proofs.Paired.{turn_runs, On, on_source, on_target, on_third, same_record, housed, recorded, all_apart, one_sense, edges_kept}

corner_turn : (t : Triangle ℕ) (v : ℕ) → Corner t v → (j : ℕ) × (j < 3) × (start j t ≡ v)
unfolding start
corner_turn t v (inl p) = (0, omega arith, sym p)
corner_turn t v (inr (inl p)) = (1, omega arith, sym p)
corner_turn t v (inr (inr p)) = (2, omega arith, sym p)

start_corner : (t : Triangle ℕ) (j v : ℕ) → start j t ≡ v → Corner t v
unfolding start
start_corner t zero v p = inl (sym p)
start_corner t (suc zero) v p = inr (inl (sym p))
start_corner t (suc (suc j)) v p = inr (inr (sym p))

-- from the third corner a triangle runs to the start of a side
rest_runs : (t : Triangle ℕ) (j v : ℕ) → start j t ≡ v → Runs t (rest j t) v
unfolding start rest
rest_runs t zero v p = inr (inr (refl, sym p))
rest_runs t (suc zero) v p = inl (refl, sym p)
rest_runs t (suc (suc j)) v p = inr (inl (refl, sym p))

module _ (f : Field) (s : State) (pad : Padded f.sides f.inside) (vk : VerticesKept f s) (tk : TrianglesKept f s) (full : AllMarched f s) where
  abbrev ts : List (Triangle ℕ)
  ts = mesh s

  abbrev InMesh : ℕ → Side → Type 0
  InMesh n q = On f s pad vk tk n q

  -- every living side has its record
  pub record_of : (q : Side) → Lives f.inside q → (n : ℕ) × InMesh n q
  record_of q l = let h = housed f s pad vk tk q l in recorded f s pad vk tk q l h (full h.cell h.below)

  pub ring_at : (e : GridEdge) → 0 < e.direction → e.direction < 8 → crossed f.inside e ≡ true → Ring f.inside e
  ring_at e a b c = ringed f.inside (padded_grounded f.sides f.inside pad) e a b c

  -- every crossed edge carries a vertex
  pub all_carried : (e : GridEdge) → 0 < e.direction → e.direction < 8 → crossed f.inside e ≡ true → (n : ℕ) × Carries s n e
  all_carried e a b c =
      let x = (ring_at e a b c).some in
      let r = record_of x.0 x.1 in
      (start x.0.turn (triangle_at ts r.0), subst (Carries s _) x.2 (on_source f s pad vk tk r.0 x.0 r.1))

  reversed : (k u v : ℕ) → k < length ts → Runs (triangle_at ts k) u v → Has ts (length ts) v u
  reversed k u v h r =
      ⊎_elim
      (λ p. record { at = p.0.other; within = p.0.other_within; runs = p.0.against })
      (λ p. let w = p.1 in true_false (get_or s.marks w.there false) (full w.there w.unmarched.cell).mark w.unmarched.mark)
      ((edges_kept f s pad vk tk).paired u v (record { at = k; within = h; runs = inl r }))

  module _ (v : ℕ) (h : v < vertex_count s) where
    abbrev e : GridEdge
    e = (vertex_at s v).edge

    carries_v : Carries s v e
    carries_v = record { within = h; edge = refl }

    ring : Ring f.inside e
    ring = let m = vk.met e v carries_v in ring_at e m.some m.few m.crosses

    -- the vertex of a side's start
    starts : (n : ℕ) (q : Side) → InMesh n q → source f.inside q ≡ e → start q.turn (triangle_at ts n) ≡ v
    starts n q o p = vk.single e _ v (subst (Carries s _) p (on_source f s pad vk tk n q o)) carries_v

    pub some_triangle : (k : ℕ) × At ts v k
    some_triangle =
        let x = ring.some in
        let r = record_of x.0 x.1 in
        (r.0, record { within = r.1.tile.within; corner = start_corner (triangle_at ts r.0) x.0.turn v (starts r.0 x.0 r.1 x.2) })

    goes_on : (j k : ℕ) (q r : Side) → InMesh j q → InMesh k r → source f.inside q ≡ e → Step f.inside q r → GoesOn ts v j k
    goes_on j k q r a b p st =
        let to : end r.turn (triangle_at ts k) ≡ rest q.turn (triangle_at ts j) =
        vk.single (third f.inside q) _ _ (subst (Carries s _) st.shares (on_target f s pad vk tk k r b)) (on_third f s pad vk tk j q a) in
        record {
          within = b.tile.within;
          over = rest q.turn (triangle_at ts j);
          inward = rest_runs (triangle_at ts j) q.turn v (starts j q a p);
          outward = turn_runs (triangle_at ts k) r.turn v (rest q.turn (triangle_at ts j)) (starts k r b (st.apex ∙ p)) to;
        }

    walks : (q r : Side) → Leads f.inside q r → source f.inside q ≡ e → (j k : ℕ) → InMesh j q → InMesh k r → Leads-on ts v j k
    walks q r stay p j k a b = subst (Leads-on ts v j) (same_record f s pad vk tk j k q q a b refl refl) stay-on
    walks q r (on {q = w} st l) p j k a b =
        let m = record_of w st.lives in
        step-on (goes_on j m.0 q w a m.1 p st) (walks w r l (st.apex ∙ p) m.0 k m.1 b)

    -- a side at v of a triangle at v
    record Spoke (n : ℕ) : Type 0 where
      side : Side
      lives : Lives f.inside side
      owned : InMesh n side
      from : source f.inside side ≡ e

    spoke : (n : ℕ) → At ts v n → Spoke n
    spoke n a =
        let t = tk.tile n a.within in
        let j = corner_turn (triangle_at ts n) v a.corner in
        let q = side_of f t.0 t.1.0 j.0 in
        let o : InMesh n q = record { cell = t.0; base = refl; tile = t.1.1 } in
        record {
          side = q;
          lives = side_of_lives f t.0 t.1.0 j.0 t.1.1.rank j.1;
          owned = o;
          from = sym (on_source f s pad vk tk n q o).edge ∙ ap (λ (k : ℕ). (vertex_at s k).edge) j.2;
        }

    pub one_ring : (j k : ℕ) → At ts v j → At ts v k → Leads-on ts v j k
    one_ring j k a b =
        let x = spoke j a in
        let y = spoke k b in
        walks x.side y.side (ring.one x.side y.side x.lives y.lives x.from y.from) x.from j k x.owned y.owned

  pub closed_surface : Closed-surface (vertex_count s) ts
  closed_surface = record {
    below = λ k h. let l = (tk.tile k h).1.1.lies in record { a_below = l.a.within; b_below = l.b.within; c_below = l.c.within };
    different = all_apart f s pad vk tk;
    once = λ j k u v a b p q. one_sense f s pad vk tk j k u v a b p q;
    paired = reversed;
    covered = λ v h. some_triangle v h;
    rings = λ v h. record { leads = one_ring v h };
  }
