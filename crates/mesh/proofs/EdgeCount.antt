-- On a mesh that keeps the first three rules, twice the mesh edges are three times the triangles. Assumes nothing.
use Rattle.std.proofs.Common.{◌≡◌, ℕ, ◌+◌, ◌*◌, ◌/◌, ◌%◌, ◌<◌, ◌≤◌, Bool, true, cond, not, eqb, ltb, ◌⊎◌, List, length, sym, ap, ◌∙◌, subst, inl, inr, ⊎_elim, arith}
use Rattle.std.proofs.lemmas.Bool.{cases_lt, ltb-true, lt-ltb}
use Rattle.std.proofs.lemmas.Bool.Decides.{nat_tests}
use Rattle.grid.specs.declared.geometry.Triangle.{Triangle}
use Rattle.mesh.specs.Triangles.{triangle_at, Runs, Apart}
use Rattle.mesh.specs.Surfaces.{Surface}
use Rattle.mesh.specs.Counting.{count}
use Rattle.mesh.specs.MeshEdges.{MeshEdges, OneEdgeCount}
use Rattle.mesh.proofs.Counting.{at_most, count_inj, count_not, count_onto, count_one, count_strict}
use Rattle.mesh.proofs.Round.{Mesh, surface_mesh}

fewer_edges : (ts : List (Triangle ℕ)) (m n : ℕ) → MeshEdges ts m → MeshEdges ts n → m ≤ n
fewer_edges ts m n G H =
    let to : (i : ℕ) → i < m → (j : ℕ) × (j < n) × (H.low j ≡ G.low i) × (H.high j ≡ G.high i) = λ i h. H.all (G.low i) (G.high i) (G.rising i h) (G.edge i h) in
    at_most m n
    (λ i h. (to i h).0)
    (λ i h. (to i h).1)
    (λ i j h k e. G.single i j h k (sym (to i h).2 ∙ ap H.low e ∙ (to j k).2) (sym (to i h).3 ∙ ap H.high e ∙ (to j k).3))

pub one_edge_count : OneEdgeCount
one_edge_count ts m n G H = omega (arith, fewer_edges ts m n G H, fewer_edges ts n m H G)

abbrev from_of : Triangle ℕ → ℕ → ℕ
from_of t j = cond (eqb j 0) t.a (cond (eqb j 1) t.b t.c)

abbrev to_of : Triangle ℕ → ℕ → ℕ
to_of t j = cond (eqb j 0) t.b (cond (eqb j 1) t.c t.a)

place_runs : (t : Triangle ℕ) (j : ℕ) → Runs t (from_of t j) (to_of t j)
place_runs t j = grind (arith, nat_tests)

place_one : (t : Triangle ℕ) (i j : ℕ) → Apart t → i < 3 → j < 3 → from_of t i ≡ from_of t j → i ≡ j
place_one t i j d h k e = grind arith

runs_place : (t : Triangle ℕ) (u v : ℕ) → Runs t u v → (j : ℕ) × (j < 3) × (from_of t j ≡ u) × (to_of t j ≡ v)
runs_place t u v r = grind arith

runs_apart : (t : Triangle ℕ) (u v : ℕ) → Apart t → Runs t u v → u ≡ v → ⊥
runs_apart t u v d r e = grind arith

module _ (ts : List (Triangle ℕ)) (mesh : Mesh ts) where
  abbrev src : ℕ → ℕ
  src s = from_of (triangle_at ts (s / 3)) (s % 3)

  abbrev tgt : ℕ → ℕ
  tgt s = to_of (triangle_at ts (s / 3)) (s % 3)

  side_runs : (s : ℕ) → Runs (triangle_at ts (s / 3)) (src s) (tgt s)
  side_runs s = place_runs (triangle_at ts (s / 3)) (s % 3)

  side_in : (s : ℕ) → s < 3 * length ts → s / 3 < length ts
  side_in s h = omega arith

  -- each directed edge is of one side
  side_at : (k u v : ℕ) → k < length ts → Runs (triangle_at ts k) u v → (s : ℕ) × (s < 3 * length ts) × (src s ≡ u) × (tgt s ≡ v)
  side_at k u v h r =
      let p = runs_place (triangle_at ts k) u v r in
      let j = p.0 in
      let b : j < 3 = p.1 in
      let q : k ≡ (3 * k + j) / 3 = omega arith in
      let m : j ≡ (3 * k + j) % 3 = omega arith in (
        3 * k + j,
        omega arith,
        subst (λ (n : ℕ). from_of (triangle_at ts n) ((3 * k + j) % 3) ≡ u) q (subst (λ (n : ℕ). from_of (triangle_at ts k) n ≡ u) m p.2),
        subst (λ (n : ℕ). to_of (triangle_at ts n) ((3 * k + j) % 3) ≡ v) q (subst (λ (n : ℕ). to_of (triangle_at ts k) n ≡ v) m p.3),
      )

  side_one : (s r : ℕ) → s < 3 * length ts → r < 3 * length ts → src s ≡ src r → tgt s ≡ tgt r → s ≡ r
  side_one s r h k e f =
      let there : Runs (triangle_at ts (r / 3)) (src s) (tgt s) =
      subst (λ (w : ℕ). Runs (triangle_at ts (r / 3)) (src s) w) (sym f) (subst (λ (w : ℕ). Runs (triangle_at ts (r / 3)) w (tgt r)) (sym e) (side_runs r)) in
      let q : s / 3 ≡ r / 3 = mesh.once (s / 3) (r / 3) (src s) (tgt s) (side_in s h) (side_in r k) (side_runs s) there in
      let same : from_of (triangle_at ts (r / 3)) (s % 3) ≡ src r = subst (λ (n : ℕ). from_of (triangle_at ts n) (s % 3) ≡ src r) q e in
      let m : s % 3 ≡ r % 3 = place_one (triangle_at ts (r / 3)) (s % 3) (r % 3) (mesh.different (r / 3) (side_in r k)) (omega arith) (omega arith) same in
      omega arith

  side_apart : (s : ℕ) → s < 3 * length ts → src s ≡ tgt s → ⊥
  side_apart s h = runs_apart (triangle_at ts (s / 3)) (src s) (tgt s) (mesh.different (s / 3) (side_in s h)) (side_runs s)

  -- and its reverse of another
  reverse : (s : ℕ) → s < 3 * length ts → (r : ℕ) × (r < 3 * length ts) × (src r ≡ tgt s) × (tgt r ≡ src s)
  reverse s h = let r = mesh.paired (s / 3) (src s) (tgt s) (side_in s h) (side_runs s) in side_at r.at (tgt s) (src s) r.within r.runs

  abbrev up : ℕ → Bool
  up s = ltb (src s) (tgt s)

  abbrev down : ℕ → Bool
  down s = ltb (tgt s) (src s)

  reverse_one : (s r : ℕ) (h : s < 3 * length ts) (k : r < 3 * length ts) → (reverse s h).0 ≡ (reverse r k).0 → s ≡ r
  reverse_one s r h k e =
      let x = reverse s h in
      let y = reverse r k in
      side_one s r h k (sym x.3 ∙ ap tgt e ∙ y.3) (sym x.2 ∙ ap src e ∙ y.2)

  up_down : count up (3 * length ts) ≤ count down (3 * length ts)
  up_down =
      count_inj up down (3 * length ts)
      (λ s h e. let r = reverse s h in (r.0, r.1, lt-ltb (tgt r.0) (src r.0) (omega (arith, r.2, r.3, ltb-true (src s) (tgt s) e))))
      (λ s r h k e f z. reverse_one s r h k z)

  down_up : count down (3 * length ts) ≤ count up (3 * length ts)
  down_up =
      count_inj down up (3 * length ts)
      (λ s h e. let r = reverse s h in (r.0, r.1, lt-ltb (src r.0) (tgt r.0) (omega (arith, r.2, r.3, ltb-true (tgt s) (src s) e))))
      (λ s r h k e f z. reverse_one s r h k z)

  other : (s : ℕ) → s < 3 * length ts → down s ≡ not (up s)
  other s h = grind arith

  pub halves : 2 * count up (3 * length ts) ≡ 3 * length ts
  halves = omega (arith, up_down, down_up, count_not up down (3 * length ts) other)

  -- the sides that rise, by their number
  abbrev pick : (i : ℕ) → (i < count up (3 * length ts)) ⊎ (count up (3 * length ts) ≤ i) → ℕ
  pick i (inl h) = (count_onto up i (3 * length ts) h).0
  pick i (inr h) = 0

  picked_by : (i : ℕ) (o : (i < count up (3 * length ts)) ⊎ (count up (3 * length ts) ≤ i)) → i < count up (3 * length ts)
      → (pick i o < 3 * length ts) × (up (pick i o) ≡ true) × (count up (pick i o) ≡ i)
  picked_by i (inl h) b = let r = count_onto up i (3 * length ts) h in (r.1, r.2, r.3)
  picked_by i (inr h) b = absurd (omega arith)

  rise : ℕ → ℕ
  rise i = pick i (cases_lt i (count up (3 * length ts)))

  picked : (i : ℕ) → i < count up (3 * length ts) → (rise i < 3 * length ts) × (up (rise i) ≡ true) × (count up (rise i) ≡ i)
  unfolding rise
  picked i b = picked_by i (cases_lt i (count up (3 * length ts))) b

  pub counted : MeshEdges ts (count up (3 * length ts))
  counted = record {
    low = λ i. src (rise i);
    high = λ i. tgt (rise i);
    rising = λ i h. ltb-true (src (rise i)) (tgt (rise i)) (picked i h).1;
    edge = λ i h. record { at = rise i / 3; within = side_in (rise i) (picked i h).0; runs = inl (side_runs (rise i)) };
    single = λ i j h k e f.
        let q : rise i ≡ rise j = side_one (rise i) (rise j) (picked i h).0 (picked j k).0 e f in
        sym (picked i h).2 ∙ ap (count up) q ∙ (picked j k).2;
    all = λ u v lt e.
        let hit : (s : ℕ) × (s < 3 * length ts) × (src s ≡ u) × (tgt s ≡ v) =
        ⊎_elim
        (λ r. side_at e.at u v e.within r)
        (λ r. let s = side_at e.at v u e.within r in
        let b = reverse s.0 s.1 in
        (b.0, b.1, b.2 ∙ s.3, b.3 ∙ s.2))
        e.runs in
        let s = hit.0 in
        let up-s : up s ≡ true = lt-ltb (src s) (tgt s) (omega (arith, hit.2, hit.3)) in
        let h : count up s < count up (3 * length ts) = count_strict up s (3 * length ts) up-s hit.1 in
        let q : rise (count up s) ≡ s = count_one up (rise (count up s)) s (picked (count up s) h).1 up-s (picked (count up s) h).2 in
        (count up s, h, ap src q ∙ hit.2, ap tgt q ∙ hit.3);
  }

  pub mesh_edges : (n : ℕ) → n ≡ 3 * length ts / 2 → MeshEdges ts n
  mesh_edges n e = let h = halves in let q : count up (3 * length ts) ≡ n = omega arith in subst (λ (m : ℕ). MeshEdges ts m) q counted

-- on a closed oriented surface each triangle has three halves of mesh edges
pub twice_edges : (n : ℕ) (ts : List (Triangle ℕ)) (e : ℕ) → Surface n ts → MeshEdges ts e → 2 * e ≡ 3 * length ts
twice_edges n ts e s E =
    let mesh = surface_mesh n ts s in
    let h = halves ts mesh in
    let q = one_edge_count ts e _ E (counted ts mesh) in
    omega arith
