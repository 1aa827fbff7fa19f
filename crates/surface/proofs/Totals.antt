-- The counts of the mesh once every cell is marched, what an inspection then answers, and the whole law. Assumes nothing.
use Rattle.std.proofs.Common.{◌≡◌, ℕ, suc, ◌+◌, ◌*◌, ◌<◌, List, [], ◌∷◌, map, length, get_or, take, pos, ◌+ℤ◌, ◌-ℤ◌, ◌*ℤ◌, sum_by, sym, refl, ap, ◌∙◌, subst, arith, length-append}
use lib.ListN.{length-map}
use Rattle.std.specs.List.{flat_map}
use Rattle.std.proofs.lemmas.List.{length-take-le, get_or-take, get_or-map}
use Rattle.std.proofs.lemmas.Int.{ints}
use Rattle.std.proofs.lemmas.List.Sums.{sum_by-cons}
use Rattle.grid.specs.declared.geometry.Point.{Point}
use Rattle.grid.specs.declared.geometry.GridEdge.{GridEdge}
use Rattle.grid.specs.Cells.{Base, cell_base, cell_number, cell_triangles}
use Rattle.grid.proofs.Numbers.{base_within}
use Rattle.mesh.specs.declared.records.Vertex.{Vertex}
use Rattle.mesh.specs.declared.verdicts.Counts.{Counts}
use Rattle.mesh.specs.declared.verdicts.Verdict.{Verdict}
use Rattle.mesh.specs.declared.verdicts.Verdict.TheVariants.{Misnamed, Doubled, Unpaired, Bare, Torn, Sound}
use Rattle.mesh.specs.MeshEdges.{MeshEdges}
use Rattle.mesh.specs.Surfaces.{Surface as Closed-surface}
use Rattle.mesh.specs.Verdicts.{Judged, report}
use Rattle.mesh.proofs.EdgeCount.{twice_edges}
use Rattle.mesh.proofs.Judging.{surface_clear}
use Rattle.topology.specs.Census.{N0, N1, N2, N3, V, F}
use Rattle.topology.specs.Crossings.{NoRepeat}
use Rattle.topology.specs.Sides.{Padded}
use Rattle.topology.proofs.Balance.{euler}
use Rattle.topology.proofs.Listed.{cells_counted, vertices_counted}
use Rattle.topology.proofs.Members.{In, in_has, has_in, in_map, map_in, norepeat_map}
use Rattle.surface.specs.Marches.{State, Field}
use Rattle.surface.specs.Runs.{Run}
use Rattle.surface.specs.Skins.{vertex_count, no_vertex, vertex_at, mesh, VerticesKept, tiles, TrianglesKept, AllMarched, census_euler, Closes, Skin}
use Rattle.surface.proofs.Bases.{base_of_number, number_below}
use Rattle.surface.proofs.Closing.{all_carried, closed_surface}
use Rattle.surface.proofs.Laid.{same_cell, mesh_length, vertices_kept, triangles_kept}
use Rattle.surface.proofs.Models.{Model, modelled}
use Rattle.surface.proofs.Paired.{edges_kept}

-- a list whose places hold different values has no repeats
places_differ : {X : Type 0} (xs : List X) (d : X) → ((i j : ℕ) → i < length xs → j < length xs → get_or xs i d ≡ get_or xs j d → i ≡ j) → NoRepeat xs
places_differ [] d h = tt
places_differ (x ∷ xs) d h = (
  λ k. let b = k.1 in let e = h (suc k.0) 0 (omega arith) (omega arith) (k.2 d) in omega arith,
  places_differ xs d (λ i j a b e. let q = h (suc i) (suc j) (omega arith) (omega arith) e in omega arith),
)

-- the length of joined lists is the sum of their lengths
joined_length : {X A : Type 0} (f : X → List A) (xs : List X) → length (flat_map f xs) ≡ sum_by (λ x. length (f x)) xs
joined_length f [] = refl
joined_length f (x ∷ xs) = let a = length-append (f x) (flat_map f xs) in let i = joined_length f xs in let b = sum_by-cons (λ y. length (f y)) x xs in omega arith

map_sum : {X Y : Type 0} (g : Y → ℕ) (h : X → Y) (xs : List X) → sum_by g (map h xs) ≡ sum_by (λ x. g (h x)) xs
map_sum g h [] = refl
map_sum g h (x ∷ xs) = let a = sum_by-cons g (h x) (map h xs) in let i = map_sum g h xs in let b = sum_by-cons (λ y. g (h y)) x xs in omega arith

-- the Euler number, from the balances of the census
balanced : (v e t n0 n1 n2 n3 : ℕ) → v + 2 * n1 ≡ 14 * n0 → t + 4 * n2 ≡ 24 * n0 + 4 * n3 → 2 * e ≡ 3 * t
    → (pos v -ℤ pos e) +ℤ pos t ≡ pos 2 *ℤ (((pos n0 -ℤ pos n1) +ℤ pos n2) -ℤ pos n3)
balanced v e t n0 n1 n2 n3 a b c = omega (arith, ints)

module _ (f : Field) (s : State) (pad : Padded f.sides f.inside) (m : Model f s) (full : AllMarched f s) where
  vk : VerticesKept f s
  vk = vertices_kept f s m

  tk : TrianglesKept f s
  tk = triangles_kept f s m

  -- the grid edges that carry vertices
  unfoldable carriers : List GridEdge
  carriers = map (λ (v : Vertex). v.edge) (take (vertex_count s) s.tables.numbered.vertices)

  long : length carriers ≡ vertex_count s
  unfolding carriers
  long = length-map (take (vertex_count s) s.tables.numbered.vertices) (λ (v : Vertex). v.edge) ∙ length-take-le (vertex_count s) s.tables.numbered.vertices vk.records

  carrier_at : (k : ℕ) (d : GridEdge) → k < vertex_count s → get_or carriers k d ≡ (vertex_at s k).edge
  unfolding carriers
  carrier_at k d h =
      let l = length-take-le (vertex_count s) s.tables.numbered.vertices vk.records in
      get_or-map (λ (v : Vertex). v.edge) (take (vertex_count s) s.tables.numbered.vertices) k no_vertex d (omega arith)
      ∙ ap (λ (v : Vertex). v.edge) (get_or-take (vertex_count s) s.tables.numbered.vertices k no_vertex h)

  vertices_are : vertex_count s ≡ V f.sides f.inside
  vertices_are =
      let l = long in
      sym long ∙ vertices_counted f.sides f.inside pad carriers
      (places_differ carriers no_vertex.edge (λ i j a b e.
      let x : i < vertex_count s = omega arith in
      let y : j < vertex_count s = omega arith in
      vk.single (vertex_at s j).edge i j
      (record { within = x; edge = sym (carrier_at i no_vertex.edge x) ∙ e ∙ carrier_at j no_vertex.edge y })
      (record { within = y; edge = refl })))
      (λ e h.
      let b : h.0 < vertex_count s = omega (arith, h.1) in
      let w = vk.met e h.0 (record { within = b; edge = sym (carrier_at h.0 e b) ∙ h.2 e }) in
      (w.some, w.few, w.crosses))
      (λ e a b c.
      let k = all_carried f s pad vk tk full e a b c in
      let x = k.1.within in
      (k.0, omega arith, λ d. carrier_at k.0 d x ∙ k.1.edge))

  triangles_are : length (mesh s) ≡ F f.sides f.inside
  unfolding tiles
  triangles_are =
      let g : Point → ℕ = λ B. length (cell_triangles f.inside B) in
      let base : ℕ → Point = cell_base f.sides in
      let bases = map base m.order in
      mesh_length f s m ∙ m.count ∙ joined_length (tiles f) m.order ∙ sym (map_sum g base m.order)
      ∙ cells_counted f.sides g bases
      (norepeat_map base (λ c d e. same_cell f c d e) m.order m.once)
      (λ B h.
      let i = map_in base m.order B (has_in bases B h) in
      subst (Base f.sides) i.2 (base_within f.sides i.0 (m.cells i.0 i.1)))
      (λ B h.
      let c = cell_number f.sides B in
      let i = m.listed c (full c (number_below f.sides B h)).mark in
      in_has bases B (subst (λ (P : Point). In P bases) (base_of_number f.sides B h) (in_map base m.order c i)))

  closes_up : Closed-surface (vertex_count s) (mesh s)
  closes_up = closed_surface f s pad vk tk full

  euler_is : (edges : ℕ) → MeshEdges (mesh s) edges → (pos (vertex_count s) -ℤ pos edges) +ℤ pos (length (mesh s)) ≡ census_euler f
  euler_is edges h =
      let b = euler f.sides f.inside pad in
      balanced (vertex_count s) edges (length (mesh s)) (N0 f.sides f.inside) (N1 f.sides f.inside) (N2 f.sides f.inside) (N3 f.sides f.inside)
      (ap (λ (n : ℕ). n + 2 * N1 f.sides f.inside) vertices_are ∙ b.0)
      (ap (λ (n : ℕ). n + 4 * N2 f.sides f.inside) triangles_are ∙ b.1)
      (twice_edges (vertex_count s) (mesh s) edges closes_up h)

  judged : (verdict : Verdict) → Judged (vertex_count s) (mesh s) (report verdict).0 (report verdict).1 → (counts : Counts) × (verdict ≡ Sound counts) × (counts.euler ≡ census_euler f)
  judged (Misnamed k) h = absurd (surface_clear (vertex_count s) (mesh s) closes_up 1 k h.0)
  judged (Doubled k) h = absurd (surface_clear (vertex_count s) (mesh s) closes_up 2 k h.0)
  judged (Unpaired k) h = absurd (surface_clear (vertex_count s) (mesh s) closes_up 3 k h.0)
  judged (Bare k) h = absurd (surface_clear (vertex_count s) (mesh s) closes_up 4 k h.0)
  judged (Torn k) h = absurd (surface_clear (vertex_count s) (mesh s) closes_up 5 k h.0)
  judged (Sound counts) h =
      let c = h.2 in
      let v = c.vertices in
      let t = c.triangles in
      (counts, refl, c.euler ∙ (λ i. (pos (v i) -ℤ pos counts.edges) +ℤ pos (t i)) ∙ euler_is counts.edges c.edges)

  closes : Closes f s
  closes = record { closed = closes_up; euler = euler_is; sound = λ entries records verdict h. judged verdict h.1 }

model_skin : (f : Field) (s : State) → Padded f.sides f.inside → Model f s → Skin f s
model_skin f s pad m =
    let v = vertices_kept f s m in
    let t = triangles_kept f s m in
    record { vertices = v; triangles = t; edges = edges_kept f s pad v t; closes = λ full. closes f s pad m full }

-- every run of a field with no inside point on the border keeps the law
pub run_skin : (f : Field) (s : State) → Padded f.sides f.inside → Run f s → Skin f s
run_skin f s pad r = model_skin f s pad (modelled f s r)
