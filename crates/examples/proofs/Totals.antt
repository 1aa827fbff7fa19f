-- What a mesh counts once every cell of a block is marched, from the skin law and the census. Assumes nothing.
use Rattle.std.proofs.Common.{◌≡◌, ℕ, ◌+◌, ◌*◌, ◌/◌, Bool, T, eqb, List, [], ◌∷◌, map, length, pos, ◌+ℤ◌, ◌-ℤ◌, ◌*ℤ◌, sum_by, sym, refl, ap, ◌∙◌, subst, arith, eqb→eq, length-append}
use Rattle.std.specs.List.{flat_map}
use Rattle.std.proofs.lemmas.Int.{ints}
use Rattle.std.proofs.lemmas.List.Sums.{sum_by-cons}
use Rattle.std.proofs.lemmas.Bool.{and_parts}
use Rattle.grid.specs.declared.geometry.Point.{Point}
use Rattle.grid.specs.declared.geometry.GridEdge.{GridEdge}
use Rattle.grid.specs.Points.{Sides, sampled}
use Rattle.grid.specs.Cells.{Base, cell_base, cell_number, cell_triangles}
use Rattle.grid.proofs.Numbers.{base_within}
use Rattle.mesh.specs.declared.records.Coordinates.{Coordinates}
use Rattle.mesh.specs.MeshEdges.{MeshEdges}
use Rattle.mesh.specs.Parts.{Groups}
use Rattle.mesh.specs.Surfaces.{Surface as Closed-surface}
use Rattle.mesh.specs.Verdicts.{Counted}
use Rattle.mesh.proofs.EdgeCount.{mesh_edges}
use Rattle.mesh.proofs.Round.{surface_mesh}
use Rattle.topology.specs.Census.{N0, N1, N2, N3, F}
use Rattle.topology.specs.Sides.{Padded}
use Rattle.topology.proofs.Finite.{◌and◌, left, right}
use Rattle.topology.proofs.Listed.{cells_counted}
use Rattle.topology.proofs.Members.{In, in_has, has_in, in_map, map_in, norepeat_map}
use Rattle.surface.specs.Marches.{State, Field}
use Rattle.surface.specs.Runs.{Run}
use Rattle.surface.specs.Skins.{vertex_count, mesh, tiles, AllMarched, Skin}
use Rattle.surface.proofs.Bases.{base_of_number, number_below}
use Rattle.surface.proofs.Laid.{same_cell, mesh_length}
use Rattle.surface.proofs.Models.{Model, modelled}
use Rattle.surface.proofs.Totals.{run_skin}
use Rattle.examples.specs.Worked.{block, half_way, counts}

-- the lengths of joined lists, summed at the places of another list
placed_length : {X Y A : Type 0} (g : Y → List A) (h : X → Y) (f : X → List A) → ((x : X) → f x ≡ g (h x)) → (xs : List X)
    → length (flat_map f xs) ≡ sum_by (λ y. length (g y)) (map h xs)
placed_length g h f e [] = refl
placed_length g h f e (x ∷ xs) =
    let a = length-append (f x) (flat_map f xs) in
    let b = ap length (e x) in
    let c = sum_by-cons (λ y. length (g y)) (h x) (map h xs) in
    let i = placed_length g h f e xs in
    omega arith

-- the mesh has the triangles of all cells
triangles_are : (f : Field) (s : State) → Run f s → AllMarched f s → length (mesh s) ≡ F f.sides f.inside
unfolding tiles
triangles_are f s r full =
    let m : Model f s = modelled f s r in
    let base : ℕ → Point = cell_base f.sides in
    let bases = map base m.order in
    mesh_length f s m ∙ m.count ∙ placed_length (cell_triangles f.inside) base (tiles f) (λ c. refl) m.order
    ∙ cells_counted f.sides (λ B. length (cell_triangles f.inside B)) bases
    (norepeat_map base (same_cell f) m.order m.once)
    (λ B h.
    let i = map_in base m.order B (has_in bases B h) in
    subst (Base f.sides) i.2 (base_within f.sides i.0 (m.cells i.0 i.1)))
    (λ B h.
    let c = cell_number f.sides B in
    let i = m.listed c (full c (number_below f.sides B h)).mark in
    in_has bases B (subst (λ (P : Point). In P bases) (base_of_number f.sides B h) (in_map base m.order c i)))

-- the vertices, from the Euler number that the census gives
vertices_are : (v n e t n0 n1 n2 n3 : ℕ) → (pos n -ℤ pos e) +ℤ pos t ≡ pos 2 *ℤ (((pos n0 -ℤ pos n1) +ℤ pos n2) -ℤ pos n3)
    → v + t + 2 * n1 + 2 * n3 ≡ e + 2 * n0 + 2 * n2 → n ≡ v
vertices_are v n e t n0 n1 n2 n3 h k = omega (arith, ints)

euler_number : (v e t x : ℕ) → v + t ≡ e + x → pos x ≡ (pos v -ℤ pos e) +ℤ pos t
euler_number v e t x h = omega (arith, ints)

-- the census of a block agrees with these counts
unfoldable pub census_agrees : Sides → Bool → ℕ → ℕ → ℕ → ℕ → Bool
census_agrees n all v e t x =
    let inside = (block n all half_way).inside in
    eqb (F n inside) t
    and (eqb e (3 * t / 2)
    and (eqb (v + t + 2 * N1 n inside + 2 * N3 n inside) (e + 2 * N0 n inside + 2 * N2 n inside)
    and eqb (v + t) (e + x)))

module _ (n : Sides) (all : Bool) (place : GridEdge → Coordinates) where
  abbrev f : Field
  f = block n all place

  pub padded : Padded n f.inside
  padded p h = (and_parts all (sampled n p) h).1

  pub skin : (s : State) → Run f s → Skin f s
  skin s r = run_skin f s padded r

  module _ (v e t x : ℕ) (agrees : T (census_agrees n all v e t x)) (s : State) (r : Run f s) (full : AllMarched f s) where
    abbrev Agreed : Type 0
    Agreed =
        (F n f.inside ≡ t) × (e ≡ 3 * t / 2)
        × (v + t + 2 * N1 n f.inside + 2 * N3 n f.inside ≡ e + 2 * N0 n f.inside + 2 * N2 n f.inside) × (v + t ≡ e + x)

    agreed : Agreed
    unfolding census_agrees
    agreed =
        let q = right _ _ agrees in
        let u = right _ _ q in
        (eqb→eq _ _ (left _ _ agrees), eqb→eq _ _ (left _ _ q), eqb→eq _ _ (left _ _ u), eqb→eq _ _ (right _ _ u))

    closed : Closed-surface (vertex_count s) (mesh s)
    closed = ((skin s r).closes full).closed

    long : length (mesh s) ≡ t
    long = triangles_are f s r full ∙ agreed.0

    edges : MeshEdges (mesh s) e
    edges = mesh_edges (mesh s) (surface_mesh (vertex_count s) (mesh s) closed) e (agreed.1 ∙ ap (λ (k : ℕ). 3 * k / 2) (sym long))

    pub vertices : vertex_count s ≡ v
    vertices =
        vertices_are v (vertex_count s) e t (N0 n f.inside) (N1 n f.inside) (N2 n f.inside) (N3 n f.inside)
        (ap (λ (k : ℕ). (pos (vertex_count s) -ℤ pos e) +ℤ pos k) (sym long) ∙ ((skin s r).closes full).euler e edges) agreed.2

    pub counted : (p : ℕ) → Groups (mesh s) (vertex_count s) p → Counted (vertex_count s) (mesh s) (counts v e t x p)
    counted p g = record { vertices = sym vertices; edges = edges; triangles = sym long; euler = euler_number v e t x agreed.3; parts = g }
