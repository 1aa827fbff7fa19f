-- The skin law: how the mesh of a surface lies in the grid.
use Rattle.std.specs.Prelude.{◌≡◌, ℕ, ◌<◌, ◌≤◌, true, false, ◌⊎◌, List, length, get_or, take, ℤ, pos, ◌+ℤ◌, ◌-ℤ◌, ◌*ℤ◌, Ok, slice_index_or}
use Rattle.grid.specs.declared.geometry.GridEdge.{GridEdge}
use Rattle.grid.specs.declared.geometry.Triangle.{Triangle}
use Rattle.grid.specs.Points.{top, crossed}
use Rattle.grid.specs.Cells.{cell_count, cell_base, cell_triangles}
use Rattle.mesh.specs.declared.records.Vertex.{Vertex}
use Rattle.mesh.specs.declared.verdicts.Counts.{Counts}
use Rattle.mesh.specs.declared.verdicts.Verdict.{Verdict}
use Rattle.mesh.specs.declared.verdicts.Verdict.TheVariants.{Sound}
use Rattle.mesh.specs.Triangles.{triangle_at, Corner, Runs, Apart}
use Rattle.mesh.specs.MeshEdges.{MeshEdge, MeshEdges}
use Rattle.mesh.specs.Surfaces.{Surface as Closed-surface}
use Rattle.mesh.specs.Verdicts.{Inspected}
use Rattle.topology.specs.Sides.{none, Belongs, OnWall}
use Rattle.topology.specs.Census.{N0, N1, N2, N3}
use Rattle.surface.specs.Marches.{State, Field}

-- how many vertices there are
abbrev pub vertex_count : State → ℕ
vertex_count s = s.tables.numbered.count

abbrev pub no_vertex : Vertex
no_vertex = record { edge = record { low = record { x = 0; y = 0; z = 0 }; direction = 0 }; at = record { x = 0; y = 0; z = 0 } }

-- the vertex of a number
abbrev pub vertex_at : State → ℕ → Vertex
vertex_at s n = slice_index_or s.tables.numbered.vertices n no_vertex

-- the triangles: the records numbered below the count
abbrev pub mesh : State → List (Triangle ℕ)
mesh s = take s.tables.count s.tables.triangles

-- the grid edge e carries the vertex of the number n
pub record Carries (s : State) (n : ℕ) (e : GridEdge) : Type 0 where
  pub within : n < vertex_count s
  pub edge : (vertex_at s n).edge ≡ e

-- a cell of the grid that is marched, and one that is not
pub record Marched (f : Field) (s : State) (c : ℕ) : Type 0 where
  pub cell : c < cell_count f.sides
  pub mark : get_or s.marks c false ≡ true

pub record Unmarched (f : Field) (s : State) (c : ℕ) : Type 0 where
  pub cell : c < cell_count f.sides
  pub mark : get_or s.marks c false ≡ false

-- e is a grid edge with one end inside and the other outside, and some marched cell has both as corners
pub record Met (f : Field) (s : State) (e : GridEdge) : Type 0 where
  pub some : 0 < e.direction
  pub few : e.direction < 8
  pub crosses : crossed f.inside e ≡ true
  pub cell : ℕ
  pub marched : Marched f s cell
  pub low : Belongs (cell_base f.sides cell) e.low
  pub high : Belongs (cell_base f.sides cell) (top e)

-- a grid edge carries a vertex exactly when it is met so, and never two; and a vertex lies where the field places it
pub record VerticesKept (f : Field) (s : State) : Type 0 where
  pub records : vertex_count s ≤ length s.tables.numbered.vertices
  pub met : (e : GridEdge) (n : ℕ) → Carries s n e → Met f s e
  pub carried : (e : GridEdge) → Met f s e → (n : ℕ) × Carries s n e
  pub single : (e : GridEdge) (m n : ℕ) → Carries s m e → Carries s n e → m ≡ n
  pub placed : (e : GridEdge) (n : ℕ) → Carries s n e → (vertex_at s n).at ≡ f.place e

-- the triangles of the cell of a number
unfoldable pub tiles : Field → ℕ → List (Triangle GridEdge)
tiles f c = cell_triangles f.inside (cell_base f.sides c)

-- the corners of a triangle lie on these three grid edges, in this order
pub record Lies (s : State) (t : Triangle ℕ) (τ : Triangle GridEdge) : Type 0 where
  pub a : Carries s t.a τ.a
  pub b : Carries s t.b τ.b
  pub c : Carries s t.c τ.c

-- the triangle of the number n is triangle k of the marched cell c
pub record Tile (f : Field) (s : State) (n c k : ℕ) : Type 0 where
  pub within : n < length (mesh s)
  pub marched : Marched f s c
  pub rank : k < length (tiles f c)
  pub lies : Lies s (triangle_at (mesh s) n) (slice_index_or (tiles f c) k none)

-- the triangles are those of the marched cells, each once
pub record TrianglesKept (f : Field) (s : State) : Type 0 where
  pub records : s.tables.count ≤ length s.tables.triangles
  pub tile : (n : ℕ) → n < length (mesh s) → (c : ℕ) × ((k : ℕ) × Tile f s n c k)
  pub one_tile : (n c k c' k' : ℕ) → Tile f s n c k → Tile f s n c' k' → (c ≡ c') × (k ≡ k')
  pub laid : (c k : ℕ) → Marched f s c → k < length (tiles f c) → (n : ℕ) × Tile f s n c k
  pub once : (m n c k : ℕ) → Tile f s m c k → Tile f s n c k → m ≡ n

-- exactly two triangles have the vertices u and v, and they run along this mesh edge in opposite senses
pub record Two-triangles (ts : List (Triangle ℕ)) (u v : ℕ) : Type 0 where
  pub one : ℕ
  pub other : ℕ
  pub one_within : one < length ts
  pub other_within : other < length ts
  pub along : Runs (triangle_at ts one) u v
  pub against : Runs (triangle_at ts other) v u
  pub differ : one ≡ other → ⊥
  pub only : (k : ℕ) → k < length ts → Corner (triangle_at ts k) u → Corner (triangle_at ts k) v → (k ≡ one) ⊎ (k ≡ other)

-- exactly one triangle has them
pub record One-triangle (ts : List (Triangle ℕ)) (u v : ℕ) : Type 0 where
  pub one : ℕ
  pub one_within : one < length ts
  pub along : Runs (triangle_at ts one) u v ⊎ Runs (triangle_at ts one) v u
  pub only : (k : ℕ) → k < length ts → Corner (triangle_at ts k) u → Corner (triangle_at ts k) v → k ≡ one

-- a mesh edge with the crossings e and g lies on a wall between a marched and an unmarched cell
pub record OnFront (f : Field) (s : State) (e g : GridEdge) : Type 0 where
  pub here : ℕ
  pub there : ℕ
  pub marched : Marched f s here
  pub unmarched : Unmarched f s there
  pub wall : OnWall (cell_base f.sides here) (cell_base f.sides there) e g

-- no triangle has one vertex twice; a mesh edge has exactly two triangles, in opposite senses, or exactly one, and has one exactly when it
-- lies on such a wall
pub record EdgesKept (f : Field) (s : State) : Type 0 where
  pub apart : (n : ℕ) → n < length (mesh s) → Apart (triangle_at (mesh s) n)
  pub paired : (u v : ℕ) → MeshEdge (mesh s) u v →
      (Two-triangles (mesh s) u v × (OnFront f s (vertex_at s u).edge (vertex_at s v).edge → ⊥))
      ⊎ (One-triangle (mesh s) u v × OnFront f s (vertex_at s u).edge (vertex_at s v).edge)

-- twice points less edges plus triangles less tetrahedra of the census
abbrev pub census_euler : Field → ℤ
census_euler f = pos 2 *ℤ (((pos (N0 f.sides f.inside) -ℤ pos (N1 f.sides f.inside)) +ℤ pos (N2 f.sides f.inside)) -ℤ pos (N3 f.sides f.inside))

-- The mesh closes: the triangles round each vertex form one ring, as in every closed oriented surface; vertices less mesh edges plus
-- triangles are the census' number; and of all answers that an inspection may give, only a refusal and the verdict that the mesh is sound,
-- with this Euler number, are left.
pub record Closes (f : Field) (s : State) : Type 0 where
  pub closed : Closed-surface (vertex_count s) (mesh s)
  pub euler : (edges : ℕ) → MeshEdges (mesh s) edges → (pos (vertex_count s) -ℤ pos edges) +ℤ pos (length (mesh s)) ≡ census_euler f
  pub sound : (entries records : ℕ) (verdict : Verdict) → Inspected (vertex_count s) (mesh s) entries records (Ok verdict) →
      (counts : Counts) × (verdict ≡ Sound counts) × (counts.euler ≡ census_euler f)

-- every cell of the grid is marched
abbrev pub AllMarched : Field → State → Type 0
AllMarched f s = (c : ℕ) → c < cell_count f.sides → Marched f s c

-- the skin law: of vertices, triangles and mesh edges whichever cells are marched, and of the whole mesh once all are
pub record Skin (f : Field) (s : State) : Type 0 where
  pub vertices : VerticesKept f s
  pub triangles : TrianglesKept f s
  pub edges : EdgesKept f s
  pub closes : AllMarched f s → Closes f s
